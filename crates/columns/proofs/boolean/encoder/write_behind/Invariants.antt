use Rattle.std.proofs.Common.{◌≡◌, ◌+◌, ◌^◌, ◌<◌, ◌++◌, length, replicate}
use Rattle.std.specs.List.{flat_map}
use Rattle.codec.specs.Feed.{fed}
use Rattle.codec.specs.Leb128.{uleb}
use Rattle.columns.specs.Flags.{flag_runs}
use Rattle.columns.proofs.boolean.encoder.write_behind.Given as goal

-- what is left to write gives the whole answer
abbrev pub invariant-loop-flag : goal.invariant-loop-flag
invariant-loop-flag g l =
    let o = g.O.Output in
    let list = g.C.Source.list in
    (l.count + length (list l.flags) < 2 ^ 63)
    × (fed o.takes o.step (o.state l.out) (flat_map uleb (flag_runs l.value (replicate l.count l.value ++ list l.flags))) ≡ fed o.takes o.step (o.state l.initial.out) (flat_map uleb (flag_runs l.initial.value (replicate l.initial.count l.initial.value ++ list l.initial.flags))))

abbrev pub decreases-loop-flag : goal.decreases-loop-flag
decreases-loop-flag g l = length (g.C.Source.list l.flags)
