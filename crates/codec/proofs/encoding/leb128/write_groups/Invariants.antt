use Rattle.std.proofs.Common.{◌≡◌}
use Rattle.codec.specs.Feed.{fed}
use Rattle.codec.specs.Leb128.{groups}
use Rattle.codec.proofs.encoding.leb128.write_groups.Given as goal

-- what is left to write gives the whole answer
abbrev pub invariant-loop-rest : goal.invariant-loop-rest
invariant-loop-rest g l =
    let o = g.O.Output in
    fed o.takes o.step (o.state l.out) (groups l.top l.bits.negative l.rest) ≡ fed o.takes o.step (o.state l.initial.out) (groups l.top l.bits.negative l.initial.rest)

abbrev pub decreases-loop-rest : goal.decreases-loop-rest
decreases-loop-rest g l = l.rest
