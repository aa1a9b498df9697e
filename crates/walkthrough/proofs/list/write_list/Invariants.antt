use Rattle.std.proofs.Common.{◌≡◌, drop}
use Rattle.std.specs.List.{flat_map}
use Rattle.codec.specs.Feed.{fed}
use Rattle.codec.specs.Leb128.{uleb}
use Rattle.walkthrough.proofs.list.write_list.Given as goal

-- what is left to write gives the whole answer
abbrev pub invariant-loop-number : goal.invariant-loop-number
invariant-loop-number g l =
    let o = g.O.Output in
    fed o.takes o.step (o.state l.out) (flat_map uleb (drop l.number-index l.numbers)) ≡ fed o.takes o.step (o.state l.initial.out) (flat_map uleb l.numbers)
