use Rattle.std.proofs.Common.{◌≡◌, ◌-◌, take}
use Rattle.codec.specs.Feed.{fed}
use Rattle.columns.specs.Came.{coming}
use Rattle.columns.specs.Spelled.{spelled}
use Rattle.columns.proofs.rle.flush.write_each.Given as goal

-- what is left to write gives the whole answer
abbrev pub invariant-loop : goal.invariant-loop
invariant-loop g l =
    let o = g.O.Output in
    let list = coming g.C.Entry.Entry.code g.C.Source.list in
    fed o.takes o.step (o.state l.out) (spelled (take (l.count - l.counter) (list l.source))) ≡ fed o.takes o.step (o.state l.initial.out) (spelled (take l.count (list l.initial.source)))
