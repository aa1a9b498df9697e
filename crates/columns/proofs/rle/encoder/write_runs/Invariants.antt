use Rattle.std.proofs.Common.{◌≡◌, length}
use Rattle.codec.specs.Feed.{fed}
use Rattle.columns.specs.Came.{coming}
use Rattle.columns.specs.Cut.{written}
use Rattle.columns.specs.Machine.{Sound, to_come}
use Rattle.columns.proofs.Back.{AllOf}
use Rattle.columns.proofs.rle.encoder.write_runs.Given as goal

-- the state is sound, what is left to write gives the whole answer, and so far each code is that of an element
abbrev pub invariant-turns : goal.invariant-turns
invariant-turns g l =
    let o = g.O.Output in
    let list = coming g.C.Entry.Entry.code g.C.Source.list in
    let k = g.E.Decodable in
    Sound k.code k.means list (list l.source) l.state
    × (fed o.takes o.step (o.state l.out) (to_come k.code k.means list l.state (list l.source)) ≡ fed o.takes o.step (o.state l.initial.out) (written (list l.initial.source)))
    × (AllOf k.Element k.code (list l.source) → AllOf k.Element k.code (list l.initial.source))

abbrev pub decreases-turns : goal.decreases-turns
decreases-turns g l = length (g.C.Source.list l.source)
