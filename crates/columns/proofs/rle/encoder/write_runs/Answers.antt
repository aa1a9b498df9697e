use Rattle.std.proofs.Common.{map, sym, ap, ◌∙◌, subst}
use Rattle.codec.specs.Feed.{fed}
use Rattle.columns.specs.Came.{coming}
use Rattle.columns.specs.Machine.{to_come}
use Rattle.columns.proofs.Arms.{coming_few}
use Rattle.columns.proofs.Back.{AllOf}
use Rattle.columns.proofs.Same.{returned}
use Rattle.codec.proofs.Feeds.{made_when}
use Rattle.columns.proofs.rle.encoder.write_runs.Goals as goal

pub returns-in_default : goal.returns-in_default
returns-in_default g c =
    let o = g.O.Output in
    let list = coming g.C.Entry.Entry.code g.C.Source.list in
    let k = g.E.Decodable in
    let end = ap (map g.C.Entry.Entry.code) c.in_default.ensures in
    let all : AllOf k.Element k.code (list c.args.source) = c.turns.invariant.2 (subst (AllOf k.Element k.code) (sym end) tt) in
    record {
      wrote = record { is = sym c.turns.invariant.1 ∙ ap (λ xs. fed o.takes o.step (o.state c.turns.out) (to_come k.code k.means list c.turns.state xs)) end ∙ c.finish.ensures.is };
      back = made_when c.finish.result _ (returned k.reads k.laws (list c.args.source) (coming_few g.C.Entry.Entry.code g.C.Source.list g.C.Source.few c.args.source) all);
    }
