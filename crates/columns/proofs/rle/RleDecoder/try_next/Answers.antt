use Rattle.std.proofs.Common.{◌≡◌, ℕ, List, Some, Ok, Err, sym, refl, ap, ◌∙◌}
use Rattle.std.proofs.lemmas.Result.{err_from_is_err_and}
use Rattle.columns.specs.Runs.{element}
use Rattle.columns.specs.Column.{next_by, first, others, remains}
use Rattle.columns.proofs.Columns.{at_same, at_literal, literal_fault}
use Rattle.columns.proofs.rle.RleDecoder.try_next.Goals.{in-Same, in-Literal+in_ok-element-in-Literal}
use Rattle.columns.proofs.rle.RleDecoder.try_next.Given.{Over}
use Rattle.columns.proofs.rle.RleDecoder.try_next.Goals as goal

pub returns-in_err-element-in-Literal-clause-answer : goal.returns-in_err-element-in-Literal-clause-answer
returns-in_err-element-in-Literal-clause-answer g c =
    let k = g.E.Decodable in
    let p = err_from_is_err_and c.from_residual-in_err-element-in-Literal.result c.from_residual-in_err-element-in-Literal.ensures.1 in
    let some = c.in-Some.ensures.some in
    let e = ap (λ (b : List ℕ). element (k.reads b)) (sym c.rest.ensures) ∙ sym c.in_err-element-in-Literal.ensures.answer in
    rw p.1 (ap Err p.2 ∙ sym (literal_fault k.reads k.means c.settle.new.self _ some.1 (sym some.0 ∙ c.in-Literal.is) e) ∙ c.settle.ensures.same.0)

-- an element of a run, in both arms
took : (g : Over) (c : goal.After-place g) → (next_by g.E.Decodable.means (Ok (Some (Some (record { element = c.match-run.element; end = c.place.result })))) ≡ first (remains g.E.Decodable.reads g.E.Decodable.means c.args.self.now)) × (remains g.E.Decodable.reads g.E.Decodable.means c.match-run.self ≡ others (remains g.E.Decodable.reads g.E.Decodable.means c.args.self.now))
took g c =
    let k = g.E.Decodable in
    let s = c.settle.new.self in
    let some = c.in-Some.ensures.some in
    let less = c.take.ensures.after in
    let same = c.settle.ensures.same in
    elim c.match-run.branch [
      | in-Same w ↦
          let t = at_same k.reads k.means s (record { cursor = s.cursor; head = c.take.new.self }) refl some.1 less.0 less.1 w.in-Same.element (sym some.0 ∙ w.in-Same.is) refl in
          rw (c.place.ensures, w.self-is, w.element-is) (sym t.0 ∙ same.0, t.1 ∙ same.1)
      | in-Literal+in_ok-element-in-Literal w ↦
          let e = ap (λ (b : List ℕ). element (k.reads b)) (sym w.rest.ensures) ∙ sym w.in_ok-element-in-Literal.ensures.answer in
          let t = at_literal k.reads k.means s (record { cursor = w.step.new.self; head = c.take.new.self }) (ap (λ b. b.now) w.step.ensures.0) some.1 less.0 less.1 _ w.in_ok-element-in-Literal.used (sym some.0 ∙ w.in-Literal.is) e w.step.ensures.1 in
          rw (c.place.ensures, w.self-is, w.element-is) (sym t.0 ∙ same.0, t.1 ∙ same.1)
    ]

pub returns-clause-answer : goal.returns-clause-answer
returns-clause-answer g c = (took g c).0

pub returns-clause-after : goal.returns-clause-after
returns-clause-after g c = (took g c).1
