use Rattle.std.proofs.Common.{Err, sym, refl, ap, ◌∙◌}
use Rattle.std.proofs.lemmas.Bool.{leb-true, leb-false}
use Rattle.std.proofs.lemmas.Result.{err_from_is_err_and}
use Rattle.columns.specs.Runs.{header, run_by, head_by}
use Rattle.columns.specs.Column.{first, others}
use Rattle.columns.proofs.Columns.{turned, at_fault, at_end, left_at}
use Rattle.columns.proofs.rle.RleDecoder.settle.Goals as goal

pub returns-in_err-head-clause-fault : goal.returns-in_err-head-clause-fault
returns-in_err-head-clause-fault g c =
    let k = g.E.Decodable in
    let s = c.loop-self.self in
    let p = err_from_is_err_and c.from_residual.result c.from_residual.ensures.1 in
    let e = ap (header k.reads) (sym c.rest.ensures) ∙ sym c.in_err-head.ensures.answer in
    rw p.1 (sym c.loop-self.invariant.0 ∙ at_fault k.reads k.laws s.cursor.bytes.now (run_by k.means s.head.run) s.head.count s.cursor.offset _ c.loop-self-test.true (leb-false _ _ (sym c.at_end.ensures ∙ c.if-not-at_end.true)) e ∙ ap Err (sym p.2))

pub loop-self-preserved : goal.loop-self-preserved
loop-self-preserved g c =
    let k = g.E.Decodable in
    let s = c.loop-self.self in
    let h = c.in_ok-head.head in
    let d = s.cursor.bytes.now in
    let e = ap (header k.reads) (sym c.rest.ensures) ∙ sym c.in_ok-head.ensures.answer in
    let t = turned k.reads k.laws d (run_by k.means s.head.run) s.head.count s.cursor.offset c.in_ok-head.used (head_by k.means h) c.loop-self-test.true (leb-false _ _ (sym c.at_end.ensures ∙ c.if-not-at_end.true)) e in
    let l = left_at k.reads k.means (record { cursor = c.step.new.self; head = h }) d _ h.count h.run (ap (λ b. b.now) c.step.ensures.0) c.step.ensures.1 refl refl in
    (ap first l ∙ t.0 ∙ c.loop-self.invariant.0, ap others l ∙ t.1 ∙ c.loop-self.invariant.1)

pub returns-else-not-at_end-clause-ended : goal.returns-else-not-at_end-clause-ended
returns-else-not-at_end-clause-ended g c =
    let k = g.E.Decodable in
    let s = c.loop-self.self in
    λ z. at_end k.reads k.laws s.cursor.bytes.now (run_by k.means s.head.run) s.head.count s.cursor.offset z (leb-true _ _ (sym c.at_end.ensures ∙ c.if-not-at_end.false))
