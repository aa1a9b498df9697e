use Rattle.std.proofs.Common.{sym, ap, ◌∙◌}
use Rattle.std.proofs.lemmas.Bool.{leb-false}
use Rattle.codec.specs.Leb128.{read_unsigned}
use Rattle.columns.specs.Runs.{number}
use Rattle.columns.proofs.Flags.{turned}
use Rattle.columns.proofs.boolean.BooleanDecoder.settle.Goals as goal

pub loop-self-preserved : goal.loop-self-preserved
loop-self-preserved c =
    let s = c.loop-self.self in
    let e = ap number (ap read_unsigned (sym c.rest.ensures) ∙ sym c.in_ok-count.ensures.answer) in
    let t = turned s.cursor.bytes.now s.count s.value s.cursor.offset c.in_ok-count.count c.in_ok-count.used c.loop-self-test.true (leb-false _ _ (sym c.at_end.ensures ∙ c.if-not-at_end.true)) e in
    rw (ap (λ b. b.now) c.step.ensures.0, c.step.ensures.1) (t.0 ∙ c.loop-self.invariant.0, t.1 ∙ c.loop-self.invariant.1)
