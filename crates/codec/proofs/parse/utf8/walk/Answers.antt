use Rattle.std.proofs.Common.{◌∙◌, arith}
use Rattle.std.proofs.lemmas.Grind.{common_steps}
use Rattle.codec.proofs.Chars.{valid_none, valid_next}
use Rattle.codec.proofs.parse.utf8.walk.Goals as goal

pub returns-in_err-rest : goal.returns-in_err-rest
returns-in_err-rest c = rw c.from_residual.ensures (c.loop-rest.invariant ∙ valid_none c.loop-rest.rest.now (omega arith) c.in_err-rest.ensures)

pub loop-rest-preserved : goal.loop-rest-preserved
loop-rest-preserved c = let n = valid_next c.loop-rest.rest.now c.in_ok-rest.field-0 c.in_ok-rest.ensures.0 c.in_ok-rest.ensures.1 in grind (arith, common_steps, n)
