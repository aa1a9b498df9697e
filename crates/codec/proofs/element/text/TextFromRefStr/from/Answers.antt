use Rattle.codec.proofs.Grammar.{valid_from_utf8}
use Rattle.codec.proofs.element.text.TextFromRefStr.from.Goals as goal

pub invariant_of-result-clause-sound : goal.invariant_of-result-clause-sound
invariant_of-result-clause-sound c = valid_from_utf8 c.as_bytes.result.now c.as_bytes.ensures.utf8
