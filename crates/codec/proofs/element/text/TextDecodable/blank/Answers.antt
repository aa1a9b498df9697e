use Rattle.std.proofs.Common.{refl}
use Rattle.codec.specs.Utf8.{valid}
use Rattle.codec.proofs.element.text.TextDecodable.blank.Goals as goal

pub invariant_of-result-clause-sound : goal.invariant_of-result-clause-sound
unfolding valid
invariant_of-result-clause-sound c = refl
