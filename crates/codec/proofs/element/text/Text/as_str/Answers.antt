use Rattle.codec.proofs.Grammar.{decides_utf8}
use Rattle.codec.proofs.element.text.Text.as_str.Goals as goal

pub from_utf8_unchecked-requires : goal.from_utf8_unchecked-requires
from_utf8_unchecked-requires c = (decides_utf8 c.args.self.now.part.now).0 c.args.self.now.sound
