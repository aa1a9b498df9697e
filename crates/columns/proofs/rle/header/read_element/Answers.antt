use Rattle.columns.proofs.Heads.{used_takes}
use Rattle.columns.proofs.rle.header.read_element.Goals as goal

pub returns-clause-within : goal.returns-clause-within
returns-clause-within g c = (used_takes g.E.Decodable.reads g.E.Decodable.laws _ _ c.in_ok-used.ensures.answer).1
