use Rattle.codec.proofs.Feeds.{at_sink}
use Rattle.codec.proofs.encoding.leb128.put_leb128.Goals as goal

pub returns : goal.returns
returns g c = let w = c.write_leb128.ensures in record { told = at_sink w.wrote; code = w.code }
