use Rattle.codec.proofs.Feeds.{at_sink}
use Rattle.codec.proofs.encoding.put_bytes.Goals as goal

pub returns : goal.returns
returns g c = at_sink c.append.ensures
