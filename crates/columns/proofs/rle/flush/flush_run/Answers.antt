use Rattle.codec.proofs.Feeds.{fed_same, fed_then, fed_exit}
use Rattle.columns.proofs.Headers.{plus}
use Rattle.columns.proofs.rle.flush.flush_run.Goals as goal

pub returns-in_err-write_leb128 : goal.returns-in_err-write_leb128
returns-in_err-write_leb128 g c = fed_exit _ c.from_residual.result c.from_residual.ensures.0 (fed_same (plus c.args.len c.requires) c.in_err-write_leb128.ensures.wrote)

pub returns : goal.returns
returns g c = fed_then (fed_same (plus c.args.len c.requires) c.in_ok-write_leb128.ensures.wrote) c.encode.ensures
