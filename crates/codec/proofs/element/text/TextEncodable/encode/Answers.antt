use Rattle.std.proofs.Common.{ap}
use Rattle.codec.specs.Elements.{text_code}
use Rattle.codec.proofs.Feeds.{fed_then, fed_exit, fed_same}
use Rattle.codec.proofs.element.text.TextEncodable.encode.Goals as goal

pub returns-in_err-write_leb128 : goal.returns-in_err-write_leb128
unfolding text_code
returns-in_err-write_leb128 g c =
    let part = c.as_bytes-bytes.result.now in
    fed_same (ap text_code c.as_bytes-bytes.ensures) (fed_exit part c.from_residual.result c.from_residual.ensures.0 c.in_err-write_leb128.ensures.wrote)

pub returns : goal.returns
unfolding text_code
returns g c = fed_same (ap text_code c.as_bytes-bytes.ensures) (fed_then c.in_ok-write_leb128.ensures.wrote c.append.ensures)
