use Rattle.std.proofs.Common.{sym, ◌∙◌}
use Rattle.codec.proofs.Feeds.{fed_same}
use Rattle.codec.proofs.Readers.{spelt, returns_read}
use Rattle.codec.proofs.encoding.leb128.write_leb128.Goals as goal

pub returns : goal.returns
returns g c =
    let n = g.N.Integer in
    let b = c.to_bits in
    let groups = spelt n.spelling b.result.negative b.result.magnitude c.from.result (n.means c.args.val) b.ensures.is b.ensures.sign (c.from.ensures ∙ c.TOP.ensures) in
    record { wrote = fed_same (sym groups) c.write_groups.ensures; code = returns_read n.coding n.reading _ b.ensures.fits }
