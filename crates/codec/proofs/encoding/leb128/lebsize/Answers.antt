use Rattle.std.proofs.Common.{◌≡◌, ◌+◌, ◌*◌, ◌/◌, ◌<◌, ◌≤◌, length, sym, refl, ap, ◌∙◌, arith}
use Rattle.std.proofs.lemmas.Nat.{leading_top}
use Rattle.codec.proofs.Sizes.{groups_none, groups_bits, doubled, doubled_fits}
use Rattle.codec.specs.Laws.Spelling.{either_some}
use Rattle.codec.proofs.Readers.{spelt}
use Rattle.codec.proofs.encoding.leb128.lebsize.Goals as goal

pub returns-then-bits-eq0 : goal.returns-then-bits-eq0
returns-then-bits-eq0 g c =
    let n = g.N.Integer in
    let b = c.to_bits in
    let top = either_some n.TOP n.spelling.either in
    let is = doubled n.TOP c.from.result b.result.magnitude (c.from.ensures ∙ c.TOP.ensures) n.spelling.either in
    let size = groups_none n.TOP (omega (arith, top.0)) top.1 b.result.negative b.result.magnitude _ is c.if-bits-eq0.true in
    let code = spelt n.spelling b.result.negative b.result.magnitude n.TOP (n.means c.args.val) b.ensures.is b.ensures.sign refl in
    record { size = sym (ap length code ∙ size); some = omega arith; few = omega arith }

pub returns : goal.returns
returns g c =
    let n = g.N.Integer in
    let b = c.to_bits in
    let top = either_some n.TOP n.spelling.either in
    let same = c.from.ensures ∙ c.TOP.ensures in
    let m = b.result.magnitude * (128 / c.from.result) in
    let is = doubled n.TOP c.from.result b.result.magnitude same n.spelling.either in
    let fits = doubled_fits n.TOP c.from.result b.result.magnitude same n.spelling.either (n.spelling.bound b.result.negative b.result.magnitude (ap n.fits b.ensures.is ∙ b.ensures.fits)) in
    let some : 0 < m = omega (arith, c.if-bits-eq0.false) in
    let t = leading_top 64 m some fits in
    let size = groups_bits n.TOP (omega (arith, top.0)) top.1 b.result.negative b.result.magnitude m is t.0 t.2 t.3 in
    let code = spelt n.spelling b.result.negative b.result.magnitude n.TOP (n.means c.args.val) b.ensures.is b.ensures.sign refl in
    let few : t.0 ≤ 63 = omega (arith, t.1) in
    let r : c.div_ceil.result ≡ t.0 / 7 + 1 = omega (arith, c.div_ceil.ensures, t.1) in
    record { size = omega (arith, r, size, ap length code); some = omega (arith, r); few = omega (arith, r, few) }
