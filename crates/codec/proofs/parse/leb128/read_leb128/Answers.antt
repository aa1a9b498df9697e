use Rattle.std.proofs.Common.{ℕ, ◌-◌, ◌*◌, ◌^◌, ◌<◌, ◌≤◌, Err, refl, ap, ◌∙◌, subst, arith}
use Rattle.std.proofs.lemmas.Nat.{mul-le}
use Rattle.std.proofs.lemmas.Result.{err_from_is_err_and}
use Rattle.codec.specs.Laws.Powers.{pow_most}
use Rattle.codec.specs.Laws.Spelling.{either_some}
use Rattle.codec.proofs.Readers.{answered_none, bits_large, bits_over, bits_ok, reads_fault, reads_ok}
use Rattle.codec.proofs.parse.leb128.read_leb128.Goals as goal
use Rattle.codec.proofs.parse.leb128.read_leb128.Goals.{else-frame-gt1-via-then-frame-gt1+else-bits-at_place, else-frame-gt1-via-else-frame-gt1}

pub returns-in_err-frame : goal.returns-in_err-frame
returns-in_err-frame g c =
    let n = g.N.Integer in
    let p = err_from_is_err_and c.from_residual.result c.from_residual.ensures.1 in
    let a = reads_fault n.means n.code n.reading c.args.bytes.now _ c.from_residual.result (p.1 ∙ ap Err p.2) (answered_none n.coding c.args.bytes.now _ c.in_err-frame.ensures) in
    record { answer = a.answer; exact = a.exact; used = a.used }

pub returns-in_default : goal.returns-in_default
returns-in_default g c =
    let n = g.N.Integer in
    let f = c.in_ok-frame.frame in
    let none = c.in_default.ensures in
    let a = reads_fault n.means n.code n.reading c.args.bytes.now _ (Err _) refl (bits_large n.spelling n.coding c.args.bytes.now f.low f.last f.used f.few c.in_ok-frame.ensures none.0 none.1 c.TOP.result c.TOP.ensures none.2 (n.spelling.large none.0 none.1 none.3)) in
    record { answer = a.answer; exact = a.exact; used = a.used }

pub returns-in_default-from_bits : goal.returns-in_default-from_bits
returns-in_default-from_bits g c =
    let n = g.N.Integer in
    let f = c.in_ok-frame.frame in
    let b = c.in-Some in
    let a = reads_fault n.means n.code n.reading c.args.bytes.now _ (Err _) refl (bits_large n.spelling n.coding c.args.bytes.now f.low f.last f.used f.few c.in_ok-frame.ensures b.bits.negative b.bits.magnitude c.TOP.result c.TOP.ensures b.ensures c.in_default-from_bits.ensures) in
    record { answer = a.answer; exact = a.exact; used = a.used }

pub at_place-requires : goal.at_place-requires
at_place-requires g c =
    let n = g.N.Integer in
    let f = c.in_ok-frame.frame in
    let top = either_some n.TOP n.spelling.either in
    let most = mul-le c.TOP-then-frame-gt1.result (128 ^ (f.used - 2)) 128 (128 ^ 8) (omega (arith, top.1, c.TOP-then-frame-gt1.ensures)) (pow_most (f.used - 2) 8 (omega (arith, f.few))) in
    (omega (arith, most), omega (arith, f.few))

pub returns-then-bits-at_place : goal.returns-then-bits-at_place
returns-then-bits-at_place g c =
    let n = g.N.Integer in
    let f = c.in_ok-frame.frame in
    let b = c.in-Some in
    let few : b.bits.magnitude < n.TOP * 128 ^ (f.used - 2) = subst (λ (k : ℕ). b.bits.magnitude < k) (c.at_place.ensures ∙ ap (λ (t : ℕ). t * 128 ^ (f.used - 2)) c.TOP-then-frame-gt1.ensures) c.if-bits-at_place.true in
    let a = reads_fault n.means n.code n.reading c.args.bytes.now _ (Err _) refl (bits_over n.spelling n.coding c.args.bytes.now f.low f.last f.used f.few c.in_ok-frame.ensures b.bits.negative b.bits.magnitude c.TOP.result c.TOP.ensures b.ensures c.in-Some-from_bits.ensures.1 c.if-frame-gt1.true few) in
    record { answer = a.answer; exact = a.exact; used = a.used }

pub returns : goal.returns
returns g c =
    let n = g.N.Integer in
    let f = c.in_ok-frame.frame in
    let b = c.in-Some in
    let x = c.in-Some-from_bits in
    let least : 1 < f.used → n.TOP * 128 ^ (f.used - 2) ≤ b.bits.magnitude =
    λ more. elim c.else-frame-gt1.branch [
      | else-frame-gt1-via-then-frame-gt1+else-bits-at_place w ↦ subst (λ (k : ℕ). k ≤ b.bits.magnitude) (w.at_place.ensures ∙ ap (λ (t : ℕ). t * 128 ^ (f.used - 2)) w.TOP-then-frame-gt1.ensures) w.if-bits-at_place.false
      | else-frame-gt1-via-else-frame-gt1 w ↦ absurd (omega (arith, more, w.if-frame-gt1.false))
    ]
    in
    let a = reads_ok n.means n.code n.reading c.args.bytes.now x.number f.used _ x.ensures.0 (bits_ok n.spelling n.coding c.args.bytes.now f.low f.last f.used f.few c.in_ok-frame.ensures b.bits.negative b.bits.magnitude c.TOP.result c.TOP.ensures b.ensures x.ensures.1 least) in
    record { answer = a.answer; exact = a.exact; used = a.used }
