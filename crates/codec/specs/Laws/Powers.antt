-- Powers of 128: seven bits a byte.
use Rattle.std.specs.Prelude.{◌≡◌, ℕ, zero, suc, ◌*◌, ◌^◌, ◌≤◌, refl}
use Rattle.std.proofs.Common.{sym, ap, ◌∙◌, subst, pow-suc, arith, pow_mono, pow-add}

pub pow_seven : (k : ℕ) → 2 ^ (7 * k) ≡ 128 ^ k
pow_seven zero = refl
pow_seven (suc k) =
    subst (λ (e : ℕ). 2 ^ e ≡ 128 ^ suc k) (omega arith) (pow-add 2 (7 * k) 7 ∙ ap (λ (p : ℕ). p * 128) (pow_seven k) ∙ sym (pow-suc 128 k))

pub pow_most : (i j : ℕ) → i ≤ j → 128 ^ i ≤ 128 ^ j
pow_most i j h =
    let q : 7 * i ≤ 7 * j = omega arith in
    let p : 2 ^ (7 * i) ≤ 2 ^ (7 * j) = pow_mono q in
    omega (arith, p, pow_seven i, pow_seven j)
