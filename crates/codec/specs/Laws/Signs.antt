-- Two's complement of seven bits a byte.
use Rattle.std.specs.Prelude.{◌≡◌, ℕ, suc, ◌+◌, ◌-◌, ◌*◌, ◌^◌, ◌<◌, ◌≤◌, List, length, ℤ, pos, negsuc, ◌-ℤ◌, nat_lt}
use Rattle.std.proofs.Common.{sym, ap, ◌∙◌, subst, ⊎_elim, arith}
use Rattle.std.specs.Int.Signed.{mag}
use Rattle.std.proofs.lemmas.Int.{ints}
use Rattle.std.proofs.lemmas.Bool.{lt-ltb, le-ltb, cases_lt, cond-true, cond-false}
use Rattle.codec.specs.Leb128.{unsigned, signed}
use Rattle.codec.specs.Laws.Frames.{unsigned_below}

pub signed_pos : (bs : List ℕ) → 2 * unsigned bs < 128 ^ length bs → signed bs ≡ pos (unsigned bs)
signed_pos bs h = cond-true (nat_lt (2 * unsigned bs) (128 ^ length bs)) _ _ (lt-ltb _ _ h)

-- below zero: m is what the value lacks to all bits set
pub signed_neg : (bs : List ℕ) (m : ℕ) → 128 ^ length bs ≤ 2 * unsigned bs → unsigned bs + suc m ≡ 128 ^ length bs → signed bs ≡ negsuc m
signed_neg bs m h e = cond-false (nat_lt (2 * unsigned bs) (128 ^ length bs)) _ _ (le-ltb _ _ h) ∙ ap (λ (p : ℕ). pos (unsigned bs) -ℤ pos p) (sym e) ∙ omega (arith, ints)

-- which of the two it is
pub by_sign : (bs : List ℕ) (P : ℤ → Type 0) → (2 * unsigned bs < 128 ^ length bs → P (pos (unsigned bs))) → ((m : ℕ) → 128 ^ length bs ≤ 2 * unsigned bs → unsigned bs + suc m ≡ 128 ^ length bs → P (negsuc m)) → P (signed bs)
by_sign bs P p n =
    ⊎_elim
    (λ h. subst P (sym (signed_pos bs h)) (p h))
    (λ h.
    let m = 128 ^ length bs - suc (unsigned bs) in
    let e : unsigned bs + suc m ≡ 128 ^ length bs = omega (arith, unsigned_below bs) in
    subst P (sym (signed_neg bs m h e)) (n m h e))
    (cases_lt (2 * unsigned bs) (128 ^ length bs))

-- a signed value needs one bit more than its magnitude
pub signed_mag : (bs : List ℕ) → 2 * mag (signed bs) < 128 ^ length bs
signed_mag bs = by_sign bs (λ z. 2 * mag z < 128 ^ length bs) (λ h. h) (λ m h e. omega arith)

-- of one length, one signed value is one unsigned value
pub signed_same : (xs ys : List ℕ) → length xs ≡ length ys → signed xs ≡ signed ys → unsigned xs ≡ unsigned ys
signed_same xs ys l e =
    let p : 128 ^ length xs ≡ 128 ^ length ys = ap (λ (n : ℕ). 128 ^ n) l in
    by_sign xs (λ z. z ≡ signed ys → unsigned xs ≡ unsigned ys)
    (λ h. by_sign ys (λ z. pos (unsigned xs) ≡ z → unsigned xs ≡ unsigned ys) (λ _ q. omega (arith, ints, q)) (λ m _ _ q. absurd (omega (arith, ints, q))))
    (λ m h k. by_sign ys (λ z. negsuc m ≡ z → unsigned xs ≡ unsigned ys) (λ _ q. absurd (omega (arith, ints, q))) (λ m' _ k' q. let same : m ≡ m' = omega (arith, ints, q) in omega (arith, p, k, k', same)))
    e
