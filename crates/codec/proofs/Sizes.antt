-- How many bytes the groups of a number take.
use Rattle.std.proofs.Common.{◌≡◌, ℕ, zero, suc, ◌+◌, ◌*◌, ◌/◌, ◌^◌, ◌<◌, ◌≤◌, Bool, ◌⊎◌, inl, inr, length, sym, subst, ap, ◌∙◌, arith, pow_mono}
use Rattle.std.proofs.Math.Nat.{mul-lt-mul_of_pos_left, mul-le-mul_left}
use Rattle.codec.specs.Leb128.{groups}
use Rattle.codec.specs.Laws.Powers.{pow_seven}
use Rattle.codec.specs.Laws.Groups.{framed_some, framed_groups, groups_few, groups_many, room_more}

-- `b` are the bits n, with one more behind them where the last group leaves one for the sign
module _ (top : ℕ) (some : 0 < top) (most : top ≤ 128) (negative : Bool) (n b : ℕ) (is : top * b ≡ 128 * n) where
  -- no bits take a byte
  pub groups_none : b ≡ 0 → length (groups top negative n) ≡ 1
  groups_none e =
      let z : top * b ≡ 0 = ap (λ (k : ℕ). top * k) e ∙ omega arith in
      omega (arith, z, groups_few top some most negative 0 n (omega (arith, z, room_more top 0)), framed_some (groups top negative n) (framed_groups top some most negative n))

  -- by the bytes that hold the bits, and one fewer that do not
  groups_size : (q : ℕ) → 128 ^ q ≤ b → b < 128 ^ suc q → length (groups top negative n) ≡ suc q
  groups_size q low high =
      let above : top * b < top * 128 ^ suc q = mul-lt-mul_of_pos_left high some in
      let few : length (groups top negative n) ≤ suc q = groups_few top some most negative q n (omega (arith, above, is, room_more top q)) in
      omega (arith, few, least q low)
    where
      least : (q : ℕ) → 128 ^ q ≤ b → suc q ≤ length (groups top negative n)
      least zero low = framed_some (groups top negative n) (framed_groups top some most negative n)
      least (suc k) low =
          let below : top * 128 ^ suc k ≤ top * b = mul-le-mul_left top low in
          groups_many top some most negative k n (omega (arith, below, is, room_more top k))

  -- by the place of the highest bit
  pub groups_bits : (j : ℕ) → 2 ^ j ≤ b → b < 2 ^ suc j → length (groups top negative n) ≡ j / 7 + 1
  groups_bits j low high =
      let q = j / 7 in
      let a : 7 * q ≤ j = omega arith in
      let c : suc j ≤ 7 * suc q = omega arith in
      let below : 2 ^ (7 * q) ≤ 2 ^ j = pow_mono a in
      let above : 2 ^ suc j ≤ 2 ^ (7 * suc q) = pow_mono c in
      omega (arith, groups_size q (omega (arith, pow_seven q)) (omega (arith, pow_seven (suc q))))

-- the bits of a number, with one more where there is a sign
module _ (top t m : ℕ) (same : t ≡ top) where
  pub doubled : (top ≡ 64) ⊎ (top ≡ 128) → top * (m * (128 / t)) ≡ 128 * m
  doubled (inl a) = subst (λ (k : ℕ). k * (m * (128 / t)) ≡ 128 * m) (sym a) (ap (λ (k : ℕ). 64 * (m * (128 / k))) (same ∙ a) ∙ omega arith)
  doubled (inr a) = subst (λ (k : ℕ). k * (m * (128 / t)) ≡ 128 * m) (sym a) (ap (λ (k : ℕ). 128 * (m * (128 / k))) (same ∙ a) ∙ omega arith)

  pub doubled_fits : (top ≡ 64) ⊎ (top ≡ 128) → m < top * 2 ^ 57 → m * (128 / t) < 2 ^ 64
  doubled_fits (inl a) h = omega (arith, ap (λ (k : ℕ). m * (128 / k)) (same ∙ a), a)
  doubled_fits (inr a) h = omega (arith, ap (λ (k : ℕ). m * (128 / k)) (same ∙ a), a)
