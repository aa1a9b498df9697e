-- Text, one character at a time.
use Rattle.std.proofs.Common.{◌≡◌, ℕ, zero, suc, ◌-◌, ◌<◌, ◌≤◌, false, cond, eqb, List, [], ◌∷◌, ◌++◌, length, drop, refl, ◌∙◌, arith}
use Rattle.std.specs.Str.{IsAscii}
use Rattle.std.proofs.lemmas.Bool.Decides.{nat_tests}
use Rattle.codec.specs.Utf8.{length_of, low_of, high_of, goes_on, valid, follows, char_at}

-- between characters the range of the next byte does not matter
idle : (low high : ℕ) (bs : List ℕ) → goes_on 0 low high bs ≡ goes_on 0 0x80 0xBF bs
idle low high [] = refl
idle low high (b ∷ bs) = refl

-- inside one: its other bytes, and then what stands behind
goes_follows : (left low high : ℕ) (bs : List ℕ) → goes_on left low high bs ≡ cond (follows left low high bs) (goes_on 0 0x80 0xBF (drop left bs)) false
goes_follows zero low high bs = idle low high bs
goes_follows (suc left) low high [] = grind (arith, nat_tests)
goes_follows (suc left) low high (b ∷ bs) = grind (arith, nat_tests, goes_follows left 0x80 0xBF bs)

-- no character in front
pub valid_none : (bs : List ℕ) → 1 ≤ length bs → char_at bs ≡ 0 → valid bs ≡ false
unfolding valid
valid_none [] some e = absurd (omega arith)
valid_none (b ∷ bs) some e = grind (arith, nat_tests, goes_follows (length_of b - 1) (low_of b) (high_of b) bs)

-- a first byte that wants n - 1 others, which are there
whole : (n low high len : ℕ) (bs : List ℕ) → suc len ≡ cond (follows (n - 1) low high bs) n 0 → cond (eqb n 0) false (goes_on (n - 1) low high bs) ≡ goes_on 0 0x80 0xBF (drop len bs)
whole n low high len bs e = grind (arith, nat_tests, goes_follows (n - 1) low high bs)

-- one in front
pub valid_next : (bs : List ℕ) (len : ℕ) → len ≡ char_at bs → 1 ≤ len → valid bs ≡ valid (drop len bs)
unfolding valid
valid_next [] len e some = absurd (omega arith)
valid_next (b ∷ bs) zero e some = absurd (omega arith)
valid_next (b ∷ bs) (suc len) e some = whole (length_of b) (low_of b) (high_of b) len bs e

-- a byte up to 7F in front
valid_ascii : (b : ℕ) (bs : List ℕ) → b < 0x80 → valid (b ∷ bs) ≡ valid bs
valid_ascii b bs h = valid_next (b ∷ bs) 1 (grind (arith, nat_tests)) (omega arith)

-- and several
pub valid_block : (block bs : List ℕ) → IsAscii block → valid (block ++ bs) ≡ valid bs
valid_block [] bs h = refl
valid_block (b ∷ block) bs h = valid_ascii b (block ++ bs) (h 0) ∙ valid_block block bs (λ i. h (suc i))
