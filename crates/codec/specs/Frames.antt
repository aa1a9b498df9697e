-- What is known of a number's bytes once their end is found.
use Rattle.std.specs.Prelude.{◌≡◌, ℕ, suc, ◌+◌, ◌-◌, ◌*◌, ◌^◌, ◌<◌, ◌≤◌, Bool, true, false, cond, List, length, take, ℤ, pos, negsuc, Ok}
use Rattle.codec.specs.Leb128.{unsigned, Framed, frame_at}

-- what the groups make: `low` before the last, and that one behind `used` - 1 others
abbrev pub worth : ℕ → ℕ → ℕ → ℕ
worth low last used = low + last * 128 ^ (used - 1)

-- the first `used` bytes are those of the number
pub record Ended (bytes : List ℕ) (used : ℕ) : Type 0 where
  pub frame : frame_at bytes ≡ Ok (take used bytes)
  pub framed : Framed (take used bytes)
  pub count : length (take used bytes) ≡ used

-- and these are its groups
pub record Found (bytes : List ℕ) (low last used : ℕ) : Type 0 where
  pub ended : Ended bytes used
  pub value : unsigned (take used bytes) ≡ worth low last used

-- a signed number by its sign and its bits, which are inverted where it is negative: negsuc n is -1 - n
abbrev pub number_of : Bool → ℕ → ℤ
number_of negative n = cond negative (negsuc n) (pos n)

-- an unsigned one has no sign
abbrev pub plain_number : Bool → ℕ → ℕ
plain_number negative n = n

-- The sign and the bits m of a number whose bytes, `used` of them, are worth n as they stand, where `top` is what the
-- last group of a number with no minus is below: from there on, all bits are inverted.
pub record Split (top n used : ℕ) (negative : Bool) (m : ℕ) : Type 0 where
  pub plain : negative ≡ false → (m ≡ n) × (128 * n < top * 128 ^ used)
  pub inverted : negative ≡ true → (n + suc m ≡ 128 ^ used) × (top * 128 ^ used ≤ 128 * n)
  pub below : 128 * m < top * 128 ^ used
