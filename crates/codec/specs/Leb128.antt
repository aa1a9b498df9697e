-- LEB128 as DWARF defines it: a number in groups of seven bits, the lowest group first, one group in the low
-- seven bits of each byte; every byte but the last has its high bit set.
use Rattle.std.specs.Prelude.{◌≡◌, ℕ, zero, suc, ◌+◌, ◌-◌, ◌*◌, ◌/◌, ◌%◌, ◌^◌, ◌<◌, ◌≤◌, Bool, true, false, cond, List, [], ◌∷◌, ◌++◌, length, ℤ, pos, negsuc, ◌-ℤ◌, Some, None, Ok, Err, Option, Result, ◌==◌, nat_le, nat_lt}
use Rattle.codec.specs.declared.parse.fault.NumberFault.{NumberFault}
use Rattle.codec.specs.declared.parse.fault.NumberFault.TheVariants.{CutShort, TooLarge, Overlong}

-- The value of the bytes: the sum of their low seven bits times powers of 128.
abbrev pub unsigned : List ℕ → ℕ
unsigned [] = 0
unsigned (b ∷ bs) = b % 128 + 128 * unsigned bs

-- The same, sign extended: two's complement of all the bits there are, seven for each byte.
abbrev pub signed : List ℕ → ℤ
signed bs = cond (nat_lt (2 * unsigned bs) (128 ^ length bs)) (pos (unsigned bs)) (pos (unsigned bs) -ℤ pos (128 ^ length bs))

-- The bytes of one number: each but the last has its high bit set, and the last has not.
abbrev pub Framed : List ℕ → Type 0
Framed [] = ⊥
Framed (b ∷ []) = b < 128
Framed (b ∷ c ∷ bs) = (128 ≤ b) × (b < 256) × Framed (c ∷ bs)

-- The code of a number: its bytes have its value, and no others with that value are fewer.
pub record Code {N : Type 0} (value : List ℕ → N) (n : N) (bytes : List ℕ) : Type 0 where
  pub framed : Framed bytes
  pub means : value bytes ≡ n
  pub shortest : (others : List ℕ) → Framed others → value others ≡ n → length bytes ≤ length others

-- The seven bits of a group; all inverted in a negative number, since -1 - n is n with every bit inverted.
abbrev pub group : Bool → ℕ → ℕ
group negative g = cond negative (127 - g) g

-- The groups of n, up to the first that is below `top` and has none behind it; in at most so many turns.
abbrev pub groups_by : ℕ → ℕ → Bool → ℕ → List ℕ
groups_by zero top negative n = group negative n ∷ []
groups_by (suc turns) top negative n =
    cond (nat_lt n top) (group negative n ∷ []) ((128 + group negative (n % 128)) ∷ groups_by turns top negative (n / 128))

-- A number has fewer groups than its value, unless that is 0.
unfoldable pub groups : ℕ → Bool → ℕ → List ℕ
groups top negative n = groups_by n top negative n

-- The code of an unsigned number.
unfoldable pub uleb : ℕ → List ℕ
uleb n = groups 128 false n

-- The code of a signed number. The last group has its highest bit for the sign, and negsuc n is -1 - n.
unfoldable pub sleb : ℤ → List ℕ
sleb (pos n) = groups 64 false n
sleb (negsuc n) = groups 64 true n

-- what fits 64 bits
abbrev pub fits_u64 : ℕ → Bool
fits_u64 n = nat_lt n (2 ^ 64)

abbrev pub fits_i64 : ℤ → Bool
fits_i64 (pos n) = nat_lt n (2 ^ 63)
fits_i64 (negsuc n) = nat_lt n (2 ^ 63)

-- The bytes of the number that these bytes start with: up to the first with a clear high bit, if there is one.
abbrev pub behind : ℕ → Option (List ℕ) → Option (List ℕ)
behind b None = None
behind b (Some bs) = Some (b ∷ bs)

abbrev pub front : List ℕ → Option (List ℕ)
front [] = None
front (b ∷ bs) = cond (nat_lt b 128) (Some (b ∷ [])) (behind b (front bs))

-- Those bytes, or why there are none: cut short where fewer than ten bytes are there and none ends the number, and
-- too large where it takes more than ten.
abbrev pub framed_front : List ℕ → Option (List ℕ) → Result (List ℕ) NumberFault
framed_front bytes None = cond (nat_lt (length bytes) 10) (Err CutShort) (Err TooLarge)
framed_front bytes (Some bs) = cond (nat_le (length bs) 10) (Ok bs) (Err TooLarge)

abbrev pub frame_at : List ℕ → Result (List ℕ) NumberFault
frame_at bytes = framed_front bytes (front bytes)

module _ {N : Type 0} (value : List ℕ → N) (fits : N → Bool) (code : N → List ℕ) where
  -- What a number's bytes stand for: too large where the value does not fit, and overlong where it has a shorter code.
  abbrev pub judged : Result (List ℕ) NumberFault → Result (N × ℕ) NumberFault
  judged (Err e) = Err e
  judged (Ok bs) =
      cond (fits (value bs)) (cond (length (code (value bs)) == length bs) (Ok (value bs, length bs)) (Err Overlong)) (Err TooLarge)

  -- What reading any bytes gives: the number that they start with, and how many bytes it takes.
  abbrev pub number_at : List ℕ → Result (N × ℕ) NumberFault
  number_at bytes = judged (frame_at bytes)

-- What reading gives.
unfoldable pub read_unsigned : List ℕ → Result (ℕ × ℕ) NumberFault
read_unsigned bytes = number_at unsigned fits_u64 uleb bytes

unfoldable pub read_signed : List ℕ → Result (ℤ × ℕ) NumberFault
read_signed bytes = number_at signed fits_i64 sleb bytes

-- What a reader answers, by the number that its value means.
abbrev pub read_as : {T N F : Type 0} → (T → N) → Result (T × ℕ) F → Result (N × ℕ) F
read_as means (Ok p) = Ok (means p.0, p.1)
read_as means (Err fault) = Err fault

-- A reader accepts exactly where the code of a number that fits stands at the front.
pub record Exact {N : Type 0} (value : List ℕ → N) (fits : N → Bool) (bytes : List ℕ) (r : Result (N × ℕ) NumberFault) : Type 0 where
  pub only : (n : N) (k : ℕ) → r ≡ Ok (n, k) → (code : List ℕ) × (rest : List ℕ) × (bytes ≡ code ++ rest) × Code value n code × (fits n ≡ true) × (k ≡ length code)
  pub all : (n : N) (code rest : List ℕ) → bytes ≡ code ++ rest → Code value n code → fits n ≡ true → r ≡ Ok (n, length code)

-- How many bytes a reader may say that a number takes.
pub record Used (bytes : List ℕ) (used : ℕ) : Type 0 where
  pub some : 1 ≤ used
  pub few : used ≤ 10
  pub within : used ≤ length bytes

-- What is written for a number: its code, which is the only one, of one to ten bytes; read with anything behind
-- it, it gives the number and its length.
pub record Returns {N : Type 0} (value : List ℕ → N) (read : List ℕ → Result (N × ℕ) NumberFault) (n : N) (bytes : List ℕ) : Type 0 where
  pub code : Code value n bytes
  pub alone : (others : List ℕ) → Code value n others → others ≡ bytes
  pub some : 1 ≤ length bytes
  pub few : length bytes ≤ 10
  pub back : (rest : List ℕ) → read (bytes ++ rest) ≡ Ok (n, length bytes)
