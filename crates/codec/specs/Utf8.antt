-- Text: UTF-8 by the syntax of RFC 3629, section 4.
use Rattle.std.specs.Prelude.{◌≡◌, ℕ, zero, suc, ◌-◌, ◌≤◌, Bool, true, false, cond, ◌&&◌, List, [], ◌∷◌, ◌++◌, ◌==◌, nat_le, nat_lt}

-- UTF8-tail = %x80-BF
abbrev pub Tail : ℕ → Type 0
Tail b = (0x80 ≤ b) × (b ≤ 0xBF)

-- UTF8-char = UTF8-1 / UTF8-2 / UTF8-3 / UTF8-4, alternative by alternative
pub data Character : List ℕ → Type 0 where
  -- UTF8-1 = %x00-7F
  one : (a : ℕ) → a ≤ 0x7F → Character (a ∷ [])
  -- UTF8-2 = %xC2-DF UTF8-tail
  two : (a b : ℕ) → 0xC2 ≤ a → a ≤ 0xDF → Tail b → Character (a ∷ b ∷ [])
  -- UTF8-3 = %xE0 %xA0-BF UTF8-tail / %xE1-EC 2( UTF8-tail ) / %xED %x80-9F UTF8-tail / %xEE-EF 2( UTF8-tail )
  three_e0 : (a b c : ℕ) → a ≡ 0xE0 → 0xA0 ≤ b → b ≤ 0xBF → Tail c → Character (a ∷ b ∷ c ∷ [])
  three_e1 : (a b c : ℕ) → 0xE1 ≤ a → a ≤ 0xEC → Tail b → Tail c → Character (a ∷ b ∷ c ∷ [])
  three_ed : (a b c : ℕ) → a ≡ 0xED → 0x80 ≤ b → b ≤ 0x9F → Tail c → Character (a ∷ b ∷ c ∷ [])
  three_ee : (a b c : ℕ) → 0xEE ≤ a → a ≤ 0xEF → Tail b → Tail c → Character (a ∷ b ∷ c ∷ [])
  -- UTF8-4 = %xF0 %x90-BF 2( UTF8-tail ) / %xF1-F3 3( UTF8-tail ) / %xF4 %x80-8F 2( UTF8-tail )
  four_f0 : (a b c d : ℕ) → a ≡ 0xF0 → 0x90 ≤ b → b ≤ 0xBF → Tail c → Tail d → Character (a ∷ b ∷ c ∷ d ∷ [])
  four_f1 : (a b c d : ℕ) → 0xF1 ≤ a → a ≤ 0xF3 → Tail b → Tail c → Tail d → Character (a ∷ b ∷ c ∷ d ∷ [])
  four_f4 : (a b c d : ℕ) → a ≡ 0xF4 → 0x80 ≤ b → b ≤ 0x8F → Tail c → Tail d → Character (a ∷ b ∷ c ∷ d ∷ [])

-- UTF8-octets = *( UTF8-char )
pub data Octets : List ℕ → Type 0 where
  none : Octets []
  more : (bs c rest : List ℕ) → bs ≡ c ++ rest → Character c → Octets rest → Octets bs

-- The length of the character that starts with a byte; 0 where none does.
abbrev pub length_of : ℕ → ℕ
length_of b = cond (nat_lt b 0x80) 1 (cond (nat_lt b 0xC2) 0 (cond (nat_lt b 0xE0) 2 (cond (nat_lt b 0xF0) 3 (cond (nat_lt b 0xF5) 4 0))))

-- The least and the greatest second byte behind it.
abbrev pub low_of : ℕ → ℕ
low_of b = cond (b == 0xE0) 0xA0 (cond (b == 0xF0) 0x90 0x80)

abbrev pub high_of : ℕ → ℕ
high_of b = cond (b == 0xED) 0x9F (cond (b == 0xF4) 0x8F 0xBF)

-- Whether these are `left` more bytes of a character, the next from `low` to `high` and each other a tail, and then
-- characters.
abbrev pub goes_on : ℕ → ℕ → ℕ → List ℕ → Bool
goes_on left low high [] = left == 0
goes_on left low high (b ∷ bs) =
    cond (left == 0) (cond (length_of b == 0) false (goes_on (length_of b - 1) (low_of b) (high_of b) bs))
    (cond (nat_le low b && nat_le b high) (goes_on (left - 1) 0x80 0xBF bs) false)

-- Whether bytes are text, byte by byte.
unfoldable pub valid : List ℕ → Bool
valid bs = goes_on 0 0x80 0xBF bs

-- Whether `left` bytes stand at the front, the first from `low` to `high` and each other a tail.
abbrev pub follows : ℕ → ℕ → ℕ → List ℕ → Bool
follows zero low high bs = true
follows (suc left) low high [] = false
follows (suc left) low high (b ∷ bs) = cond (nat_le low b && nat_le b high) (follows left 0x80 0xBF bs) false

-- The length of the character that the bytes start with; 0 where none does.
abbrev pub char_at : List ℕ → ℕ
char_at [] = 0
char_at (b ∷ bs) = cond (follows (length_of b - 1) (low_of b) (high_of b) bs) (length_of b) 0
