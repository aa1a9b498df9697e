-- `valid` accepts the octets of RFC 3629's grammar, and these are the bytes of text.
--     octets_from_valid      valid bytes are octets of the grammar
--     utf8_from_octets       octets are text
--     valid_from_utf8        text is valid
use Rattle.std.proofs.Common.{◌≡◌, ℕ, zero, suc, ◌+◌, ◌-◌, ◌*◌, ◌/◌, ◌<◌, ◌≤◌, Bool, true, ◌⊎◌, List, [], ◌∷◌, ◌++◌, IsUtf8, Decides, sym, refl, ◌∙◌, inl, inr, ⊎_elim, arith}
use lib.Utf8.{scalar, scalars, encode, encodes, next, scalar_cases}
use Rattle.std.proofs.lemmas.Str.{IsUtf8-nil, IsUtf8-append}
use Rattle.std.proofs.lemmas.Bool.Decides.{nat_tests}
use Rattle.std.proofs.str.Laws.{one as encode_one, two as encode-two, three as encode-three, four as encode-four, order, both}
use Rattle.std.proofs.str.Valid.{of_one, of_two, of_three, of_four}
use Rattle.codec.specs.Utf8.{Tail, Character, Octets, length_of, low_of, high_of, goes_on, valid}
use Rattle.codec.specs.Utf8.Character.{one, two, three_e0, three_e1, three_ed, three_ee, four_f0, four_f1, four_f4}
use Rattle.codec.specs.Utf8.Octets.{none, more}

-- `left` more bytes of a character, the next from `low` to `high` and each other a tail.
data Behind : ℕ → ℕ → ℕ → List ℕ → Type 0 where
  nothing : {low high : ℕ} → Behind 0 low high []
  byte : {left low high : ℕ} {bs : List ℕ} (b : ℕ) → low ≤ b → b ≤ high → Behind left 0x80 0xBF bs → Behind (suc left) low high (b ∷ bs)

-- A first byte with the bytes that `goesOn` wants behind it.
data Whole : List ℕ → Type 0 where
  whole : {bs : List ℕ} (left a : ℕ) → length_of a ≡ suc left → Behind left (low_of a) (high_of a) bs → Whole (a ∷ bs)

-- From valid bytes to the grammar.

-- A character of three bytes is one of the grammar's four alternatives.
three : {a b c : ℕ} → length_of a ≡ 3 → low_of a ≤ b → b ≤ high_of a → Tail c → Character (a ∷ b ∷ c ∷ [])
three {a} {b} {c} e l h t =
    let r : (0xE0 ≤ a) × (a ≤ 0xEF) = (grind (arith, nat_tests), grind (arith, nat_tests)) in
    let s : Tail b = (grind (arith, nat_tests), grind (arith, nat_tests)) in
    elim (order a 0xE1) [
      | inl i ↦ three_e0 a b c (omega arith) (grind (arith, nat_tests)) s.1 t
      | inr i ↦ elim (order a 0xED) [
        | inl j ↦ three_e1 a b c i (omega arith) s t
        | inr j ↦ elim (order a 0xEE) [
          | inl k ↦ three_ed a b c (omega arith) s.0 (grind (arith, nat_tests)) t
          | inr k ↦ three_ee a b c k r.1 s t
        ]
      ]
    ]

-- A character of four bytes is one of the grammar's three.
four : {a b c d : ℕ} → length_of a ≡ 4 → low_of a ≤ b → b ≤ high_of a → Tail c → Tail d → Character (a ∷ b ∷ c ∷ d ∷ [])
four {a} {b} {c} {d} e l h t u =
    let r : (0xF0 ≤ a) × (a ≤ 0xF4) = (grind (arith, nat_tests), grind (arith, nat_tests)) in
    let s : Tail b = (grind (arith, nat_tests), grind (arith, nat_tests)) in
    elim (order a 0xF1) [
      | inl i ↦ four_f0 a b c d (omega arith) (grind (arith, nat_tests)) s.1 t u
      | inr i ↦ elim (order a 0xF4) [
        | inl j ↦ four_f1 a b c d i (omega arith) s t u
        | inr j ↦ four_f4 a b c d (omega arith) s.0 (grind (arith, nat_tests)) t u
      ]
    ]

-- A whole character is one of the grammar.
character : {bs : List ℕ} → Whole bs → Character bs
character (whole _ a e nothing) = one a (grind (arith, nat_tests))
character (whole _ a e (byte b l h nothing)) = two a b (grind (arith, nat_tests)) (grind (arith, nat_tests)) (grind (arith, nat_tests), grind (arith, nat_tests))
character (whole _ a e (byte b l h (byte c m i nothing))) = three e l h (m, i)
character (whole _ a e (byte b l h (byte c m i (byte d n j nothing)))) = four e l h (m, i) (n, j)
character (whole _ a e (byte b l h (byte c m i (byte d n j (byte _ _ _ _))))) = absurd (grind (arith, nat_tests))

-- `left` more bytes of a character, and then octets.
data Ends : ℕ → ℕ → ℕ → List ℕ → Type 0 where
  ends : {left low high : ℕ} {bs rest : List ℕ} → Behind left low high bs → Octets rest → Ends left low high (bs ++ rest)

-- With no bytes left, there are only octets.
octets : {low high : ℕ} {bs : List ℕ} → Ends 0 low high bs → Octets bs
octets (ends nothing o) = o

-- A first byte in front of what it wants begins octets.
first : {left : ℕ} {bs : List ℕ} (a : ℕ) → length_of a ≡ suc left → Ends left (low_of a) (high_of a) bs → Octets (a ∷ bs)
first a e (ends {bs = bs} {rest = rest} h o) = more _ (a ∷ bs) rest refl (character (whole _ a e h)) o

-- A byte in its range makes one more.
further : {left low high : ℕ} {bs : List ℕ} (b : ℕ) → low ≤ b → b ≤ high → Ends left 0x80 0xBF bs → Ends (suc left) low high (b ∷ bs)
further b l h (ends i o) = ends (byte b l h i) o

-- Bytes that `goesOn` accepts are the rest of a character, and then octets.
split : (left low high : ℕ) (bs : List ℕ) → goes_on left low high bs ≡ true → Ends left low high bs
split zero low high [] e = ends nothing none
split (suc left) low high [] e = absurd (grind (arith, nat_tests))
split zero low high (b ∷ bs) e = ends nothing (first b (grind (arith, nat_tests)) (split (length_of b - 1) (low_of b) (high_of b) bs (grind (arith, nat_tests))))
split (suc left) low high (b ∷ bs) e = further b (grind (arith, nat_tests)) (grind (arith, nat_tests)) (split left 0x80 0xBF bs (grind (arith, nat_tests)))

-- Valid bytes are octets.
pub octets_from_valid : (bs : List ℕ) → valid bs ≡ true → Octets bs
unfolding valid
octets_from_valid bs e = octets (split 0 0x80 0xBF bs e)

-- From the grammar to text.

-- Three bytes are text where the number that they say is from 800 on and no surrogate.
utf8_three : {a b c : ℕ} → 0xE0 ≤ a → a ≤ 0xEF → Tail b → Tail c
    → let n = (a - 0xE0) * 0x1000 + (b - 0x80) * 0x40 + (c - 0x80) in 0x800 ≤ n → (n < 0xD800) ⊎ (0xE000 ≤ n) → IsUtf8 (a ∷ b ∷ c ∷ [])
utf8_three {a} {b} {c} l h s t = of_three (a ∷ b ∷ c ∷ []) 0 (omega arith) (l, omega arith) (s.0, omega arith) (t.0, omega arith)

-- Four bytes are text where the number that they say is from 10000 on and below 110000, as the first two show.
utf8_four : {a b c d : ℕ} → 0xF0 ≤ a → Tail b → Tail c → Tail d
    → let n = (a - 0xF0) * 0x40 + (b - 0x80) in 0x10 ≤ n → n < 0x110 → IsUtf8 (a ∷ b ∷ c ∷ d ∷ [])
utf8_four {a} {b} {c} {d} l s t u m n =
    of_four (a ∷ b ∷ c ∷ d ∷ []) 0 (omega arith) l (s.0, omega arith) (t.0, omega arith) (u.0, omega arith) (m, n)

-- A character of the grammar is text.
utf8_from_character : {bs : List ℕ} → Character bs → IsUtf8 bs
utf8_from_character (one a h) = of_one (a ∷ []) 0 (omega arith) (omega arith)
utf8_from_character (two a b l h t) = of_two (a ∷ b ∷ []) 0 (omega arith) (l, omega arith) (t.0, omega arith)
utf8_from_character (three_e0 a b c e l h t) = utf8_three (omega arith) (omega arith) (omega arith, h) t (omega arith) (inl (omega arith))
utf8_from_character (three_e1 a b c l h s t) = utf8_three (omega arith) (omega arith) s t (omega arith) (inl (omega arith))
utf8_from_character (three_ed a b c e l h t) = utf8_three (omega arith) (omega arith) (l, omega arith) t (omega arith) (inl (omega arith))
utf8_from_character (three_ee a b c l h s t) = utf8_three (omega arith) h s t (omega arith) (inr (omega arith))
utf8_from_character (four_f0 a b c d e l h t u) = utf8_four (omega arith) (omega arith, h) t u (omega arith) (omega arith)
utf8_from_character (four_f1 a b c d l h s t u) = utf8_four (omega arith) s t u (omega arith) (omega arith)
utf8_from_character (four_f4 a b c d e l h t u) = utf8_four (omega arith) (l, omega arith) t u (omega arith) (omega arith)

-- Octets are text.
pub utf8_from_octets : (bs : List ℕ) → Octets bs → IsUtf8 bs
utf8_from_octets _ none = IsUtf8-nil
utf8_from_octets _ (more _ c rest e h o) = rw e (IsUtf8-append c rest (utf8_from_character h) (utf8_from_octets rest o))

-- From text to valid bytes.

-- A byte that `next` makes is a tail.
tail : {left : ℕ} {bs : List ℕ} (n : ℕ) → Behind left 0x80 0xBF bs → Behind (suc left) 0x80 0xBF (next n ∷ bs)
tail n h = byte (next n) (omega arith) (omega arith) h

-- The bytes of a scalar value are a whole character: of one byte,
whole_one : (c : ℕ) → c < 0x80 → Whole (encode c)
whole_one c h = rw encode_one (whole 0 c (grind (arith, nat_tests)) nothing)

-- of two,
whole_two : (c : ℕ) → 0x80 ≤ c → c < 0x800 → Whole (encode c)
whole_two c l h =
    let a = 0xC0 + c / 0x40 in
    let s : (low_of a ≤ next c) × (next c ≤ high_of a) = (grind (arith, nat_tests), grind (arith, nat_tests)) in
    rw encode-two (whole 1 a (grind (arith, nat_tests)) (byte (next c) s.0 s.1 nothing))

-- of three,
whole_three : (c : ℕ) → 0x800 ≤ c → c < 0x10000 → (c < 0xD800) ⊎ (0xE000 ≤ c) → Whole (encode c)
whole_three c l h gap =
    let a = 0xE0 + c / 0x1000 in
    let b = next (c / 0x40) in
    let s : (low_of a ≤ b) × (b ≤ high_of a) = (grind (arith, nat_tests), grind (arith, nat_tests)) in
    rw encode-three (whole 2 a (grind (arith, nat_tests)) (byte b s.0 s.1 (tail c nothing)))

-- of four,
whole_four : (c : ℕ) → 0x10000 ≤ c → c < 0x110000 → Whole (encode c)
whole_four c l h =
    let a = 0xF0 + c / 0x40000 in
    let b = next (c / 0x1000) in
    let s : (low_of a ≤ b) × (b ≤ high_of a) = (grind (arith, nat_tests), grind (arith, nat_tests)) in
    rw encode-four (whole 3 a (grind (arith, nat_tests)) (byte b s.0 s.1 (tail (c / 0x40) (tail c nothing))))

-- and so each scalar value's.
whole_encode : (c : ℕ) → scalar c ≡ true → Whole (encode c)
whole_encode c s =
    let ranges = scalar_cases c s in
    let top : c < 0x110000 = ⊎_elim (λ v. omega arith) (λ v. v.1) ranges in
    let gap : (c < 0xD800) ⊎ (0xE000 ≤ c) = ⊎_elim inl (λ v. inr v.0) ranges in
    elim (order c 0x80) [
      | inl h ↦ whole_one c h
      | inr l ↦ elim (order c 0x800) [
        | inl h ↦ whole_two c l h
        | inr l ↦ elim (order c 0x10000) [
          | inl h ↦ whole_three c l h gap
          | inr l ↦ whole_four c l top
        ]
      ]
    ]

-- `goesOn` passes the bytes that are left of a character.
past : {left low high : ℕ} {bs : List ℕ} (rest : List ℕ) → Behind left low high bs → goes_on left low high (bs ++ rest) ≡ goes_on 0 0x80 0xBF rest
past [] nothing = refl
past (b ∷ rest) nothing = refl
past rest (byte b l h i) = let p = past rest i in grind (arith, nat_tests)

-- A whole character in front changes nothing.
past_whole : {bs : List ℕ} (rest : List ℕ) → Whole bs → valid (bs ++ rest) ≡ valid rest
unfolding valid
past_whole rest (whole _ a e h) = let p = past rest h in grind (arith, nat_tests)

-- The bytes of scalar values are valid.
valid_encodes : (cs : List ℕ) → scalars cs ≡ true → valid (encodes cs) ≡ true
unfolding valid
valid_encodes [] s = refl
valid_encodes (c ∷ cs) s = let p = both (scalar c) (scalars cs) s in past_whole (encodes cs) (whole_encode c p.0) ∙ valid_encodes cs p.1

-- Text is valid.
pub valid_from_utf8 : (bs : List ℕ) → IsUtf8 bs → valid bs ≡ true
valid_from_utf8 bs u = rw u.1.1 at (valid_encodes u.0 u.1.0)

-- a test that answers what the definition does decides the grammar
pub decides_octets : (bs : List ℕ) (t : Bool) → t ≡ valid bs → Decides t (Octets bs)
decides_octets bs t e = (λ yes. octets_from_valid bs (sym e ∙ yes), λ o. e ∙ valid_from_utf8 bs (utf8_from_octets bs o))

-- and so does the definition for the language's own text
pub decides_utf8 : (bs : List ℕ) → Decides (valid bs) (IsUtf8 bs)
decides_utf8 bs = (λ yes. utf8_from_octets bs (octets_from_valid bs yes), valid_from_utf8 bs)
