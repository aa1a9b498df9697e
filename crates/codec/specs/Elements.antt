-- Elements: what a kind of element is, and what reading one gives.
use Rattle.std.specs.Prelude.{◌≡◌, ℕ, ◌+◌, ◌^◌, ◌<◌, ◌≤◌, Bool, true, false, cond, List, ◌++◌, length, take, drop, ℤ, Ok, Err, Result, nat_le}
use Rattle.codec.specs.declared.parse.fault.NumberFault.{NumberFault}
use Rattle.codec.specs.declared.element.fault.ElementFault.{ElementFault}
use Rattle.codec.specs.declared.element.fault.ElementFault.TheVariants.{Number, PastEnd, NotUtf8}
use Rattle.codec.specs.Leb128.{uleb, read_unsigned, read_signed, fits_u64, fits_i64}
use Rattle.codec.specs.Utf8.{valid}

-- What bytes start with: an element and how many bytes its code takes, or the cause why there is none.
abbrev pub Reading : Type 0 → Type 0
Reading M = Result (M × ℕ) ElementFault

-- What a reader that fills a place answers, and what the place then holds: the element, or what it held.
abbrev pub used : {M : Type 0} → Reading M → Result ℕ ElementFault
used (Ok p) = Ok p.1
used (Err fault) = Err fault

abbrev pub filled : {M : Type 0} → Reading M → M → M
filled (Ok p) old = p.0
filled (Err fault) old = old

-- The laws of a kind, whose elements are the m that `Element` says. No code is empty. Reading a code with anything
-- behind it gives the element and that remainder. Whatever is read is an element, and takes bytes that are there.
pub record Laws {M : Type 0} (Element : M → Type 0) (code : M → List ℕ) (reads : List ℕ → Reading M) : Type 0 where
  pub some : (m : M) → Element m → 1 ≤ length (code m)
  pub back : (m : M) → Element m → (rest : List ℕ) → reads (code m ++ rest) ≡ Ok (m, length (code m))
  pub alone : (bytes : List ℕ) (m : M) (n : ℕ) → reads bytes ≡ Ok (m, n) → Element m
  pub within : (bytes : List ℕ) (m : M) (n : ℕ) → reads bytes ≡ Ok (m, n) → (1 ≤ n) × (n ≤ length bytes)

-- Bytes that stand for an element: there is one at least, and reading them, with anything behind them, gives the
-- element and their number.
pub record StandsFor {M : Type 0} (reads : List ℕ → Reading M) (m : M) (bytes : List ℕ) : Type 0 where
  pub some : 1 ≤ length bytes
  pub back : (rest : List ℕ) → reads (bytes ++ rest) ≡ Ok (m, length bytes)

-- a number's fault as an element's
abbrev pub numbered : {N : Type 0} → Result (N × ℕ) NumberFault → Reading N
numbered (Ok p) = Ok p
numbered (Err fault) = Err (Number fault)

-- Numbers are coded as they are.
abbrev pub reads_unsigned : List ℕ → Reading ℕ
reads_unsigned bytes = numbered (read_unsigned bytes)

abbrev pub reads_signed : List ℕ → Reading ℤ
reads_signed bytes = numbered (read_signed bytes)

abbrev pub UnsignedElement : ℕ → Type 0
UnsignedElement n = fits_u64 n ≡ true

abbrev pub SignedElement : ℤ → Type 0
SignedElement z = fits_i64 z ≡ true

-- A text is coded as the length of its bytes, unsigned, and the bytes.
unfoldable pub text_code : List ℕ → List ℕ
text_code text = uleb (length text) ++ text

-- what the check of a text answers
abbrev pub checked : Bool → Result (Unit {0}) ElementFault
checked true = Ok tt
checked false = Err NotUtf8

-- the text of n bytes, behind a length that took k
abbrev pub text_part : List ℕ → ℕ → ℕ → Reading (List ℕ)
text_part bytes n k =
    cond (nat_le (k + n) (length bytes)) (cond (valid (take n (drop k bytes))) (Ok (take n (drop k bytes), k + n)) (Err NotUtf8)) (Err PastEnd)

abbrev pub text_behind : List ℕ → Result (ℕ × ℕ) NumberFault → Reading (List ℕ)
text_behind bytes (Ok p) = text_part bytes p.0 p.1
text_behind bytes (Err fault) = Err (Number fault)

unfoldable pub reads_text : List ℕ → Reading (List ℕ)
reads_text bytes = text_behind bytes (read_unsigned bytes)

abbrev pub TextElement : List ℕ → Type 0
TextElement text = (valid text ≡ true) × (length text < 2 ^ 64)
