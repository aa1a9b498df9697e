-- Delta columns: each number by its difference from the last one, starting at 0. Nulls leave the last number alone.
-- Differences and sums saturate at 64 bits.
use Rattle.std.specs.Prelude.{◌≡◌, ℕ, suc, ◌^◌, ◌<◌, true, false, List, [], ◌∷◌, map, length, drop, ℤ, pos, ◌+ℤ◌, ◌-ℤ◌, Some, None, Option, Result, refl}
use Rattle.std.proofs.Common.{sym, ap, subst}
use Rattle.std.proofs.lemmas.List.{length-map}
use Rattle.std.specs.Option.{option_map}
use Rattle.std.specs.Int.{saturate_to_bits}
use Rattle.std.specs.Result.{result_map_both}
use Rattle.codec.specs.Leb128.{sleb, fits_i64}
use Rattle.codec.specs.Elements.{reads_signed}
use Rattle.columns.specs.declared.fault.ColumnFault.{ColumnFault}
use Rattle.columns.specs.declared.delta.DeltaDecoder.{DeltaDecoder}
use Rattle.columns.specs.Column.{Entry, null, item, fault, hollow, first, entries, remains}
use Rattle.columns.specs.Cut.{any_element, written}
use Rattle.columns.specs.Law.{plain}

-- the differences of numbers, from the last one
abbrev pub differences : ℤ → List (Option ℤ) → List (Option ℤ)
differences last [] = []
differences last (None ∷ xs) = None ∷ differences last xs
differences last (Some z ∷ xs) = Some (saturate_to_bits 63 (z -ℤ last)) ∷ differences z xs

-- the numbers of differences
abbrev pub sums : ℤ → List (Option ℤ) → List (Option ℤ)
sums last [] = []
sums last (None ∷ xs) = None ∷ sums last xs
sums last (Some z ∷ xs) = Some (saturate_to_bits 63 (last +ℤ z)) ∷ sums (saturate_to_bits 63 (last +ℤ z)) xs

-- the same of entries that are read
abbrev pub summed : ℤ → List (Entry ℤ) → List (Entry ℤ)
summed last [] = []
summed last (null ∷ es) = null ∷ summed last es
summed last (item z p ∷ es) = item (saturate_to_bits 63 (last +ℤ z)) p ∷ summed (saturate_to_bits 63 (last +ℤ z)) es
summed last (fault f ∷ es) = fault f ∷ summed last es
summed last (hollow ∷ es) = hollow ∷ summed last es

-- What a reader answers.
abbrev pub first_number : List (Entry ℤ) → Result (Option (Option ℤ)) ColumnFault
first_number es = result_map_both (option_map (option_map (λ x. x.element))) (λ f. f) (first es)

-- What is left of a reader's column.
abbrev pub deltas_left : DeltaDecoder → List (Entry ℤ)
deltas_left r = summed r.absolute_val (remains reads_signed (λ x. x.value) r.rle)

abbrev pub codes_of : List (Option ℤ) → List (Option (List ℕ))
codes_of xs = map (option_map sleb) xs

-- The bytes of a delta column.
abbrev pub delta_column : List (Option ℤ) → List ℕ
delta_column xs = written (codes_of (differences (pos 0) xs))

-- each number fits 64 bits, and so does its difference from the one before
abbrev pub Fitting : ℤ → List (Option ℤ) → Type 0
Fitting last [] = Unit {0}
Fitting last (None ∷ xs) = Fitting last xs
Fitting last (Some z ∷ xs) = (fits_i64 z ≡ true) × (fits_i64 (z -ℤ last) ≡ true) × Fitting z xs

-- The data from p on is the delta column of these numbers. If there is one among them, reading gives the sums of their
-- differences, which are the numbers, every one in order, where the differences fit 64 bits; and then the end. If
-- there is none, the column has no bytes, and reading gives the end.
pub record DeltaAt (xs : List (Option ℤ)) (d : List ℕ) (p : ℕ) : Type 0 where
  pub back : any_element xs ≡ true → map plain (summed (pos 0) (entries reads_signed d p)) ≡ map Some (sums (pos 0) (differences (pos 0) xs))
  pub same : any_element xs ≡ true → Fitting (pos 0) xs → map plain (summed (pos 0) (entries reads_signed d p)) ≡ map Some xs
  pub none : any_element xs ≡ false → (drop p d ≡ []) × (entries reads_signed d p ≡ [])

-- What is written for numbers is such a column, wherever it stands at the end of data.
abbrev pub DeltaBack : List (Option ℤ) → Type 0
DeltaBack xs = (d : List ℕ) (p : ℕ) → drop p d ≡ delta_column xs → DeltaAt xs d p

differences_length : (last : ℤ) (xs : List (Option ℤ)) → length (differences last xs) ≡ length xs
differences_length last [] = refl
differences_length last (None ∷ xs) = ap suc (differences_length last xs)
differences_length last (Some z ∷ xs) = ap suc (differences_length z xs)

-- the differences are as few as the numbers
pub differences_few : (last : ℤ) (xs : List (Option ℤ)) → length xs < 2 ^ 63 → length (differences last xs) < 2 ^ 63
differences_few last xs few = subst (λ (n : ℕ). n < 2 ^ 63) (sym (differences_length last xs)) few

-- and so are their codes
pub codes_few : (last : ℤ) (xs : List (Option ℤ)) → length xs < 2 ^ 63 → length (codes_of (differences last xs)) < 2 ^ 63
codes_few last xs few = subst (λ (n : ℕ). n < 2 ^ 63) (sym (length-map (differences last xs) (option_map sleb))) (differences_few last xs few)
