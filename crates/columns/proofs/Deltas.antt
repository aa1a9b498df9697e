-- Delta columns: what a step of the reader leaves, and that numbers return where their differences fit.
use Rattle.std.proofs.Common.{◌≡◌, ℕ, ◌-◌, ◌^◌, min, true, List, [], ◌∷◌, map, ℤ, pos, negsuc, ◌+ℤ◌, ◌-ℤ◌, Some, None, Option, refl, ap, ◌∙◌, arith}
use Rattle.std.proofs.lemmas.Int.{ints}
use Rattle.std.proofs.lemmas.Bool.{lt-ltb, ltb-true}
use Rattle.std.specs.Int.{saturate_to_bits}
use Rattle.codec.specs.Leb128.{sleb, fits_i64}
use Rattle.codec.specs.Elements.{SignedElement, reads_signed}
use Rattle.columns.specs.Column.{Entry, null, item, fault, hollow, entries}
use Rattle.columns.specs.Cut.{any_element}
use Rattle.columns.specs.Law.{plain, All, ReadBack}
use Rattle.columns.specs.Deltas.{differences, sums, summed, codes_of, Fitting, DeltaBack}

-- what saturates fits, and what fits does not saturate
saturated_fits : (z : ℤ) → fits_i64 (saturate_to_bits 63 z) ≡ true
saturated_fits (pos n) = lt-ltb (min n (2 ^ 63 - 1)) (2 ^ 63) (omega arith)
saturated_fits (negsuc n) = lt-ltb (min n (2 ^ 63 - 1)) (2 ^ 63) (omega arith)

saturated_same : (z : ℤ) → fits_i64 z ≡ true → saturate_to_bits 63 z ≡ z
saturated_same (pos n) fits = let l = ltb-true n (2 ^ 63) fits in ap pos (omega arith)
saturated_same (negsuc n) fits = let l = ltb-true n (2 ^ 63) fits in ap negsuc (omega arith)

there_and_back : (last z : ℤ) → last +ℤ (z -ℤ last) ≡ z
there_and_back last z = omega (arith, ints)

sums_differences : (last : ℤ) (xs : List (Option ℤ)) → Fitting last xs → sums last (differences last xs) ≡ xs
sums_differences last [] fit = refl
sums_differences last (None ∷ xs) fit = ap (λ (l : List (Option ℤ)). None ∷ l) (sums_differences last xs fit)
sums_differences last (Some z ∷ xs) fit =
    let e : saturate_to_bits 63 (last +ℤ saturate_to_bits 63 (z -ℤ last)) ≡ z = ap (λ (y : ℤ). saturate_to_bits 63 (last +ℤ y)) (saturated_same (z -ℤ last) fit.1) ∙ ap (saturate_to_bits 63) (there_and_back last z) ∙ saturated_same z fit.0 in
    ap (λ (y : ℤ). Some y ∷ sums y (differences z xs)) e ∙ ap (λ (l : List (Option ℤ)). Some z ∷ l) (sums_differences z xs fit.2)

differences_elements : (last : ℤ) (xs : List (Option ℤ)) → All SignedElement (differences last xs)
differences_elements last [] = tt
differences_elements last (None ∷ xs) = differences_elements last xs
differences_elements last (Some z ∷ xs) = (saturated_fits (z -ℤ last), differences_elements z xs)

any_difference : (last : ℤ) (xs : List (Option ℤ)) → any_element (codes_of (differences last xs)) ≡ any_element xs
any_difference last [] = refl
any_difference last (None ∷ xs) = any_difference last xs
any_difference last (Some z ∷ xs) = refl

summed_plain : (last : ℤ) (es : List (Entry ℤ)) (ys : List (Option ℤ)) → map plain es ≡ map Some ys → map plain (summed last es) ≡ map Some (sums last ys)
summed_plain last [] [] e = refl
summed_plain last [] (y ∷ ys) e = let z : ◌≡◌ {A = ℕ} 0 1 = cc in absurd (omega arith)
summed_plain last (null ∷ es) [] e = let z : ◌≡◌ {A = ℕ} 0 1 = cc in absurd (omega arith)
summed_plain last (null ∷ es) (None ∷ ys) e = let t : map plain es ≡ map Some ys = cc in ap (λ (l : List (Option (Option ℤ))). Some None ∷ l) (summed_plain last es ys t)
summed_plain last (null ∷ es) (Some y ∷ ys) e = let z : ◌≡◌ {A = ℕ} 0 1 = cc in absurd (omega arith)
summed_plain last (item z p ∷ es) [] e = let z : ◌≡◌ {A = ℕ} 0 1 = cc in absurd (omega arith)
summed_plain last (item z p ∷ es) (None ∷ ys) e = let z : ◌≡◌ {A = ℕ} 0 1 = cc in absurd (omega arith)
summed_plain last (item z p ∷ es) (Some y ∷ ys) e =
    let t : map plain es ≡ map Some ys = cc in
    let q : z ≡ y = cc in
    ap (λ (l : List (Option (Option ℤ))). Some (Some (saturate_to_bits 63 (last +ℤ z))) ∷ l) (summed_plain (saturate_to_bits 63 (last +ℤ z)) es ys t)
    ∙ ap (λ (x : ℤ). Some (Some (saturate_to_bits 63 (last +ℤ x))) ∷ map Some (sums (saturate_to_bits 63 (last +ℤ x)) ys)) q
summed_plain last (fault f ∷ es) [] e = let z : ◌≡◌ {A = ℕ} 0 1 = cc in absurd (omega arith)
summed_plain last (fault f ∷ es) (y ∷ ys) e = let z : ◌≡◌ {A = ℕ} 0 1 = cc in absurd (omega arith)
summed_plain last (hollow ∷ es) [] e = let z : ◌≡◌ {A = ℕ} 0 1 = cc in absurd (omega arith)
summed_plain last (hollow ∷ es) (y ∷ ys) e = let z : ◌≡◌ {A = ℕ} 0 1 = cc in absurd (omega arith)

-- the run column of the differences is the delta column of the numbers
pub delta_back : (xs : List (Option ℤ)) → ReadBack SignedElement sleb reads_signed (codes_of (differences (pos 0) xs)) → DeltaBack xs
delta_back xs law d p at = record { back = back; same = λ some fit. back some ∙ ap (map Some) (sums_differences (pos 0) xs fit); none = λ e. (law d p at).none (any_difference (pos 0) xs ∙ e) }
  where
    back : any_element xs ≡ true → map plain (summed (pos 0) (entries reads_signed d p)) ≡ map Some (sums (pos 0) (differences (pos 0) xs))
    back some = summed_plain (pos 0) (entries reads_signed d p) (differences (pos 0) xs) ((law d p at).same (any_difference (pos 0) xs ∙ some) (differences (pos 0) xs) (differences_elements (pos 0) xs) refl)
