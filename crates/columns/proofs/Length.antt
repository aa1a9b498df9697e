-- How long a column is.
use Rattle.std.proofs.Common.{◌≡◌, ℕ, zero, suc, ◌+◌, ◌/◌, ◌%◌, ◌≤◌, Bool, true, false, cond, ltb, List, [], ◌∷◌, ◌++◌, map, length, replicate, pos, negsuc, Some, None, Option, refl, ap, arith, length-append, ltb-false}
use Rattle.std.specs.Str.{bytes_eq}
use Rattle.std.proofs.lemmas.Slice.Eq.{bytes_eq-Decides}
use Rattle.codec.specs.Leb128.{group, groups_by, groups, uleb, sleb}
use Rattle.std.specs.List.{concat}
use Rattle.columns.specs.Cut.{Group, nulls, run, literal, entries_in, flat, Whole, Largest, groups as groups_of, group_code, group_codes, packed, any_element, written}
use Rattle.columns.specs.Law.{most}
use Rattle.columns.proofs.Cuts.{groups_flat, groups_largest}

-- A number above 0 has no more groups than it is large, and any has at most one more.
groups_most : (turns top n : ℕ) (negative : Bool) → 64 ≤ top → length (groups_by turns top negative n) ≤ suc n
groups_most zero top n negative l = omega arith
groups_most (suc turns) top n negative l = go (groups_most turns top (n / 128) negative l) (ltb n top) refl
  where
    go : length (groups_by turns top negative (n / 128)) ≤ suc (n / 128) → (t : Bool) → ltb n top ≡ t → length (cond t (group negative n ∷ []) ((128 + group negative (n % 128)) ∷ groups_by turns top negative (n / 128))) ≤ suc n
    go more true e = omega arith
    go more false e = omega (arith, ltb-false n top e)

groups_few : (turns top n : ℕ) (negative : Bool) → 64 ≤ top → length (groups_by turns top negative (suc n)) ≤ suc n
groups_few zero top n negative l = omega arith
groups_few (suc turns) top n negative l = go (ltb (suc n) top) refl
  where
    go : (t : Bool) → ltb (suc n) top ≡ t → length (cond t (group negative (suc n) ∷ []) ((128 + group negative (suc n % 128)) ∷ groups_by turns top negative (suc n / 128))) ≤ suc n
    go true e = omega arith
    go false e = omega (arith, ltb-false (suc n) top e, groups_most turns top (suc n / 128) negative l)

zero_size : length (sleb (pos 0)) ≤ 1
unfolding sleb groups
zero_size = omega arith

plus_size : (n : ℕ) → length (sleb (pos (suc n))) ≤ suc n
unfolding sleb groups
plus_size n = groups_few (suc n) 64 n false (omega arith)

minus_size : (n : ℕ) → length (sleb (negsuc n)) ≤ suc n
unfolding sleb groups
minus_size n = groups_most n 64 n true (omega arith)

number_size : (n : ℕ) → length (uleb (suc n)) ≤ suc n
unfolding uleb groups
number_size n = groups_few (suc n) 128 n false (omega arith)

abbrev Codes : Type 0
Codes = List (Option (List ℕ))

most_append : (xs ys : Codes) → most (xs ++ ys) ≡ most xs + most ys
most_append [] ys = omega arith
most_append (None ∷ xs) ys = omega (arith, most_append xs ys)
most_append (Some c ∷ xs) ys = omega (arith, most_append xs ys)

most_nulls : (n : ℕ) → n + n ≤ most (replicate n None)
most_nulls zero = omega arith
most_nulls (suc n) = omega (arith, most_nulls n)

most_run : (n : ℕ) (c : List ℕ) → n + length c ≤ length c + most (replicate n (Some c))
most_run zero c = omega arith
most_run (suc n) c = omega (arith, most_run n c)

most_literal : (cs : List (List ℕ)) → most (map Some cs) ≡ length cs + length (concat cs)
most_literal [] = omega arith
most_literal (c ∷ cs) = omega (arith, most_literal cs, length-append c (concat cs))

group_most : (g : Group (List ℕ)) → Whole g → length (group_code g) ≤ most (entries_in g)
group_most (nulls zero) w = absurd (omega arith)
group_most (nulls (suc n)) w = omega (arith, length-append (sleb (pos 0)) (uleb (suc n)), zero_size, number_size n, most_nulls (suc n))
group_most (run zero c) w = absurd (omega arith)
group_most (run (suc n) c) w = omega (arith, length-append (sleb (pos (suc n))) c, plus_size n, most_run n c)
group_most (literal c cs) w = omega (arith, length-append (sleb (negsuc (length cs))) (concat (c ∷ cs)), minus_size (length cs), most_literal (c ∷ cs))

cut_most : (gs : List (Group (List ℕ))) → Largest gs → length (group_codes gs) ≤ most (flat gs)
cut_most [] l = omega arith
cut_most (g ∷ gs) l = omega (arith, length-append (group_code g) (group_codes gs), most_append (entries_in g) (flat gs), group_most g l.0, cut_most gs l.2)

pub written_most : (xs : Codes) → length (written xs) ≤ most xs
written_most xs =
    let all : length (packed xs) ≤ most xs = omega (arith, cut_most (groups_of bytes_eq xs) (groups_largest bytes_eq bytes_eq-Decides xs), ap most (groups_flat bytes_eq bytes_eq-Decides xs)) in
    elim (any_element xs) as (λ v. length (cond v (packed xs) []) ≤ most xs) [ true ↦ all | false ↦ omega arith ]
