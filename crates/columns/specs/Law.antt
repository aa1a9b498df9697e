-- What a run column that was written is: how its list is cut, what is read from it, and how long it is.
use Rattle.std.specs.Prelude.{◌≡◌, ℕ, ◌+◌, true, false, List, [], ◌∷◌, map, length, drop, Some, None, Option}
use Rattle.std.specs.Option.{option_map}
use Rattle.std.specs.Str.{bytes_eq}
use Rattle.codec.specs.Elements.{Reading}
use Rattle.columns.specs.Column.{Entry, null, item, fault, hollow, entries}
use Rattle.columns.specs.Cut.{Group, flat, Largest, groups, any_element, written}

-- The groups of a list are a cut of it, each group as large as it can be, and there is no other such cut.
pub record TheCut (xs : List (Option (List ℕ))) : Type 0 where
  pub all : flat (groups bytes_eq xs) ≡ xs
  pub largest : Largest (groups bytes_eq xs)
  pub only : (gs : List (Group (List ℕ))) → flat gs ≡ xs → Largest gs → gs ≡ groups bytes_eq xs

module _ {M : Type 0} where
  -- an entry that was read, without its place; nothing for a fault or a hollow end
  abbrev pub plain : Entry M → Option (Option M)
  plain null = Some None
  plain (item m p) = Some (Some m)
  plain (fault f) = None
  plain hollow = None

  -- the same, by the code of its element
  abbrev pub spelt : (M → List ℕ) → Entry M → Option (Option (List ℕ))
  spelt code null = Some None
  spelt code (item m p) = Some (Some (code m))
  spelt code (fault f) = None
  spelt code hollow = None

  -- each element of a list is so
  abbrev pub All : (M → Type 0) → List (Option M) → Type 0
  All P [] = Unit {0}
  All P (None ∷ xs) = All P xs
  All P (Some m ∷ xs) = P m × All P xs

-- each element of some entries is so, with the place where its code ends
abbrev pub Every : {M : Type 0} → (M → ℕ → Type 0) → List (Entry M) → Type 0
Every P [] = Unit {0}
Every P (null ∷ es) = Every P es
Every P (item m p ∷ es) = P m p × Every P es
Every P (fault f ∷ es) = Every P es
Every P (hollow ∷ es) = Every P es

-- The data from p on is a column of these entries, which are given by the codes of their elements. If there is an
-- element among them, reading gives every entry, in order, and then the end: by their codes, and so the elements
-- themselves. If there is none, the column has no bytes, and reading gives the end.
pub record ColumnAt {M : Type 0} (Element : M → Type 0) (code : M → List ℕ) (reads : List ℕ → Reading M) (xs : List (Option (List ℕ))) (d : List ℕ) (p : ℕ) : Type 0 where
  pub back : any_element xs ≡ true → map (spelt code) (entries reads d p) ≡ map Some xs
  pub same : any_element xs ≡ true → (ms : List (Option M)) → All Element ms → map (option_map code) ms ≡ xs → map plain (entries reads d p) ≡ map Some ms
  pub none : any_element xs ≡ false → (drop p d ≡ []) × (entries reads d p ≡ [])

-- What is written for a list is such a column, wherever it stands at the end of data.
abbrev pub ReadBack : {M : Type 0} → (M → Type 0) → (M → List ℕ) → (List ℕ → Reading M) → List (Option (List ℕ)) → Type 0
ReadBack Element code reads xs = (d : List ℕ) (p : ℕ) → drop p d ≡ written xs → ColumnAt Element code reads xs d p

-- one byte more than its code for each element, two bytes for each null
abbrev pub most : List (Option (List ℕ)) → ℕ
most [] = 0
most (None ∷ xs) = 2 + most xs
most (Some c ∷ xs) = (1 + length c) + most xs
