-- A list of elements and nulls cut into groups, and the bytes of a run column.
--
-- A run of n ≥ 2 equal elements is the signed number n and one code. A literal run of n elements with no two equal
-- neighbours is -n and n codes; an element that repeats leaves the literal run and opens a run. A null run is the
-- signed number 0 and the unsigned length. Nulls alone take no bytes.
use Rattle.std.specs.Prelude.{◌≡◌, ℕ, suc, ◌≤◌, Bool, cond, List, [], ◌∷◌, ◌++◌, map, length, replicate, pos, negsuc, Some, None, Option, ◌≢◌}
use Rattle.std.specs.List.{concat, flat_map, list_any}
use Rattle.std.specs.Option.{is_some}
use Rattle.std.specs.Str.{bytes_eq}
use Rattle.codec.specs.Leb128.{uleb, sleb}

-- n nulls; n times one element; a literal run, by its first element and the others
pub data Group (M : Type 0) : Type 0 where
  nulls : ℕ → Group M
  run : ℕ → M → Group M
  literal : M → List M → Group M

module _ {M : Type 0} where
  -- the entries of a group, and of groups
  abbrev pub entries_in : Group M → List (Option M)
  entries_in (nulls n) = replicate n None
  entries_in (run n m) = replicate n (Some m)
  entries_in (literal m ms) = Some m ∷ map Some ms

  abbrev pub flat : List (Group M) → List (Option M)
  flat gs = flat_map entries_in gs

  -- no two equal neighbours
  abbrev pub Apart : M → List M → Type 0
  Apart m [] = Unit {0}
  Apart m (x ∷ ms) = (m ≢ x) × Apart x ms

  abbrev pub last : M → List M → M
  last m [] = m
  last m (x ∷ ms) = last x ms

  -- a group as it may stand: some nulls, at least two times an element, a literal run with no two equal neighbours
  abbrev pub Whole : Group M → Type 0
  Whole (nulls n) = 1 ≤ n
  Whole (run n m) = 2 ≤ n
  Whole (literal m ms) = Apart m ms

  -- a group may stand before what follows it: it could take in none of its entries, and gives none up to it
  abbrev pub Before : Group M → List (Group M) → Type 0
  Before g [] = Unit {0}
  Before (nulls n) (nulls k ∷ gs) = ⊥
  Before (nulls n) (run k x ∷ gs) = Unit {0}
  Before (nulls n) (literal x xs ∷ gs) = Unit {0}
  Before (run n m) (nulls k ∷ gs) = Unit {0}
  Before (run n m) (run k x ∷ gs) = m ≡ x → ⊥
  Before (run n m) (literal x xs ∷ gs) = m ≡ x → ⊥
  Before (literal m ms) (nulls k ∷ gs) = Unit {0}
  Before (literal m ms) (run k x ∷ gs) = last m ms ≡ x → ⊥
  Before (literal m ms) (literal x xs ∷ gs) = ⊥

  -- groups that are as large as they can be
  abbrev pub Largest : List (Group M) → Type 0
  Largest [] = Unit {0}
  Largest (g ∷ gs) = Whole g × Before g gs × Largest gs

  -- whether there is an element, or nulls alone
  abbrev pub any_element : List (Option M) → Bool
  any_element xs = list_any is_some xs

  -- a literal run, if anything is left of it
  abbrev pub literal_of : List M → List (Group M) → List (Group M)
  literal_of [] gs = gs
  literal_of (m ∷ ms) gs = literal m ms ∷ gs

module _ {M : Type 0} (equal : M → M → Bool) where
  -- one more entry in front of groups
  abbrev pub joined : Option M → List (Group M) → List (Group M)
  joined None [] = nulls 1 ∷ []
  joined None (nulls n ∷ gs) = nulls (suc n) ∷ gs
  joined None (run n m ∷ gs) = nulls 1 ∷ run n m ∷ gs
  joined None (literal m ms ∷ gs) = nulls 1 ∷ literal m ms ∷ gs
  joined (Some x) [] = literal x [] ∷ []
  joined (Some x) (nulls n ∷ gs) = literal x [] ∷ nulls n ∷ gs
  joined (Some x) (run n m ∷ gs) = cond (equal x m) (run (suc n) x ∷ gs) (literal x [] ∷ run n m ∷ gs)
  joined (Some x) (literal m ms ∷ gs) = cond (equal x m) (run 2 x ∷ literal_of ms gs) (literal x (m ∷ ms) ∷ gs)

  abbrev pub groups : List (Option M) → List (Group M)
  groups [] = []
  groups (x ∷ xs) = joined x (groups xs)

-- a group's bytes, by the codes of its elements
abbrev pub group_code : Group (List ℕ) → List ℕ
group_code (nulls n) = sleb (pos 0) ++ uleb n
group_code (run n c) = sleb (pos n) ++ c
group_code (literal c cs) = sleb (negsuc (length cs)) ++ concat (c ∷ cs)

abbrev pub group_codes : List (Group (List ℕ)) → List ℕ
group_codes gs = flat_map group_code gs

abbrev pub packed : List (Option (List ℕ)) → List ℕ
packed xs = group_codes (groups bytes_eq xs)

-- The bytes of a run column, by the codes of its elements.
abbrev pub written : List (Option (List ℕ)) → List ℕ
written xs = cond (any_element xs) (packed xs) []
