-- Which bytes a group takes off what is still to be written.
use Rattle.std.proofs.Common.{◌≡◌, ℕ, zero, suc, ◌+◌, ◌-◌, ◌<◌, ◌≤◌, List, [], ◌∷◌, ◌++◌, map, length, take, replicate, negsuc, Some, None, Option, sym, refl, ap, ◌∙◌, append_assoc, arith}
use Rattle.std.specs.Str.{bytes_eq}
use Rattle.std.proofs.lemmas.Slice.Eq.{bytes_eq-Decides}
use Rattle.std.proofs.lemmas.List.{append-nil, take_at, length-map, replicate_more}
use Rattle.std.proofs.lemmas.Bool.{cond-true, cond-false}
use Rattle.codec.specs.Leb128.{sleb}
use Rattle.std.specs.List.{concat}
use Rattle.columns.specs.Cut.{Group, nulls, run, literal, entries_in, Apart, last, Whole, Before, groups, group_code, group_codes, packed, any_element, written}
use Rattle.columns.specs.Spelled.{spelled}
use Rattle.columns.proofs.Cuts.{closes, none_first, some_first, twice_first}

abbrev Codes : Type 0
Codes = List (Option (List ℕ))

pub shifted : {A : Type 0} (n : ℕ) (a : A) (xs : List A) → replicate n a ++ a ∷ xs ≡ replicate (n + 1) a ++ xs
shifted {A} n a xs = sym (append_assoc (replicate n a) (a ∷ []) xs) ∙ ap (λ (l : List A). l ++ xs) (replicate_more n a)

pub any_nulls : (n : ℕ) (xs : Codes) → any_element (replicate n None ++ xs) ≡ any_element xs
any_nulls zero xs = refl
any_nulls (suc n) xs = any_nulls n xs

module _ {M : Type 0} where
  pub literal_pop : (m : M) (ms : List M) (x : M) → Apart m (ms ++ x ∷ []) → Apart m ms × (last m ms ≡ x → ⊥)
  literal_pop m [] x a = (tt, a.0)
  literal_pop m (y ∷ ms) x a = let p = literal_pop y ms x a.1 in ((a.0, p.0), p.1)

  pub literal_push : (m : M) (ms : List M) (x : M) → Apart m ms → (last m ms ≡ x → ⊥) → Apart m (ms ++ x ∷ [])
  literal_push m [] x a ne = (ne, tt)
  literal_push m (y ∷ ms) x a ne = (a.0, literal_push y ms x a.1 ne)

  pub last_push : (m : M) (ms : List M) (x : M) → last m (ms ++ x ∷ []) ≡ x
  last_push m [] x = refl
  last_push m (y ∷ ms) x = last_push y ms x

-- the bytes of a literal run, by the entries from where it began
spelled_codes : (cs : List (List ℕ)) → spelled (map Some cs) ≡ concat cs
spelled_codes [] = refl
spelled_codes (c ∷ cs) = ap (λ (l : List ℕ). c ++ l) (spelled_codes cs)

pub part_code : (all xs : Codes) (count : ℕ) (c : List ℕ) (cs : List (List ℕ)) → count ≡ suc (length cs) → all ≡ (Some c ∷ map Some cs) ++ xs → sleb (negsuc (count - 1)) ++ spelled (take count all) ≡ group_code (literal c cs)
part_code all xs count c cs n e =
    let size : length (Some c ∷ map Some cs) ≡ count = omega (arith, length-map cs (λ (x : List ℕ). Some x)) in
    let k : count - 1 ≡ length cs = omega arith in
    ap (λ (l : Codes). sleb (negsuc (count - 1)) ++ spelled l) (ap (take count) e ∙ take_at (Some c ∷ map Some cs) xs count size)
    ∙ ap (λ (j : ℕ). sleb (negsuc j) ++ spelled (Some c ∷ map Some cs)) k
    ∙ ap (λ (bs : List ℕ). sleb (negsuc (length cs)) ++ bs) (spelled_codes (c ∷ cs))

pub none_alone : (n : ℕ) → written (replicate n None ++ []) ≡ []
none_alone n = cond-false (any_element (replicate n None ++ [])) _ _ (any_nulls n [])

closed : (g : Group (List ℕ)) (xs : Codes) → Whole g → Before g (groups bytes_eq xs) → packed (entries_in g ++ xs) ≡ group_code g ++ packed xs
closed g xs w b = ap group_codes (closes bytes_eq bytes_eq-Decides g xs w b)

pub at_end : (g : Group (List ℕ)) → Whole g → packed (entries_in g ++ []) ≡ group_code g ++ []
at_end g w = closed g [] w tt

pub nulls_some : (n : ℕ) (x : List ℕ) (xs : Codes) → 1 ≤ n → packed (replicate n None ++ Some x ∷ xs) ≡ group_code (nulls n) ++ packed (Some x ∷ xs)
nulls_some n x xs w = closed (nulls n) (Some x ∷ xs) w (some_first bytes_eq bytes_eq-Decides (Before (nulls n)) x (λ _ _. tt) (λ _ _. tt) (groups bytes_eq xs))

pub first_some : (n : ℕ) (x : List ℕ) (xs : Codes) → 1 ≤ n → written (replicate n None ++ Some x ∷ xs) ≡ group_code (nulls n) ++ packed (Some x ∷ xs)
first_some n x xs w = cond-true (any_element (replicate n None ++ Some x ∷ xs)) _ _ (any_nulls n (Some x ∷ xs)) ∙ nulls_some n x xs w

pub run_none : (n : ℕ) (v : List ℕ) (xs : Codes) → 2 ≤ n → packed (replicate n (Some v) ++ None ∷ xs) ≡ group_code (run n v) ++ packed (None ∷ xs)
run_none n v xs w = closed (run n v) (None ∷ xs) w (none_first bytes_eq bytes_eq-Decides (Before (run n v)) (λ _ _. tt) (groups bytes_eq xs))

pub run_some : (n : ℕ) (v x : List ℕ) (xs : Codes) → 2 ≤ n → (v ≡ x → ⊥) → packed (replicate n (Some v) ++ Some x ∷ xs) ≡ group_code (run n v) ++ packed (Some x ∷ xs)
run_some n v x xs w ne = closed (run n v) (Some x ∷ xs) w (some_first bytes_eq bytes_eq-Decides (Before (run n v)) x (λ _ _. ne) (λ _ _. ne) (groups bytes_eq xs))

literal_none : (m : List ℕ) (ms : List (List ℕ)) (xs : Codes) → Apart m ms → packed ((Some m ∷ map Some ms) ++ None ∷ xs) ≡ group_code (literal m ms) ++ packed (None ∷ xs)
literal_none m ms xs w = closed (literal m ms) (None ∷ xs) w (none_first bytes_eq bytes_eq-Decides (Before (literal m ms)) (λ _ _. tt) (groups bytes_eq xs))

pub literal_twice : (m : List ℕ) (ms : List (List ℕ)) (x : List ℕ) (xs : Codes) → Apart m ms → (last m ms ≡ x → ⊥) → packed ((Some m ∷ map Some ms) ++ Some x ∷ Some x ∷ xs) ≡ group_code (literal m ms) ++ packed (Some x ∷ Some x ∷ xs)
literal_twice m ms x xs w ne = closed (literal m ms) (Some x ∷ Some x ∷ xs) w (twice_first bytes_eq bytes_eq-Decides (Before (literal m ms)) x (λ _ _. ne) (groups bytes_eq xs))

-- a literal run in front of a null, and at the end
pub part_none : (all xs : Codes) (count : ℕ) (c : List ℕ) (cs : List (List ℕ)) → count ≡ suc (length cs) → all ≡ (Some c ∷ map Some cs) ++ None ∷ xs → Apart c cs → packed all ≡ (sleb (negsuc (count - 1)) ++ spelled (take count all)) ++ packed (None ∷ xs)
part_none all xs count c cs n e w = ap packed e ∙ literal_none c cs xs w ∙ ap (λ (b : List ℕ). b ++ packed (None ∷ xs)) (sym (part_code all (None ∷ xs) count c cs n e))

pub part_end : (all : Codes) (count : ℕ) (c : List ℕ) (cs : List (List ℕ)) → count ≡ suc (length cs) → all ≡ (Some c ∷ map Some cs) ++ [] → Apart c cs → packed all ≡ sleb (negsuc (count - 1)) ++ spelled (take count all)
part_end all count c cs n e w = ap packed e ∙ at_end (literal c cs) w ∙ append-nil (group_code (literal c cs)) ∙ sym (part_code all [] count c cs n e)

-- one more entry of a part, after n of it: x is its code
pub each_step : {X : Type 0} (code : X → Option (List ℕ)) {xs ys : List X} {entry : X} {x : Option (List ℕ)} (count n : ℕ) → n < count → xs ≡ entry ∷ ys → x ≡ code entry → spelled (take (count - n) (map code xs)) ≡ spelled (x ∷ take (count - (n + 1)) (map code ys))
each_step {X} code {xs} {ys} {entry} count n l e c =
    let more : count - n ≡ suc (count - (n + 1)) = omega arith in
    ap (λ (t : List X). spelled (take (count - n) (map code t))) e
    ∙ ap (λ (k : ℕ). spelled (take k (code entry ∷ map code ys))) more
    ∙ ap (λ (y : Option (List ℕ)). spelled (y ∷ take (count - (n + 1)) (map code ys))) (sym c)
