-- Boolean columns: the runs of a list, and that what is written is read back.
use Rattle.std.proofs.Common.{◌≡◌, ℕ, zero, suc, ◌+◌, ◌^◌, ◌<◌, ◌≤◌, Bool, true, false, not, cond, ltb, leb, List, [], ◌∷◌, ◌++◌, map, length, drop, replicate, Some, Option, sym, refl, ap, ◌∙◌, arith, length-append, length-drop}
use Rattle.std.proofs.Math.Bool.{beq}
use Rattle.std.proofs.lemmas.List.{append-nil, length-replicate}
use Rattle.std.proofs.lemmas.Bool.{cond-true, cond-false, lt-ltb, lt-leb}
use Rattle.std.specs.Cmp.{booleans_Decides}
use Rattle.std.specs.List.{flat_map}
use Rattle.codec.specs.Leb128.{uleb, read_unsigned}
use Rattle.codec.specs.Laws.Kinds.{unsigned_laws}
use Rattle.columns.specs.Runs.{Outcome, number}
use Rattle.columns.specs.Column.{Entry, item, hollowed}
use Rattle.columns.specs.Law.{plain}
use Rattle.columns.specs.Flags.{of_length, flags_by, longer, flag_runs, flag_column, any_true, maybe_flag_column, of_runs, Full, LargestRuns, FlagCut, FlagsBack, MaybeFlagsBack}
use Rattle.columns.proofs.Back.{number_back, behind}
use Rattle.columns.proofs.Flags.{flags_by_end}
use Rattle.columns.proofs.Parts.{shifted}

-- the first flag is of the run at hand, or begins the next
runs_same : (v : Bool) (xs : List Bool) → flag_runs v (v ∷ xs) ≡ longer (flag_runs v xs)
runs_same true xs = refl
runs_same false xs = refl

runs_other : (v x : Bool) (xs : List Bool) → beq x v ≡ false → flag_runs v (x ∷ xs) ≡ 0 ∷ flag_runs x (x ∷ xs)
runs_other v x xs e = ap (λ (b : Bool). cond b (longer (flag_runs v xs)) (0 ∷ longer (flag_runs x xs))) e ∙ ap (λ (ns : List ℕ). 0 ∷ ns) (sym (runs_same x xs))

-- a run that another follows, and the last one
pub run_ends : (n : ℕ) (v x : Bool) (xs : List Bool) → beq x v ≡ false → flag_runs v (replicate n v ++ x ∷ xs) ≡ n ∷ flag_runs x (x ∷ xs)
run_ends zero v x xs e = runs_other v x xs e
run_ends (suc n) v x xs e = runs_same v (replicate n v ++ x ∷ xs) ∙ ap longer (run_ends n v x xs e)

pub run_last : (n : ℕ) (v : Bool) → flag_runs v (replicate (suc n) v ++ []) ≡ suc n ∷ []
run_last zero v = runs_same v []
run_last (suc n) v = runs_same v (replicate (suc n) v ++ []) ∙ ap longer (run_last n v)

-- What is still to be written of the flags that come, where so many of a value were counted: a flag of the other value
-- has the count written, and one more of the value is counted. At the end the count is left.
abbrev pub come : ℕ → Bool → List Bool → List ℕ
come n v xs = flat_map uleb (flag_runs v (replicate n v ++ xs))

pub come_other : (n : ℕ) (v : Bool) {x : Bool} {all xs : List Bool} → all ≡ x ∷ xs → beq x v ≡ false → come n v all ≡ uleb n ++ come 1 x xs
come_other n v {x} {all} {xs} is e = ap (come n v) is ∙ ap (flat_map uleb) (run_ends n v x xs e)

pub come_same : (n : ℕ) (v : Bool) {x : Bool} {all xs : List Bool} → all ≡ x ∷ xs → beq x v ≡ true → come n v all ≡ come (n + 1) v xs
come_same n v {x} {all} {xs} is e = ap (come n v) (is ∙ ap (λ (y : Bool). y ∷ xs) ((booleans_Decides x v).0 e)) ∙ ap (λ (l : List Bool). flat_map uleb (flag_runs v l)) (shifted n v xs)

pub come_last : (n : ℕ) (v : Bool) {all : List Bool} → all ≡ [] → 0 < n → come n v all ≡ uleb n
come_last zero v is some = absurd (omega arith)
come_last (suc n) v is some = ap (come (suc n) v) is ∙ ap (flat_map uleb) (run_last n v) ∙ append-nil (uleb (suc n))

-- The same where false alone takes no bytes, and so many were false.
any_falses : (n : ℕ) (xs : List Bool) → any_true (replicate n false ++ xs) ≡ any_true xs
any_falses zero xs = refl
any_falses (suc n) xs = any_falses n xs

pub maybe_none : (n : ℕ) {all here : List Bool} → all ≡ replicate n false ++ here → here ≡ [] → maybe_flag_column all ≡ []
maybe_none n {all} {here} is end = cond-false (any_true all) _ _ (ap any_true is ∙ any_falses n here ∙ ap any_true end)

pub maybe_some : (n : ℕ) {all here xs : List Bool} {x : Bool} → all ≡ replicate n false ++ here → here ≡ x ∷ xs → x ≡ true → maybe_flag_column all ≡ come n false here
maybe_some n {all} {here} {xs} {x} is next some =
    let any : any_true here ≡ true = ap any_true (next ∙ ap (λ (y : Bool). y ∷ xs) some) in
    cond-true (any_true all) _ _ (ap any_true is ∙ any_falses n here ∙ any) ∙ ap flag_column is

-- the runs give back the list
runs_longer : (v : Bool) (ns : List ℕ) → of_runs v (longer ns) ≡ v ∷ of_runs v ns
runs_longer v [] = refl
runs_longer v (n ∷ ns) = refl

runs_all : (v : Bool) (xs : List Bool) → of_runs v (flag_runs v xs) ≡ xs
runs_all v [] = refl
runs_all true (true ∷ xs) = runs_longer true (flag_runs true xs) ∙ ap (λ (l : List Bool). true ∷ l) (runs_all true xs)
runs_all true (false ∷ xs) = runs_longer false (flag_runs false xs) ∙ ap (λ (l : List Bool). false ∷ l) (runs_all false xs)
runs_all false (true ∷ xs) = runs_longer true (flag_runs true xs) ∙ ap (λ (l : List Bool). true ∷ l) (runs_all true xs)
runs_all false (false ∷ xs) = runs_longer false (flag_runs false xs) ∙ ap (λ (l : List Bool). false ∷ l) (runs_all false xs)

-- no run but the first is empty
abbrev Later : List ℕ → Type 0
Later [] = Unit {0}
Later (n ∷ ns) = Full ns

full_longer : (ns : List ℕ) → Later ns → Full (longer ns)
full_longer [] l = (omega arith, tt)
full_longer (n ∷ ns) l = (omega arith, l)

later_longer : (ns : List ℕ) → Later ns → Later (longer ns)
later_longer [] l = tt
later_longer (n ∷ ns) l = l

later_runs : (v : Bool) (xs : List Bool) → Later (flag_runs v xs)
later_runs v [] = tt
later_runs true (true ∷ xs) = later_longer (flag_runs true xs) (later_runs true xs)
later_runs true (false ∷ xs) = full_longer (flag_runs false xs) (later_runs false xs)
later_runs false (true ∷ xs) = full_longer (flag_runs true xs) (later_runs true xs)
later_runs false (false ∷ xs) = later_longer (flag_runs false xs) (later_runs false xs)

full_largest : (ns : List ℕ) → Full ns → LargestRuns ns
full_largest [] f = tt
full_largest (n ∷ []) f = f.0
full_largest (n ∷ m ∷ ns) f = f.1

after_empty : (ns : List ℕ) → Later ns → LargestRuns (0 ∷ longer ns)
after_empty [] l = (omega arith, tt)
after_empty (n ∷ ns) l = (omega arith, l)

runs_largest : (xs : List Bool) → LargestRuns (flag_runs false xs)
runs_largest [] = tt
runs_largest (true ∷ xs) = after_empty (flag_runs true xs) (later_runs true xs)
runs_largest (false ∷ xs) = full_largest (longer (flag_runs false xs)) (full_longer (flag_runs false xs) (later_runs false xs))

-- runs as large as they can be are those of their list
apart : (v : Bool) → beq (not v) v ≡ false
apart true = refl
apart false = refl

runs_only : (v : Bool) (ns : List ℕ) → LargestRuns ns → flag_runs v (of_runs v ns) ≡ ns
runs_only v [] w = refl
runs_only v (zero ∷ []) w = absurd (omega arith)
runs_only v (suc n ∷ []) w = run_last n v
runs_only v (n ∷ zero ∷ ns) w = absurd (omega (arith, w.0))
runs_only v (n ∷ suc m ∷ ns) w =
    run_ends n v (not v) (replicate m (not v) ++ of_runs (not (not v)) ns) (apart v)
    ∙ ap (λ (l : List ℕ). n ∷ l) (runs_only (not v) (suc m ∷ ns) (full_largest (suc m ∷ ns) w))

pub flag_cut : (xs : List Bool) → FlagCut xs
flag_cut xs = record { all = runs_all false xs; largest = runs_largest xs; only = λ ns e w. sym (runs_only false ns w) ∙ ap (flag_runs false) e }

-- flags that were read
abbrev shown : List (Entry Bool) → List (Option (Option Bool))
shown es = map plain es

abbrev told : List Bool → List (Option (Option Bool))
told xs = map Some (map Some xs)

run_shown : (n p : ℕ) (v : Bool) (es : List (Entry Bool)) (xs : List Bool) → shown es ≡ told xs → shown (replicate n (item v p) ++ es) ≡ told (replicate n v ++ xs)
run_shown zero p v es xs e = e
run_shown (suc n) p v es xs e = ap (λ (l : List (Option (Option Bool))). Some (Some v) ∷ l) (run_shown n p v es xs e)

hollowed_shown : (es : List (Entry Bool)) (xs : List Bool) → 0 < length xs → shown es ≡ told xs → shown (hollowed es) ≡ told xs
hollowed_shown [] [] l e = absurd (omega arith)
hollowed_shown [] (x ∷ xs) l e = let z : ◌≡◌ {A = ℕ} 0 1 = cc in absurd (omega arith)
hollowed_shown (x ∷ es) xs l e = e

-- no empty runs at the end
abbrev Solid : Bool → List ℕ → Type 0
Solid v [] = Unit {0}
Solid v (n ∷ ns) = (0 < length (of_runs v (n ∷ ns))) × Solid (not v) ns

full_solid : (v : Bool) (ns : List ℕ) → Full ns → Solid v ns
full_solid v [] f = tt
full_solid v (n ∷ ns) f = (omega (arith, f.0, length-append (replicate n v) (of_runs (not v) ns), length-replicate n v), full_solid (not v) ns f.1)

largest_solid : (v : Bool) (ns : List ℕ) → LargestRuns ns → Solid v ns
largest_solid v [] w = tt
largest_solid v (n ∷ []) w = full_solid v (n ∷ []) (w, tt)
largest_solid v (n ∷ m ∷ ns) w = let s = full_solid (not v) (m ∷ ns) w in (omega (arith, s.0, length-append (replicate n v) (of_runs (not v) (m ∷ ns))), s)

-- a length fits and has a code, and there are fewer flags behind its run
fits : (n : ℕ) (v : Bool) (ns : List ℕ) → length (of_runs v (n ∷ ns)) < 2 ^ 63 → (ltb n (2 ^ 64) ≡ true) × (1 ≤ length (uleb n)) × (length (of_runs (not v) ns) < 2 ^ 63)
fits n v ns few =
    let size = length-append (replicate n v) (of_runs (not v) ns) in
    let count = length-replicate n v in
    let l : ltb n (2 ^ 64) ≡ true = lt-ltb n (2 ^ 64) (omega arith) in
    (l, unsigned_laws.some n l, omega arith)

-- in the data d
module _ (d : List ℕ) where
  runs_back : (ns : List ℕ) (v : Bool) (f p : ℕ) → Solid v ns → length (of_runs v ns) < 2 ^ 63 → drop p d ≡ flat_map uleb ns → length d ≤ p + f → shown (flags_by d f v p) ≡ told (of_runs v ns)
  runs_back [] v f p s few at l = ap shown (flags_by_end d f v p (omega (arith, length-drop p d, ap length at)))
  runs_back (n ∷ ns) v zero p s few at l = absurd (omega (arith, length-drop p d, ap length at, length-append (uleb n) (flat_map uleb ns), (fits n v ns few).1))
  runs_back (n ∷ ns) v (suc f) p s few at l =
      let size = fits n v ns few in
      let bytes = length-append (uleb n) (flat_map uleb ns) in
      let inside : p < length d = omega (arith, length-drop p d, ap length at, size.1) in
      let q : ℕ = p + length (uleb n) in
      let es : List (Entry Bool) = flags_by d f (not v) q in
      let ih : shown es ≡ told (of_runs (not v) ns) = runs_back ns (not v) f q s.1 size.2 (behind d (uleb n) (flat_map uleb ns) p at) (omega (arith, size.1)) in
      ap shown (cond-false (leb (length d) p) [] (of_length d (number (read_unsigned (drop p d))) v p (flags_by d f)) (lt-leb (length d) p inside))
      ∙ ap (λ (b : List ℕ). shown (of_length d (number (read_unsigned b)) v p (flags_by d f))) at
      ∙ ap (λ (o : Outcome ℕ). shown (of_length d o v p (flags_by d f))) (number_back read_unsigned unsigned_laws n (flat_map uleb ns) size.0)
      ∙ hollowed_shown (replicate n (item v q) ++ es) (of_runs v (n ∷ ns)) s.0 (run_shown n q v es (of_runs (not v) ns) ih)

-- what is written for flags is a column of them
pub flags_back : (xs : List Bool) → length xs < 2 ^ 63 → FlagsBack xs
flags_back xs few d p at =
    let e = runs_all false xs in
    record { back = runs_back d (flag_runs false xs) false (length d) p (largest_solid false (flag_runs false xs) (runs_largest xs)) (omega (arith, few, ap length e)) at (omega arith) ∙ ap told e }

pub maybe_flags_back : (xs : List Bool) → length xs < 2 ^ 63 → MaybeFlagsBack xs
maybe_flags_back xs few d p at =
    record {
      back = λ some. (flags_back xs few d p (at ∙ cond-true (any_true xs) (flag_column xs) [] some)).back;
      none = λ none. let e = at ∙ cond-false (any_true xs) (flag_column xs) [] none in (e, flags_by_end d (length d) false p (omega (arith, length-drop p d, ap length e)));
    }
