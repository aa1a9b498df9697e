-- The groups of a list are its one cut into groups that are as large as they can be.
use Rattle.std.proofs.Common.{◌≡◌, ℕ, zero, suc, Bool, true, false, cond, List, [], ◌∷◌, ◌++◌, map, replicate, Some, None, Decides, Option, sym, refl, ap, ◌∙◌, subst, arith}
use Rattle.std.proofs.lemmas.Bool.{cond-true, cond-false}
use Rattle.std.proofs.lemmas.Bool.Decides.{not_from_Decides}
use Rattle.std.specs.Str.{bytes_eq}
use Rattle.std.proofs.lemmas.Slice.Eq.{bytes_eq-Decides}
use Rattle.columns.specs.Cut.{Group, nulls, run, literal, entries_in, flat, Apart, Whole, Before, Largest, literal_of, joined, groups}
use Rattle.columns.specs.Law.{TheCut}

module _ {M : Type 0} where
  flat_literal : (ms : List M) (gs : List (Group M)) → flat (literal_of ms gs) ≡ map Some ms ++ flat gs
  flat_literal [] gs = refl
  flat_literal (m ∷ ms) gs = refl

  -- what a group may stand before goes by its last entry
  pub nulls_before : (n k : ℕ) (gs : List (Group M)) → Before (nulls n) gs → Before (nulls k) gs
  nulls_before n k [] b = b
  nulls_before n k (nulls j ∷ gs) b = b
  nulls_before n k (run j x ∷ gs) b = b
  nulls_before n k (literal x xs ∷ gs) b = b

  pub run_before : (n k : ℕ) (m : M) (gs : List (Group M)) → Before (run n m) gs → Before (run k m) gs
  run_before n k m [] b = b
  run_before n k m (nulls j ∷ gs) b = b
  run_before n k m (run j x ∷ gs) b = b
  run_before n k m (literal x xs ∷ gs) b = b

  pub literal_before : (m x : M) (ms : List M) (gs : List (Group M)) → Before (literal m (x ∷ ms)) gs → Before (literal x ms) gs
  literal_before m x ms [] b = b
  literal_before m x ms (nulls j ∷ gs) b = b
  literal_before m x ms (run j y ∷ gs) b = b
  literal_before m x ms (literal y ys ∷ gs) b = b

  before_literal : (m x : M) (ms : List M) (gs : List (Group M)) → Before (literal x ms) gs → Before (literal m (x ∷ ms)) gs
  before_literal m x ms [] b = b
  before_literal m x ms (nulls j ∷ gs) b = b
  before_literal m x ms (run j y ∷ gs) b = b
  before_literal m x ms (literal y ys ∷ gs) b = b

  alone_before : (n : ℕ) (m : M) (gs : List (Group M)) → Before (literal m []) gs → Before (run n m) gs
  alone_before n m [] b = b
  alone_before n m (nulls j ∷ gs) b = b
  alone_before n m (run j y ∷ gs) b = b
  alone_before n m (literal y ys ∷ gs) b = absurd b

module _ {M : Type 0} (equal : M → M → Bool) (decided : (x y : M) → Decides (equal x y) (x ≡ y)) where
  pub itself : (m : M) → equal m m ≡ true
  itself m = (decided m m).1 refl

  pub unequal : (m x : M) → (m ≡ x → ⊥) → equal m x ≡ false
  unequal m x ne = go (equal m x) refl
    where
      go : (t : Bool) → equal m x ≡ t → t ≡ false
      go true e = absurd (ne ((decided m x).0 e))
      go false e = refl

  -- nothing is lost
  joined_flat : (x : Option M) (gs : List (Group M)) → flat (joined equal x gs) ≡ x ∷ flat gs
  joined_flat None [] = refl
  joined_flat None (nulls n ∷ gs) = refl
  joined_flat None (run n m ∷ gs) = refl
  joined_flat None (literal m ms ∷ gs) = refl
  joined_flat (Some x) [] = refl
  joined_flat (Some x) (nulls n ∷ gs) = refl
  joined_flat (Some x) (run n m ∷ gs) = go (equal x m) refl
    where
      go : (t : Bool) → equal x m ≡ t → flat (cond t (run (suc n) x ∷ gs) (literal x [] ∷ run n m ∷ gs)) ≡ Some x ∷ (replicate n (Some m) ++ flat gs)
      go true e = ap (λ (y : M). Some x ∷ (replicate n (Some y) ++ flat gs)) ((decided x m).0 e)
      go false e = refl
  joined_flat (Some x) (literal m ms ∷ gs) = go (equal x m) refl
    where
      go : (t : Bool) → equal x m ≡ t → flat (cond t (run 2 x ∷ literal_of ms gs) (literal x (m ∷ ms) ∷ gs)) ≡ Some x ∷ Some m ∷ (map Some ms ++ flat gs)
      go true e = ap (λ (l : List (Option M)). Some x ∷ Some x ∷ l) (flat_literal ms gs) ∙ ap (λ (y : M). Some x ∷ Some y ∷ (map Some ms ++ flat gs)) ((decided x m).0 e)
      go false e = refl

  pub groups_flat : (xs : List (Option M)) → flat (groups equal xs) ≡ xs
  groups_flat [] = refl
  groups_flat (x ∷ xs) = joined_flat x (groups equal xs) ∙ ap (λ (l : List (Option M)). x ∷ l) (groups_flat xs)

  -- the groups are as large as they can be
  literal_largest : (x m : M) (ms : List M) (gs : List (Group M)) → x ≡ m → Largest (literal m ms ∷ gs) → Before (run 2 x) (literal_of ms gs) × Largest (literal_of ms gs)
  literal_largest x m [] gs e l = (subst (λ (y : M). Before (run 2 y) gs) (sym e) (alone_before 2 m gs l.1), l.2)
  literal_largest x m (y ∷ ms) gs e l = ((λ q. l.0.0 (sym e ∙ q)), (l.0.1, literal_before m y ms gs l.1, l.2))

  joined_largest : (x : Option M) (gs : List (Group M)) → Largest gs → Largest (joined equal x gs)
  joined_largest None [] l = (omega arith, tt, tt)
  joined_largest None (nulls n ∷ gs) l = (omega arith, nulls_before n (suc n) gs l.1, l.2)
  joined_largest None (run n m ∷ gs) l = (omega arith, tt, l)
  joined_largest None (literal m ms ∷ gs) l = (omega arith, tt, l)
  joined_largest (Some x) [] l = (tt, tt, tt)
  joined_largest (Some x) (nulls n ∷ gs) l = (tt, tt, l)
  joined_largest (Some x) (run n m ∷ gs) l = go (equal x m) refl
    where
      go : (t : Bool) → equal x m ≡ t → Largest (cond t (run (suc n) x ∷ gs) (literal x [] ∷ run n m ∷ gs))
      go true e = (omega (arith, l.0), subst (λ (y : M). Before (run (suc n) y) gs) (sym ((decided x m).0 e)) (run_before n (suc n) m gs l.1), l.2)
      go false e = (tt, not_from_Decides (equal x m) (decided x m) e, l)
  joined_largest (Some x) (literal m ms ∷ gs) l = go (equal x m) refl
    where
      go : (t : Bool) → equal x m ≡ t → Largest (cond t (run 2 x ∷ literal_of ms gs) (literal x (m ∷ ms) ∷ gs))
      go true e = let p = literal_largest x m ms gs ((decided x m).0 e) l in (omega arith, p.0, p.1)
      go false e = ((not_from_Decides (equal x m) (decided x m) e, l.0), before_literal x m ms gs l.1, l.2)

  pub groups_largest : (xs : List (Option M)) → Largest (groups equal xs)
  groups_largest [] = tt
  groups_largest (x ∷ xs) = joined_largest x (groups equal xs) (groups_largest xs)

  -- a group closes where the next entry cannot join it
  nulls_first : (gs : List (Group M)) → Before (nulls 1) gs → joined equal None gs ≡ nulls 1 ∷ gs
  nulls_first [] b = refl
  nulls_first (nulls n ∷ gs) b = absurd b
  nulls_first (run n m ∷ gs) b = refl
  nulls_first (literal m ms ∷ gs) b = refl

  nulls_close : (k : ℕ) (xs : List (Option M)) → Before (nulls (suc k)) (groups equal xs) → groups equal (replicate (suc k) None ++ xs) ≡ nulls (suc k) ∷ groups equal xs
  nulls_close zero xs b = nulls_first (groups equal xs) b
  nulls_close (suc k) xs b = ap (joined equal None) (nulls_close k xs (nulls_before (suc (suc k)) (suc k) (groups equal xs) b))

  run_first : (m : M) (gs : List (Group M)) → Before (run 2 m) gs → joined equal (Some m) (joined equal (Some m) gs) ≡ run 2 m ∷ gs
  run_first m [] b = cond-true (equal m m) _ _ (itself m)
  run_first m (nulls n ∷ gs) b = cond-true (equal m m) _ _ (itself m)
  run_first m (run n x ∷ gs) b = ap (joined equal (Some m)) (cond-false (equal m x) _ _ (unequal m x b)) ∙ cond-true (equal m m) _ _ (itself m)
  run_first m (literal x xs ∷ gs) b = ap (joined equal (Some m)) (cond-false (equal m x) _ _ (unequal m x b)) ∙ cond-true (equal m m) _ _ (itself m)

  run_close : (k : ℕ) (m : M) (xs : List (Option M)) → Before (run (suc (suc k)) m) (groups equal xs) → groups equal (replicate (suc (suc k)) (Some m) ++ xs) ≡ run (suc (suc k)) m ∷ groups equal xs
  run_close zero m xs b = run_first m (groups equal xs) b
  run_close (suc k) m xs b = ap (joined equal (Some m)) (run_close k m xs (run_before (suc (suc (suc k))) (suc (suc k)) m (groups equal xs) b)) ∙ cond-true (equal m m) _ _ (itself m)

  literal_first : (m : M) (gs : List (Group M)) → Before (literal m []) gs → joined equal (Some m) gs ≡ literal m [] ∷ gs
  literal_first m [] b = refl
  literal_first m (nulls n ∷ gs) b = refl
  literal_first m (run n x ∷ gs) b = cond-false (equal m x) _ _ (unequal m x b)
  literal_first m (literal x xs ∷ gs) b = absurd b

  literal_close : (m : M) (ms : List M) (xs : List (Option M)) → Apart m ms → Before (literal m ms) (groups equal xs) → groups equal ((Some m ∷ map Some ms) ++ xs) ≡ literal m ms ∷ groups equal xs
  literal_close m [] xs a b = literal_first m (groups equal xs) b
  literal_close m (x ∷ ms) xs a b = ap (joined equal (Some m)) (literal_close x ms xs a.1 (literal_before m x ms (groups equal xs) b)) ∙ cond-false (equal m x) _ _ (unequal m x a.0)

  pub closes : (g : Group M) (xs : List (Option M)) → Whole g → Before g (groups equal xs) → groups equal (entries_in g ++ xs) ≡ g ∷ groups equal xs
  closes (nulls zero) xs w b = absurd (omega arith)
  closes (nulls (suc k)) xs w b = nulls_close k xs b
  closes (run zero m) xs w b = absurd (omega arith)
  closes (run (suc zero) m) xs w b = absurd (omega arith)
  closes (run (suc (suc k)) m) xs w b = run_close k m xs b
  closes (literal m ms) xs w b = literal_close m ms xs w b

  pub only : (gs : List (Group M)) → Largest gs → groups equal (flat gs) ≡ gs
  only [] l = refl
  only (g ∷ gs) l =
      let ih = only gs l.2 in
      closes g (flat gs) l.0 (subst (Before g) (sym ih) l.1) ∙ ap (λ (t : List (Group M)). g ∷ t) ih

  -- the first group, by the first entry
  pub none_first : (P : List (Group M) → Type 0) → ((n : ℕ) (gs : List (Group M)) → P (nulls n ∷ gs)) → (gs : List (Group M)) → P (joined equal None gs)
  none_first P p [] = p 1 []
  none_first P p (nulls n ∷ gs) = p (suc n) gs
  none_first P p (run n m ∷ gs) = p 1 (run n m ∷ gs)
  none_first P p (literal m ms ∷ gs) = p 1 (literal m ms ∷ gs)

  pub some_first : (P : List (Group M) → Type 0) (x : M) → ((n : ℕ) (gs : List (Group M)) → P (run n x ∷ gs)) → ((ms : List M) (gs : List (Group M)) → P (literal x ms ∷ gs)) → (gs : List (Group M)) → P (joined equal (Some x) gs)
  some_first P x p q [] = q [] []
  some_first P x p q (nulls n ∷ gs) = q [] (nulls n ∷ gs)
  some_first P x p q (run n m ∷ gs) = elim (equal x m) as (λ t. P (cond t (run (suc n) x ∷ gs) (literal x [] ∷ run n m ∷ gs))) [ true ↦ p (suc n) gs | false ↦ q [] (run n m ∷ gs) ]
  some_first P x p q (literal m ms ∷ gs) = elim (equal x m) as (λ t. P (cond t (run 2 x ∷ literal_of ms gs) (literal x (m ∷ ms) ∷ gs))) [ true ↦ p 2 (literal_of ms gs) | false ↦ q (m ∷ ms) gs ]

  pub twice_first : (P : List (Group M) → Type 0) (x : M) → ((n : ℕ) (gs : List (Group M)) → P (run n x ∷ gs)) → (gs : List (Group M)) → P (joined equal (Some x) (joined equal (Some x) gs))
  twice_first P x p gs =
      let again : (m : M) (t : List (Group M)) (u : List (Group M)) → P (cond true t u) → P (cond (equal x x) t u) = λ m t u h. subst (λ (b : Bool). P (cond b t u)) (sym (itself x)) h in
      some_first (λ (l : List (Group M)). P (joined equal (Some x) l)) x (λ n hs. again x _ _ (p (suc n) hs)) (λ ms hs. again x _ _ (p 2 (literal_of ms hs))) gs

-- the same at codes, of one list
pub the_cut : (xs : List (Option (List ℕ))) → TheCut xs
the_cut xs =
    record {
      all = groups_flat bytes_eq bytes_eq-Decides xs;
      largest = groups_largest bytes_eq bytes_eq-Decides xs;
      only = λ gs e l. sym (only bytes_eq bytes_eq-Decides gs l) ∙ ap (groups bytes_eq) e;
    }
