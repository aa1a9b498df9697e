-- Boolean columns: what a step of the reader leaves.
use Rattle.std.proofs.Common.{◌≡◌, ℕ, zero, suc, ◌+◌, ◌<◌, ◌≤◌, Bool, not, cond, leb, List, [], ◌++◌, length, drop, replicate, Ok, Err, sym, refl, ap, ◌∙◌, arith, le-leb}
use borrow.Author.Tests.{lt-leb}
use Rattle.codec.specs.Leb128.{read_unsigned}
use Rattle.codec.specs.Laws.Kinds.{unsigned_laws}
use Rattle.columns.specs.Runs.{Outcome, number}
use Rattle.columns.specs.Column.{Entry, item, hollowed, first, others}
use Rattle.columns.specs.Flags.{of_length, flags_by, flags}
use Rattle.columns.proofs.Columns.{first_hollowed, others_hollowed}
use Rattle.columns.proofs.Heads.{number_takes}

-- d is the data up to the column's end
module _ (d : List ℕ) where
  flags_enough : (f g : ℕ) (v : Bool) (p : ℕ) → length d ≤ p + f → length d ≤ p + g → flags_by d f v p ≡ flags_by d g v p
  flags_enough zero zero v p a b = refl
  flags_enough zero (suc g) v p a b = let e = le-leb (length d) p (omega arith) in rw e refl
  flags_enough (suc f) zero v p a b = let e = le-leb (length d) p (omega arith) in rw e refl
  flags_enough (suc f) (suc g) v p a b = go (number (read_unsigned (drop p d))) refl (flags_enough f g (not v))
    where
      go : (o : Outcome ℕ) → number (read_unsigned (drop p d)) ≡ o → ((q : ℕ) → length d ≤ q + f → length d ≤ q + g → flags_by d f (not v) q ≡ flags_by d g (not v) q) → cond (leb (length d) p) [] (of_length d o v p (flags_by d f)) ≡ cond (leb (length d) p) [] (of_length d o v p (flags_by d g))
      go (Err c) e ih = refl
      go (Ok r) e ih =
          let w = number_takes read_unsigned unsigned_laws (drop p d) r.0 r.1 e in
          ap (λ (l : List (Entry Bool)). cond (leb (length d) p) [] (hollowed (replicate r.0 (item v (p + r.1)) ++ l))) (ih (p + r.1) (omega arith) (omega arith))

  pub flags_by_end : (f : ℕ) (v : Bool) (p : ℕ) → length d ≤ p → flags_by d f v p ≡ []
  flags_by_end f v p l = flags_enough f 0 v p (omega arith) (omega arith)

  -- what is left of a run of n, and then of the data
  abbrev pub left : ℕ → Bool → ℕ → List (Entry Bool)
  left n v p = replicate n (item v p) ++ flags d (not v) p

  -- where no run is left, the flags are those of the next length
  at_length : (n : ℕ) (v : Bool) (p : ℕ) → n ≡ 0 → p < length d → left n v p ≡ of_length d (number (read_unsigned (drop p d))) (not v) p (flags d)
  at_length n v p z l =
      let e = lt-leb (length d) p l in
      rw z (flags_enough (length d) (suc (length d)) (not v) p (omega arith) (omega arith) ∙ rw e refl)

  -- a length that was read, which is nothing to a reader if it is 0
  pub turned : (n : ℕ) (v : Bool) (p m j : ℕ) → n ≡ 0 → p < length d → number (read_unsigned (drop p d)) ≡ Ok (m, j) → (first (left m (not v) (p + j)) ≡ first (left n v p)) × (others (left m (not v) (p + j)) ≡ others (left n v p))
  turned n v p m j z l e =
      let was : left n v p ≡ hollowed (left m (not v) (p + j)) = at_length n v p z l ∙ ap (λ (o : Outcome ℕ). of_length d o (not v) p (flags d)) e in
      (first_hollowed (left m (not v) (p + j)) ∙ sym (ap first was), others_hollowed (left m (not v) (p + j)) ∙ sym (ap others was))
