-- A step answers the first of the entries and leaves the others.
use Rattle.std.proofs.Common.{◌≡◌, ℕ, zero, suc, ◌+◌, ◌-◌, ◌<◌, ◌≤◌, Bool, true, false, cond, eqb, leb, List, [], ◌∷◌, ◌++◌, length, drop, replicate, Some, Ok, Err, sym, refl, ap, ◌∙◌, arith, eqb-true, le-leb, leb-false, leb-true}
use borrow.Author.Tests.{eqb_apart, lt-leb}
use Rattle.codec.specs.Elements.{Reading, Laws}
use Rattle.columns.specs.declared.fault.ColumnFault.{ColumnFault}
use Rattle.columns.specs.declared.rle.run.Run.{Run}
use Rattle.columns.specs.declared.rle.run.Run.TheVariants.{Null, Same, Literal}
use Rattle.columns.specs.declared.rle.run.Head.{Head}
use Rattle.columns.specs.declared.rle.RleDecoder.{RleDecoder}
use Rattle.columns.specs.Runs.{Outcome, element, run_by, header}
use Rattle.columns.specs.Column.{Entry, null, item, hollowed, none, written, spread, of_run, of_header, column, entries, first, others, remains}
use Rattle.columns.proofs.Heads.{header_takes}

module _ {M : Type 0} where
  none_hollowed : (l : List (Entry M)) → none (hollowed l) ≡ false
  none_hollowed [] = refl
  none_hollowed (e ∷ es) = refl

  pub first_hollowed : (l : List (Entry M)) → first l ≡ first (hollowed l)
  first_hollowed [] = refl
  first_hollowed (e ∷ es) = refl

  pub others_hollowed : (l : List (Entry M)) → others l ≡ others (hollowed l)
  others_hollowed [] = refl
  others_hollowed (e ∷ es) = refl

module _ {M : Type 0} {Element : M → Type 0} {code : M → List ℕ} (reads : List ℕ → Reading M) (laws : Laws Element code reads) (d : List ℕ) where
  -- what follows is read only further on
  spread_same : (n p : ℕ) (k h : ℕ → List (Entry M)) → ((q : ℕ) → p ≤ q → k q ≡ h q) → spread reads d n p k ≡ spread reads d n p h
  spread_same zero p k h e = e p (omega arith)
  spread_same (suc n) p k h e = go (element (reads (drop p d))) (λ q l. spread_same n q k h (λ r m. e r (omega arith)))
    where
      go : (o : Outcome M) → ((q : ℕ) → p ≤ q → spread reads d n q k ≡ spread reads d n q h) → written o p (λ q. spread reads d n q k) ≡ written o p (λ q. spread reads d n q h)
      go (Ok r) ih = ap (λ (x : List (Entry M)). item r.0 (p + r.1) ∷ x) (ih (p + r.1) (omega arith))
      go (Err f) ih = refl

  run_same : (r : Run M) (n p : ℕ) (k h : ℕ → List (Entry M)) → ((q : ℕ) → p ≤ q → k q ≡ h q) → of_run reads d r n p k ≡ of_run reads d r n p h
  run_same Null n p k h e = ap (λ x. replicate n null ++ x) (e p (omega arith))
  run_same (Same m) n p k h e = ap (λ x. replicate n (item m p) ++ x) (e p (omega arith))
  run_same Literal n p k h e = spread_same n p k h e

  column_enough : (f g p : ℕ) → length d ≤ p + f → length d ≤ p + g → column reads d f p ≡ column reads d g p
  column_enough zero zero p a b = refl
  column_enough zero (suc g) p a b = let e = le-leb (length d) p (omega arith) in rw e refl
  column_enough (suc f) zero p a b = let e = le-leb (length d) p (omega arith) in rw e refl
  column_enough (suc f) (suc g) p a b = go (header reads (drop p d)) refl (column_enough f g)
    where
      go : (o : Outcome (Head M)) → header reads (drop p d) ≡ o → ((q : ℕ) → length d ≤ q + f → length d ≤ q + g → column reads d f q ≡ column reads d g q) → cond (leb (length d) p) [] (of_header reads d o p (column reads d f)) ≡ cond (leb (length d) p) [] (of_header reads d o p (column reads d g))
      go (Err c) e ih = refl
      go (Ok r) e ih =
          let w = header_takes reads laws (drop p d) r.0 r.1 e in
          let same_run = run_same r.0.run r.0.count (p + r.1) (column reads d f) (column reads d g) (λ q l. ih q (omega arith) (omega arith)) in
          let same_after = ih (p + r.1) (omega arith) (omega arith) in
          ap (λ (l : List (Entry M)). cond (leb (length d) p) [] (cond (eqb r.0.count 0) (hollowed (column reads d f (p + r.1))) l)) same_run ∙ ap (λ (l : List (Entry M)). cond (leb (length d) p) [] (cond (eqb r.0.count 0) (hollowed l) (of_run reads d r.0.run r.0.count (p + r.1) (column reads d g)))) same_after

  ended_none : (p : ℕ) → length d ≤ p → entries reads d p ≡ []
  ended_none p l = let e = le-leb (length d) p l in column_enough (length d) (suc (length d)) p (omega arith) (omega arith) ∙ rw e refl

  none_left : (r : Run M) (n p : ℕ) → n ≡ 0 → of_run reads d r n p (entries reads d) ≡ entries reads d p
  none_left Null n p e = rw e refl
  none_left (Same m) n p e = rw e refl
  none_left Literal n p e = rw e refl

  -- a run that is not empty begins with an entry
  pub run_begun : (r : Run M) (n p : ℕ) (k : ℕ → List (Entry M)) → 0 < n → none (of_run reads d r n p k) ≡ false
  run_begun r zero p k l = absurd (omega arith)
  run_begun Null (suc n) p k l = refl
  run_begun (Same m) (suc n) p k l = refl
  run_begun Literal (suc n) p k l = go (element (reads (drop p d)))
    where
      go : (o : Outcome M) → none (written o p (λ q. spread reads d n q k)) ≡ false
      go (Ok r) = refl
      go (Err f) = refl

  -- where no run is left, the entries are those of the next header
  at_header : (r : Run M) (n p : ℕ) → n ≡ 0 → p < length d → of_run reads d r n p (entries reads d) ≡ of_header reads d (header reads (drop p d)) p (entries reads d)
  at_header r n p z l =
      let e = lt-leb (length d) p l in
      none_left r n p z ∙ column_enough (length d) (suc (length d)) p (omega arith) (omega arith) ∙ rw e refl

  -- a header that was read, which is nothing to a reader if its run is empty
  pub turned : (r : Run M) (n p j : ℕ) (h : Head M) → n ≡ 0 → p < length d → header reads (drop p d) ≡ Ok (h, j) → (first (of_run reads d h.run h.count (p + j) (entries reads d)) ≡ first (of_run reads d r n p (entries reads d))) × (others (of_run reads d h.run h.count (p + j) (entries reads d)) ≡ others (of_run reads d r n p (entries reads d)))
  turned r n p j h z l e =
      let was : of_run reads d r n p (entries reads d) ≡ of_header reads d (Ok (h, j)) p (entries reads d) = at_header r n p z l ∙ ap (λ (o : Outcome (Head M)). of_header reads d o p (entries reads d)) e in
      let is = pick (eqb h.count 0) refl in
      (is.0 ∙ sym (ap first was), is.1 ∙ sym (ap others was))
    where
      now : List (Entry M)
      now = of_run reads d h.run h.count (p + j) (entries reads d)

      pick : (t : Bool) → eqb h.count 0 ≡ t → (first now ≡ first (cond t (hollowed (entries reads d (p + j))) now)) × (others now ≡ others (cond t (hollowed (entries reads d (p + j))) now))
      pick true c =
          let none : now ≡ entries reads d (p + j) = none_left h.run h.count (p + j) (eqb-true h.count 0 c) in
          (ap first none ∙ first_hollowed (entries reads d (p + j)), ap others none ∙ others_hollowed (entries reads d (p + j)))
      pick false c = (refl, refl)

  pub at_fault : (r : Run M) (n p : ℕ) (f : ColumnFault) → n ≡ 0 → p < length d → header reads (drop p d) ≡ Err f → first (of_run reads d r n p (entries reads d)) ≡ Err f
  at_fault r n p f z l e = ap first (at_header r n p z l) ∙ ap (λ (o : Outcome (Head M)). first (of_header reads d o p (entries reads d))) e

  pub at_end : (r : Run M) (n p : ℕ) → n ≡ 0 → length d ≤ p → of_run reads d r n p (entries reads d) ≡ []
  at_end r n p z l = none_left r n p z ∙ ended_none p l

  -- whether anything is left
  more : (r : Run M) (n p : ℕ) → n ≡ 0 → p < length d → none (of_run reads d r n p (entries reads d)) ≡ false
  more r n p z l = ap none (at_header r n p z l) ∙ go (header reads (drop p d))
    where
      pick : (h : Head M) (q : ℕ) (t : Bool) → eqb h.count 0 ≡ t → none (cond t (hollowed (entries reads d q)) (of_run reads d h.run h.count q (entries reads d))) ≡ false
      pick h q true c = none_hollowed (entries reads d q)
      pick h q false c = run_begun h.run h.count q (entries reads d) (omega (arith, eqb_apart h.count 0 c))

      go : (o : Outcome (Head M)) → none (of_header reads d o p (entries reads d)) ≡ false
      go (Err f) = refl
      go (Ok r) = pick r.0 (p + r.1) (eqb r.0.count 0) refl

  pub none_at : (r : Run M) (n p : ℕ) → n ≡ 0 → leb (length d) p ≡ none (of_run reads d r n p (entries reads d))
  none_at r n p z = go (leb (length d) p) refl
    where
      go : (b : Bool) → leb (length d) p ≡ b → b ≡ none (of_run reads d r n p (entries reads d))
      go true e = sym (ap none (at_end r n p z (leb-true _ _ e)))
      go false e = sym (more r n p z (leb-false _ _ e))

-- what is left to a reader, by its fields
pub left_at : {T M : Type 0} (reads : List ℕ → Reading M) (means : T → M) (r : RleDecoder T) (d : List ℕ) (p n : ℕ) (run : Run T) → r.cursor.bytes.now ≡ d → r.cursor.offset ≡ p → r.head.count ≡ n → r.head.run ≡ run → remains reads means r ≡ of_run reads d (run_by means run) n p (entries reads d)
left_at reads means r d p n run a b c e = rw (a, b, c, e) refl

-- a reader s at a run that is not empty, and r behind the next of its entries
module _ {T M : Type 0} (reads : List ℕ → Reading M) (means : T → M) (s r : RleDecoder T) (here : r.cursor.bytes.now ≡ s.cursor.bytes.now) (some : 0 < s.head.count) (less : r.head.count ≡ s.head.count - 1) (same : r.head.run ≡ s.head.run) where
  pub at_same : (x : T) → s.head.run ≡ Same x → r.cursor.offset ≡ s.cursor.offset → (first (remains reads means s) ≡ Ok (Some (Some (record { element = means x; end = r.cursor.offset })))) × (remains reads means r ≡ others (remains reads means s))
  at_same x e o =
      let n : s.head.count ≡ suc (s.head.count - 1) = omega arith in
      rw (left_at reads means s s.cursor.bytes.now s.cursor.offset (suc (s.head.count - 1)) (Same x) refl refl n e, left_at reads means r s.cursor.bytes.now s.cursor.offset (s.head.count - 1) (Same x) here o less (same ∙ e), o) (refl, refl)

  pub at_literal : (m : M) (j : ℕ) → s.head.run ≡ Literal → element (reads (drop s.cursor.offset s.cursor.bytes.now)) ≡ Ok (m, j) → r.cursor.offset ≡ s.cursor.offset + j → (first (remains reads means s) ≡ Ok (Some (Some (record { element = m; end = r.cursor.offset })))) × (remains reads means r ≡ others (remains reads means s))
  at_literal m j e q o =
      let n : s.head.count ≡ suc (s.head.count - 1) = omega arith in
      rw (left_at reads means s s.cursor.bytes.now s.cursor.offset (suc (s.head.count - 1)) Literal refl refl n e, left_at reads means r s.cursor.bytes.now (s.cursor.offset + j) (s.head.count - 1) Literal here o less (same ∙ e), q, o) (refl, refl)

pub literal_fault : {T M : Type 0} (reads : List ℕ → Reading M) (means : T → M) (s : RleDecoder T) (f : ColumnFault) → 0 < s.head.count → s.head.run ≡ Literal → element (reads (drop s.cursor.offset s.cursor.bytes.now)) ≡ Err f → first (remains reads means s) ≡ Err f
literal_fault reads means s f l e o =
    let n : s.head.count ≡ suc (s.head.count - 1) = omega arith in
    rw (left_at reads means s s.cursor.bytes.now s.cursor.offset (suc (s.head.count - 1)) Literal refl refl n e, o) refl
