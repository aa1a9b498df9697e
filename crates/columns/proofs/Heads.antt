-- What is known of a header or an element that was read.
use Rattle.std.proofs.Common.{◌≡◌, ℕ, ◌+◌, ◌^◌, ◌<◌, ◌≤◌, Bool, true, false, cond, ltb, List, length, drop, ℤ, Ok, Err, Result, sym, refl, ap, arith, length-drop}
use Rattle.std.specs.Result.{result_map_both}
use Rattle.codec.specs.declared.parse.fault.NumberFault.{NumberFault}
use Rattle.codec.specs.Leb128.{read_unsigned, read_signed}
use Rattle.codec.specs.Elements.{Reading, Laws, used, numbered}
use Rattle.codec.specs.Laws.Kinds.{unsigned_laws, signed_laws}
use Rattle.columns.specs.declared.fault.ColumnFault.{ColumnFault}
use Rattle.columns.specs.declared.rle.run.Head.{Head}
use Rattle.columns.specs.declared.rle.run.Shape.{Shape}
use Rattle.columns.specs.declared.rle.run.Shape.TheVariants as shapes
use Rattle.columns.specs.Runs.{Outcome, number, element, and_then, shape, shape_at, reads_shape, reads_nulls, shaped, header}

-- two cases of a result are never the same
pub not_both : {A F : Type 0} {a : A} {f : F} (r : Result A F) → r ≡ Ok a → r ≡ Err f → ⊥
not_both r p q = cc

-- what was read, by its two parts
pub ok_parts : {A F : Type 0} {a c : A} {n k : ℕ} → ◌≡◌ {A = Result (A × ℕ) F} (Ok (a, n)) (Ok (c, k)) → (a ≡ c) × (n ≡ k)
ok_parts {A} {F} {a} {c} {n} {k} e =
    let both : ◌≡◌ {A = A × ℕ} (a, n) (c, k) = cc in
    (ap (λ (p : A × ℕ). p.0) both, ap (λ (p : A × ℕ). p.1) both)

-- what stands behind a part that was read
then_ok : {A B : Type 0} (o : Outcome A) (f : A → ℕ → Outcome B) (b : B) (n : ℕ) → and_then o f ≡ Ok (b, n) → (a : A) × (k : ℕ) × (o ≡ Ok (a, k)) × (f a k ≡ Ok (b, n))
then_ok (Ok p) f b n e = (p.0, p.1, refl, e)
then_ok (Err c) f b n e = absurd (not_both (Err c) e refl)

-- what was read, where only the cause is named anew
pub read_ok : {A E F : Type 0} (f : E → F) (r : Result A E) (a : A) → result_map_both (λ x. x) f r ≡ Ok a → r ≡ Ok a
read_ok f (Ok x) a e = let same : x ≡ a = cc in cc
read_ok f (Err c) a e = cc

-- a number at the front takes at least a byte, and no more than there are
pub number_takes : {N : Type 0} {Element : N → Type 0} {code : N → List ℕ} (reads : List ℕ → Result (N × ℕ) NumberFault) → Laws Element code (λ bytes. numbered (reads bytes)) → (s : List ℕ) (n : N) (k : ℕ) → number (reads s) ≡ Ok (n, k) → (1 ≤ k) × (k ≤ length s)
number_takes reads laws s n k e = laws.within s n k (ap numbered (read_ok _ _ (n, k) e))

shape_takes : (s : List ℕ) (h : Shape) (k : ℕ) → reads_shape s ≡ Ok (h, k) → (0 < k) × (k ≤ length s)
shape_takes s h k e = let p = then_ok (number (read_signed s)) _ h k e in go p.0 p.1 (shape p.0) p.2 p.3
  where
    go : (z : ℤ) (j : ℕ) (r : Result Shape ColumnFault) → number (read_signed s) ≡ Ok (z, j) → shape_at j r ≡ Ok (h, k) → (0 < k) × (k ≤ length s)
    go z j (Ok x) a b = let y : j ≡ k = (ok_parts b).1 in let t = number_takes read_signed signed_laws s z j a in (omega arith, omega arith)
    go z j (Err f) a b = absurd (not_both (shape_at j (Err f)) b refl)

nulls_take : (s : List ℕ) (n k : ℕ) → reads_nulls s ≡ Ok (n, k) → k ≤ length s
nulls_take s n k e = let p = then_ok (number (read_unsigned s)) _ n k e in go p.0 p.1 (ltb p.0 (2 ^ 63)) p.2 p.3
  where
    go : (m j : ℕ) (t : Bool) → number (read_unsigned s) ≡ Ok (m, j) → cond {A = Outcome ℕ} t (Ok (m, j)) (Err ColumnFault.RunTooLong) ≡ Ok (n, k) → k ≤ length s
    go m j true a b = let y : j ≡ k = (ok_parts b).1 in omega (arith, number_takes read_unsigned unsigned_laws s m j a)
    go m j false a b = absurd (not_both _ b refl)

module _ {M : Type 0} {Element : M → Type 0} {code : M → List ℕ} (reads : List ℕ → Reading M) (laws : Laws Element code reads) where
  pub element_takes : (s : List ℕ) (m : M) (k : ℕ) → element (reads s) ≡ Ok (m, k) → (1 ≤ k) × (k ≤ length s)
  element_takes s m k e = laws.within s m k (read_ok _ (reads s) (m, k) e)

  -- the same of a reader that fills a place
  pub used_takes : (s : List ℕ) (n : ℕ) → Ok n ≡ used (reads s) → (1 ≤ n) × (n ≤ length s)
  used_takes s n e = go (reads s) refl e
    where
      go : (r : Reading M) → reads s ≡ r → Ok n ≡ used r → (1 ≤ n) × (n ≤ length s)
      go (Ok p) h e = let y : n ≡ p.1 = cc in let w = laws.within s p.0 p.1 h in (omega arith, omega arith)
      go (Err c) h e = absurd (not_both (used {M = M} (Err c)) (sym e) refl)

  shaped_takes : (s : List ℕ) (x : Shape) (j : ℕ) (h : Head M) (n : ℕ) → 0 < j → j ≤ length s → shaped reads s x j ≡ Ok (h, n) → (0 < n) × (n ≤ length s)
  shaped_takes s shapes.Nulls j h n a b e =
      let p = then_ok (reads_nulls (drop j s)) _ h n e in
      let y : j + p.1 ≡ n = (ok_parts p.3).1 in
      omega (arith, nulls_take (drop j s) p.0 p.1 p.2, length-drop j s)
  shaped_takes s (shapes.Same m) j h n a b e =
      let p = then_ok (element (reads (drop j s))) _ h n e in
      let y : j + p.1 ≡ n = (ok_parts p.3).1 in
      omega (arith, element_takes (drop j s) p.0 p.1 p.2, length-drop j s)
  shaped_takes s (shapes.Literal m) j h n a b e = let y : j ≡ n = (ok_parts e).1 in omega arith

  pub header_takes : (s : List ℕ) (h : Head M) (n : ℕ) → header reads s ≡ Ok (h, n) → (0 < n) × (n ≤ length s)
  header_takes s h n e =
      let p = then_ok (reads_shape s) _ h n e in
      let q = shape_takes s p.0 p.1 p.2 in
      shaped_takes s p.0 p.1 h n q.0 q.1 p.3
