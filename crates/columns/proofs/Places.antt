-- What holds of each element that can be read, at the place where its code ends, holds of the entries of a column.
use Rattle.std.proofs.Common.{◌≡◌, ℕ, zero, suc, ◌+◌, Bool, true, false, cond, eqb, leb, List, [], ◌∷◌, ◌++◌, length, drop, replicate, Ok, Err, sym, refl, ap, ◌∙◌, subst, add_assoc, drop-drop}
use Rattle.codec.specs.Elements.{Reading}
use Rattle.columns.specs.declared.rle.run.Run.{Run}
use Rattle.columns.specs.declared.rle.run.Run.TheVariants.{Null, Same, Literal}
use Rattle.columns.specs.declared.rle.run.Head.{Head}
use Rattle.columns.specs.declared.rle.run.Shape.{Shape}
use Rattle.columns.specs.declared.rle.run.Shape.TheVariants as shapes
use Rattle.columns.specs.Runs.{Outcome, element, and_then, reads_shape, reads_nulls, shaped, header}
use Rattle.columns.specs.Column.{Entry, null, item, hollowed, written, spread, of_run, of_header, column, entries}
use Rattle.columns.specs.Law.{Every}
use Rattle.columns.proofs.Heads.{read_ok}

module _ {M : Type 0} (reads : List ℕ → Reading M) (d : List ℕ) (P : M → ℕ → Type 0) (holds : (p n : ℕ) (m : M) → reads (drop p d) ≡ Ok (m, n) → P m (p + n)) where
  every_hollowed : (l : List (Entry M)) → Every P l → Every P (hollowed l)
  every_hollowed [] h = tt
  every_hollowed (e ∷ es) h = h

  every_nulls : (n : ℕ) (l : List (Entry M)) → Every P l → Every P (replicate n null ++ l)
  every_nulls zero l h = h
  every_nulls (suc n) l h = every_nulls n l h

  every_same : (n p : ℕ) (m : M) (l : List (Entry M)) → P m p → Every P l → Every P (replicate n (item m p) ++ l)
  every_same zero p m l a h = h
  every_same (suc n) p m l a h = (a, every_same n p m l a h)

  every_spread : (n p : ℕ) (k : ℕ → List (Entry M)) → ((q : ℕ) → Every P (k q)) → Every P (spread reads d n p k)
  every_spread zero p k h = h p
  every_spread (suc n) p k h = go (element (reads (drop p d))) refl (λ q. every_spread n q k h)
    where
      go : (o : Outcome M) → element (reads (drop p d)) ≡ o → ((q : ℕ) → Every P (spread reads d n q k)) → Every P (written o p (λ q. spread reads d n q k))
      go (Ok r) e ih = (holds p r.1 r.0 (read_ok _ (reads (drop p d)) r e), ih (p + r.1))
      go (Err f) e ih = tt

  -- the element of a header
  abbrev Led : Run M → ℕ → Type 0
  Led Null p = Unit {0}
  Led (Same m) p = P m p
  Led Literal p = Unit {0}

  abbrev Leads : Outcome (Head M) → ℕ → Type 0
  Leads (Ok r) p = Led r.0.run (p + r.1)
  Leads (Err f) p = Unit {0}

  shaped_led : (p j : ℕ) (x : Shape) → Leads (shaped reads (drop p d) x j) p
  shaped_led p j shapes.Nulls = go (reads_nulls (drop j (drop p d)))
    where
      go : (o : Outcome ℕ) → Leads (and_then o (λ n i. Ok (record { count = n; run = Null }, j + i))) p
      go (Ok r) = tt
      go (Err f) = tt
  shaped_led p j (shapes.Same c) = go (element (reads (drop j (drop p d)))) refl
    where
      go : (o : Outcome M) → element (reads (drop j (drop p d))) ≡ o → Leads (and_then o (λ m i. Ok (record { count = c; run = Same m }, j + i))) p
      go (Ok r) e = subst (λ (q : ℕ). P r.0 q) (add_assoc p j r.1) (holds (p + j) r.1 r.0 (ap reads (sym (drop-drop j p d)) ∙ read_ok _ (reads (drop j (drop p d))) r e))
      go (Err f) e = tt
  shaped_led p j (shapes.Literal c) = tt

  header_led : (p : ℕ) → Leads (header reads (drop p d)) p
  header_led p = go (reads_shape (drop p d))
    where
      go : (o : Outcome Shape) → Leads (and_then o (shaped reads (drop p d))) p
      go (Ok r) = shaped_led p r.1 r.0
      go (Err f) = tt

  every_run : (r : Run M) (n p : ℕ) (k : ℕ → List (Entry M)) → Led r p → ((q : ℕ) → Every P (k q)) → Every P (of_run reads d r n p k)
  every_run Null n p k a h = every_nulls n (k p) (h p)
  every_run (Same m) n p k a h = every_same n p m (k p) a (h p)
  every_run Literal n p k a h = every_spread n p k h

  every_column : (f p : ℕ) → Every P (column reads d f p)
  every_column zero p = tt
  every_column (suc f) p = at (leb (length d) p) (header reads (drop p d)) (header_led p) (every_column f)
    where
      pick : (h : Head M) (q : ℕ) (t : Bool) → Led h.run q → ((x : ℕ) → Every P (column reads d f x)) → Every P (cond t (hollowed (column reads d f q)) (of_run reads d h.run h.count q (column reads d f)))
      pick h q true a ih = every_hollowed (column reads d f q) (ih q)
      pick h q false a ih = every_run h.run h.count q (column reads d f) a ih

      at : (b : Bool) (o : Outcome (Head M)) → Leads o p → ((x : ℕ) → Every P (column reads d f x)) → Every P (cond b [] (of_header reads d o p (column reads d f)))
      at true o a ih = tt
      at false (Err c) a ih = tt
      at false (Ok r) a ih = pick r.0 (p + r.1) (eqb r.0.count 0) a ih

  pub every_entry : (p : ℕ) → Every P (entries reads d p)
  every_entry p = every_column (length d) p
