-- What is written is read back.
use Rattle.std.proofs.Common.{◌≡◌, ℕ, zero, suc, ◌+◌, ◌-◌, ◌^◌, ◌<◌, ◌≤◌, true, false, cond, eqb, ltb, leb, List, [], ◌∷◌, ◌++◌, map, length, drop, replicate, ℤ, pos, negsuc, Some, None, Ok, Err, Decides, Option, Result, sym, refl, ap, ◌∙◌, subst, append_assoc, add-zero, arith, length-append, length-drop, drop-drop, ne_eqb, le-leb}
use Rattle.std.proofs.lemmas.List.{map-append, drop_at, length-map, length-replicate}
use Rattle.std.proofs.lemmas.Bool.{cond-true, cond-false, lt-ltb, lt-leb, false≢true}
use Rattle.std.proofs.lemmas.Slice.Eq.{bytes_eq-Decides}
use Rattle.std.specs.Str.{bytes_eq}
use Rattle.codec.specs.Leb128.{uleb, sleb, read_unsigned, read_signed, fits_i64}
use Rattle.codec.specs.declared.parse.fault.NumberFault.{NumberFault}
use Rattle.codec.specs.Elements.{Reading, Laws, numbered}
use Rattle.codec.specs.Laws.Kinds.{unsigned_laws, signed_laws, numbered_ok}
use Rattle.columns.specs.declared.fault.ColumnFault.TheVariants.{RunTooLong}
use Rattle.columns.specs.declared.rle.run.Run.TheVariants.{Null as nullKind, Same as same, Literal as literalKind}
use Rattle.columns.specs.declared.rle.run.Head.{Head as Lead}
use Rattle.columns.specs.declared.rle.run.Shape.{Shape}
use Rattle.columns.specs.declared.rle.run.Shape.TheVariants as shapes
use Rattle.columns.specs.Runs.{Outcome, number, element, and_then, shape, shape_at, reads_shape, reads_nulls, shaped, header}
use Rattle.columns.specs.Column.{Entry, null, item, written as writtenOut, spread, of_run, of_header, column, entries}
use Rattle.std.specs.List.{concat}
use Rattle.columns.specs.Cut.{Group, nulls, run, literal, entries_in, flat, Largest, Whole, group_code, group_codes, groups, any_element, written}
use Rattle.columns.specs.Law.{spelt}
use Rattle.columns.proofs.Cuts.{groups_flat, groups_largest}

abbrev Codes : Type 0
Codes = List (Option (List ℕ))

-- the code of some element
pub record CodeOf {M : Type 0} (Element : M → Type 0) (code : M → List ℕ) (c : List ℕ) : Type 0 where
  pub element : M
  pub fine : Element element
  pub is : code element ≡ c

-- each code in a list is
abbrev pub AllOf : {M : Type 0} → (M → Type 0) → (M → List ℕ) → Codes → Type 0
AllOf Element code [] = Unit {0}
AllOf Element code (None ∷ xs) = AllOf Element code xs
AllOf Element code (Some c ∷ xs) = CodeOf Element code c × AllOf Element code xs

-- a number that stands in front
pub number_back : {N : Type 0} {Element : N → Type 0} {code : N → List ℕ} (reads : List ℕ → Result (N × ℕ) NumberFault) → Laws Element code (λ bytes. numbered (reads bytes)) → (n : N) (s : List ℕ) → Element n → number (reads (code n ++ s)) ≡ Ok (n, length (code n))
number_back reads laws n s fine = ap number (numbered_ok _ (n, _) (laws.back n fine s))

shape_back : (z : ℤ) (h : Shape) (s : List ℕ) → fits_i64 z ≡ true → shape z ≡ Ok h → reads_shape (sleb z ++ s) ≡ Ok (h, length (sleb z))
shape_back z h s fits e = ap (λ (o : Outcome ℤ). and_then o (λ z k. shape_at k (shape z))) (number_back read_signed signed_laws z s fits) ∙ ap (shape_at (length (sleb z))) e

nulls_back : (n : ℕ) (s : List ℕ) → n < 2 ^ 63 → reads_nulls (uleb n ++ s) ≡ Ok (n, length (uleb n))
nulls_back n s l =
    ap (λ (o : Outcome ℕ). and_then o (λ n k. cond (ltb n (2 ^ 63)) (Ok (n, k)) (Err RunTooLong))) (number_back read_unsigned unsigned_laws n s (lt-ltb n (2 ^ 64) (omega arith)))
    ∙ cond-true (ltb n (2 ^ 63)) _ _ (lt-ltb n (2 ^ 63) l)

map_replicate : {A B : Type 0} (f : A → B) (n : ℕ) (a : A) → map f (replicate n a) ≡ replicate n (f a)
map_replicate f zero a = refl
map_replicate f (suc n) a = ap (λ l. f a ∷ l) (map_replicate f n a)

-- behind a part that stands at p
pub behind : (d a s : List ℕ) (p : ℕ) → drop p d ≡ a ++ s → drop (p + length a) d ≡ s
behind d a s p e = sym (drop-drop (length a) p d) ∙ ap (drop (length a)) e ∙ drop_at a s (length a) refl

module _ {M : Type 0} (Element : M → Type 0) (code : M → List ℕ) where
  abbrev Each : List (List ℕ) → Type 0
  Each [] = Unit {0}
  Each (c ∷ cs) = CodeOf Element code c × Each cs

  -- its numbers fit a header, and its elements have codes
  abbrev Fine : Group (List ℕ) → Type 0
  Fine (nulls n) = (0 < n) × (n < 2 ^ 63)
  Fine (run n c) = (0 < n) × (n < 2 ^ 63) × CodeOf Element code c
  Fine (literal c cs) = (length cs < 2 ^ 63 - 1) × CodeOf Element code c × Each cs

  abbrev AllFine : List (Group (List ℕ)) → Type 0
  AllFine [] = Unit {0}
  AllFine (g ∷ gs) = Fine g × AllFine gs

  all_left : (xs ys : Codes) → AllOf Element code (xs ++ ys) → AllOf Element code xs
  all_left [] ys a = tt
  all_left (None ∷ xs) ys a = all_left xs ys a
  all_left (Some c ∷ xs) ys a = (a.0, all_left xs ys a.1)

  all_right : (xs ys : Codes) → AllOf Element code (xs ++ ys) → AllOf Element code ys
  all_right [] ys a = a
  all_right (None ∷ xs) ys a = all_right xs ys a
  all_right (Some c ∷ xs) ys a = all_right xs ys a.1

  each_all : (cs : List (List ℕ)) → AllOf Element code (map Some cs) → Each cs
  each_all [] a = tt
  each_all (c ∷ cs) a = (a.0, each_all cs a.1)

  group_fine : (g : Group (List ℕ)) → Whole g → length (entries_in g) < 2 ^ 63 → AllOf Element code (entries_in g) → Fine g
  group_fine (nulls n) w l a = (omega arith, omega (arith, length-replicate {A = Option (List ℕ)} n None))
  group_fine (run zero c) w l a = absurd (omega arith)
  group_fine (run (suc n) c) w l a = (omega arith, omega (arith, length-replicate (suc n) (Some c)), a.0)
  group_fine (literal c cs) w l a = (omega (arith, length-map cs (λ (x : List ℕ). Some x)), a.0, each_all cs a.1)

  all_fine : (gs : List (Group (List ℕ))) → Largest gs → length (flat gs) < 2 ^ 63 → AllOf Element code (flat gs) → AllFine gs
  all_fine [] w l a = tt
  all_fine (g ∷ gs) w l a =
      let n = length-append (entries_in g) (flat gs) in
      (group_fine g w.0 (omega arith) (all_left (entries_in g) (flat gs) a), all_fine gs w.2 (omega arith) (all_right (entries_in g) (flat gs) a))

module _ {M : Type 0} {Element : M → Type 0} {code : M → List ℕ} (reads : List ℕ → Reading M) (laws : Laws Element code reads) where
  -- two elements with one code are one
  pub one_code : (m n : M) → Element m → Element n → code m ≡ code n → m ≡ n
  one_code m n p q e =
      let both : ◌≡◌ {A = Reading M} (Ok (m, length (code m))) (Ok (n, length (code n))) = sym (laws.back m p []) ∙ ap (λ (c : List ℕ). reads (c ++ [])) e ∙ laws.back n q [] in
      let pair : ◌≡◌ {A = M × ℕ} (m, length (code m)) (n, length (code n)) = cc in
      ap (λ (r : M × ℕ). r.0) pair

  code_back : (c : List ℕ) (k : CodeOf Element code c) (s : List ℕ) → element (reads (c ++ s)) ≡ Ok (k.element, length c)
  code_back c k s =
      ap (λ (d : List ℕ). element (reads (d ++ s))) (sym k.is)
      ∙ ap element (laws.back k.element k.fine s)
      ∙ ap (λ (d : List ℕ). Ok (k.element, length d)) k.is

  abbrev shown : List (Entry M) → List (Option (Option (List ℕ)))
  shown es = map (spelt code) es

  -- equal entries in front
  shown_same : (n : ℕ) (x : Entry M) (c : Option (List ℕ)) (es : List (Entry M)) → spelt code x ≡ Some c → shown (replicate n x ++ es) ≡ map Some (replicate n c) ++ shown es
  shown_same n x c es e =
      map-append (spelt code) (replicate n x) es
      ∙ ap (λ (l : List (Option (Option (List ℕ)))). l ++ shown es) (map_replicate (spelt code) n x ∙ ap (replicate n) e ∙ sym (map_replicate Some n c))

  -- in the data d
  module _ (d : List ℕ) where
    spread_back : (cs : List (List ℕ)) (s : List ℕ) (p : ℕ) (k : ℕ → List (Entry M)) → Each Element code cs → drop p d ≡ concat cs ++ s → shown (spread reads d (length cs) p k) ≡ map Some (map Some cs) ++ shown (k (p + length (concat cs)))
    spread_back [] s p k a e = ap (λ (q : ℕ). shown (k q)) (sym (add-zero p))
    spread_back (c ∷ cs) s p k a e =
        let at : drop p d ≡ c ++ (concat cs ++ s) = e ∙ append_assoc c (concat cs) s in
        let onward : ℕ → List (Entry M) = λ q. spread reads d (length cs) q k in
        let size : (p + length c) + length (concat cs) ≡ p + length (c ++ concat cs) = omega (arith, length-append c (concat cs)) in
        ap (λ (u : List ℕ). shown (writtenOut (element (reads u)) p onward)) at
        ∙ ap (λ (o : Outcome M). shown (writtenOut o p onward)) (code_back c a.0 (concat cs ++ s))
        ∙ ap (λ (b : List ℕ). Some (Some b) ∷ shown (onward (p + length c))) a.0.is
        ∙ ap (λ (l : List (Option (Option (List ℕ)))). Some (Some c) ∷ l) (spread_back cs s (p + length c) k a.1 (behind d c (concat cs ++ s) p at))
        ∙ ap (λ (q : ℕ). Some (Some c) ∷ (map Some (map Some cs) ++ shown (k q))) size

    -- a header with a number in front of t
    front : (z : ℤ) (h : Shape) (t : List ℕ) → fits_i64 z ≡ true → shape z ≡ Ok h → header reads (sleb z ++ t) ≡ shaped reads (sleb z ++ t) h (length (sleb z))
    front z h t fits e = ap (λ (o : Outcome Shape). and_then o (shaped reads (sleb z ++ t))) (shape_back z h t fits e)

    -- a header that is read as a run that is not empty
    led : (p n : ℕ) (l : Lead M) (t : List ℕ) (k : ℕ → List (Entry M)) → drop p d ≡ t → header reads t ≡ Ok (l, n) → 0 < l.count → of_header reads d (header reads (drop p d)) p k ≡ of_run reads d l.run l.count (p + n) k
    led p n l t k at e some =
        ap (λ (u : List ℕ). of_header reads d (header reads u) p k) at
        ∙ ap (λ (o : Outcome (Lead M)). of_header reads d o p k) e
        ∙ cond-false (eqb l.count 0) _ _ (ne_eqb l.count 0 (omega arith))

    group_back : (g : Group (List ℕ)) (s : List ℕ) (p : ℕ) (k : ℕ → List (Entry M)) → Fine Element code g → drop p d ≡ group_code g ++ s → shown (of_header reads d (header reads (drop p d)) p k) ≡ map Some (entries_in g) ++ shown (k (p + length (group_code g)))
    group_back (nulls n) s p k f at =
        let z = sleb (pos 0) in
        let t = uleb n ++ s in
        let lead : Lead M = record { count = n; run = nullKind } in
        let e : header reads (z ++ t) ≡ Ok (lead, length z + length (uleb n)) =
        front (pos 0) shapes.Nulls t refl refl
        ∙ ap (λ (u : List ℕ). and_then (reads_nulls u) (λ n j. Ok (record { count = n; run = nullKind }, length z + j))) (drop_at z t (length z) refl)
        ∙ ap (λ (o : Outcome ℕ). and_then o (λ n j. Ok (record { count = n; run = nullKind }, length z + j))) (nulls_back n s f.1)
        in
        ap shown (led p (length z + length (uleb n)) lead (z ++ t) k (at ∙ append_assoc z (uleb n) s) e f.0)
        ∙ shown_same n null None (k (p + (length z + length (uleb n)))) refl
        ∙ ap (λ (q : ℕ). map Some (replicate n None) ++ shown (k (p + q))) (sym (length-append z (uleb n)))
    group_back (run zero c) s p k f at = absurd (omega arith)
    group_back (run (suc n) c) s p k f at =
        let z = sleb (pos (suc n)) in
        let t = c ++ s in
        let m = f.2.element in
        let lead : Lead M = record { count = suc n; run = same m } in
        let e : header reads (z ++ t) ≡ Ok (lead, length z + length c) =
        front (pos (suc n)) (shapes.Same (suc n)) t (lt-ltb (suc n) (2 ^ 63) f.1) refl
        ∙ ap (λ (u : List ℕ). and_then (element (reads u)) (λ m j. Ok (record { count = suc n; run = same m }, length z + j))) (drop_at z t (length z) refl)
        ∙ ap (λ (o : Outcome M). and_then o (λ m j. Ok (record { count = suc n; run = same m }, length z + j))) (code_back c f.2 s)
        in
        ap shown (led p (length z + length c) lead (z ++ t) k (at ∙ append_assoc z c s) e f.0)
        ∙ shown_same (suc n) (item m (p + (length z + length c))) (Some c) (k (p + (length z + length c))) (ap (λ (b : List ℕ). Some (Some b)) f.2.is)
        ∙ ap (λ (q : ℕ). map Some (replicate (suc n) (Some c)) ++ shown (k (p + q))) (sym (length-append z c))
    group_back (literal c cs) s p k f at =
        let z = sleb (negsuc (length cs)) in
        let t = concat (c ∷ cs) ++ s in
        let lead : Lead M = record { count = suc (length cs); run = literalKind } in
        let room : shape (negsuc (length cs)) ≡ Ok (shapes.Literal (suc (length cs))) = cond-true (ltb (length cs) (2 ^ 63 - 1)) _ _ (lt-ltb (length cs) (2 ^ 63 - 1) f.0) in
        let here : drop p d ≡ z ++ t = at ∙ append_assoc z (concat (c ∷ cs)) s in
        let size : (p + length z) + length (concat (c ∷ cs)) ≡ p + length (z ++ concat (c ∷ cs)) = omega (arith, length-append z (concat (c ∷ cs))) in
        ap shown (led p (length z) lead (z ++ t) k here (front (negsuc (length cs)) (shapes.Literal (suc (length cs))) t (lt-ltb (length cs) (2 ^ 63) (omega (arith, f.0))) room) (omega arith))
        ∙ spread_back (c ∷ cs) s (p + length z) k (f.1, f.2) (behind d z t p here)
        ∙ ap (λ (q : ℕ). map Some (map Some (c ∷ cs)) ++ shown (k q)) size

    some_code : (g : Group (List ℕ)) → Fine Element code g → 0 < length (group_code g)
    some_code (nulls n) f = omega (arith, length-append (sleb (pos 0)) (uleb n), signed_laws.some (pos 0) refl)
    some_code (run n c) f = omega (arith, length-append (sleb (pos n)) c, signed_laws.some (pos n) (lt-ltb n (2 ^ 63) f.1))
    some_code (literal c cs) f = omega (arith, length-append (sleb (negsuc (length cs))) (concat (c ∷ cs)), signed_laws.some (negsuc (length cs)) (lt-ltb (length cs) (2 ^ 63) (omega (arith, f.0))))

    ended : (p : ℕ) → drop p d ≡ [] → length d ≤ p
    ended p e = omega (arith, length-drop p d, ap length e)

    column_end : (f p : ℕ) → drop p d ≡ [] → column reads d f p ≡ []
    column_end zero p e = refl
    column_end (suc f) p e = cond-true (leb (length d) p) _ _ (le-leb (length d) p (ended p e))

    column_back : (gs : List (Group (List ℕ))) (f p : ℕ) → AllFine Element code gs → drop p d ≡ group_codes gs → length d ≤ p + f → shown (column reads d f p) ≡ map Some (flat gs)
    column_back [] f p a at l = ap shown (column_end f p at)
    column_back (g ∷ gs) zero p a at l = absurd (omega (arith, length-drop p d, ap length at, length-append (group_code g) (group_codes gs), some_code g a.0))
    column_back (g ∷ gs) (suc f) p a at l =
        let n = length-append (group_code g) (group_codes gs) in
        let some = some_code g a.0 in
        let inside : p < length d = omega (arith, length-drop p d, ap length at) in
        ap shown (cond-false (leb (length d) p) [] (of_header reads d (header reads (drop p d)) p (column reads d f)) (lt-leb (length d) p inside))
        ∙ group_back g (group_codes gs) p (column reads d f) a.0 at
        ∙ ap (λ (l : List (Option (Option (List ℕ)))). map Some (entries_in g) ++ l) (column_back gs f (p + length (group_code g)) a.1 (behind d (group_code g) (group_codes gs) p at) (omega arith))
        ∙ sym (map-append Some (entries_in g) (flat gs))

    pub read_back : (xs : Codes) (p : ℕ) → length xs < 2 ^ 63 → AllOf Element code xs → drop p d ≡ written xs → any_element xs ≡ true → shown (entries reads d p) ≡ map Some xs
    read_back xs p short all at some =
        let e = groups_flat bytes_eq bytes_eq-Decides xs in
        let gs = groups bytes_eq xs in
        let fine : AllFine Element code gs = all_fine Element code gs (groups_largest bytes_eq bytes_eq-Decides xs) (omega (arith, ap length e)) (subst (AllOf Element code) (sym e) all) in
        column_back gs (length d) p fine (at ∙ cond-true (any_element xs) (group_codes gs) [] some) (omega arith)
        ∙ ap (map Some) e

    pub none_back : (xs : Codes) (p : ℕ) → drop p d ≡ written xs → any_element xs ≡ false → (drop p d ≡ []) × (entries reads d p ≡ [])
    none_back xs p at none = let e = at ∙ cond-false (any_element xs) _ _ none in (e, column_end (length d) p e)

-- what a kind's answer to whether two elements are the same says of their codes
module _ {M : Type 0} {Element : M → Type 0} {code : M → List ℕ} {reads : List ℕ → Reading M} (laws : Laws Element code reads) where
  pub codes_same : {m n : M} → Decides true (m ≡ n) → code m ≡ code n
  codes_same d = ap code (d.0 refl)

  pub codes_differ : {m n : M} → Element m → Element n → Decides false (m ≡ n) → code m ≡ code n → ⊥
  codes_differ {m} {n} p q d s = false≢true (d.1 (one_code reads laws m n p q s))
