-- Entries that were read are known by their codes, so what is read back are the elements themselves.
use Rattle.std.proofs.Common.{◌≡◌, ℕ, ◌^◌, ◌<◌, List, [], ◌∷◌, map, length, drop, Some, None, Option, sym, refl, ap, ◌∙◌, arith}
use Rattle.std.specs.Option.{option_map}
use Rattle.codec.specs.Elements.{Reading, Laws}
use Rattle.columns.specs.Column.{Entry, null, item, fault, hollow, entries}
use Rattle.columns.specs.Law.{plain, spelt, All, Every, ReadBack}
use Rattle.columns.proofs.Back.{AllOf, one_code, read_back, none_back}
use Rattle.columns.proofs.Places.{every_entry}

module _ {M : Type 0} {Element : M → Type 0} {code : M → List ℕ} (reads : List ℕ → Reading M) (laws : Laws Element code reads) where
  spelt_one : (es : List (Entry M)) (ms : List (Option M)) → Every (λ m _. Element m) es → All Element ms → map (spelt code) es ≡ map Some (map (option_map code) ms) → map plain es ≡ map Some ms
  spelt_one [] [] g h e = refl
  spelt_one [] (m ∷ ms) g h e = let z : ◌≡◌ {A = ℕ} 0 1 = cc in absurd (omega arith)
  spelt_one (null ∷ es) [] g h e = let z : ◌≡◌ {A = ℕ} 0 1 = cc in absurd (omega arith)
  spelt_one (null ∷ es) (None ∷ ms) g h e = let t : map (spelt code) es ≡ map Some (map (option_map code) ms) = cc in ap (λ (l : List (Option (Option M))). Some None ∷ l) (spelt_one es ms g h t)
  spelt_one (null ∷ es) (Some m ∷ ms) g h e = let z : ◌≡◌ {A = ℕ} 0 1 = cc in absurd (omega arith)
  spelt_one (item m p ∷ es) [] g h e = let z : ◌≡◌ {A = ℕ} 0 1 = cc in absurd (omega arith)
  spelt_one (item m p ∷ es) (None ∷ ms) g h e = let z : ◌≡◌ {A = ℕ} 0 1 = cc in absurd (omega arith)
  spelt_one (item m p ∷ es) (Some n ∷ ms) g h e =
      let t : map (spelt code) es ≡ map Some (map (option_map code) ms) = cc in
      let c : code m ≡ code n = cc in
      let q = one_code reads laws m n g.0 h.0 c in
      ap (λ (x : M). Some (Some x) ∷ map plain es) q ∙ ap (λ (l : List (Option (Option M))). Some (Some n) ∷ l) (spelt_one es ms g.1 h.1 t)
  spelt_one (fault f ∷ es) [] g h e = let z : ◌≡◌ {A = ℕ} 0 1 = cc in absurd (omega arith)
  spelt_one (fault f ∷ es) (m ∷ ms) g h e = let z : ◌≡◌ {A = ℕ} 0 1 = cc in absurd (omega arith)
  spelt_one (hollow ∷ es) [] g h e = let z : ◌≡◌ {A = ℕ} 0 1 = cc in absurd (omega arith)
  spelt_one (hollow ∷ es) (m ∷ ms) g h e = let z : ◌≡◌ {A = ℕ} 0 1 = cc in absurd (omega arith)

  -- what was written for a list is a column of it
  pub returned : (xs : List (Option (List ℕ))) → length xs < 2 ^ 63 → AllOf Element code xs → ReadBack Element code reads xs
  returned xs short all d p at =
      record {
        back = read_back reads laws d xs p short all at;
        same = λ some ms elements e. spelt_one (entries reads d p) ms (every_entry reads d (λ m _. Element m) (λ q n m r. laws.alone (drop q d) m n r) p) elements (read_back reads laws d xs p short all at some ∙ ap (map Some) (sym e));
        none = none_back reads laws d xs p at;
      }
