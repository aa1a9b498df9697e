-- A text that is read stands in the data right before the end of its code.
use Rattle.std.proofs.Common.{◌≡◌, ℕ, ◌+◌, ◌-◌, ◌≤◌, Bool, true, false, cond, leb, List, length, take, drop, Ok, Err, Result, sym, refl, ap, ◌∙◌, arith, length-drop, length-take, drop-drop}
use Rattle.std.proofs.lemmas.Bool.{leb-true}
use Rattle.codec.specs.declared.parse.fault.NumberFault.{NumberFault}
use Rattle.codec.specs.declared.element.fault.ElementFault.TheVariants.{NotUtf8, PastEnd}
use Rattle.codec.specs.Leb128.{read_unsigned}
use Rattle.codec.specs.Elements.{Reading, reads_text, text_behind}
use Rattle.codec.specs.Utf8.{valid}
use Rattle.codec.specs.Laws.Kinds.{text_laws}
use Rattle.columns.specs.Values.{Stands, TextsStand}
use Rattle.columns.proofs.Heads.{ok_parts, not_both}
use Rattle.columns.proofs.Places.{every_entry}

text_stands : (bytes text : List ℕ) (used : ℕ) → reads_text bytes ≡ Ok (text, used) → Stands bytes text used
unfolding reads_text
text_stands bytes text used e = at (read_unsigned bytes) e
  where
    part : (n k : ℕ) (v : Bool) → leb (k + n) (length bytes) ≡ v → (w : Bool) → cond {A = Reading (List ℕ)} v (cond w (Ok (take n (drop k bytes), k + n)) (Err NotUtf8)) (Err PastEnd) ≡ Ok (text, used) → Stands bytes text used
    part n k true room true e =
        let r = ok_parts e in
        let fits = leb-true (k + n) (length bytes) room in
        let size : length text ≡ n = sym (ap length r.0) ∙ length-take n (drop k bytes) ∙ omega (arith, length-drop k bytes) in
        let from : used - length text ≡ k = omega (arith, r.1) in
        record {
          room = omega (arith, r.1);
          inside = omega (arith, r.1);
          there = ap (λ (j : ℕ). take j (drop (used - length text) bytes)) size ∙ ap (λ (j : ℕ). take n (drop j bytes)) from ∙ r.0;
        }
    part n k true room false e = absurd (not_both _ e refl)
    part n k false room w e = absurd (not_both _ e refl)

    at : (r : Result (ℕ × ℕ) NumberFault) → text_behind bytes r ≡ Ok (text, used) → Stands bytes text used
    at (Ok p) e = part p.0 p.1 (leb (p.1 + p.0) (length bytes)) refl (valid (take p.0 (drop p.1 bytes))) e
    at (Err f) e = absurd (not_both (text_behind bytes (Err f)) e refl)

-- the same at a place in the data
stands_at : (d : List ℕ) (p used : ℕ) (text : List ℕ) → p ≤ length d → Stands (drop p d) text used → Stands d text (p + used)
stands_at d p used text l s =
    let from : (p + used) - length text ≡ p + (used - length text) = omega (arith, s.room) in
    record {
      room = omega (arith, s.room);
      inside = omega (arith, s.inside, length-drop p d);
      there = ap (λ (j : ℕ). take (length text) (drop j d)) from ∙ ap (take (length text)) (sym (drop-drop (used - length text) p d)) ∙ s.there;
    }

pub texts_stand : TextsStand
texts_stand d p = every_entry reads_text d (Stands d) (λ q n text e. let w = text_laws.within (drop q d) text n e in stands_at d q n text (omega (arith, length-drop q d)) (text_stands (drop q d) text n e)) p
