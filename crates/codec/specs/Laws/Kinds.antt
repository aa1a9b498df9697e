-- The laws of the kinds: numbers and text.
use Rattle.std.specs.Prelude.{◌≡◌, ℕ, ◌+◌, ◌^◌, ◌≤◌, Bool, true, false, cond, leb, List, ◌++◌, length, take, drop, Ok, Err, Result, nat_le, refl}
use Rattle.std.proofs.Common.{sym, ap, ◌∙◌, arith, length-append}
use Rattle.std.proofs.lemmas.List.{append_assoc, take_at, drop_at, length-take}
use Rattle.std.proofs.lemmas.Bool.{le-leb, leb-true, lt-ltb, ltb-true, cond-true}
use Rattle.codec.specs.declared.parse.fault.NumberFault.{NumberFault}
use Rattle.codec.specs.declared.element.fault.ElementFault.TheVariants.{PastEnd, NotUtf8}
use Rattle.codec.specs.Leb128.{fits_u64, uleb, sleb, number_at, read_unsigned}
use Rattle.codec.specs.Utf8.{valid}
use Rattle.codec.specs.Elements.{Reading, Laws, numbered, reads_unsigned, reads_signed, UnsignedElement, SignedElement, text_code, text_behind, reads_text, TextElement}
use Rattle.codec.specs.Laws.Codes.{Coding, code_returns, read_fits}
use Rattle.codec.specs.Laws.Numbers.{unsigned_coding, signed_coding, unsigned_reads, signed_reads, uleb_returns}

module _ {N : Type 0} where
  -- a number that was read, by either name of its fault
  pub numbered_ok : (r : Result (N × ℕ) NumberFault) (p : N × ℕ) → numbered r ≡ Ok p → r ≡ Ok p
  numbered_ok (Ok q) p e = let same : q ≡ p = cc in cc
  numbered_ok (Err fault) p e = let z : ◌≡◌ {A = ℕ} 0 1 = cc in absurd (omega arith)

  -- the laws of any coding of numbers
  pub number_laws : {value : List ℕ → N} {fits : N → Bool} {code : N → List ℕ} {reads : List ℕ → Result (N × ℕ) NumberFault} → Coding value fits code → ((bytes : List ℕ) → reads bytes ≡ number_at value fits code bytes) → Laws (λ n. fits n ≡ true) code (λ bytes. numbered (reads bytes))
  number_laws k is =
      record {
        some = λ n f. (code_returns k n f).some;
        back = λ n f rest. ap numbered (is _ ∙ (code_returns k n f).back rest);
        alone = λ bytes n used e. (read_fits k bytes n used (sym (is bytes) ∙ numbered_ok _ (n, used) e)).0;
        within = λ bytes n used e. let r = read_fits k bytes n used (sym (is bytes) ∙ numbered_ok _ (n, used) e) in (r.1, r.2);
      }

-- what is read as a number
unsigned_read : (bytes : List ℕ) (n used : ℕ) → read_unsigned bytes ≡ Ok (n, used) → (fits_u64 n ≡ true) × (1 ≤ used) × (used ≤ length bytes)
unfolding read_unsigned
unsigned_read = read_fits unsigned_coding

pub unsigned_laws : Laws UnsignedElement uleb reads_unsigned
unsigned_laws = number_laws unsigned_coding unsigned_reads

pub signed_laws : Laws SignedElement sleb reads_signed
signed_laws = number_laws signed_coding signed_reads

-- a text and anything behind it
text_back : (text : List ℕ) → TextElement text → (rest : List ℕ) → reads_text (text_code text ++ rest) ≡ Ok (text, length (text_code text))
unfolding reads_text text_code
text_back text h rest =
    let n = length text in
    let head = uleb n in
    let bytes = (head ++ text) ++ rest in
    let parts : bytes ≡ head ++ (text ++ rest) = append_assoc head text rest in
    let read : read_unsigned bytes ≡ Ok (n, length head) = ap read_unsigned parts ∙ (uleb_returns n (lt-ltb n (2 ^ 64) h.1)).back (text ++ rest) in
    let part : take n (drop (length head) bytes) ≡ text = ap (λ (l : List ℕ). take n (drop (length head) l)) parts ∙ ap (take n) (drop_at head (text ++ rest) (length head) refl) ∙ take_at text rest n refl in
    let room : leb (length head + n) (length bytes) ≡ true = le-leb _ _ (omega (arith, length-append (head ++ text) rest, length-append head text)) in
    ap (text_behind bytes) read
    ∙ cond-true (nat_le (length head + n) (length bytes)) _ _ room
    ∙ cond-true (valid (take n (drop (length head) bytes))) _ _ (ap valid part ∙ h.0)
    ∙ ap (λ (l : List ℕ). Ok (l, length head + n)) part
    ∙ ap (λ (k : ℕ). Ok (text, k)) (sym (length-append head text))

-- what is read as a text
text_read : (bytes text : List ℕ) (used : ℕ) → reads_text bytes ≡ Ok (text, used) → TextElement text × (1 ≤ used) × (used ≤ length bytes)
unfolding reads_text
text_read bytes text used e = at (read_unsigned bytes) refl e
  where
    part : (n k : ℕ) → read_unsigned bytes ≡ Ok (n, k) → (v : Bool) → nat_le (k + n) (length bytes) ≡ v → (w : Bool) → valid (take n (drop k bytes)) ≡ w → cond {A = Reading (List ℕ)} v (cond w (Ok (take n (drop k bytes), k + n)) (Err NotUtf8)) (Err PastEnd) ≡ Ok (text, used) → TextElement text × (1 ≤ used) × (used ≤ length bytes)
    part n k r true room true sound e =
        let both : ◌≡◌ {A = List ℕ × ℕ} (take n (drop k bytes), k + n) (text, used) = cc in
        let is : take n (drop k bytes) ≡ text = ap (λ (q : List ℕ × ℕ). q.0) both in
        let all : k + n ≡ used = ap (λ (q : List ℕ × ℕ). q.1) both in
        let f = unsigned_read bytes n k r in
        ((ap valid (sym is) ∙ sound, omega (arith, ap length is, length-take n (drop k bytes), ltb-true n (2 ^ 64) f.0)), omega (arith, f.1, all), omega (arith, leb-true _ _ room, all))
    part n k r true room false sound e = let z : ◌≡◌ {A = ℕ} 0 1 = cc in absurd (omega arith)
    part n k r false room w sound e = let z : ◌≡◌ {A = ℕ} 0 1 = cc in absurd (omega arith)

    at : (r : Result (ℕ × ℕ) NumberFault) → read_unsigned bytes ≡ r → text_behind bytes r ≡ Ok (text, used) → TextElement text × (1 ≤ used) × (used ≤ length bytes)
    at (Ok p) r e = part p.0 p.1 r (nat_le (p.1 + p.0) (length bytes)) refl (valid (take p.0 (drop p.1 bytes))) refl e
    at (Err fault) r e = let z : ◌≡◌ {A = ℕ} 0 1 = cc in absurd (omega arith)

pub text_laws : Laws TextElement text_code reads_text
unfolding text_code
text_laws =
    record {
      some = λ text h. omega (arith, length-append (uleb (length text)) text, (uleb_returns (length text) (lt-ltb _ _ h.1)).some);
      back = text_back;
      alone = λ bytes text used e. (text_read bytes text used e).0;
      within = λ bytes text used e. let r = text_read bytes text used e in (r.1, r.2);
    }
