-- The code of a number, and what reading makes of it: once for every way to give bytes a value.
use Rattle.std.specs.Prelude.{◌≡◌, ℕ, ◌<◌, ◌≤◌, Bool, true, false, List, ◌++◌, length, Ok, Err, Result, ◌==◌, nat_eq, refl}
use Rattle.std.proofs.Common.{sym, ap, ◌∙◌, subst, arith, ⊎_elim}
use Rattle.std.proofs.lemmas.Bool.{eq-eqb, ne_eqb, eqb-true, cases_Bool, cond-true, cond-false}
use Rattle.codec.specs.declared.parse.fault.NumberFault.{NumberFault}
use Rattle.codec.specs.declared.parse.fault.NumberFault.TheVariants.{TooLarge, Overlong}
use Rattle.codec.specs.Leb128.{unsigned, Framed, Code, frame_at, judged, number_at, Exact, Returns}
use Rattle.codec.specs.Laws.Frames.{framed_same, frame_framed, frame_inside}
use Rattle.codec.specs.Laws.Groups.{framed_some}

-- what bytes are worth, which numbers fit, and a code for each
pub record Coding {N : Type 0} (value : List ℕ → N) (fits : N → Bool) (code : N → List ℕ) : Type 0 where
  pub codes : (n : N) → Code value n (code n)
  pub same : (xs ys : List ℕ) → length xs ≡ length ys → value xs ≡ value ys → unsigned xs ≡ unsigned ys
  pub few : (n : N) → fits n ≡ true → length (code n) ≤ 10

module _ {N : Type 0} {value : List ℕ → N} {fits : N → Bool} {code : N → List ℕ} (k : Coding value fits code) where
  pub alone : (n : N) (bs : List ℕ) → Code value n bs → bs ≡ code n
  alone n bs c =
      let d = k.codes n in
      let l : length bs ≡ length (code n) = omega (arith, c.shortest (code n) d.framed d.means, d.shortest bs c.framed c.means) in
      framed_same bs (code n) c.framed d.framed l (k.same bs (code n) l (c.means ∙ sym d.means))

  -- what a number's bytes stand for
  pub judged_ok : (bs : List ℕ) (n : N) → value bs ≡ n → fits n ≡ true → length (code n) ≡ length bs → judged value fits code (Ok bs) ≡ Ok (n, length bs)
  judged_ok bs n v f l =
      let g : fits (value bs) ≡ true = ap fits v ∙ f in
      let e : length (code (value bs)) ≡ length bs = ap (λ (x : N). length (code x)) v ∙ l in
      cond-true (fits (value bs)) _ _ g ∙ cond-true (length (code (value bs)) == length bs) _ _ (eq-eqb _ _ e) ∙ ap (λ (x : N). Ok (x, length bs)) v

  pub judged_over : (bs : List ℕ) (n : N) → value bs ≡ n → fits n ≡ true → length (code n) < length bs → judged value fits code (Ok bs) ≡ Err Overlong
  judged_over bs n v f l =
      let g : fits (value bs) ≡ true = ap fits v ∙ f in
      let e : length (code (value bs)) ≡ length (code n) = ap (λ (x : N). length (code x)) v in
      cond-true (fits (value bs)) _ _ g ∙ cond-false (length (code (value bs)) == length bs) _ _ (ne_eqb _ _ (λ q. omega arith))

  pub judged_large : (bs : List ℕ) (n : N) → value bs ≡ n → fits n ≡ false → judged value fits code (Ok bs) ≡ Err TooLarge
  judged_large bs n v f = cond-false (fits (value bs)) _ _ (ap fits v ∙ f)

  -- a code at the front is read
  pub read_code : (bytes : List ℕ) (n : N) (bs rest : List ℕ) → bytes ≡ bs ++ rest → Code value n bs → fits n ≡ true → number_at value fits code bytes ≡ Ok (n, length bs)
  read_code bytes n bs rest e c f =
      let one : bs ≡ code n = alone n bs c in
      let l : length (code n) ≡ length bs = ap length (sym one) in
      ap (judged value fits code) (frame_framed bytes bs rest e c.framed (omega (arith, k.few n f, l))) ∙ judged_ok bs n c.means f l

  -- what an accepted number's bytes are
  read_value : (bs : List ℕ) (n : N) (used : ℕ) → judged value fits code (Ok bs) ≡ Ok (n, used) → (fits n ≡ true) × (used ≡ length bs) × (value bs ≡ n) × (length (code n) ≡ length bs)
  read_value bs n used e =
      let v = value bs in
      ⊎_elim
      (λ (g : fits v ≡ true).
      ⊎_elim
      (λ (l : nat_eq (length (code v)) (length bs) ≡ true).
      let was : ◌≡◌ {A = Result (N × ℕ) NumberFault} (Ok (v, length bs)) (Ok (n, used)) = sym (judged_ok bs v refl g (eqb-true _ _ l)) ∙ e in
      let both : ◌≡◌ {A = N × ℕ} (v, length bs) (n, used) = cc in
      let vn : v ≡ n = ap (λ (q : N × ℕ). q.0) both in
      let lu : length bs ≡ used = ap (λ (q : N × ℕ). q.1) both in
      (ap fits (sym vn) ∙ g, sym lu, vn, ap (λ (x : N). length (code x)) (sym vn) ∙ eqb-true _ _ l))
      (λ l. let was : ◌≡◌ {A = Result (N × ℕ) NumberFault} (Err Overlong) (Ok (n, used)) = sym (cond-true (fits v) _ _ g ∙ cond-false (length (code v) == length bs) _ _ l) ∙ e in let z : ◌≡◌ {A = ℕ} 0 1 = cc in absurd (omega arith))
      (cases_Bool (length (code v) == length bs)))
      (λ g. let was : ◌≡◌ {A = Result (N × ℕ) NumberFault} (Err TooLarge) (Ok (n, used)) = sym (judged_large bs v refl g) ∙ e in let z : ◌≡◌ {A = ℕ} 0 1 = cc in absurd (omega arith))
      (cases_Bool (fits v))

  -- nothing but a code is accepted
  read_only : (bs : List ℕ) → Framed bs → (n : N) (used : ℕ) → judged value fits code (Ok bs) ≡ Ok (n, used) → Code value n bs × (fits n ≡ true) × (used ≡ length bs)
  read_only bs f n used e =
      let r = read_value bs n used e in
      let d = k.codes n in
      let one : bs ≡ code n = framed_same bs (code n) f d.framed (sym r.3) (k.same bs (code n) (sym r.3) (r.2 ∙ sym d.means)) in
      (subst (λ (b : List ℕ). Code value n b) (sym one) d, r.0, r.1)

  -- whatever is read fits, and takes bytes that are there
  pub read_fits : (bytes : List ℕ) (n : N) (used : ℕ) → number_at value fits code bytes ≡ Ok (n, used) → (fits n ≡ true) × (1 ≤ used) × (used ≤ length bytes)
  read_fits bytes n used e = at (frame_at bytes) refl e
    where
      at : (r : Result (List ℕ) NumberFault) → frame_at bytes ≡ r → judged value fits code r ≡ Ok (n, used) → (fits n ≡ true) × (1 ≤ used) × (used ≤ length bytes)
      at (Err fault) f e = let z : ◌≡◌ {A = ℕ} 0 1 = cc in absurd (omega arith)
      at (Ok bs) f e = let r = read_value bs n used e in let i = frame_inside bytes bs f in (r.0, omega (arith, r.1, i.0), omega (arith, r.1, i.1))

  -- the two together, where the bytes have a number at their front, or have none
  pub exact_ok : (bytes bs rest : List ℕ) → bytes ≡ bs ++ rest → Framed bs → length bs ≤ 10 → Exact value fits bytes (number_at value fits code bytes)
  exact_ok bytes bs rest e f few =
      record {
        only = λ n used q. let r = read_only bs f n used (ap (judged value fits code) (sym (frame_framed bytes bs rest e f few)) ∙ q) in (bs, rest, e, r.0, r.1, r.2);
        all = read_code bytes;
      }

  pub exact_err : (bytes : List ℕ) (fault : NumberFault) → frame_at bytes ≡ Err fault → Exact value fits bytes (number_at value fits code bytes)
  exact_err bytes fault e =
      record {
        only = λ n used q. let was : ◌≡◌ {A = Result (N × ℕ) NumberFault} (Err fault) (Ok (n, used)) = ap (judged value fits code) (sym e) ∙ q in let z : ◌≡◌ {A = ℕ} 0 1 = cc in absurd (omega arith);
        all = read_code bytes;
      }

  -- what is written comes back
  pub code_returns : (n : N) → fits n ≡ true → Returns value (number_at value fits code) n (code n)
  code_returns n f =
      record {
        code = k.codes n;
        alone = alone n;
        some = framed_some (code n) (k.codes n).framed;
        few = k.few n f;
        back = λ rest. read_code (code n ++ rest) n (code n) rest refl (k.codes n) f;
      }
