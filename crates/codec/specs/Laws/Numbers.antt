-- The two codings: unsigned and signed numbers of 64 bits.
use Rattle.std.specs.Prelude.{◌≡◌, ℕ, zero, suc, ◌+◌, ◌*◌, ◌^◌, ◌<◌, ◌≤◌, Bool, true, false, List, [], ◌∷◌, length, ℤ, pos, negsuc, int_lt, refl}
use Rattle.std.proofs.Common.{sym, ap, ◌∙◌, pow-suc, arith, ⊎_elim}
use Rattle.std.specs.Int.Signed.{mag}
use Rattle.std.proofs.lemmas.Bool.{ltb-true, lt-ltb, le-ltb, cases_lt}
use Rattle.codec.specs.Leb128.{unsigned, signed, Framed, groups, uleb, sleb, fits_u64, fits_i64, read_unsigned, read_signed, number_at, Returns}
use Rattle.codec.specs.Laws.Groups.{framed_groups, groups_few, groups_many, groups_value, inverted_value, framed_some}
use Rattle.codec.specs.Laws.Frames.{unsigned_below}
use Rattle.codec.specs.Laws.Signs.{signed_pos, signed_neg, signed_mag, signed_same}
use Rattle.codec.specs.Laws.Codes.{Coding, code_returns}

-- how long a code is
pub uleb_few : (k n : ℕ) → n < 128 * 128 ^ k → length (uleb n) ≤ suc k
unfolding uleb
uleb_few = groups_few 128 (omega arith) (omega arith) false

pub uleb_many : (k n : ℕ) → 128 * 128 ^ k ≤ n → suc k < length (uleb n)
unfolding uleb
uleb_many = groups_many 128 (omega arith) (omega arith) false

pub sleb_few : (k : ℕ) (z : ℤ) → mag z < 64 * 128 ^ k → length (sleb z) ≤ suc k
unfolding sleb
sleb_few k (pos n) h = groups_few 64 (omega arith) (omega arith) false k n h
sleb_few k (negsuc n) h = groups_few 64 (omega arith) (omega arith) true k n h

pub sleb_many : (k : ℕ) (z : ℤ) → 64 * 128 ^ k ≤ mag z → suc k < length (sleb z)
unfolding sleb
sleb_many k (pos n) h = groups_many 64 (omega arith) (omega arith) false k n h
sleb_many k (negsuc n) h = groups_many 64 (omega arith) (omega arith) true k n h

-- the sign apart
pub sleb_groups : (z : ℤ) → sleb z ≡ groups 64 (int_lt z (pos 0)) (mag z)
unfolding sleb
sleb_groups (pos n) = ap (λ (negative : Bool). groups 64 negative n) (sym (le-ltb n 0 (omega arith)))
sleb_groups (negsuc n) = refl

pub sleb_framed : (z : ℤ) → Framed (sleb z)
unfolding sleb
sleb_framed (pos n) = framed_groups 64 (omega arith) (omega arith) false n
sleb_framed (negsuc n) = framed_groups 64 (omega arith) (omega arith) true n

-- a last group below 64 leaves the highest bit for the sign
half : (negative : Bool) (n k : ℕ) → length (groups 64 negative n) ≡ suc k → n < 64 * 128 ^ k
half negative n k l = ⊎_elim (λ h. h) (λ h. absurd (omega (arith, groups_many 64 (omega arith) (omega arith) negative k n h))) (cases_lt n (64 * 128 ^ k))

halved : (negative : Bool) (n : ℕ) → suc n + suc n ≤ 128 ^ length (groups 64 negative n)
halved negative n = at (length (groups 64 negative n)) refl
  where
    at : (l : ℕ) → length (groups 64 negative n) ≡ l → suc n + suc n ≤ 128 ^ l
    at zero e = absurd (omega (arith, framed_some (groups 64 negative n) (framed_groups 64 (omega arith) (omega arith) negative n)))
    at (suc k) e = omega (arith, half negative n k e, pow-suc 128 k)

pub sleb_value : (z : ℤ) → signed (sleb z) ≡ z
unfolding sleb
sleb_value (pos n) =
    let v = groups_value 64 (omega arith) (omega arith) n in
    signed_pos (groups 64 false n) (omega (arith, v, halved false n)) ∙ ap pos v
sleb_value (negsuc n) =
    let v = inverted_value 64 (omega arith) (omega arith) n in
    signed_neg (groups 64 true n) n (omega (arith, v, halved true n)) v

-- bytes of at least one group
longer : (bs : List ℕ) → Framed bs → (k : ℕ) × (length bs ≡ suc k)
longer [] f = absurd f
longer (b ∷ bs) f = (length bs, refl)

pub unsigned_coding : Coding unsigned fits_u64 uleb
unfolding uleb
unsigned_coding =
    record {
      codes = λ n. record {
        framed = framed_groups 128 (omega arith) (omega arith) false n;
        means = groups_value 128 (omega arith) (omega arith) n;
        shortest = λ bs f e. let s = longer bs f in let p = ap (λ (l : ℕ). 128 ^ l) s.1 in omega (arith, s.1, uleb_few s.0 n (omega (arith, unsigned_below bs, p, pow-suc 128 s.0)));
      };
      same = λ xs ys l e. e;
      few = λ n f. uleb_few 9 n (omega (arith, ltb-true n (2 ^ 64) f));
    }

fits_mag : (z : ℤ) → fits_i64 z ≡ true → mag z < 2 ^ 63
fits_mag (pos n) f = ltb-true n (2 ^ 63) f
fits_mag (negsuc n) f = ltb-true n (2 ^ 63) f

pub mag_fits : (z : ℤ) → mag z < 2 ^ 63 → fits_i64 z ≡ true
mag_fits (pos n) h = lt-ltb n (2 ^ 63) h
mag_fits (negsuc n) h = lt-ltb n (2 ^ 63) h

pub mag_large : (z : ℤ) → 2 ^ 63 ≤ mag z → fits_i64 z ≡ false
mag_large (pos n) h = le-ltb n (2 ^ 63) h
mag_large (negsuc n) h = le-ltb n (2 ^ 63) h

pub signed_coding : Coding signed fits_i64 sleb
signed_coding =
    record {
      codes = λ z. record {
        framed = sleb_framed z;
        means = sleb_value z;
        shortest = λ bs f e. let s = longer bs f in let p = ap (λ (l : ℕ). 128 ^ l) s.1 in let m = ap mag e in omega (arith, s.1, sleb_few s.0 z (omega (arith, signed_mag bs, m, p, pow-suc 128 s.0)));
      };
      same = signed_same;
      few = λ z f. sleb_few 9 z (omega (arith, fits_mag z f));
    }

pub uleb_returns : (n : ℕ) → fits_u64 n ≡ true → Returns unsigned read_unsigned n (uleb n)
unfolding read_unsigned
uleb_returns n f = code_returns unsigned_coding n f

pub sleb_returns : (z : ℤ) → fits_i64 z ≡ true → Returns signed read_signed z (sleb z)
unfolding read_signed
sleb_returns z f = code_returns signed_coding z f

-- what reading gives, by its parts
pub unsigned_reads : (bytes : List ℕ) → read_unsigned bytes ≡ number_at unsigned fits_u64 uleb bytes
unfolding read_unsigned
unsigned_reads bytes = refl

pub signed_reads : (bytes : List ℕ) → read_signed bytes ≡ number_at signed fits_i64 sleb bytes
unfolding read_signed
signed_reads bytes = refl
