-- How the groups of a number's bits spell it, for any kind of integer.
use Rattle.std.specs.Prelude.{◌≡◌, ℕ, suc, ◌+◌, ◌*◌, ◌^◌, ◌<◌, ◌≤◌, Bool, true, false, List, length, ◌⊎◌, refl}
use Rattle.std.proofs.Common.{inl, inr, arith}
use Rattle.std.proofs.lemmas.Bool.{le-ltb, ltb-true}
use Rattle.codec.specs.Leb128.{unsigned, signed, groups, uleb, sleb, fits_u64, fits_i64}
use Rattle.codec.specs.Frames.{number_of, plain_number}
use Rattle.codec.specs.Laws.Frames.{unsigned_below}
use Rattle.codec.specs.Laws.Signs.{signed_pos, signed_neg}

-- The code of the number of a sign and bits is the groups of the bits, whose last is below `top`: 64 where its highest
-- bit is the sign, or 128. Bytes are worth the number of the sign and bits that they have.
pub record Spelling {N : Type 0} (top : ℕ) (value : List ℕ → N) (fits : N → Bool) (code : N → List ℕ) (number : Bool → ℕ → N) : Type 0 where
  pub either : (top ≡ 64) ⊎ (top ≡ 128)
  pub spelled : (negative : Bool) (n : ℕ) → (negative ≡ true → top ≡ 64) → code (number negative n) ≡ groups top negative n
  pub plain : (bs : List ℕ) → 128 * unsigned bs < top * 128 ^ length bs → value bs ≡ number false (unsigned bs)
  pub inverted : (bs : List ℕ) (m : ℕ) → top * 128 ^ length bs ≤ 128 * unsigned bs → unsigned bs + suc m ≡ 128 ^ length bs → (top ≡ 64) × (value bs ≡ number true m)
  pub large : (negative : Bool) (n : ℕ) → 2 ^ 64 ≤ n → fits (number negative n) ≡ false
  pub bound : (negative : Bool) (n : ℕ) → fits (number negative n) ≡ true → n < top * 2 ^ 57

-- a last group has six bits at least
pub either_some : (top : ℕ) → (top ≡ 64) ⊎ (top ≡ 128) → (64 ≤ top) × (top ≤ 128)
either_some top (inl a) = (omega arith, omega arith)
either_some top (inr a) = (omega arith, omega arith)

pub unsigned_spelling : Spelling 128 unsigned fits_u64 uleb plain_number
unfolding uleb
unsigned_spelling =
    record {
      either = inr refl;
      spelled = λ negative n signed. elim negative as (λ v. (v ≡ true → ◌≡◌ {A = ℕ} 128 64) → groups 128 false n ≡ groups 128 v n) [ true ↦ (λ s. absurd (omega (arith, s refl))) | false ↦ (λ _. refl) ] signed;
      plain = λ bs h. refl;
      inverted = λ bs m h e. absurd (omega (arith, unsigned_below bs));
      large = λ negative n h. le-ltb n (2 ^ 64) h;
      bound = λ negative n f. omega (arith, ltb-true n (2 ^ 64) f);
    }

pub signed_spelling : Spelling 64 signed fits_i64 sleb number_of
unfolding sleb
signed_spelling =
    record {
      either = inl refl;
      spelled = λ negative n signed. elim negative as (λ v. sleb (number_of v n) ≡ groups 64 v n) [ true ↦ refl | false ↦ refl ];
      plain = λ bs h. signed_pos bs (omega arith);
      inverted = λ bs m h e. (refl, signed_neg bs m (omega arith) e);
      large = λ negative n h. elim negative as (λ v. fits_i64 (number_of v n) ≡ false) [ true ↦ le-ltb n (2 ^ 63) (omega arith) | false ↦ le-ltb n (2 ^ 63) (omega arith) ];
      bound = λ negative n. elim negative as (λ v. fits_i64 (number_of v n) ≡ true → n < 64 * 2 ^ 57) [ true ↦ (λ f. omega (arith, ltb-true n (2 ^ 63) f)) | false ↦ (λ f. omega (arith, ltb-true n (2 ^ 63) f)) ];
    }
