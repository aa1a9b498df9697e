-- What a call's answer says of what is still to be written.
use Rattle.std.proofs.Common.{◌≡◌, ℕ, Bool, true, false, List, ◌++◌, is_err, Err, Result, sym, refl, ap, ◌∙◌, MatchResult}
use Rattle.std.proofs.lemmas.Result.{MatchResult-from_err}
use Rattle.codec.specs.Feed.{fed, Fed}
use Rattle.codec.proofs.Feeds.{fed_on, fed_exit}

-- nothing was written
pub stays : {S : Type 0} (takes : S → ℕ → Bool) (step : S → ℕ → S) (s : S) {P : Type 0} {a b : List ℕ} → P × (a ≡ b) → P × (fed takes step s b ≡ fed takes step s a)
stays takes step s p = (p.0, ap (fed takes step s) (sym p.1))

module _ {S : Type 0} {takes : S → ℕ → Bool} {step : S → ℕ → S} {P : Type 0} {all : List ℕ} where
  -- all of a was taken: b is left
  pub goes : {s t : S} {a : List ℕ} (b : List ℕ) → Fed takes step s a true t → P × (all ≡ a ++ b) → P × (fed takes step t b ≡ fed takes step s all)
  goes {a = a} b f p = (p.0, fed_on all a b refl p.1 f)

  -- a byte of a was refused: r is what the exit of the `?` returns
  pub stops : {s t : S} {a : List ℕ} (b : List ℕ) {X Y : Type 0} (r : Result X Y) (Q : X → Type 0) → is_err r ≡ true → Fed takes step s a false t → P × (all ≡ a ++ b) → MatchResult r Q (λ _. fed takes step s all ≡ (false, t))
  stops {s} {a = a} b r Q e f p = MatchResult-from_err r Q _ e (λ _. ap (fed takes step s) p.1 ∙ (fed_exit {T = ℕ} {E = ℕ} b (Err 0) refl f).is)
