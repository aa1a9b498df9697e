-- An output as a machine that is fed bytes, one after the other, until it refuses one.
use Rattle.std.specs.Prelude.{◌≡◌, ℕ, ◌+◌, ◌-◌, ◌^◌, Bool, true, false, cond, List, [], ◌∷◌, nat_lt}

-- whether every byte was taken, and the state then
abbrev pub fed : {S : Type 0} → (S → ℕ → Bool) → (S → ℕ → S) → S → List ℕ → Bool × S
fed takes step s [] = (true, s)
fed takes step s (b ∷ bs) = cond (takes s b) (fed takes step (step s b) bs) (false, s)

-- the same as a fact about a call: fed these bytes, from s, it answered ok and came to t
pub record Fed {S : Type 0} (takes : S → ℕ → Bool) (step : S → ℕ → S) (s : S) (bytes : List ℕ) (ok : Bool) (t : S) : Type 0 where
  pub is : fed takes step s bytes ≡ (ok, t)

-- a counter as a machine: it takes a byte while the count still fits 64 bits
abbrev pub countable : ℕ → ℕ → Bool
countable n b = nat_lt n (2 ^ 64 - 1)

abbrev pub counted : ℕ → ℕ → ℕ
counted n b = n + 1
