-- Lists that come from Rust.
use Rattle.std.specs.Prelude.{◌≡◌, ℕ, ◌-◌, ◌^◌, ◌<◌, ◌≤◌, cond, ◌&&◌, List, [], ◌∷◌, length, take, drop, Some, None, Option, ◌==◌, nat_le, map, refl}
use Rattle.std.proofs.Common.{ap, arith}
use Rattle.codec.specs.Utf8.{valid}

-- numbers beside a mask, in which 1 is a null
abbrev pub masked : List ℕ → List ℕ → List (Option ℕ)
masked [] ns = []
masked (v ∷ vs) [] = []
masked (v ∷ vs) (n ∷ ns) = cond (n == 1) None (Some v) ∷ masked vs ns

masked_most : (vs ns : List ℕ) → length (masked vs ns) ≤ length ns
masked_most [] ns = omega arith
masked_most (v ∷ vs) [] = omega arith
masked_most (v ∷ vs) (n ∷ ns) = omega (arith, masked_most vs ns)

pub masked_few : (vs ns : List ℕ) → length ns < 2 ^ 63 → length (masked vs ns) < 2 ^ 63
masked_few vs ns few = omega (arith, masked_most vs ns)

-- the text of a pool that starts and ends there, if it is one
abbrev pub text_at : List ℕ → ℕ → ℕ → Option (List ℕ)
text_at pool start end = cond (nat_le start end && nat_le end (length pool)) (cond (valid (take (end - start) (drop start pool))) (Some (take (end - start) (drop start pool))) None) None

-- pairs of numbers, each made into one entry
abbrev pub spanned : {A : Type 0} → (ℕ → ℕ → A) → List ℕ → List A
spanned one [] = []
spanned one (s ∷ []) = []
spanned one (s ∷ e ∷ spans) = one s e ∷ spanned one spans

spanned_most : {A : Type 0} (one : ℕ → ℕ → A) (spans : List ℕ) → length (spanned one spans) ≤ length spans
spanned_most one [] = omega arith
spanned_most one (s ∷ []) = omega arith
spanned_most one (s ∷ e ∷ spans) = omega (arith, spanned_most one spans)

pub spanned_few : {A : Type 0} (one : ℕ → ℕ → A) (spans : List ℕ) → length spans < 2 ^ 63 → length (spanned one spans) < 2 ^ 63
spanned_few one spans few = omega (arith, spanned_most one spans)

-- what is made of each entry is made of each pair
pub spanned_map : {A B : Type 0} (f : A → B) (one : ℕ → ℕ → A) (spans : List ℕ) → map f (spanned one spans) ≡ spanned (λ s e. f (one s e)) spans
spanned_map f one [] = refl
spanned_map f one (s ∷ []) = refl
spanned_map f one (s ∷ e ∷ spans) = ap (λ es. f (one s e) ∷ es) (spanned_map f one spans)
