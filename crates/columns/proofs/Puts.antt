-- What is known at a counter.
use Rattle.std.proofs.Common.{◌≡◌, ℕ, ◌^◌, ◌<◌, ◌≤◌, true, false, List, length, refl, ⊎_elim, arith}
use Rattle.std.proofs.lemmas.Bool.{false≢true, cases_lt}
use Rattle.codec.specs.Feed.{Fed, countable, counted}
use Rattle.codec.proofs.Feeds.{fed_size, at_counter}

pub counter_all : {m n : ℕ} {bytes : List ℕ} → m ≡ 0 → Fed countable counted m bytes true n → n ≡ length bytes
counter_all {m} {n} {bytes} z f = omega (arith, fed_size countable counted (λ m. m) (λ m b. refl) m n bytes f.is)

pub counter_full : {m n : ℕ} {bytes : List ℕ} → m ≡ 0 → Fed countable counted m bytes false n → 2 ^ 64 ≤ length bytes
counter_full {m} {n} {bytes} z f = ⊎_elim (λ (l : length bytes < 2 ^ 64). absurd (false≢true (at_counter (omega arith) f).0)) (λ h. h) (cases_lt (length bytes) (2 ^ 64))
