-- What the exports say of columns.
use Rattle.std.specs.Prelude.{ℕ, ◌-◌, ◌^◌, Bool, true, false, if◌then◌else◌, List, [], ◌∷◌, length, nat_le}
use Rattle.columns.specs.Column.{Entry, null, item, fault, hollow}

-- how long a column is, where there is room for it; else that it was refused
abbrev pub length_or_refused : ℕ → List ℕ → ℕ
length_or_refused room column = if nat_le (length column) room then length column else 2 ^ 64 - 1

-- whether reading comes to a fault; a hollow end is the last entry
abbrev pub faulty : {M : Type 0} → List (Entry M) → Bool
faulty [] = false
faulty (null ∷ es) = faulty es
faulty (item m p ∷ es) = faulty es
faulty (fault f ∷ es) = true
faulty (hollow ∷ es) = false
