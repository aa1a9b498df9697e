-- The number of a header, as it is passed on.
use Rattle.std.proofs.Common.{◌≡◌, ℕ, ◌-◌, ◌^◌, ◌<◌, pos, negsuc, ◌-ℤ◌, to_z, of_z, w64, ap, arith}
use Rattle.std.proofs.lemmas.Int.{ints, to_z_pos}
use Rattle.codec.specs.Leb128.{sleb}

pub plus : (n : ℕ) → n < 2 ^ 63 → sleb (to_z w64 n) ≡ sleb (pos n)
plus n few = ap sleb (to_z_pos w64 n few)

pub minus : (n : ℕ) → 0 < n → n < 2 ^ 63 → sleb (to_z w64 (of_z w64 (pos 0 -ℤ to_z w64 n))) ≡ sleb (negsuc (n - 1))
minus n some few = ap sleb (omega (arith, ints))
