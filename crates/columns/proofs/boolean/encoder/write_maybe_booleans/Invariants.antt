use Rattle.std.proofs.Common.{◌≡◌, ◌++◌, false, length, replicate}
use Rattle.columns.proofs.boolean.encoder.write_maybe_booleans.Given as goal

-- so many were false, and nothing was written
abbrev pub invariant-first : goal.invariant-first
invariant-first g l = (g.C.Source.list l.initial.flags ≡ replicate l.count false ++ g.C.Source.list l.flags) × (l.out ≡ l.initial.out)

abbrev pub decreases-first : goal.decreases-first
decreases-first g l = length (g.C.Source.list l.flags)
