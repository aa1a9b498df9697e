use Rattle.std.proofs.Common.{◌≡◌, ◌-◌, length}
use Rattle.columns.specs.Column.{first, others}
use Rattle.columns.specs.Flags.{flags_left}
use Rattle.columns.proofs.boolean.BooleanDecoder.settle.Given as goal

-- a turn changes nothing to a reader
abbrev pub invariant-loop-self : goal.invariant-loop-self
invariant-loop-self l =
    (first (flags_left l.self) ≡ first (flags_left l.initial.self))
    × (others (flags_left l.self) ≡ others (flags_left l.initial.self))

abbrev pub decreases-loop-self : goal.decreases-loop-self
decreases-loop-self l = length l.self.cursor.bytes.now - l.self.cursor.offset
