use Rattle.std.proofs.Common.{◌≡◌, ◌-◌, length}
use Rattle.columns.specs.Column.{remains, first, others}
use Rattle.columns.proofs.rle.RleDecoder.settle.Given as goal

-- a turn changes nothing to a reader
abbrev pub invariant-loop-self : goal.invariant-loop-self
invariant-loop-self g l =
    let k = g.E.Decodable in
    (first (remains k.reads k.means l.self) ≡ first (remains k.reads k.means l.initial.self))
    × (others (remains k.reads k.means l.self) ≡ others (remains k.reads k.means l.initial.self))

abbrev pub decreases-loop-self : goal.decreases-loop-self
decreases-loop-self g l = length l.self.cursor.bytes.now - l.self.cursor.offset
