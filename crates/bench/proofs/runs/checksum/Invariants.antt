use Rattle.std.proofs.Common.{◌≡◌, length}
use Rattle.columns.specs.Column.{entries, remains}
use Rattle.bench.specs.Columns.{faulty}
use Rattle.bench.proofs.runs.checksum.Given as goal

-- what is left is refused where the whole is
abbrev pub invariant-loop-entry : goal.invariant-loop-entry
invariant-loop-entry g l = faulty (remains g.E.Decodable.reads g.E.Decodable.means l.reader) ≡ faulty (entries g.E.Decodable.reads l.data 0)

abbrev pub decreases-loop-entry : goal.decreases-loop-entry
decreases-loop-entry g l = length (remains g.E.Decodable.reads g.E.Decodable.means l.reader)
