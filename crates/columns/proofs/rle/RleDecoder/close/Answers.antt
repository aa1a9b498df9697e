use Rattle.std.proofs.Common.{refl, arith}
use Rattle.columns.specs.Runs.{run_by}
use Rattle.columns.proofs.Columns.{at_end}
use Rattle.columns.proofs.rle.RleDecoder.close.Goals as goal

pub returns : goal.returns
returns g c = let k = g.E.Decodable in at_end k.reads k.laws c.close.new.self.bytes.now (run_by k.means c.args.self.now.head.run) 0 c.close.new.self.offset refl (omega arith)
