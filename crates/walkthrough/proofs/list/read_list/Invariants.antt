use Rattle.std.proofs.Common.{length}
use Rattle.walkthrough.proofs.list.read_list.Given as goal

abbrev pub decreases-loop-rest : goal.decreases-loop-rest
decreases-loop-rest l = length l.rest
