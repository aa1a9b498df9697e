use Rattle.std.proofs.Common.{◌≡◌, length}
use Rattle.codec.specs.Utf8.{valid}
use Rattle.codec.proofs.parse.utf8.walk.Given as goal

-- what is left gives the whole answer
abbrev pub invariant-loop-rest : goal.invariant-loop-rest
invariant-loop-rest l = valid l.bytes ≡ valid l.rest

abbrev pub decreases-loop-rest : goal.decreases-loop-rest
decreases-loop-rest l = length l.rest
