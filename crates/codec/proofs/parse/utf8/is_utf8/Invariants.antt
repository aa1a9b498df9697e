use Rattle.std.proofs.Common.{◌≡◌, length}
use Rattle.codec.specs.Utf8.{valid}
use Rattle.codec.proofs.parse.utf8.is_utf8.Given as goal

-- what is left gives the whole answer
abbrev pub invariant-loop-left : goal.invariant-loop-left
invariant-loop-left l = valid l.bytes ≡ valid l.left

abbrev pub decreases-loop-left : goal.decreases-loop-left
decreases-loop-left l = length l.left
