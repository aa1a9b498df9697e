use Rattle.std.proofs.Common.{ℕ, ◌*◌, ◌^◌, ap, arith}
use Rattle.codec.specs.Laws.Powers.{pow_seven}
use Rattle.codec.proofs.parse.frame.at_place.Goals as goal

pub returns : goal.returns
returns c = omega (arith, ap (λ (p : ℕ). c.from.result * p) (pow_seven c.args.i), ap (λ (b : ℕ). b * 128 ^ c.args.i) c.from.ensures, c.requires.0)
