use Rattle.std.proofs.Common.{◌-◌, arith}
use Rattle.codec.specs.Laws.Powers.{pow_most}
use Rattle.codec.proofs.parse.frame.Frame.inverted.Goals as goal

pub at_place-ones-requires : goal.at_place-ones-requires
at_place-ones-requires c = (omega (arith, pow_most (c.args.self.used - 1) 9 (omega arith)), omega arith)
