use Rattle.std.proofs.Common.{refl}
use Rattle.codec.specs.Leb128.{groups, uleb, sleb, read_unsigned, read_signed}
use Rattle.examples.proofs.numbers.Goals as goal

pub returns : goal.returns
unfolding groups uleb sleb read_unsigned read_signed
returns c =
    record {
      unsigned_127 = refl;
      unsigned_128 = refl;
      unsigned_overlong = refl;
      signed_63 = refl;
      signed_64 = refl;
      signed_minus_64 = refl;
      signed_minus_65 = refl;
      read_127 = refl;
      read_128 = refl;
      read_64 = refl;
      read_minus_65 = refl;
    }
