use Rattle.std.proofs.Common.{refl}
use Rattle.codec.specs.Leb128.{groups, uleb, sleb, read_unsigned, read_signed}
use Rattle.examples.proofs.columns.Goals as goal

pub returns : goal.returns
unfolding groups uleb sleb read_unsigned read_signed
returns c =
    record {
      run = refl;
      literal = refl;
      nulls_alone = refl;
      delta = refl;
      read_run = refl;
      read_literal = refl;
      read_delta = refl;
      no_flags = refl;
      flag = refl;
      runs_of_flags = refl;
      false_alone = refl;
      maybe_flags = refl;
      read_flag = refl;
      read_flags = refl;
      read_empty_runs = refl;
      read_hollow = refl;
    }
