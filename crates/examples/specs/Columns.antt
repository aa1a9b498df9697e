-- Columns by their bytes, in hexadecimal as the format's documents write them.
use Rattle.std.specs.Prelude.{◌≡◌, ℕ, true, false, List, [], ◌∷◌, map, pos, Some, None, Option}
use Rattle.std.specs.Option.{option_map}
use Rattle.codec.specs.Elements.{reads_unsigned, reads_signed}
use Rattle.codec.specs.Leb128.{uleb}
use Rattle.columns.specs.Column.{null, item, hollow, entries}
use Rattle.columns.specs.Cut.{written}
use Rattle.columns.specs.Deltas.{delta_column, summed}
use Rattle.columns.specs.Flags.{flag_column, maybe_flag_column, flags}

-- a run column of unsigned numbers
abbrev pub numbers : List (Option ℕ) → List ℕ
numbers xs = written (map (option_map uleb) xs)

pub record Columns : Type 0 where
  pub run : numbers (Some 5 ∷ Some 5 ∷ Some 5 ∷ []) ≡ 0x03 ∷ 0x05 ∷ []
  pub literal : numbers (Some 1 ∷ Some 2 ∷ Some 2 ∷ []) ≡ 0x7F ∷ 0x01 ∷ 0x02 ∷ 0x02 ∷ []
  pub nulls_alone : numbers (None ∷ None ∷ []) ≡ []
  pub delta : delta_column (Some (pos 3) ∷ None ∷ Some (pos 4) ∷ []) ≡ 0x7F ∷ 0x03 ∷ 0x00 ∷ 0x01 ∷ 0x7F ∷ 0x01 ∷ []
  pub read_run : entries reads_unsigned (0x03 ∷ 0x05 ∷ []) 0 ≡ item 5 2 ∷ item 5 2 ∷ item 5 2 ∷ []
  pub read_literal : entries reads_unsigned (0x7F ∷ 0x01 ∷ 0x02 ∷ 0x02 ∷ []) 0 ≡ item 1 2 ∷ item 2 4 ∷ item 2 4 ∷ []
  pub read_delta : summed (pos 0) (entries reads_signed (0x7F ∷ 0x03 ∷ 0x00 ∷ 0x01 ∷ 0x7F ∷ 0x01 ∷ []) 0) ≡ item (pos 3) 2 ∷ null ∷ item (pos 4) 6 ∷ []
  pub no_flags : flag_column [] ≡ []
  pub flag : flag_column (true ∷ []) ≡ 0x00 ∷ 0x01 ∷ []
  pub runs_of_flags : flag_column (false ∷ false ∷ true ∷ []) ≡ 0x02 ∷ 0x01 ∷ []
  pub false_alone : maybe_flag_column (false ∷ false ∷ []) ≡ []
  pub maybe_flags : maybe_flag_column (false ∷ false ∷ true ∷ []) ≡ 0x02 ∷ 0x01 ∷ []
  pub read_flag : flags (0x00 ∷ 0x01 ∷ []) false 0 ≡ item true 2 ∷ []
  pub read_flags : flags (0x02 ∷ 0x01 ∷ []) false 0 ≡ item false 1 ∷ item false 1 ∷ item true 2 ∷ []
  pub read_empty_runs : flags (0x01 ∷ 0x00 ∷ 0x01 ∷ []) false 0 ≡ item false 1 ∷ item false 3 ∷ []
  pub read_hollow : flags (0x01 ∷ 0x00 ∷ []) false 0 ≡ item false 1 ∷ hollow ∷ []
