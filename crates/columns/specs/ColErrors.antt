-- Faults with the path to their column: how each layer puts its name behind the names below it.
use Rattle.std.specs.Prelude.{ℕ, List, Some, None, Ok, Err, codes, Option, option_map, Result}
use Rattle.std.specs.Result.{result_map_both}
use Rattle.columns.specs.declared.fault.ColumnFault.{ColumnFault}
use Rattle.columns.specs.declared.col_error.ColumnName.{ColumnName}
use Rattle.columns.specs.declared.col_error.ColumnName.TheVariants as names
use Rattle.columns.specs.declared.col_error.Path.{Path}
use Rattle.columns.specs.declared.col_error.DecodeColErrorKind.{DecodeColErrorKind}
use Rattle.columns.specs.declared.col_error.DecodeColErrorKind.TheVariants.{UnexpectedNull, InvalidValue}
use Rattle.columns.specs.declared.col_error.DecodeColumnError.{DecodeColumnError}
use Rattle.columns.specs.Faults.{column_number}

-- a column without a group
abbrev pub alone : ColumnName → Path
alone name = record { column = name; group = None }

-- an entry of the column is refused
abbrev pub invalid : ColumnFault → ColumnName → DecodeColumnError
invalid fault name = record { path = alone name; error = InvalidValue fault }

-- the column has nothing where a value must be
abbrev pub missing : ColumnName → DecodeColumnError
missing name = record { path = alone name; error = UnexpectedNull }

-- one name further out: a path has two at most
abbrev pub further : Option ColumnName → ColumnName → Option ColumnName
further None name = Some name
further (Some group) name = Some group

abbrev pub in_column : DecodeColumnError → ColumnName → DecodeColumnError
in_column e name = record { path = record { column = e.path.column; group = further e.path.group name }; error = e.error }

-- the number of each
abbrev pub error_number : DecodeColErrorKind → ℕ
error_number UnexpectedNull = 16
error_number (InvalidValue fault) = column_number fault

-- What is read from a column, where a value may be missing and where it must be.
module _ {V E : Type 0} (under : E → ColumnName → DecodeColumnError) (name : ColumnName) where
  abbrev pub maybe_in_col : Result (Option V) E → Result (Option V) DecodeColumnError
  maybe_in_col r = result_map_both (λ v. v) (λ e. under e name) r

  abbrev pub in_col : Result (Option V) E → Result V DecodeColumnError
  in_col (Ok (Some v)) = Ok v
  in_col (Ok None) = Err (missing name)
  in_col (Err e) = Err (under e name)

-- an answer by what its value means
abbrev pub seen_option : {A B E : Type 0} → (A → B) → Result (Option A) E → Result (Option B) E
seen_option seen r = result_map_both (option_map seen) (λ e. e) r

abbrev pub seen_value : {A B E : Type 0} → (A → B) → Result A E → Result B E
seen_value seen r = result_map_both seen (λ e. e) r

-- a name as a path is written
abbrev pub name_word : ColumnName → List ℕ
name_word names.Actor = codes "actor"
name_word names.Counter = codes "counter"
name_word names.String = codes "string"
name_word names.Meta = codes "meta"
name_word names.Num = codes "num"
name_word names.Obj = codes "obj"
name_word names.Key = codes "key"
name_word names.Insert = codes "insert"
name_word names.Action = codes "action"
name_word names.Value = codes "value"
name_word names.Pred = codes "pred"
name_word names.Expand = codes "expand"
name_word names.MarkName = codes "mark_name"
