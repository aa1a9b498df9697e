-- The faults of columns: how the faults below become theirs, the number of each and its cause in words.
use Rattle.std.specs.Prelude.{ℕ, List, codes}
use Rattle.codec.specs.declared.parse.fault.NumberFault.{NumberFault}
use Rattle.codec.specs.declared.element.fault.ElementFault.TheVariants.{Number}
use Rattle.codec.specs.Refusals.{element_number, element_cause}
use Rattle.columns.specs.declared.fault.ColumnFault.{ColumnFault}
use Rattle.columns.specs.declared.fault.ColumnFault.TheVariants.{Element, RunTooLong}

-- a fault of a number in a column
abbrev pub number_in : NumberFault → ColumnFault
number_in fault = Element (Number fault)

abbrev pub column_number : ColumnFault → ℕ
column_number (Element fault) = element_number fault
column_number RunTooLong = 17

abbrev pub column_cause : ColumnFault → List ℕ
column_cause (Element fault) = element_cause fault
column_cause RunTooLong = codes "run too long"
