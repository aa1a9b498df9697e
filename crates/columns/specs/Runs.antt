-- Runs: what the bytes of a run column start with.
--
-- A header is a signed number n. Above 0 it stands before one code, and the run is n times that element. Below 0 it
-- stands before -n codes. 0 stands before an unsigned number, and the run is so many nulls.
use Rattle.std.specs.Prelude.{ℕ, zero, suc, ◌+◌, ◌-◌, ◌^◌, cond, List, drop, ℤ, pos, negsuc, Ok, Err, Result, nat_lt}
use Rattle.std.specs.Result.{result_map_both}
use Rattle.codec.specs.declared.parse.fault.NumberFault.{NumberFault}
use Rattle.codec.specs.Leb128.{read_unsigned, read_signed}
use Rattle.codec.specs.Elements.{Reading}
use Rattle.columns.specs.declared.fault.ColumnFault.{ColumnFault}
use Rattle.columns.specs.declared.fault.ColumnFault.TheVariants.{Element, RunTooLong}
use Rattle.columns.specs.declared.rle.run.Run.{Run}
use Rattle.columns.specs.declared.rle.run.Run.TheVariants.{Null, Same, Literal}
use Rattle.columns.specs.declared.rle.run.Shape.{Shape}
use Rattle.columns.specs.declared.rle.run.Shape.TheVariants as shapes
use Rattle.columns.specs.declared.rle.run.Head.{Head}
use Rattle.columns.specs.Faults.{number_in}

-- What bytes start with, and how many bytes it takes; or a cause.
abbrev pub Outcome : Type 0 → Type 0
Outcome A = Result (A × ℕ) ColumnFault

-- a number or an element at the front
abbrev pub number : {A : Type 0} → Result (A × ℕ) NumberFault → Outcome A
number r = result_map_both (λ p. p) number_in r

abbrev pub element : {A : Type 0} → Reading A → Outcome A
element r = result_map_both (λ p. p) Element r

-- and what stands behind it
abbrev pub and_then : {A B : Type 0} → Outcome A → (A → ℕ → Outcome B) → Outcome B
and_then (Ok p) next = next p.0 p.1
and_then (Err fault) next = Err fault

-- what a header's number says; no run is longer than 2^63 - 1
abbrev pub shape : ℤ → Result Shape ColumnFault
shape (pos zero) = Ok shapes.Nulls
shape (pos (suc n)) = Ok (shapes.Same (suc n))
shape (negsuc n) = cond (nat_lt n (2 ^ 63 - 1)) (Ok (shapes.Literal (suc n))) (Err RunTooLong)

abbrev pub shape_at : ℕ → Result Shape ColumnFault → Outcome Shape
shape_at used (Ok s) = Ok (s, used)
shape_at used (Err fault) = Err fault

abbrev pub reads_shape : List ℕ → Outcome Shape
reads_shape bytes = and_then (number (read_signed bytes)) (λ z used. shape_at used (shape z))

-- the length of a null run
abbrev pub reads_nulls : List ℕ → Outcome ℕ
reads_nulls bytes = and_then (number (read_unsigned bytes)) (λ n used. cond (nat_lt n (2 ^ 63)) (Ok (n, used)) (Err RunTooLong))

-- what was read, and a run, by what its elements mean

abbrev pub run_by : {T M : Type 0} → (T → M) → Run T → Run M
run_by means Null = Null
run_by means (Same x) = Same (means x)
run_by means Literal = Literal

abbrev pub head_by : {T M : Type 0} → (T → M) → Head T → Head M
head_by means h = record { count = h.count; run = run_by means h.run }

module _ {M : Type 0} (reads : List ℕ → Reading M) where
  -- a run of that shape, whose element or length stands at k
  abbrev pub shaped : List ℕ → Shape → ℕ → Outcome (Head M)
  shaped bytes shapes.Nulls k = and_then (reads_nulls (drop k bytes)) (λ n j. Ok (record { count = n; run = Null }, k + j))
  shaped bytes (shapes.Same n) k = and_then (element (reads (drop k bytes))) (λ m j. Ok (record { count = n; run = Same m }, k + j))
  shaped bytes (shapes.Literal n) k = Ok (record { count = n; run = Literal }, k)

  -- the run that the bytes start with: its header, which has the element of a run
  abbrev pub header : List ℕ → Outcome (Head M)
  header bytes = and_then (reads_shape bytes) (shaped bytes)
