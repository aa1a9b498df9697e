-- Boolean columns: unsigned lengths of alternating runs, the first of which is of false. A run of length 0 only changes
-- the value, and is bytes all the same.
use Rattle.std.specs.Prelude.{◌≡◌, ℕ, zero, suc, ◌+◌, ◌≤◌, Bool, true, false, not, cond, List, [], ◌∷◌, ◌++◌, map, length, drop, replicate, Some, Ok, Err, nat_le}
use Rattle.std.specs.List.{flat_map, list_any}
use Rattle.std.proofs.Math.Bool.{beq}
use Rattle.codec.specs.Leb128.{uleb, read_unsigned}
use Rattle.columns.specs.declared.boolean.BooleanDecoder.{BooleanDecoder}
use Rattle.columns.specs.Column.{Entry, item, fault, hollowed}
use Rattle.columns.specs.Runs.{Outcome, number}
use Rattle.columns.specs.Law.{plain}

-- What a column means, whatever its bytes are: its flags, each with the place where the code of its run's length
-- ends. d is the data up to the column's end.
module _ (d : List ℕ) where
  -- a length at p, of a run of the value, and what follows it
  abbrev pub of_length : Outcome ℕ → Bool → ℕ → (Bool → ℕ → List (Entry Bool)) → List (Entry Bool)
  of_length (Ok r) value p k = hollowed (replicate r.0 (item value (p + r.1)) ++ k (not value) (p + r.1))
  of_length (Err f) value p k = fault f ∷ []

  -- the flags from p on, with as many lengths as fuel has; the length of the data is enough
  abbrev pub flags_by : ℕ → Bool → ℕ → List (Entry Bool)
  flags_by zero value p = []
  flags_by (suc fuel) value p = cond (nat_le (length d) p) [] (of_length (number (read_unsigned (drop p d))) value p (flags_by fuel))

  -- The flags of the lengths from p up to the end of d, where the first is of a run of the value.
  abbrev pub flags : Bool → ℕ → List (Entry Bool)
  flags value p = flags_by (length d) value p

-- What is left of a reader's column: of the run at hand, and then of the data.
abbrev pub flags_left : BooleanDecoder → List (Entry Bool)
flags_left r = replicate r.count (item r.value r.cursor.offset) ++ flags r.cursor.bytes.now (not r.value) r.cursor.offset

-- one flag more in the first run
abbrev pub longer : List ℕ → List ℕ
longer [] = 1 ∷ []
longer (n ∷ ns) = suc n ∷ ns

-- The lengths of the alternating runs of a list, where the first run is of the value.
abbrev pub flag_runs : Bool → List Bool → List ℕ
flag_runs value [] = []
flag_runs value (x ∷ xs) = cond (beq x value) (longer (flag_runs value xs)) (0 ∷ longer (flag_runs x xs))

-- The bytes of a boolean column.
abbrev pub flag_column : List Bool → List ℕ
flag_column xs = flat_map uleb (flag_runs false xs)

abbrev pub any_true : List Bool → Bool
any_true xs = list_any (λ x. x) xs

-- The same, where false alone takes no bytes.
abbrev pub maybe_flag_column : List Bool → List ℕ
maybe_flag_column xs = cond (any_true xs) (flag_column xs) []

-- the flags of alternating runs, where the first is of the value
abbrev pub of_runs : Bool → List ℕ → List Bool
of_runs value [] = []
of_runs value (n ∷ ns) = replicate n value ++ of_runs (not value) ns

-- no run is empty
abbrev pub Full : List ℕ → Type 0
Full [] = Unit {0}
Full (n ∷ ns) = (1 ≤ n) × Full ns

-- no run is empty but the first, and it neither if it is the only one
abbrev pub LargestRuns : List ℕ → Type 0
LargestRuns [] = Unit {0}
LargestRuns (n ∷ []) = 1 ≤ n
LargestRuns (n ∷ m ∷ ns) = Full (m ∷ ns)

-- The runs of a list are a cut of it, each run as large as it can be, and there is no other such cut.
pub record FlagCut (xs : List Bool) : Type 0 where
  pub all : of_runs false (flag_runs false xs) ≡ xs
  pub largest : LargestRuns (flag_runs false xs)
  pub only : (ns : List ℕ) → of_runs false ns ≡ xs → LargestRuns ns → ns ≡ flag_runs false xs

-- The data from p on is the boolean column of these flags: reading gives every one, in order, and then the end.
pub record FlagsAt (xs : List Bool) (d : List ℕ) (p : ℕ) : Type 0 where
  pub back : map plain (flags d false p) ≡ map Some (map Some xs)

-- The same where false alone takes no bytes: if none is true, reading gives the end.
pub record MaybeFlagsAt (xs : List Bool) (d : List ℕ) (p : ℕ) : Type 0 where
  pub back : any_true xs ≡ true → map plain (flags d false p) ≡ map Some (map Some xs)
  pub none : any_true xs ≡ false → (drop p d ≡ []) × (flags d false p ≡ [])

-- What is written for flags is such a column, wherever it stands at the end of data.
abbrev pub FlagsBack : List Bool → Type 0
FlagsBack xs = (d : List ℕ) (p : ℕ) → drop p d ≡ flag_column xs → FlagsAt xs d p

abbrev pub MaybeFlagsBack : List Bool → Type 0
MaybeFlagsBack xs = (d : List ℕ) (p : ℕ) → drop p d ≡ maybe_flag_column xs → MaybeFlagsAt xs d p
