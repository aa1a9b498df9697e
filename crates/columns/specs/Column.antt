-- What a run column means, whatever its bytes are: the list of its entries.
--
-- An entry is a null, or an element with the place in the data where its code ends. A fault is the last entry. So is
-- a hollow end: empty runs with no entry behind them, which a reader passes over, but which are bytes all the same.
use Rattle.std.specs.Prelude.{ℕ, zero, suc, ◌+◌, Bool, true, false, cond, List, [], ◌∷◌, ◌++◌, length, drop, replicate, Some, None, Ok, Err, Option, option_map, Result, ◌==◌, nat_le}
use Rattle.std.specs.Result.{result_map_both}
use Rattle.codec.specs.Elements.{Reading}
use Rattle.columns.specs.declared.fault.ColumnFault.{ColumnFault}
use Rattle.columns.specs.declared.rle.run.Run.{Run}
use Rattle.columns.specs.declared.rle.run.Run.TheVariants.{Null, Same, Literal}
use Rattle.columns.specs.declared.rle.run.Head.{Head}
use Rattle.columns.specs.declared.rle.run.Placed.{Placed}
use Rattle.columns.specs.declared.rle.RleDecoder.{RleDecoder}
use Rattle.columns.specs.Runs.{Outcome, element, run_by, header}

pub data Entry (M : Type 0) : Type 0 where
  null : Entry M
  item : M → ℕ → Entry M
  fault : ColumnFault → Entry M
  hollow : Entry M

-- what a reader answers, by what its element means
abbrev pub placed_by : {T M : Type 0} → (T → M) → Placed T → Placed M
placed_by means x = record { element = means x.element; end = x.end }

abbrev pub next_by : {T M : Type 0} → (T → M) → Result (Option (Option (Placed T))) ColumnFault → Result (Option (Option (Placed M))) ColumnFault
next_by means r = result_map_both (option_map (option_map (placed_by means))) (λ f. f) r

module _ {M : Type 0} where
  -- What a reader of the entries answers, and leaves.
  abbrev pub first : List (Entry M) → Result (Option (Option (Placed M))) ColumnFault
  first [] = Ok None
  first (null ∷ _) = Ok (Some None)
  first (item m p ∷ _) = Ok (Some (Some (record { element = m; end = p })))
  first (fault f ∷ _) = Err f
  first (hollow ∷ _) = Ok None

  abbrev pub others : List (Entry M) → List (Entry M)
  others [] = []
  others (null ∷ es) = es
  others (item m p ∷ es) = es
  others (fault f ∷ es) = []
  others (hollow ∷ es) = []

  -- whether nothing is left, not even a hollow end
  abbrev pub none : List (Entry M) → Bool
  none [] = true
  none (e ∷ es) = false

  -- an element written out at p, and what follows it
  abbrev pub written : Outcome M → ℕ → (ℕ → List (Entry M)) → List (Entry M)
  written (Ok r) p k = item r.0 (p + r.1) ∷ k (p + r.1)
  written (Err f) p k = fault f ∷ []

  -- an empty run, and what follows it
  abbrev pub hollowed : List (Entry M) → List (Entry M)
  hollowed [] = hollow ∷ []
  hollowed (e ∷ es) = e ∷ es

-- d is the data up to the column's end
module _ {M : Type 0} (reads : List ℕ → Reading M) (d : List ℕ) where
  -- n elements written out from p on, and what follows them
  abbrev pub spread : ℕ → ℕ → (ℕ → List (Entry M)) → List (Entry M)
  spread zero p k = k p
  spread (suc n) p k = written (element (reads (drop p d))) p (λ q. spread n q k)

  -- a run of n whose header ends at p, and what follows it
  abbrev pub of_run : Run M → ℕ → ℕ → (ℕ → List (Entry M)) → List (Entry M)
  of_run Null n p k = replicate n null ++ k p
  of_run (Same m) n p k = replicate n (item m p) ++ k p
  of_run Literal n p k = spread n p k

  -- what a header at p stands for
  abbrev pub of_header : Outcome (Head M) → ℕ → (ℕ → List (Entry M)) → List (Entry M)
  of_header (Ok r) p k = cond (r.0.count == 0) (hollowed (k (p + r.1))) (of_run r.0.run r.0.count (p + r.1) k)
  of_header (Err f) p k = fault f ∷ []

  -- the entries from p on, with as many headers as fuel has; the length of the data is enough
  abbrev pub column : ℕ → ℕ → List (Entry M)
  column zero p = []
  column (suc fuel) p = cond (nat_le (length d) p) [] (of_header (header reads (drop p d)) p (column fuel))

  -- The entries of the column that stands from p up to the end of d.
  abbrev pub entries : ℕ → List (Entry M)
  entries p = column (length d) p

-- What is left of a reader's column: of the run at hand, and then of the data.
abbrev pub remains : {T M : Type 0} → (List ℕ → Reading M) → (T → M) → RleDecoder T → List (Entry M)
remains reads means r =
    of_run reads r.cursor.bytes.now (run_by means r.head.run) r.head.count r.cursor.offset (entries reads r.cursor.bytes.now)
