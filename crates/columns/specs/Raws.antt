-- Raw columns: plain bytes, taken by count.
use Rattle.std.specs.Prelude.{ℕ, ◌+◌, cond, List, length, take, drop, Ok, Err, Result, nat_le}
use Rattle.std.specs.Result.{result_map_both}
use Rattle.codec.specs.declared.element.fault.ElementFault.TheVariants.{PastEnd}
use Rattle.columns.specs.declared.fault.ColumnFault.{ColumnFault}
use Rattle.columns.specs.declared.fault.ColumnFault.TheVariants.{Element}
use Rattle.columns.specs.declared.raw.Part.{Part}
use Rattle.columns.specs.declared.raw.RawDecoder.{RawDecoder}

-- The data up to the end of a reader's column, and where in it the reader stands.
abbrev pub raw_left : RawDecoder → List ℕ × ℕ
raw_left r = (r.cursor.bytes.now, r.cursor.offset)

-- The next n bytes and where they stand; past the end where some are missing.
abbrev pub raw_at : List ℕ × ℕ → ℕ → Result (List ℕ × ℕ) ColumnFault
raw_at s n = cond (nat_le (s.1 + n) (length s.0)) (Ok (take n (drop s.1 s.0), s.1)) (Err (Element PastEnd))

-- What is left then: the bytes behind them, or nothing.
abbrev pub raw_after : List ℕ × ℕ → ℕ → List ℕ × ℕ
raw_after s n = (s.0, cond (nat_le (s.1 + n) (length s.0)) (s.1 + n) (length s.0))

-- a part by its bytes and its place
abbrev pub part_seen : Result Part ColumnFault → Result (List ℕ × ℕ) ColumnFault
part_seen r = result_map_both (λ p. (p.bytes.now, p.place)) (λ f. f) r
