-- Ranges by their two numbers, and why one is refused.
use Rattle.std.specs.Prelude.{ℕ, List, codes, cond, Ok, Err, Result, nat_le}
use Rattle.std.specs.Result.{result_map_both}
use Rattle.columns.specs.declared.range.Range.{Range}
use Rattle.columns.specs.declared.range.RangeRefused.{RangeRefused}
use Rattle.columns.specs.declared.range.RangeRefused.TheVariants.{EndBeforeStart, EndBeyondData}

abbrev pub span : Result Range RangeRefused → Result (ℕ × ℕ) RangeRefused
span r = result_map_both (λ x. (x.start, x.end)) (λ e. e) r

-- the range of two numbers
abbrev pub ranged : ℕ → ℕ → Result (ℕ × ℕ) RangeRefused
ranged start end = cond (nat_le start end) (Ok (start, end)) (Err EndBeforeStart)

-- opening a reader over so many bytes with a range that ends there
abbrev pub opening : ℕ → ℕ → Result (Unit {0}) RangeRefused
opening n end = cond (nat_le end n) (Ok tt) (Err EndBeyondData)

-- the number of each refusal
abbrev pub range_number : RangeRefused → ℕ
range_number EndBeforeStart = 1
range_number EndBeyondData = 3

-- and in words
abbrev pub range_words : RangeRefused → List ℕ
range_words EndBeforeStart = codes "the range ends before its start"
range_words EndBeyondData = codes "the range ends beyond the data"
