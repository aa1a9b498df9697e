-- The values of a column, entry by entry: a null and the end are nothing.
use Rattle.std.specs.Prelude.{◌≡◌, ℕ, ◌-◌, ◌≤◌, List, length, take, drop, Option, option_map, Result}
use Rattle.std.specs.Option.{option_flatten}
use Rattle.std.specs.Result.{result_map_both}
use Rattle.codec.specs.Elements.{reads_text}
use Rattle.columns.specs.declared.fault.ColumnFault.{ColumnFault}
use Rattle.columns.specs.declared.column_decoder.columns.TextPart.{TextPart}
use Rattle.columns.specs.Column.{Entry, first, entries}
use Rattle.columns.specs.Law.{Every}

abbrev pub value : {M : Type 0} → List (Entry M) → Result (Option M) ColumnFault
value es = result_map_both (λ entry. option_map (λ x. x.element) (option_flatten entry)) (λ f. f) (first es)

-- a text with the place where it stands: right before the end of its code
abbrev pub text_value : List (Entry (List ℕ)) → Result (Option (List ℕ × ℕ)) ColumnFault
text_value es = result_map_both (λ entry. option_map (λ x. (x.element, x.end - length x.element)) (option_flatten entry)) (λ f. f) (first es)

abbrev pub text_seen : TextPart → List ℕ × ℕ
text_seen t = (t.text.now, t.place)

-- It does stand there, whatever the data are.
pub record Stands (d text : List ℕ) (end : ℕ) : Type 0 where
  pub room : length text ≤ end
  pub inside : end ≤ length d
  pub there : take (length text) (drop (end - length text) d) ≡ text

abbrev pub TextsStand : Type 0
TextsStand = (d : List ℕ) (p : ℕ) → Every (Stands d) (entries reads_text d p)
