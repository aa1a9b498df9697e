-- The codes of the elements of a list, one after the other.
use Rattle.std.specs.Prelude.{ℕ, List, Option}
use Rattle.std.specs.List.{concat, filter_map}

abbrev pub spelled : List (Option (List ℕ)) → List ℕ
spelled xs = concat (filter_map (λ x. x) xs)
