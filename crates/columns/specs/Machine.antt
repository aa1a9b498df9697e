-- What a state of the run writer stands for: the entries that came and are not written.
use Rattle.std.specs.Prelude.{◌≡◌, ℕ, suc, ◌+◌, ◌^◌, ◌<◌, ◌≤◌, List, [], ◌∷◌, ◌++◌, map, length, drop, replicate, Some, None, Option}
use Rattle.columns.specs.declared.rle.state.RleState.{RleState}
use Rattle.columns.specs.declared.rle.state.RleState.TheVariants.{Empty, InitialNullRun, NullRun, LoneVal, Run, LiteralRun}
use Rattle.std.specs.Option.{option_map}
use Rattle.columns.specs.Cut.{Apart, packed, written}

module _ {T M C : Type 0} (code : M → List ℕ) (means : T → M) (list : C → List (Option (List ℕ))) where
  -- a literal run that began at a place: its elements, the last one among them, and then what is to come
  pub record Pending (xs : List (Option (List ℕ))) (start : C) (count : ℕ) (last : T) : Type 0 where
    pub first : List ℕ
    pub more : List (List ℕ)
    pub size : count ≡ suc (suc (length more))
    pub part : list start ≡ (Some first ∷ map Some (more ++ code (means last) ∷ [])) ++ xs
    pub unlike : Apart first (more ++ code (means last) ∷ [])

  -- what is known of a state, where these entries are still to come
  abbrev pub Sound : List (Option (List ℕ)) → RleState T C → Type 0
  Sound xs Empty = Unit {0}
  Sound xs (InitialNullRun n) = (1 ≤ n) × (n + length xs < 2 ^ 63)
  Sound xs (NullRun n) = (1 ≤ n) × (n + length xs < 2 ^ 63)
  Sound xs (LoneVal start v) = list start ≡ Some (code (means v)) ∷ xs
  Sound xs (Run v n) = (2 ≤ n) × (n + length xs < 2 ^ 63)
  Sound xs (LiteralRun start count v) = Pending xs start count v

  -- the bytes still to be written before the end
  abbrev pub to_come : RleState T C → List (Option (List ℕ)) → List ℕ
  to_come Empty xs = written xs
  to_come (InitialNullRun n) xs = written (replicate n None ++ xs)
  to_come (NullRun n) xs = packed (replicate n None ++ xs)
  to_come (LoneVal start v) xs = packed (list start)
  to_come (Run v n) xs = packed (replicate n (Some (code (means v))) ++ xs)
  to_come (LiteralRun start count v) xs = packed (list start)

  -- a turn of the machine at a place: what arrives is the first of its entries
  pub record Turn (at : C) (was : RleState T C) (arrival : Option T) : Type 0 where
    pub comes : list at ≡ option_map code (option_map means arrival) ∷ drop 1 (list at)
    pub sound : Sound (list at) was
