-- What comes from a list to be written.
use Rattle.std.specs.Prelude.{ℕ, List, [], ◌∷◌, map, Some, None, Option}

-- a list before a step, by the step's answer and the list after it
abbrev pub came : {T : Type 0} → Option T → List T → List T
came None after = []
came (Some entry) after = entry ∷ after

-- the entries still to come at a place, by the codes of their elements
abbrev pub coming : {T C : Type 0} → (T → Option (List ℕ)) → (C → List T) → C → List (Option (List ℕ))
coming code list at = map code (list at)
