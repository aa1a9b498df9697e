-- What a sink holds after bytes were told to it.
use Rattle.std.specs.Prelude.{◌≡◌, ℕ, Bool, true, false, cond, ◌&&◌, List, [], ◌∷◌, ◌++◌, length, drop, ◌==◌, nat_lt, slice_index}

-- on what is held, whether a next byte is taken
abbrev pub Rule : Type 0
Rule = List ℕ → ℕ → Bool

-- a sink's state: the bytes that it holds, its memory that holds none yet, and what no call changes
pub record Holding (K : Type 0) : Type 0 where
  pub held : List ℕ
  pub free : List ℕ
  pub kept : K

abbrev pub holding : {K : Type 0} → List ℕ → List ℕ → K → Holding K
holding h f k = record { held = h; free = f; kept = k }

abbrev pub says : {K : Type 0} → (K → Rule) → Holding K → ℕ → Bool
says rule s b = rule s.kept s.held b

-- one byte more, in the first free place
abbrev pub more : {K : Type 0} → Holding K → ℕ → Holding K
more s b = holding (s.held ++ b ∷ []) (drop 1 s.free) s.kept

-- What telling one byte to a sink does: it is held last, or refused and nothing changed.
pub record Offered {K : Type 0} (rule : K → Rule) (s : Holding K) (byte : ℕ) (ok : Bool) (t : Holding K) : Type 0 where
  pub answer : ok ≡ says rule s byte
  pub after : t ≡ cond ok (more s byte) s

-- the longest beginning of the bytes that is taken, one after the other
abbrev pub beginning : Rule → List ℕ → List ℕ → List ℕ
beginning rule held [] = []
beginning rule held (b ∷ bs) = cond (rule held b) (b ∷ beginning rule (held ++ b ∷ []) bs) []

-- What telling bytes to a sink does: it then holds the longest beginning that it took, in its first
-- free places; that is all of them where it answers ok, and else the next byte is one that it refuses.
pub record Told {K : Type 0} (rule : K → Rule) (s : Holding K) (bytes : List ℕ) (ok : Bool) (t : Holding K) : Type 0 where
  pub holds : t.held ≡ s.held ++ beginning (rule s.kept) s.held bytes
  pub rest : t.free ≡ drop (length (beginning (rule s.kept) s.held bytes)) s.free
  pub same : t.kept ≡ s.kept
  pub whole : ok ≡ true → beginning (rule s.kept) s.held bytes ≡ bytes
  pub refused : ok ≡ false → (b : ℕ) × (after : List ℕ) × (bytes ≡ beginning (rule s.kept) s.held bytes ++ b ∷ after) × (rule s.kept t.held b ≡ false)

-- the rule of a buffer of so many places: yes while there is a free one
abbrev pub roomy : ℕ → Rule
roomy places held b = nat_lt (length held) places

-- the rule of a check: yes to the next of the expected bytes
abbrev pub expecting : List ℕ → Rule
expecting expected held b = nat_lt (length held) (length expected) && slice_index expected (length held) == b
