-- One arm of the machine after the other: what is still to be written before it and after it.
use Rattle.std.proofs.Common.{◌≡◌, ℕ, suc, ◌+◌, ◌-◌, ◌^◌, ◌<◌, ◌≤◌, List, [], ◌∷◌, ◌++◌, map, length, take, drop, replicate, pos, negsuc, Some, None, Option, sym, refl, ap, ◌∙◌, subst, append_assoc, arith, length-append, ◌⊎◌, inl, inr}
use Rattle.std.specs.Option.{option_map}
use Rattle.std.proofs.lemmas.List.{map_push, append-nil, length-map}
use Rattle.codec.specs.Leb128.{uleb, sleb}
use Rattle.columns.specs.declared.rle.state.RleState.{RleState}
use Rattle.columns.specs.declared.rle.state.RleState.TheVariants.{Empty, InitialNullRun, NullRun, LoneVal, Run, LiteralRun}
use Rattle.columns.specs.Came.{coming}
use Rattle.columns.specs.Cut.{nulls, run, group_code, packed, written}
use Rattle.columns.specs.Spelled.{spelled}
use Rattle.columns.specs.Machine.{Pending, Sound, Turn, to_come}
use Rattle.columns.proofs.Parts.{shifted, literal_pop, literal_push, last_push, part_code, part_none, part_end, at_end, nulls_some, first_some, run_none, run_some, literal_twice, none_alone}

abbrev Codes : Type 0
Codes = List (Option (List ℕ))

pub coming_few : {X C : Type 0} (code : X → Option (List ℕ)) (entries : C → List X) → ((s : C) → length (entries s) < 2 ^ 63) → (s : C) → length (coming code entries s) < 2 ^ 63
coming_few code entries few s = omega (arith, length-map (entries s) code, few s)

-- a literal run's bytes, by the entries from where it began
abbrev literal_bytes : Codes → ℕ → List ℕ
literal_bytes start count = sleb (negsuc (count - 1)) ++ spelled (take count start)

module _ {T M C : Type 0} {code : M → List ℕ} {means : T → M} {list : C → Codes} where
  pending_size : {xs : Codes} {start : C} {count : ℕ} {v : T} (k : Pending code means list xs start count v) → count ≡ suc (length (k.more ++ code (means v) ∷ []))
  pending_size {v = v} k = omega (arith, k.size, length-append k.more (code (means v) ∷ []))

  literal_few : {xs : Codes} {start : C} {count : ℕ} {v : T} → length (list start) < 2 ^ 63 → Pending code means list xs start count v → (2 ≤ count) × (count + length xs < 2 ^ 63)
  literal_few {xs} {start} {count} {v} few k =
      let more : List (List ℕ) = k.more ++ code (means v) ∷ [] in
      let e = ap length k.part in
      let m = length-append (map Some more) xs in
      let n = length-map more (λ (x : List ℕ). Some x) in
      let p = length-append k.more (code (means v) ∷ []) in
      (omega (arith, k.size), omega (arith, few, k.size))

  module _ {at : C} {was : RleState T C} {arrival : Option T} (turn : Turn code means list at was arrival) where
    abbrev tail : Codes
    tail = drop 1 (list at)

    abbrev come : RleState T C → Codes → List ℕ
    come = to_come code means list

    -- a next state is sound, and these bytes and what it still writes are what the last state still wrote
    abbrev Next : List ℕ → RleState T C → Type 0
    Next bytes st = Sound code means list tail st × (come was (list at) ≡ bytes ++ come st tail)

    -- the same, where nothing was written
    abbrev Stay : RleState T C → Type 0
    Stay st = Sound code means list tail st × (come was (list at) ≡ come st tail)

    front : (a : Option T) → arrival ≡ a → list at ≡ option_map code (option_map means a) ∷ tail
    front a e = turn.comes ∙ ap (λ (b : Option T). option_map code (option_map means b) ∷ tail) e

    begin : (st : RleState T C) (a : Option T) → was ≡ st → arrival ≡ a → come was (list at) ≡ come st (option_map code (option_map means a) ∷ tail)
    begin st a w₀ w₁ = ap (λ (s : RleState T C). come s (list at)) w₀ ∙ ap (come st) (front a w₁)

    known : (st : RleState T C) → was ≡ st → Sound code means list (list at) st
    known st w₀ = subst (Sound code means list (list at)) w₀ turn.sound

    sized : (a : Option T) → arrival ≡ a → length (list at) ≡ suc (length tail)
    sized a w₁ = ap length (front a w₁)

    -- an element, as what is still to be written has it
    lone : {x : T} → arrival ≡ Some x → packed (Some (code (means x)) ∷ tail) ≡ come (LoneVal at x) tail
    lone {x} w₁ = ap packed (sym (front (Some x) w₁))

    -- after what was written, one null
    null_sound : length (list at) < 2 ^ 63 → arrival ≡ None → Sound code means list tail (NullRun 1)
    null_sound few w₁ = (omega arith, omega (arith, sized None w₁))

    pub empty_none : length (list at) < 2 ^ 63 → was ≡ Empty → arrival ≡ None → Stay (InitialNullRun 1)
    empty_none few w₀ w₁ = (null_sound few w₁, begin Empty None w₀ w₁)

    pub empty_some : {x : T} → was ≡ Empty → arrival ≡ Some x → Stay (LoneVal at x)
    empty_some {x} w₀ w₁ = (front (Some x) w₁, begin Empty (Some x) w₀ w₁ ∙ lone w₁)

    pub first_none : {n : ℕ} → was ≡ InitialNullRun n → arrival ≡ None → Stay (InitialNullRun (n + 1))
    first_none {n} w₀ w₁ = let k = known (InitialNullRun n) w₀ in ((omega arith, omega (arith, sized None w₁)), begin (InitialNullRun n) None w₀ w₁ ∙ ap written (shifted n None tail))

    pub first_then_some : {n : ℕ} {x : T} → was ≡ InitialNullRun n → arrival ≡ Some x → Next (sleb (pos 0) ++ uleb n) (LoneVal at x)
    first_then_some {n} {x} w₀ w₁ = (
      front (Some x) w₁,
      begin (InitialNullRun n) (Some x) w₀ w₁ ∙ first_some n (code (means x)) tail (known (InitialNullRun n) w₀).0 ∙ ap (λ (l : List ℕ). group_code (nulls n) ++ l) (lone w₁),
    )

    pub nulls_none : {n : ℕ} → was ≡ NullRun n → arrival ≡ None → Stay (NullRun (n + 1))
    nulls_none {n} w₀ w₁ = let k = known (NullRun n) w₀ in ((omega arith, omega (arith, sized None w₁)), begin (NullRun n) None w₀ w₁ ∙ ap packed (shifted n None tail))

    pub nulls_then_some : {n : ℕ} {x : T} → was ≡ NullRun n → arrival ≡ Some x → Next (sleb (pos 0) ++ uleb n) (LoneVal at x)
    nulls_then_some {n} {x} w₀ w₁ = (
      front (Some x) w₁,
      begin (NullRun n) (Some x) w₀ w₁ ∙ nulls_some n (code (means x)) tail (known (NullRun n) w₀).0 ∙ ap (λ (l : List ℕ). group_code (nulls n) ++ l) (lone w₁),
    )

    pub lone_none : {start : C} {v : T} → length (list at) < 2 ^ 63 → was ≡ LoneVal start v → arrival ≡ None → Next (literal_bytes (list start) 1) (NullRun 1)
    lone_none {start} {v} few w₀ w₁ =
        let c = code (means v) in
        (null_sound few w₁, begin (LoneVal start v) None w₀ w₁ ∙ part_none (list start) tail 1 c [] refl (known (LoneVal start v) w₀ ∙ ap (λ (l : Codes). Some c ∷ l) (front None w₁)) tt)

    pub lone_same : {start : C} {v x : T} → length (list start) < 2 ^ 63 → was ≡ LoneVal start v → arrival ≡ Some x → code (means v) ≡ code (means x) → Stay (Run x 2)
    lone_same {start} {v} {x} few w₀ w₁ e =
        let k = known (LoneVal start v) w₀ ∙ ap (λ (l : Codes). Some (code (means v)) ∷ l) (front (Some x) w₁) in
        ((omega arith, omega (arith, ap length k)), begin (LoneVal start v) (Some x) w₀ w₁ ∙ ap packed k ∙ ap (λ (c : List ℕ). packed (Some c ∷ Some (code (means x)) ∷ tail)) e)

    pub lone_other : {start : C} {v x : T} → was ≡ LoneVal start v → arrival ≡ Some x → (code (means v) ≡ code (means x) → ⊥) → Stay (LiteralRun start 2 x)
    lone_other {start} {v} {x} w₀ w₁ ne = (
      record { first = code (means v); more = []; size = refl; part = known (LoneVal start v) w₀ ∙ ap (λ (l : Codes). Some (code (means v)) ∷ l) (front (Some x) w₁); unlike = (ne, tt) },
      begin (LoneVal start v) (Some x) w₀ w₁,
    )

    pub run_then_null : {v : T} {n : ℕ} → length (list at) < 2 ^ 63 → was ≡ Run v n → arrival ≡ None → Next (sleb (pos n) ++ code (means v)) (NullRun 1)
    run_then_null {v} {n} few w₀ w₁ = (null_sound few w₁, begin (Run v n) None w₀ w₁ ∙ run_none n (code (means v)) tail (known (Run v n) w₀).0)

    pub run_same : {v x : T} {n : ℕ} → was ≡ Run v n → arrival ≡ Some x → code (means v) ≡ code (means x) → Stay (Run v (n + 1))
    run_same {v} {x} {n} w₀ w₁ e =
        let k = known (Run v n) w₀ in
        let c = code (means v) in
        ((omega arith, omega (arith, sized (Some x) w₁)), begin (Run v n) (Some x) w₀ w₁ ∙ ap (λ (d : List ℕ). packed (replicate n (Some c) ++ Some d ∷ tail)) (sym e) ∙ ap packed (shifted n (Some c) tail))

    pub run_then_other : {v x : T} {n : ℕ} → was ≡ Run v n → arrival ≡ Some x → (code (means v) ≡ code (means x) → ⊥) → Next (sleb (pos n) ++ code (means v)) (LoneVal at x)
    run_then_other {v} {x} {n} w₀ w₁ ne = (
      front (Some x) w₁,
      begin (Run v n) (Some x) w₀ w₁ ∙ run_some n (code (means v)) (code (means x)) tail (known (Run v n) w₀).0 ne ∙ ap (λ (l : List ℕ). group_code (run n (code (means v))) ++ l) (lone w₁),
    )

    pub literal_size : {start : C} {count : ℕ} {v : T} → length (list start) < 2 ^ 63 → was ≡ LiteralRun start count v → (2 ≤ count) × (count + length (list at) < 2 ^ 63)
    literal_size {start} {count} {v} few w₀ = literal_few few (known (LiteralRun start count v) w₀)

    pub literal_then_null : {start : C} {count : ℕ} {v : T} → length (list at) < 2 ^ 63 → was ≡ LiteralRun start count v → arrival ≡ None → Next (literal_bytes (list start) count) (NullRun 1)
    literal_then_null {start} {count} {v} few w₀ w₁ =
        let k = known (LiteralRun start count v) w₀ in
        let more : List (List ℕ) = k.more ++ code (means v) ∷ [] in
        (null_sound few w₁, begin (LiteralRun start count v) None w₀ w₁ ∙ part_none (list start) tail count k.first more (pending_size k) (k.part ∙ ap (λ (l : Codes). (Some k.first ∷ map Some more) ++ l) (front None w₁)) k.unlike)

    pub literal_then_same : {start : C} {count : ℕ} {v x : T} → length (list start) < 2 ^ 63 → was ≡ LiteralRun start count v → arrival ≡ Some x → code (means v) ≡ code (means x) → Next (literal_bytes (list start) (count - 1)) (Run x 2)
    literal_then_same {start} {count} {v} {x} few w₀ w₁ e =
        let k = known (LiteralRun start count v) w₀ in
        let z = literal_size few w₀ in
        let c = code (means v) in
        let d = code (means x) in
        let p = literal_pop k.first k.more c k.unlike in
        let head : Codes = Some k.first ∷ map Some k.more in
        let cut : list start ≡ head ++ Some c ∷ list at = k.part ∙ ap (λ (l : Codes). (Some k.first ∷ l) ++ list at) (map_push Some k.more c) ∙ append_assoc head (Some c ∷ []) (list at) in (
          (omega arith, omega (arith, sized (Some x) w₁)),
          begin (LiteralRun start count v) (Some x) w₀ w₁
              ∙ ap packed (cut ∙ ap (λ (l : Codes). head ++ Some c ∷ l) (front (Some x) w₁))
              ∙ ap (λ (b : List ℕ). packed (head ++ Some b ∷ Some d ∷ tail)) e
              ∙ literal_twice k.first k.more d tail p.0 (λ q. p.1 (q ∙ sym e))
              ∙ ap (λ (b : List ℕ). b ++ packed (Some d ∷ Some d ∷ tail)) (sym (part_code (list start) (Some c ∷ list at) (count - 1) k.first k.more (omega (arith, k.size)) cut)),
        )

    pub literal_then_other : {start : C} {count : ℕ} {v x : T} → was ≡ LiteralRun start count v → arrival ≡ Some x → (code (means v) ≡ code (means x) → ⊥) → Stay (LiteralRun start (count + 1) x)
    literal_then_other {start} {count} {v} {x} w₀ w₁ ne =
        let k = known (LiteralRun start count v) w₀ in
        let more : List (List ℕ) = k.more ++ code (means v) ∷ [] in
        let head : Codes = Some k.first ∷ map Some more in (
          record {
            first = k.first;
            more = more;
            size = omega (arith, k.size, length-append k.more (code (means v) ∷ []));
            part = k.part ∙ ap (λ (l : Codes). head ++ l) (front (Some x) w₁) ∙ sym (append_assoc head (Some (code (means x)) ∷ []) tail) ∙ ap (λ (l : Codes). (Some k.first ∷ l) ++ tail) (sym (map_push Some more (code (means x))));
            unlike = literal_push k.first more (code (means x)) k.unlike (λ q. ne (sym (last_push k.first k.more (code (means v))) ∙ q));
          },
          begin (LiteralRun start count v) (Some x) w₀ w₁,
        )

-- at the end
module _ {T M C : Type 0} (code : M → List ℕ) (means : T → M) (list : C → Codes) where
  module _ {was : RleState T C} (sound : Sound code means list [] was) where
    known_last : (st : RleState T C) → was ≡ st → Sound code means list [] st
    known_last st is = subst (Sound code means list []) is sound

    last_come : (st : RleState T C) → was ≡ st → to_come code means list was [] ≡ to_come code means list st []
    last_come st is = ap (λ (s : RleState T C). to_come code means list s []) is

    pub end_silent : (was ≡ Empty) ⊎ ((n : ℕ) × (was ≡ InitialNullRun n)) → to_come code means list was [] ≡ []
    end_silent (inl is) = last_come Empty is
    end_silent (inr is) = last_come (InitialNullRun is.0) is.1 ∙ none_alone is.0

    pub end_nulls : {n : ℕ} → was ≡ NullRun n → to_come code means list was [] ≡ sleb (pos 0) ++ uleb n
    end_nulls {n} is = last_come (NullRun n) is ∙ at_end (nulls n) (known_last (NullRun n) is).0 ∙ append-nil (group_code (nulls n))

    pub end_lone : {start : C} {v : T} → was ≡ LoneVal start v → to_come code means list was [] ≡ literal_bytes (list start) 1
    end_lone {start} {v} is = last_come (LoneVal start v) is ∙ part_end (list start) 1 (code (means v)) [] refl (known_last (LoneVal start v) is) tt

    pub end_run : {v : T} {n : ℕ} → was ≡ Run v n → to_come code means list was [] ≡ sleb (pos n) ++ code (means v)
    end_run {v} {n} is = last_come (Run v n) is ∙ at_end (run n (code (means v))) (known_last (Run v n) is).0 ∙ append-nil (group_code (run n (code (means v))))

    pub end_size : {start : C} {count : ℕ} {v : T} → length (list start) < 2 ^ 63 → was ≡ LiteralRun start count v → (0 < count) × (count < 2 ^ 63)
    end_size {start} {count} {v} few is = let z = literal_few few (known_last (LiteralRun start count v) is) in (omega arith, omega arith)

    pub end_literal : {start : C} {count : ℕ} {v : T} → was ≡ LiteralRun start count v → to_come code means list was [] ≡ literal_bytes (list start) count
    end_literal {start} {count} {v} is =
        let k = known_last (LiteralRun start count v) is in
        last_come (LiteralRun start count v) is ∙ part_end (list start) count k.first (k.more ++ code (means v) ∷ []) (pending_size k) k.part k.unlike
