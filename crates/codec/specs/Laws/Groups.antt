-- The groups of a number: their value, and how many they are.
use Rattle.std.specs.Prelude.{◌≡◌, ℕ, zero, suc, ◌+◌, ◌*◌, ◌/◌, ◌%◌, ◌^◌, ◌<◌, ◌≤◌, Bool, true, false, List, [], ◌∷◌, length, nat_lt, refl}
use Rattle.std.proofs.Common.{sym, ◌∙◌, subst, ⊎_elim, pow-suc, mul_assoc, mul_comm, arith}
use Rattle.std.proofs.Math.Path.{ap}
use Rattle.std.proofs.lemmas.Nat.{mod_below}
use Rattle.std.proofs.lemmas.Bool.{lt-ltb, le-ltb, cases_lt, cond-true, cond-false}
use Rattle.codec.specs.Leb128.{unsigned, Framed, group, groups_by, groups}

-- the induction over the groups of a number
module _ (top : ℕ) (some : 0 < top) (P : ℕ → Type 0) (last : (n : ℕ) → n < top → P n) (step : (n : ℕ) → top ≤ n → P (n / 128) → P n) where
  go : (turns n : ℕ) → n ≤ turns → P n
  go zero n h = last n (omega arith)
  go (suc turns) n h = ⊎_elim (λ z. last n z) (λ z. step n z (go turns (n / 128) (omega arith))) (cases_lt n top)

  pub by_groups : (n : ℕ) → P n
  by_groups n = go n n (omega arith)

-- one group more holds 128 times as much
pub room_more : (top k : ℕ) → top * 128 ^ suc k ≡ 128 * (top * 128 ^ k)
room_more top k = ap (λ (p : ℕ). top * p) (pow-suc 128 k) ∙ sym (mul_assoc top (128 ^ k) 128) ∙ mul_comm (top * 128 ^ k) 128

pub room_some : (top k : ℕ) → top ≤ top * 128 ^ k
room_some top zero = omega arith
room_some top (suc k) = omega (arith, room_more top k, room_some top k)

-- bytes whose value is all bits set but for n
abbrev Lacks : ℕ → List ℕ → Type 0
Lacks n bs = unsigned bs + suc n ≡ 128 ^ length bs

pub framed_some : (bs : List ℕ) → Framed bs → 1 ≤ length bs
framed_some [] f = absurd f
framed_some (b ∷ bs) f = omega arith

pub group_below : (negative : Bool) (g : ℕ) → g < 128 → group negative g < 128
group_below true g h = omega arith
group_below false g h = h

pub framed_cons : (b : ℕ) (bs : List ℕ) → 128 ≤ b → b < 256 → Framed bs → Framed (b ∷ bs)
framed_cons b [] low high f = absurd f
framed_cons b (c ∷ bs) low high f = (low, high, f)

module _ (top : ℕ) (some : 0 < top) (most : top ≤ 128) (negative : Bool) where
  by_last : (turns n : ℕ) → n < top → groups_by turns top negative n ≡ group negative n ∷ []
  by_last zero n h = refl
  by_last (suc turns) n h = cond-true (nat_lt n top) _ _ (lt-ltb n top h)

  by_step : (turns n : ℕ) → top ≤ n → groups_by (suc turns) top negative n ≡ (128 + group negative (n % 128)) ∷ groups_by turns top negative (n / 128)
  by_step turns n h = cond-false (nat_lt n top) _ _ (le-ltb n top h)

  by_turns : (t u n : ℕ) → n ≤ t → n ≤ u → groups_by t top negative n ≡ groups_by u top negative n
  by_turns zero u n a b = let z : n < top = omega arith in sym (by_last u n z)
  by_turns (suc t) zero n a b = let z : n < top = omega arith in by_last (suc t) n z
  by_turns (suc t) (suc u) n a b =
      ⊎_elim (λ z. by_last (suc t) n z ∙ sym (by_last (suc u) n z)) (λ z. by_step t n z ∙ ap (λ (l : List ℕ). (128 + group negative (n % 128)) ∷ l) (by_turns t u (n / 128) (omega arith) (omega arith)) ∙ sym (by_step u n z)) (cases_lt n top)

  pub groups_last : (n : ℕ) → n < top → groups top negative n ≡ group negative n ∷ []
  unfolding groups
  groups_last n h = by_last n n h

  pub groups_step : (n : ℕ) → top ≤ n → groups top negative n ≡ (128 + group negative (n % 128)) ∷ groups top negative (n / 128)
  unfolding groups
  groups_step zero h = absurd (omega arith)
  groups_step (suc m) h = by_step m (suc m) h ∙ ap (λ (l : List ℕ). (128 + group negative (suc m % 128)) ∷ l) (by_turns m (suc m / 128) (suc m / 128) (omega arith) (omega arith))

  -- the same, by the byte that is written
  pub groups_next : (n bits : ℕ) → top ≤ n → bits ≡ group negative (n % 128) → groups top negative n ≡ (128 + bits) ∷ groups top negative (n / 128)
  groups_next n bits h e = groups_step n h ∙ ap (λ (b : ℕ). (128 + b) ∷ groups top negative (n / 128)) (sym e)

  -- where few turns do, for computing at large numerals
  pub groups_by_turns : (k n : ℕ) → n < top * 128 ^ k → groups top negative n ≡ groups_by k top negative n
  groups_by_turns zero n h = groups_last n (omega arith)
  groups_by_turns (suc k) n h =
      ⊎_elim
      (λ z. groups_last n z ∙ sym (by_last (suc k) n z))
      (λ z.
      let less : n / 128 < top * 128 ^ k = omega (arith, room_more top k) in
      groups_step n z ∙ ap (λ (l : List ℕ). (128 + group negative (n % 128)) ∷ l) (groups_by_turns k (n / 128) less) ∙ sym (by_step k n z))
      (cases_lt n top)

  pub framed_groups : (n : ℕ) → Framed (groups top negative n)
  framed_groups =
      by_groups top some (λ n. Framed (groups top negative n))
      (λ n h. subst Framed (sym (groups_last n h)) (group_below negative n (omega arith)))
      (λ n h f.
      let g : group negative (n % 128) < 128 = group_below negative (n % 128) (mod_below n 128 (omega arith)) in
      subst Framed (sym (groups_step n h)) (framed_cons _ _ (omega arith) (omega arith) f))

  -- as few as can hold it
  pub groups_few : (k n : ℕ) → n < top * 128 ^ k → length (groups top negative n) ≤ suc k
  groups_few zero n h = rw (groups_last n (omega arith)) (omega arith)
  groups_few (suc k) n h =
      let P : List ℕ → Type 0 = λ l. length l ≤ suc (suc k) in
      let less : n / 128 < top * 128 ^ k = omega (arith, room_more top k) in
      ⊎_elim (λ z. subst P (sym (groups_last n z)) (omega arith)) (λ z. subst P (sym (groups_step n z)) (omega (arith, groups_few k (n / 128) less))) (cases_lt n top)

  -- and no fewer
  pub groups_many : (k n : ℕ) → top * 128 ^ k ≤ n → suc k < length (groups top negative n)
  groups_many zero n h =
      let P : List ℕ → Type 0 = λ l. 1 < length l in
      subst P (sym (groups_step n (omega arith))) (omega (arith, framed_some (groups top negative (n / 128)) (framed_groups (n / 128))))
  groups_many (suc k) n h =
      let P : List ℕ → Type 0 = λ l. suc (suc k) < length l in
      let z : top ≤ n = omega (arith, room_more top k, room_some top k) in
      let next : top * 128 ^ k ≤ n / 128 = omega (arith, room_more top k) in
      subst P (sym (groups_step n z)) (omega (arith, groups_many k (n / 128) next))

-- the value of the groups is the number
pub groups_value : (top : ℕ) → 0 < top → top ≤ 128 → (n : ℕ) → unsigned (groups top false n) ≡ n
groups_value top some most =
    by_groups top some (λ n. unsigned (groups top false n) ≡ n)
    (λ n h. ap unsigned (groups_last top some most false n h) ∙ omega arith)
    (λ n h e. ap unsigned (groups_step top some most false n h) ∙ omega (arith, e))

-- and inverted, what it lacks to all bits set
pub inverted_value : (top : ℕ) → 0 < top → top ≤ 128 → (n : ℕ) → unsigned (groups top true n) + suc n ≡ 128 ^ length (groups top true n)
inverted_value top some most =
    by_groups top some (λ n. Lacks n (groups top true n))
    (λ n h. subst (Lacks n) (sym (groups_last top some most true n h)) (omega arith))
    (λ n h e. subst (Lacks n) (sym (groups_step top some most true n h)) (omega (arith, e, pow-suc 128 (length (groups top true (n / 128))))))
