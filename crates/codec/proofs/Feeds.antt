-- Laws of feeding an output, and what they say at a sink and at a counter.
use Rattle.std.proofs.Common.{◌≡◌, ℕ, suc, ◌+◌, ◌-◌, ◌^◌, ◌<◌, ◌≤◌, Bool, true, false, cond, ltb, List, [], ◌∷◌, ◌++◌, length, take, drop, is_ok, is_err, IfOk, Ok, Err, Result, sym, refl, ap, ◌∙◌, ⊎_elim, append_assoc, add-zero, arith, length-append}
use Rattle.std.proofs.lemmas.List.{append-nil, take_all, drop-drop, drop_at}
use Rattle.std.proofs.lemmas.Bool.{false≢true, lt-ltb, le-ltb, cases_lt, cond-true, cond-false}
use Rattle.codec.specs.Feed.{fed, Fed, countable, counted}
use Rattle.codec.specs.Sinks.{Rule, Holding, holding, says, more, beginning, Told, roomy}

module _ {S : Type 0} (takes : S → ℕ → Bool) (step : S → ℕ → S) where
  -- feeding a ++ b is feeding a, and then b if all of a was taken
  pub fed_append : (s : S) (a b : List ℕ) → fed takes step s (a ++ b) ≡ cond (fed takes step s a).0 (fed takes step (fed takes step s a).1 b) (fed takes step s a)
  fed_append s [] b = refl
  fed_append s (x ∷ a) b =
      let onward : Bool × S → Bool × S = λ r. cond r.0 (fed takes step r.1 b) r in
      elim (takes s x) as (λ v. cond v (fed takes step (step s x) (a ++ b)) (false, s) ≡ onward (cond v (fed takes step (step s x) a) (false, s))) [ true ↦ fed_append (step s x) a b | false ↦ refl ]

  -- the count grows by the bytes
  module _ (size : S → ℕ) (grows : (s : S) (b : ℕ) → size (step s b) ≡ size s + 1) where
    pub fed_size : (s t : S) (a : List ℕ) → fed takes step s a ≡ (true, t) → size t ≡ size s + length a
    fed_size s t [] e = sym (add-zero (size s) ∙ ap (λ (q : Bool × S). size q.1) e)
    fed_size s t (x ∷ a) e =
        let P : Bool → Type 0 = λ v. cond v (fed takes step (step s x) a) (false, s) ≡ (true, t) → size t ≡ size s + suc (length a) in
        let go : P (takes s x) = elim (takes s x) as P [ true ↦ (λ h. omega (arith, fed_size (step s x) t a h, grows s x)) | false ↦ (λ h. absurd (false≢true (ap (λ (q : Bool × S). q.0) h))) ] in
        go e

-- after a call that took all of a, one that was fed b
pub fed_then : {S : Type 0} {takes : S → ℕ → Bool} {step : S → ℕ → S} {s t u : S} {a b : List ℕ} {ok : Bool} → Fed takes step s a true t → Fed takes step t b ok u → Fed takes step s (a ++ b) ok u
fed_then {S} {takes} {step} {s} {t} {u} {a} {b} first next =
    let onward : Bool × S → Bool × S = λ q. cond q.0 (fed takes step q.1 b) q in
    record { is = fed_append takes step s a b ∙ ap onward first.is ∙ next.is }

-- after a call that was refused in a, none: r is what the exit of the `?` returns
pub fed_exit : {S : Type 0} {takes : S → ℕ → Bool} {step : S → ℕ → S} {s t : S} {a : List ℕ} {T E : Type 0} (b : List ℕ) (r : Result T E) → is_err r ≡ true → Fed takes step s a false t → Fed takes step s (a ++ b) (is_ok r) t
fed_exit b (Ok x) e first = absurd (false≢true e)
fed_exit {S} {takes} {step} {s} {a = a} b (Err x) e first =
    let onward : Bool × S → Bool × S = λ q. cond q.0 (fed takes step q.1 b) q in
    record { is = fed_append takes step s a b ∙ ap onward first.is }

-- the same bytes by another name
pub fed_same : {S : Type 0} {takes : S → ℕ → Bool} {step : S → ℕ → S} {s t : S} {a b : List ℕ} {ok : Bool} → a ≡ b → Fed takes step s a ok t → Fed takes step s b ok t
fed_same {S} {takes} {step} {s} {t} {a} {b} {ok} e f = record { is = ap (fed takes step s) (sym e) ∙ f.is }

-- A loop that writes keeps this: what is left to write, from here, comes to what all of it comes to, from the start.
-- Each turn writes a of what is left, and then b is left.
module _ {S : Type 0} {takes : S → ℕ → Bool} {step : S → ℕ → S} {s t : S} {whole : Bool × S} (left a b : List ℕ) (inv : fed takes step s left ≡ whole) (parts : left ≡ a ++ b) where
  pub fed_on : Fed takes step s a true t → fed takes step t b ≡ whole
  fed_on first = sym (ap (fed takes step s) parts ∙ (fed_then {a = a} {b = b} first (record { is = refl })).is) ∙ inv

  -- a turn that was refused a byte ends it: r is what the exit of the `?` returns
  pub fed_stop : {T E : Type 0} (r : Result T E) → is_err r ≡ true → Fed takes step s a false t → whole ≡ (is_ok r, t)
  fed_stop r e first = sym inv ∙ ap (fed takes step s) parts ∙ (fed_exit b r e first).is

-- what a sink comes to when it is fed: whether all was taken, and the state
came : {K : Type 0} → (K → Rule) → Holding K → List ℕ → Bool × Holding K → Type 0
came rule s bs r =
    let taken = beginning (rule s.kept) s.held bs in
    (r.1 ≡ holding (s.held ++ taken) (drop (length taken) s.free) s.kept)
    × (r.0 ≡ true → taken ≡ bs)
    × (r.0 ≡ false → (b : ℕ) × (after : List ℕ) × (bs ≡ taken ++ b ∷ after) × (rule s.kept (s.held ++ taken) b ≡ false))

fed_sink : {K : Type 0} (rule : K → Rule) (s : Holding K) (bs : List ℕ) → came rule s bs (fed (says rule) more s bs)
unfolding came
fed_sink {K} rule s [] =
    (ap (λ (h : List ℕ). holding h s.free s.kept) (sym (append-nil s.held)), λ _. refl, λ e. absurd (false≢true (sym e)))
fed_sink {K} rule s (b ∷ bs) =
    let k = s.kept in
    let one = b ∷ [] in
    let P : Bool → Type 0 = λ v.
    rule k s.held b ≡ v →
    ((cond v (fed (says rule) more (more s b) bs) (false, s)).1 ≡ holding (s.held ++ cond v (b ∷ beginning (rule k) (s.held ++ one) bs) []) (drop (length (cond v (b ∷ beginning (rule k) (s.held ++ one) bs) [])) s.free) k)
    × ((cond v (fed (says rule) more (more s b) bs) (false, s)).0 ≡ true → cond v (b ∷ beginning (rule k) (s.held ++ one) bs) [] ≡ b ∷ bs)
    × ((cond v (fed (says rule) more (more s b) bs) (false, s)).0 ≡ false → (x : ℕ) × (after : List ℕ) × (b ∷ bs ≡ cond v (b ∷ beginning (rule k) (s.held ++ one) bs) [] ++ x ∷ after) × (rule k (s.held ++ cond v (b ∷ beginning (rule k) (s.held ++ one) bs) []) x ≡ false))
    in
    let next = fed_sink rule (more s b) bs in
    let taken = beginning (rule k) (s.held ++ one) bs in
    let next_place : 1 + length taken ≡ suc (length taken) = omega arith in
    let joined : (s.held ++ one) ++ taken ≡ s.held ++ b ∷ taken = append_assoc s.held one taken in
    let go : P (rule k s.held b) =
    elim (rule k s.held b) as P [
      | true ↦ λ _. (
        next.0 ∙ ap (λ (h : List ℕ). holding h (drop (length taken) (drop 1 s.free)) k) joined ∙ ap (λ (f : List ℕ). holding (s.held ++ b ∷ taken) f k) (drop-drop (length taken) 1 s.free ∙ ap (λ (n : ℕ). drop n s.free) next_place),
        λ e. ap (λ (t : List ℕ). b ∷ t) (next.1 e),
        λ e. let n = next.2 e in (n.0, n.1, ap (λ (t : List ℕ). b ∷ t) n.2, ap (λ (h : List ℕ). rule k h n.0) (sym joined) ∙ n.3),
      )
      | false ↦ λ q. (
        ap (λ (h : List ℕ). holding h s.free k) (sym (append-nil s.held)),
        λ e. absurd (false≢true e),
        λ _. (b, bs, refl, ap (λ (h : List ℕ). rule k h b) (append-nil s.held) ∙ q),
      )
    ]
    in
    go refl

-- what a writer's contract says at a sink
pub at_sink : {K : Type 0} {rule : K → Rule} {s t : Holding K} {bs : List ℕ} {ok : Bool} → Fed (says rule) more s bs ok t → Told rule s bs ok t
unfolding came
at_sink {K} {rule} {s} {t} {bs} {ok} e =
    let d = fed_sink rule s bs in
    let was : ok ≡ (fed (says rule) more s bs).0 = ap (λ (q : Bool × Holding K). q.0) (sym e.is) in
    let is : t ≡ holding (s.held ++ beginning (rule s.kept) s.held bs) (drop (length (beginning (rule s.kept) s.held bs)) s.free) s.kept = ap (λ (q : Bool × Holding K). q.1) (sym e.is) ∙ d.0 in
    record {
      holds = ap (λ (h : Holding K). h.held) is;
      rest = ap (λ (h : Holding K). h.free) is;
      same = ap (λ (h : Holding K). h.kept) is;
      whole = λ o. d.1 (sym was ∙ o);
      refused = λ o. let n = d.2 (sym was ∙ o) in (n.0, n.1, n.2, ap (λ (h : Holding K). rule s.kept h.held n.0) is ∙ n.3);
    }

-- what holds in any case holds where a call was not refused
pub made_when : {X Y : Type 0} (r : Result X Y) (Q : Type 0) → Q → IfOk r (λ _. Q)
made_when (Ok x) Q q = q
made_when (Err y) Q q = tt

-- what all was taken of stands behind what the sink held
pub behind_held : {K : Type 0} {rule : K → Rule} {s t : Holding K} {bytes : List ℕ} → Told rule s bytes true t → drop (length s.held) t.held ≡ bytes
behind_held {K} {rule} {s} {t} {bytes} told =
    ap (drop (length s.held)) (told.holds ∙ ap (λ (taken : List ℕ). s.held ++ taken) (told.whole refl)) ∙ drop_at s.held bytes (length s.held) refl

-- so what holds wherever the bytes stand at the end of data holds there
pub put_back : {K X Y : Type 0} {rule : K → Rule} {s t : Holding K} {bytes : List ℕ} (r : Result X Y) (P : List ℕ → ℕ → Type 0) → Told rule s bytes (is_ok r) t → IfOk r (λ _. (d : List ℕ) (p : ℕ) → drop p d ≡ bytes → P d p) → IfOk r (λ _. P t.held (length s.held))
put_back {s = s} {t = t} (Ok x) P told law = law t.held (length s.held) (behind_held told)
put_back (Err y) P told law = tt

-- what a writer's contract says at a counter with room
counter_fed : (n : ℕ) (bs : List ℕ) → n + length bs < 2 ^ 64 → fed countable counted n bs ≡ (true, n + length bs)
counter_fed n [] room = ap (λ (m : ℕ). (true, m)) (sym (add-zero n))
counter_fed n (b ∷ bs) room =
    let free : n < 2 ^ 64 - 1 = omega arith in
    let same : (n + 1) + length bs ≡ n + suc (length bs) = omega arith in
    cond-true (countable n b) _ _ (lt-ltb n (2 ^ 64 - 1) free) ∙ counter_fed (n + 1) bs (omega arith) ∙ ap (λ (m : ℕ). (true, m)) same

pub at_counter : {n n' : ℕ} {bs : List ℕ} {ok : Bool} → n + length bs < 2 ^ 64 → Fed countable counted n bs ok n' → (ok ≡ true) × (n' ≡ n + length bs)
at_counter {n} {n'} {bs} {ok} room e =
    let d = sym e.is ∙ counter_fed n bs room in
    (ap (λ (q : Bool × ℕ). q.0) d, ap (λ (q : Bool × ℕ). q.1) d)

-- what a buffer takes: as many as it has free places for
pub buffer_beginning : (places : ℕ) (held bs : List ℕ) → beginning (roomy places) held bs ≡ take (places - length held) bs
buffer_beginning places held [] = sym (take_all (places - length held) [] (omega arith))
buffer_beginning places held (b ∷ bs) =
    ⊎_elim
    (λ (free : length held < places).
    let one : places - length held ≡ suc (places - length (held ++ b ∷ [])) = omega (arith, length-append held (b ∷ [])) in
    cond-true (ltb (length held) places) _ _ (lt-ltb (length held) places free) ∙ ap (λ (t : List ℕ). b ∷ t) (buffer_beginning places (held ++ b ∷ []) bs) ∙ ap (λ (m : ℕ). take m (b ∷ bs)) (sym one))
    (λ (full : places ≤ length held).
    let none : places - length held ≡ 0 = omega arith in
    cond-false (ltb (length held) places) _ _ (le-ltb (length held) places full) ∙ ap (λ (m : ℕ). take m (b ∷ bs)) (sym none))
    (cases_lt (length held) places)
