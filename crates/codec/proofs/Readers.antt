-- What the readers answer, by the groups of the number that is there.
use Rattle.std.proofs.Common.{◌≡◌, ℕ, zero, suc, ◌+◌, ◌-◌, ◌*◌, ◌^◌, ◌<◌, ◌≤◌, Bool, true, false, leb, ◌⊎◌, List, length, take, drop, IfOk, Ok, Err, Result, sym, refl, ap, ◌∙◌, subst, ⊎_elim, add-mul, pow-suc, arith}
use Rattle.std.proofs.lemmas.Nat.{mul-le}
use Rattle.std.proofs.lemmas.List.{take-append-drop, length-take}
use Rattle.std.proofs.lemmas.Bool.{false≢true, cases_lt, le-leb, lt-leb}
use Rattle.codec.specs.declared.parse.fault.NumberFault.{NumberFault}
use Rattle.codec.specs.declared.parse.fault.NumberFault.TheVariants.{TooLarge, Overlong}
use Rattle.codec.specs.Leb128.{unsigned, groups, frame_at, judged, number_at, Exact, Used, Returns, read_as}
use Rattle.codec.specs.Frames.{worth, Ended, Found, Split}
use Rattle.codec.specs.Laws.Codes.{Coding, code_returns, exact_ok, exact_err, judged_ok, judged_over, judged_large}
use Rattle.codec.specs.Laws.Groups.{framed_some, framed_groups, groups_few, groups_many, room_more}
use Rattle.codec.specs.Laws.Powers.{pow_most}
use Rattle.codec.specs.Laws.Spelling.{Spelling, either_some}

-- an answer that is what reading gives, is exact so, and stays within the bytes
pub record Answered {N : Type 0} (read : List ℕ → Result (N × ℕ) NumberFault) (value : List ℕ → N) (fits : N → Bool) (bytes : List ℕ) (r : Result (N × ℕ) NumberFault) : Type 0 where
  pub answer : r ≡ read bytes
  pub exact : Exact value fits bytes r
  pub used : IfOk r (λ p. Used bytes p.1)

-- the tests that were passed
pub passed : {A B : Type 0} → (A × B) ⊎ (A → ⊥) → A → B
passed e a = ⊎_elim (λ p. p.1) (λ n. absurd (n a)) e

-- groups below their bound, and how much they then are worth
pub worth_below : (low last used : ℕ) → low < 128 ^ (used - 1) → last < 128 → 0 < used → worth low last used < 128 ^ used
worth_below low last zero h l s = absurd (omega arith)
worth_below low last (suc k) h l s =
    let e : suc k - 1 ≡ k = omega arith in
    let p : 128 ^ (suc k - 1) ≡ 128 ^ k = ap (λ (n : ℕ). 128 ^ n) e in
    omega (arith, p, pow-suc 128 k, mul-le last (128 ^ (suc k - 1)) 127 (128 ^ (suc k - 1)) (omega arith) (omega arith))

-- groups and the inverted ones make all bits set
worth_both : (low last low' last' used : ℕ) → 0 < used → low' + low + 1 ≡ 128 ^ (used - 1) → last' + last ≡ 127 → worth low last used + suc (worth low' last' used) ≡ 128 ^ used
worth_both low last low' last' zero s a b = absurd (omega arith)
worth_both low last low' last' (suc k) s a b =
    let q = 128 ^ (suc k - 1) in
    let p : q ≡ 128 ^ k = ap (λ (n : ℕ). 128 ^ n) (omega arith) in
    let sum : last' * q + last * q ≡ 127 * q = sym (add-mul last' last q) ∙ ap (λ (n : ℕ). n * q) b in
    omega (arith, p, sum, pow-suc 128 k)

-- the answers of any reader, where a number ends after `used` bytes, and where none does
module _ {N : Type 0} {value : List ℕ → N} {fits : N → Bool} {code : N → List ℕ} (k : Coding value fits code) (bytes : List ℕ) where
  pub answered_none : (e : NumberFault) → frame_at bytes ≡ Err e → Answered (number_at value fits code) value fits bytes (Err e)
  answered_none e h =
      let was : number_at value fits code bytes ≡ Err e = ap (judged value fits code) h in
      record { answer = sym was; exact = subst (Exact value fits bytes) was (exact_err k bytes e h); used = tt }

  module _ (used : ℕ) (at : Ended bytes used) (few : used ≤ 10) (n : N) (v : value (take used bytes) ≡ n) where
    answered : (r : Result (N × ℕ) NumberFault) → judged value fits code (Ok (take used bytes)) ≡ r → IfOk r (λ p. Used bytes p.1) → Answered (number_at value fits code) value fits bytes r
    answered r e u =
        let was : number_at value fits code bytes ≡ r = ap (judged value fits code) at.frame ∙ e in
        record {
          answer = sym was;
          exact = subst (Exact value fits bytes) was (exact_ok k bytes (take used bytes) (drop used bytes) (sym (take-append-drop used bytes)) at.framed (omega (arith, at.count)));
          used = u;
        }

    pub answered_large : fits n ≡ false → Answered (number_at value fits code) value fits bytes (Err TooLarge)
    answered_large f = answered (Err TooLarge) (judged_large k (take used bytes) n v f) tt

    pub answered_over : fits n ≡ true → length (code n) < used → Answered (number_at value fits code) value fits bytes (Err Overlong)
    answered_over f l = answered (Err Overlong) (judged_over k (take used bytes) n v f (omega (arith, at.count))) tt

    some_used : Used bytes used
    some_used =
        record {
          some = omega (arith, framed_some (take used bytes) at.framed, at.count);
          few = few;
          within = omega (arith, at.count, length-take used bytes);
        }

    pub answered_ok : fits n ≡ true → length (code n) ≡ used → Answered (number_at value fits code) value fits bytes (Ok (n, used))
    answered_ok f l = answered (Ok (n, used)) (judged_ok k (take used bytes) n v f (l ∙ sym at.count) ∙ ap (λ (u : ℕ). Ok (n, u)) at.count) some_used

-- ten groups fit 64 bits where the last one is a bit
pub value_room : (low last used : ℕ) → 0 < used → used ≤ 10 → last < 128 → low < 128 ^ (used - 1) → (used ≡ 10 → last ≤ 1) → worth low last used < 2 ^ 64
value_room low last used some few group below most =
    ⊎_elim
    (λ (less : used < 10). omega (arith, worth_below low last used below group some, pow_most used 9 (omega arith)))
    (λ (ten : 10 ≤ used). let is : used ≡ 10 = omega arith in omega (arith, ap (worth low last) is, most is, ap (λ (u : ℕ). 128 ^ (u - 1)) is))
    (cases_lt used 10)

-- the sign and bits that groups have, as they stand and inverted
pub split_plain : (top low last used : ℕ) → 0 < used → low < 128 ^ (used - 1) → last < top → top ≤ 128 → Split top (worth low last used) used false (worth low last used)
split_plain top low last zero s h l m = absurd (omega arith)
split_plain top low last (suc k) s h l m =
    let q = 128 ^ (suc k - 1) in
    let p : q ≡ 128 ^ k = ap (λ (n : ℕ). 128 ^ n) (omega arith) in
    let groups : (last + 1) * q ≤ top * q = mul-le (last + 1) q top q (omega arith) (omega arith) in
    let parts : (last + 1) * q ≡ last * q + q = add-mul last 1 q ∙ omega arith in
    let whole : top * 128 ^ suc k ≡ 128 * (top * q) = room_more top k ∙ ap (λ (n : ℕ). 128 * (top * n)) (sym p) in
    let below : 128 * worth low last (suc k) < top * 128 ^ suc k = omega (arith, groups, parts, whole) in
    record { plain = λ _. (refl, below); inverted = λ e. absurd (false≢true e); below = below }

pub split_inverted : (top low last low' last' used : ℕ) → 0 < used → low < 128 ^ (used - 1) → low' + low + 1 ≡ 128 ^ (used - 1) → last' + last ≡ 127 → top ≤ last → 64 ≤ top → Split top (worth low last used) used true (worth low' last' used)
split_inverted top low last low' last' zero s h a b l m = absurd (omega arith)
split_inverted top low last low' last' (suc k) s h a b l m =
    let q = 128 ^ (suc k - 1) in
    let p : q ≡ 128 ^ k = ap (λ (n : ℕ). 128 ^ n) (omega arith) in
    let groups : top * q ≤ last * q = mul-le top q last q l (omega arith) in
    let whole : top * 128 ^ suc k ≡ 128 * (top * q) = room_more top k ∙ ap (λ (n : ℕ). 128 * (top * n)) (sym p) in
    let both = worth_both low last low' last' (suc k) s a b in
    let half : 64 * q ≤ top * q = mul-le 64 q top q m (omega arith) in
    let least : top * 128 ^ suc k ≤ 128 * worth low last (suc k) = omega (arith, groups, whole) in
    record { plain = λ e. absurd (false≢true (sym e)); inverted = λ _. (both, least); below = omega (arith, both, least, whole, half, p, pow-suc 128 k) }

-- as they are taken: inverted from `top` on, or as they stand
module _ (top low last used : ℕ) (some : 0 < used) (below : low < 128 ^ (used - 1)) (half : 64 ≤ top) (most : top ≤ 128) where
  pub split_above : (low' last' used' : ℕ) → top ≤ last → low' + low + 1 ≡ 128 ^ (used - 1) → last' + last ≡ 127 → used' ≡ used → Split top (worth low last used) used (leb top last) (worth low' last' used')
  split_above low' last' used' h a b same =
      let there = split_inverted top low last low' last' used some below a b h half in
      let turned : Split top (worth low last used) used (leb top last) (worth low' last' used) = subst (λ (v : Bool). Split top (worth low last used) used v (worth low' last' used)) (sym (le-leb top last h)) there in
      subst (λ (u : ℕ). Split top (worth low last used) used (leb top last) (worth low' last' u)) (sym same) turned

  pub split_below : last < top → Split top (worth low last used) used (leb top last) (worth low last used)
  split_below h = subst (λ (v : Bool). Split top (worth low last used) used v (worth low last used)) (sym (lt-leb top last h)) (split_plain top low last used some below h most)

-- what they say of a number's value and code
module _ {N : Type 0} {top : ℕ} {value : List ℕ → N} {fits : N → Bool} {code : N → List ℕ} {number : Bool → ℕ → N} (s : Spelling top value fits code number) (bs : List ℕ) (n used m : ℕ) (is : unsigned bs ≡ n) (count : length bs ≡ used) where
  pub split_value : (negative : Bool) → Split top n used negative m → (value bs ≡ number negative m) × (negative ≡ true → top ≡ 64)
  split_value false h =
      let p = h.plain refl in
      let room : top * 128 ^ length bs ≡ top * 128 ^ used = ap (λ (k : ℕ). top * 128 ^ k) count in
      (s.plain bs (omega (arith, is, p.1, room)) ∙ ap (number false) (is ∙ sym p.0), λ e. absurd (false≢true e))
  split_value true h =
      let p = h.inverted refl in
      let room : top * 128 ^ length bs ≡ top * 128 ^ used = ap (λ (k : ℕ). top * 128 ^ k) count in
      let all : 128 ^ length bs ≡ 128 ^ used = ap (λ (k : ℕ). 128 ^ k) count in
      let i = s.inverted bs m (omega (arith, is, p.1, room)) (omega (arith, is, p.0, all)) in
      (i.1, λ _. i.0)

-- how many groups bits have, by their bound and what one byte fewer would hold
module _ (top : ℕ) (some : 0 < top) (most : top ≤ 128) (negative : Bool) (m : ℕ) where
  pub groups_fewer : (used : ℕ) → 1 < used → m < top * 128 ^ (used - 2) → length (groups top negative m) < used
  groups_fewer zero more h = absurd (omega arith)
  groups_fewer (suc zero) more h = absurd (omega arith)
  groups_fewer (suc (suc k)) more h =
      let p : top * 128 ^ (suc (suc k) - 2) ≡ top * 128 ^ k = ap (λ (u : ℕ). top * 128 ^ u) (omega arith) in
      omega (arith, groups_few top some most negative k m (omega (arith, p)))

  pub groups_whole : (used : ℕ) → 0 < used → 128 * m < top * 128 ^ used → (1 < used → top * 128 ^ (used - 2) ≤ m) → length (groups top negative m) ≡ used
  groups_whole zero s h least = absurd (omega arith)
  groups_whole (suc zero) s h least =
      omega (arith, groups_few top some most negative 0 m (omega (arith, room_more top 0)), framed_some (groups top negative m) (framed_groups top some most negative m))
  groups_whole (suc (suc k)) s h least =
      let p : top * 128 ^ (suc (suc k) - 2) ≡ top * 128 ^ k = ap (λ (u : ℕ). top * 128 ^ u) (omega arith) in
      omega (arith, groups_few top some most negative (suc k) m (omega (arith, room_more top (suc k))), groups_many top some most negative k m (omega (arith, p, least (omega arith))))

-- a number's code is the groups of its sign and bits
pub spelt : {N : Type 0} {top : ℕ} {value : List ℕ → N} {fits : N → Bool} {code : N → List ℕ} {number : Bool → ℕ → N} → Spelling top value fits code number → (negative : Bool) (n t : ℕ) (z : N) → number negative n ≡ z → (negative ≡ true → top ≡ 64) → t ≡ top → code z ≡ groups t negative n
spelt {code = code} s negative n t z is signed same = ap code (sym is) ∙ s.spelled negative n signed ∙ ap (λ (k : ℕ). groups k negative n) (sym same)

-- what is written for a number comes back, by what reading gives
pub returns_read : {N : Type 0} {value : List ℕ → N} {fits : N → Bool} {code : N → List ℕ} {reads : List ℕ → Result (N × ℕ) NumberFault} → Coding value fits code → ((bytes : List ℕ) → reads bytes ≡ number_at value fits code bytes) → (n : N) → fits n ≡ true → Returns value reads n (code n)
returns_read k reading n f =
    let r = code_returns k n f in
    record { code = r.code; alone = r.alone; some = r.some; few = r.few; back = λ rest. reading _ ∙ r.back rest }

-- what a reader answers where the groups have this sign and these bits
module _ {N : Type 0} {top : ℕ} {value : List ℕ → N} {fits : N → Bool} {code : N → List ℕ} {number : Bool → ℕ → N} (s : Spelling top value fits code number) (k : Coding value fits code) (bytes : List ℕ) (low last used : ℕ) (few : used ≤ 10) (found : Found bytes low last used) (negative : Bool) (m t : ℕ) (same : t ≡ top) (taken : Split t (worth low last used) used negative m) where
  split : Split top (worth low last used) used negative m
  split = subst (λ (k : ℕ). Split k (worth low last used) used negative m) same taken

  there : (value (take used bytes) ≡ number negative m) × (negative ≡ true → top ≡ 64)
  there = split_value s (take used bytes) (worth low last used) used m found.value found.ended.count negative split

  some_byte : 0 < used
  some_byte = omega (arith, framed_some (take used bytes) found.ended.framed, found.ended.count)

  half : (64 ≤ top) × (top ≤ 128)
  half = either_some top s.either

  spelt_length : (l : ℕ) → length (groups top negative m) ≡ l → length (code (number negative m)) ≡ l
  spelt_length l e = ap length (s.spelled negative m there.1) ∙ e

  pub bits_large : fits (number negative m) ≡ false → Answered (number_at value fits code) value fits bytes (Err TooLarge)
  bits_large = answered_large k bytes used found.ended few (number negative m) there.0

  pub bits_over : fits (number negative m) ≡ true → 1 < used → m < top * 128 ^ (used - 2) → Answered (number_at value fits code) value fits bytes (Err Overlong)
  bits_over f more h =
      let fewer = groups_fewer top (omega (arith, half.0)) half.1 negative m used more h in
      answered_over k bytes used found.ended few (number negative m) there.0 f (omega (arith, fewer, spelt_length _ refl))

  pub bits_ok : fits (number negative m) ≡ true → (1 < used → top * 128 ^ (used - 2) ≤ m) → Answered (number_at value fits code) value fits bytes (Ok (number negative m, used))
  bits_ok f least =
      let whole = groups_whole top (omega (arith, half.0)) half.1 negative m used some_byte split.below least in
      answered_ok k bytes used found.ended few (number negative m) there.0 f (spelt_length used whole)

-- the same by the values that mean the numbers
pub record Reads {T N : Type 0} (means : T → N) (reads : List ℕ → Result (N × ℕ) NumberFault) (value : List ℕ → N) (fits : N → Bool) (bytes : List ℕ) (r : Result (T × ℕ) NumberFault) : Type 0 where
  pub answer : read_as means r ≡ reads bytes
  pub exact : Exact value fits bytes (read_as means r)
  pub used : IfOk r (λ p. Used bytes p.1)

module _ {T N : Type 0} (means : T → N) {value : List ℕ → N} {fits : N → Bool} (code : N → List ℕ) {reads : List ℕ → Result (N × ℕ) NumberFault} (reading : (bytes : List ℕ) → reads bytes ≡ number_at value fits code bytes) (bytes : List ℕ) where
  pub reads_fault : (e : NumberFault) (r : Result (T × ℕ) NumberFault) → r ≡ Err e → Answered (number_at value fits code) value fits bytes (Err e) → Reads means reads value fits bytes r
  reads_fault e r is a = subst (Reads means reads value fits bytes) (sym is) (record { answer = a.answer ∙ sym (reading bytes); exact = a.exact; used = tt })

  pub reads_ok : (x : T) (used : ℕ) (z : N) → means x ≡ z → Answered (number_at value fits code) value fits bytes (Ok (z, used)) → Reads means reads value fits bytes (Ok (x, used))
  reads_ok x used z is a =
      let same : Ok (means x, used) ≡ Ok (z, used) = ap (λ (y : N). Ok (y, used)) is in
      record { answer = same ∙ a.answer ∙ sym (reading bytes); exact = subst (Exact value fits bytes) (sym same) a.exact; used = a.used }
