-- The bytes of one number: where they end, what they are worth, and that no others of that length are worth the same.
use Rattle.std.specs.Prelude.{◌≡◌, ℕ, suc, ◌+◌, ◌*◌, ◌%◌, ◌^◌, ◌<◌, ◌≤◌, Bool, true, false, cond, List, [], ◌∷◌, ◌++◌, length, Some, None, Ok, Err, Option, nat_le, nat_lt, refl}
use Rattle.std.proofs.Common.{sym, ap, ◌∙◌, subst, pow-suc, mul_assoc, mul_comm, arith, length-append}
use Rattle.std.proofs.lemmas.Nat.{mod_below}
use Rattle.std.proofs.lemmas.Bool.{lt-ltb, le-ltb, le-leb, lt-leb, cond-true, cond-false}
use Rattle.codec.specs.declared.parse.fault.NumberFault.TheVariants.{CutShort, TooLarge}
use Rattle.codec.specs.Leb128.{unsigned, Framed, behind, front, framed_front, frame_at}

-- bytes with the high bit set
abbrev pub High : List ℕ → Type 0
High [] = Unit {0}
High (b ∷ bs) = (128 ≤ b) × (b < 256) × High bs

pub high_push : (hs : List ℕ) (b : ℕ) → High hs → 128 ≤ b → b < 256 → High (hs ++ b ∷ [])
high_push [] b h low most = (low, most, tt)
high_push (x ∷ hs) b h low most = (h.0, h.1, high_push hs b h.2 low most)

pub framed_high : (hs : List ℕ) (b : ℕ) → High hs → b < 128 → Framed (hs ++ b ∷ [])
framed_high [] b h last = last
framed_high (x ∷ []) b h last = (h.0, h.1, last)
framed_high (x ∷ y ∷ hs) b h last = (h.0, h.1, framed_high (y ∷ hs) b h.2 last)

-- one more group, at its place
pub unsigned_push : (hs : List ℕ) (b : ℕ) → unsigned (hs ++ b ∷ []) ≡ unsigned hs + (b % 128) * 128 ^ length hs
unsigned_push [] b = omega arith
unsigned_push (x ∷ hs) b =
    let e : (b % 128) * 128 ^ suc (length hs) ≡ 128 * ((b % 128) * 128 ^ length hs) = ap (λ (p : ℕ). (b % 128) * p) (pow-suc 128 (length hs)) ∙ sym (mul_assoc (b % 128) (128 ^ length hs) 128) ∙ mul_comm ((b % 128) * 128 ^ length hs) 128 in
    omega (arith, e, unsigned_push hs b)

pub unsigned_below : (bs : List ℕ) → unsigned bs < 128 ^ length bs
unsigned_below [] = omega arith
unsigned_below (b ∷ bs) = omega (arith, unsigned_below bs, pow-suc 128 (length bs), mod_below b 128 (omega arith))

-- bytes of one length and value are the same bytes
pub framed_same : (us bs : List ℕ) → Framed us → Framed bs → length us ≡ length bs → unsigned us ≡ unsigned bs → us ≡ bs
framed_same [] bs f g l e = absurd f
framed_same (a ∷ us) [] f g l e = absurd g
framed_same (a ∷ []) (b ∷ []) f g l e = ap (λ (x : ℕ). x ∷ []) (omega arith)
framed_same (a ∷ []) (b ∷ c ∷ bs) f g l e = absurd (omega arith)
framed_same (a ∷ c ∷ us) (b ∷ []) f g l e = absurd (omega arith)
framed_same (a ∷ c ∷ us) (b ∷ d ∷ bs) f g l e =
    let first : a ≡ b = omega arith in
    let others : c ∷ us ≡ d ∷ bs = framed_same (c ∷ us) (d ∷ bs) f.2 g.2 (omega arith) (omega arith) in
    ap (λ (x : ℕ). x ∷ c ∷ us) first ∙ ap (λ (t : List ℕ). b ∷ t) others

pub front_framed : (bs rest : List ℕ) → Framed bs → front (bs ++ rest) ≡ Some bs
front_framed [] rest f = absurd f
front_framed (b ∷ []) rest f = cond-true (nat_lt b 128) _ _ (lt-ltb b 128 f)
front_framed (b ∷ c ∷ bs) rest f = cond-false (nat_lt b 128) _ _ (le-ltb b 128 f.0) ∙ ap (behind b) (front_framed (c ∷ bs) rest f.2)

pub front_high : (hs : List ℕ) → High hs → front hs ≡ None
front_high [] h = refl
front_high (b ∷ hs) h = cond-false (nat_lt b 128) _ _ (le-ltb b 128 h.0) ∙ ap (behind b) (front_high hs h.2)

-- what stands at the front, where it is not too long
pub frame_framed : (bytes bs rest : List ℕ) → bytes ≡ bs ++ rest → Framed bs → length bs ≤ 10 → frame_at bytes ≡ Ok bs
frame_framed bytes bs rest e f few =
    ap (framed_front bytes) (ap front e ∙ front_framed bs rest f) ∙ cond-true (nat_le (length bs) 10) _ _ (le-leb (length bs) 10 few)

pub frame_cut : (hs : List ℕ) → High hs → length hs < 10 → frame_at hs ≡ Err CutShort
frame_cut hs h few = ap (framed_front hs) (front_high hs h) ∙ cond-true (nat_lt (length hs) 10) _ _ (lt-ltb (length hs) 10 few)

-- a front behind more than n bytes without an end
Beyond : ℕ → Option (List ℕ) → Type 0
Beyond n None = Unit {0}
Beyond n (Some bs) = n < length bs

beyond_behind : (n b : ℕ) (o : Option (List ℕ)) → Beyond n o → Beyond (suc n) (behind b o)
unfolding Beyond
beyond_behind n b None h = tt
beyond_behind n b (Some bs) h = omega arith

front_any : (bytes : List ℕ) → Beyond 0 (front bytes)
unfolding Beyond
front_any [] = tt
front_any (b ∷ bytes) =
    let behind_any : (o : Option (List ℕ)) → Beyond 0 (behind b o) = elim [ None ↦ tt | Some bs ↦ omega arith ] in
    elim (nat_lt b 128) as (λ v. Beyond 0 (cond v (Some (b ∷ [])) (behind b (front bytes)))) [ true ↦ omega arith | false ↦ behind_any (front bytes) ]

front_beyond : (hs rest : List ℕ) → High hs → Beyond (length hs) (front (hs ++ rest))
unfolding Beyond
front_beyond [] rest h = front_any rest
front_beyond (b ∷ hs) rest h = subst (Beyond (suc (length hs))) (sym (cond-false (nat_lt b 128) _ _ (le-ltb b 128 h.0))) (beyond_behind (length hs) b (front (hs ++ rest)) (front_beyond hs rest h.2))

-- ten bytes without an end
pub frame_large : (hs rest : List ℕ) → High hs → length hs ≡ 10 → frame_at (hs ++ rest) ≡ Err TooLarge
unfolding Beyond
frame_large hs rest h ten =
    let bytes = hs ++ rest in
    let go : (o : Option (List ℕ)) → Beyond (length hs) o → framed_front bytes o ≡ Err TooLarge =
    elim [
      | None ↦ λ _. cond-false (nat_lt (length bytes) 10) _ _ (le-ltb (length bytes) 10 (omega (arith, length-append hs rest)))
      | Some bs ↦ λ far. cond-false (nat_le (length bs) 10) _ _ (lt-leb (length bs) 10 (omega arith))
    ]
    in
    go (front bytes) (front_beyond hs rest h)

-- what stands at the front is some of the bytes
Inside : ℕ → Option (List ℕ) → Type 0
Inside n None = Unit {0}
Inside n (Some bs) = (1 ≤ length bs) × (length bs ≤ n)

front_inside : (bytes : List ℕ) → Inside (length bytes) (front bytes)
unfolding Inside
front_inside [] = tt
front_inside (b ∷ bytes) =
    let further : (o : Option (List ℕ)) → Inside (length bytes) o → Inside (suc (length bytes)) (behind b o) = elim [ None ↦ λ _. tt | Some bs ↦ λ h. (omega arith, omega (arith, h.1)) ] in
    elim (nat_lt b 128) as (λ v. Inside (suc (length bytes)) (cond v (Some (b ∷ [])) (behind b (front bytes)))) [ true ↦ (omega arith, omega arith) | false ↦ further (front bytes) (front_inside bytes) ]

pub frame_inside : (bytes bs : List ℕ) → frame_at bytes ≡ Ok bs → (1 ≤ length bs) × (length bs ≤ length bytes)
unfolding Inside
frame_inside bytes bs e = at (front bytes) (front_inside bytes) e
  where
    at : (o : Option (List ℕ)) → Inside (length bytes) o → framed_front bytes o ≡ Ok bs → (1 ≤ length bs) × (length bs ≤ length bytes)
    at None h e = none (nat_lt (length bytes) 10) e
      where
        none : (v : Bool) → cond v (Err CutShort) (Err TooLarge) ≡ Ok bs → (1 ≤ length bs) × (length bs ≤ length bytes)
        none true e = let z : ◌≡◌ {A = ℕ} 0 1 = cc in absurd (omega arith)
        none false e = let z : ◌≡◌ {A = ℕ} 0 1 = cc in absurd (omega arith)
    at (Some cs) h e = some (nat_le (length cs) 10) e
      where
        some : (v : Bool) → cond v (Ok cs) (Err TooLarge) ≡ Ok bs → (1 ≤ length bs) × (length bs ≤ length bytes)
        some true e = let same : cs ≡ bs = cc in subst (λ (l : List ℕ). (1 ≤ length l) × (length l ≤ length bytes)) same h
        some false e = let z : ◌≡◌ {A = ℕ} 0 1 = cc in absurd (omega arith)
