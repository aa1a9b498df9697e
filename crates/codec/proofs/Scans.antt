-- One turn of the search for the end of a number.
use Rattle.std.proofs.Common.{◌≡◌, ℕ, ◌+◌, ◌-◌, ◌*◌, ◌%◌, ◌^◌, ◌<◌, ◌≤◌, List, [], ◌∷◌, ◌++◌, length, get_or, take, drop, Err, sym, ap, ◌∙◌, subst, pow-suc, arith}
use lib.Bits.{bit_and}
use Rattle.std.proofs.lemmas.Nat.{and_mask, mod_below, mul-le}
use Rattle.std.proofs.lemmas.List.{take_more, take_all, take-append-drop, length-take-le}
use Rattle.codec.specs.declared.parse.fault.NumberFault.TheVariants.{CutShort, TooLarge}
use Rattle.codec.specs.Leb128.{unsigned, Framed, frame_at}
use Rattle.codec.specs.Frames.{Found}
use Rattle.codec.specs.Laws.Frames.{High, high_push, framed_high, unsigned_push, frame_framed, frame_cut, frame_large}

-- the group of a byte behind i others
pub group_fits : (b i : ℕ) → i ≤ 9 → (bit_and b 127 < 128) × ((bit_and b 127) * 128 ^ i ≤ 127 * 128 ^ i)
group_fits b i h =
    let low : bit_and b 127 < 128 = omega (arith, and_mask b 7, mod_below b 128 (omega arith)) in
    (low, mul-le (bit_and b 127) (128 ^ i) 127 (128 ^ i) (omega arith) (omega arith))

module _ (bytes : List ℕ) (i low : ℕ) (few : i ≤ 9) (worth : low ≡ unsigned (take i bytes)) (high : High (take i bytes)) where
  -- no byte is left
  pub cut : length bytes ≤ i → frame_at bytes ≡ Err CutShort
  cut h =
      let all : take i bytes ≡ bytes = take_all i bytes h in
      subst (λ (l : List ℕ). length l < 10 → frame_at l ≡ Err CutShort) all (frame_cut (take i bytes) high) (omega arith)

  module _ (inside : i < length bytes) where
    so_far : length (take i bytes) ≡ i
    so_far = length-take-le i bytes (omega arith)

    one_more : take (i + 1) bytes ≡ take i bytes ++ get_or bytes i 0 ∷ []
    one_more = take_more bytes i 0 inside

    value_more : unsigned (take (i + 1) bytes) ≡ low + (get_or bytes i 0 % 128) * 128 ^ i
    value_more =
        ap unsigned one_more
        ∙ unsigned_push (take i bytes) (get_or bytes i 0)
        ∙ ap (λ (n : ℕ). n + (get_or bytes i 0 % 128) * 128 ^ length (take i bytes)) (sym worth)
        ∙ ap (λ (n : ℕ). low + (get_or bytes i 0 % 128) * 128 ^ n) so_far

    -- this byte is the last
    pub found : get_or bytes i 0 < 128 → Found bytes low (get_or bytes i 0) (i + 1)
    found h =
        let framed : Framed (take (i + 1) bytes) = subst Framed (sym one_more) (framed_high (take i bytes) (get_or bytes i 0) high h) in
        let count : length (take (i + 1) bytes) ≡ i + 1 = length-take-le (i + 1) bytes (omega arith) in
        let same : get_or bytes i 0 % 128 ≡ get_or bytes i 0 = omega arith in
        let before : i ≡ (i + 1) - 1 = omega arith in
        record {
          ended = record {
            frame = frame_framed bytes (take (i + 1) bytes) (drop (i + 1) bytes) (sym (take-append-drop (i + 1) bytes)) framed (omega arith);
            framed = framed;
            count = count;
          };
          value = value_more ∙ ap (λ (b : ℕ). low + b * 128 ^ i) same ∙ ap (λ (n : ℕ). low + get_or bytes i 0 * 128 ^ n) before;
        }

    -- it is not
    pub high_more : 128 ≤ get_or bytes i 0 → get_or bytes i 0 < 256 → High (take (i + 1) bytes)
    high_more a b = subst High (sym one_more) (high_push (take i bytes) (get_or bytes i 0) high a b)

    pub low_more : low + bit_and (get_or bytes i 0) 127 * 128 ^ i ≡ unsigned (take (i + 1) bytes)
    low_more = ap (λ (n : ℕ). low + n * 128 ^ i) (and_mask (get_or bytes i 0) 7) ∙ sym value_more

    pub low_below : low < 128 ^ i → low + bit_and (get_or bytes i 0) 127 * 128 ^ i < 128 ^ (i + 1)
    low_below h =
        let next : 128 ^ (i + 1) ≡ 128 ^ i * 128 = ap (λ (n : ℕ). 128 ^ n) (omega arith) ∙ pow-suc 128 i in
        omega (arith, next, (group_fits (get_or bytes i 0) i few).1)

    -- nor is it the tenth
    pub too_long : i ≡ 9 → 128 ≤ get_or bytes i 0 → get_or bytes i 0 < 256 → frame_at bytes ≡ Err TooLarge
    too_long nine a b =
        ap frame_at (sym (take-append-drop (i + 1) bytes))
        ∙ frame_large (take (i + 1) bytes) (drop (i + 1) bytes) (high_more a b) (omega (arith, length-take-le (i + 1) bytes (omega arith)))
