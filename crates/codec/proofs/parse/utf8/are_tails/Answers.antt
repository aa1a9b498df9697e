use Rattle.std.proofs.Common.{◌≡◌, ◌-◌, ◌≤◌, ℕ, Bool, true, false, cond, ◌&&◌, leb, List, [], ◌∷◌, length, get_or, take, drop, rules, refl, sym, ap, ◌∙◌, arith}
use Rattle.std.specs.List.{list_all}
use Rattle.std.proofs.lemmas.Bool.{le-leb, and_from, cond-true}
use Rattle.std.proofs.lemmas.List.{take_all}
use Rattle.std.proofs.lemmas.Iterator.{YieldsList-from_slice}
use Rattle.std.proofs.lemmas.Iterator.Search.{all_from_yields_List}
use borrow.Author.Tests.{tests}
use Rattle.codec.specs.Utf8.{low_of, high_of, follows}
use Rattle.codec.proofs.parse.utf8.are_tails.Goals as goal

is_tail : ℕ → Bool
is_tail b = leb 0x80 b && leb b 0xBF

-- a list of tails
tails : (bs : List ℕ) → list_all is_tail bs ≡ follows (length bs) 0x80 0xBF bs
unfolding is_tail
tails [] = refl
tails (b ∷ bs) = elim (leb 0x80 b && leb b 0xBF) as (λ v. (v && list_all is_tail bs) ≡ cond v (follows (length bs) 0x80 0xBF bs) false) [ true ↦ tails bs | false ↦ refl ]

-- behind a second byte in its range
behind : (bs : List ℕ) (low high : ℕ) → 1 ≤ length bs → low ≤ get_or bs 0 0 → get_or bs 0 0 ≤ high → list_all is_tail (take (length bs - 1) (drop 1 bs)) ≡ follows (length bs) low high bs
behind [] low high some l h = absurd (omega arith)
behind (b ∷ bs) low high some l h =
    ap (list_all is_tail) (take_all (length (b ∷ bs) - 1) bs (omega arith))
    ∙ tails bs
    ∙ sym (cond-true (leb low b && leb b high) _ _ (and_from _ _ (le-leb _ _ l) (le-leb _ _ h)))

pub returns-then-contains : goal.returns-then-contains
unfolding is_tail
returns-then-contains c =
    let all = all_from_yields_List is_tail _ _ c.all.result c.all.ensures.ran (YieldsList-from_slice _ c.iter.ensures.rest) (λ x b q k. search (rules, tests)) in
    all ∙ behind c.args.bytes.now (low_of c.args.first) (high_of c.args.first) c.in-len1-up.len_at_least (search rules) (search rules)
