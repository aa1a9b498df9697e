use Rattle.std.proofs.Common.{◌≡◌, ℕ, true, false, List, ◌++◌, take, drop, rules, sym, ap, ◌∙◌, arith}
use Rattle.std.proofs.lemmas.List.{take-append-drop}
use Rattle.std.proofs.lemmas.Grind.{common_steps}
use Rattle.codec.specs.Utf8.{valid}
use Rattle.codec.proofs.Chars.{valid_block}
use Rattle.codec.proofs.Grammar.{decides_octets}
use Rattle.codec.proofs.parse.utf8.is_utf8.Goals as goal

-- a part in front and what stands behind it
split : (n : ℕ) (all front behind : List ℕ) → front ≡ take n all → behind ≡ drop n all → front ++ behind ≡ all
split n all front behind f b = rw f (rw b (take-append-drop n all))

pub returns-in-None-clause-grammar : goal.returns-in-None-clause-grammar
returns-in-None-clause-grammar c = decides_octets c.args.bytes.now false (search rules)

pub loop-left-preserved-in-Some : goal.loop-left-preserved-in-Some
loop-left-preserved-in-Some c =
    let block = valid_block c.in-Some.block.now c.in-Some.behind.now c.if-is_ascii.ensures.cases in
    c.loop-left.invariant ∙ sym (ap valid (split 16 _ _ _ c.in-Some.ensures.cases.0 c.in-Some.ensures.cases.1)) ∙ block

pub returns : goal.returns
unfolding valid
returns c = let e : true ≡ valid c.args.bytes.now = grind (arith, common_steps) in record { answer = e; grammar = decides_octets c.args.bytes.now true e }
