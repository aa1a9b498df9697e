use Rattle.std.proofs.Common.{ℕ, ◌<◌, Bool, eqb, List, ◌++◌, replicate, refl, rules, arith}
use Rattle.std.proofs.lemmas.Grind.{common_steps}
use Rattle.codec.specs.Utf8.{length_of}
use Rattle.codec.proofs.Tables.{every_at}
use Rattle.codec.proofs.parse.first.char_len.Goals as goal

-- the table, by its runs
table : List ℕ
table = replicate 128 1 ++ (replicate 66 0 ++ (replicate 30 2 ++ (replicate 16 3 ++ (replicate 5 4 ++ replicate 11 0))))

right : ℕ → ℕ → Bool
right k x = eqb x (length_of k)

pub returns : goal.returns
unfolding right table
returns c =
    let h : c.args.first < 256 = search rules in
    let r = every_at right table refl c.args.first h in
    rw c.then_some.ensures (rw c.from-len.ensures (grind (arith, common_steps, r)))
