use Rattle.std.proofs.Common.{◌≡◌, ℕ, ◌+◌, ◌<◌, List, ◌++◌, length, get_or, drop, ap}
use Rattle.std.proofs.lemmas.List.{drop_more}
use Rattle.std.specs.List.{flat_map}
use Rattle.codec.specs.Leb128.{uleb}
use Rattle.codec.proofs.Feeds.{fed_on, fed_stop}
use Rattle.walkthrough.proofs.list.write_list.Goals as goal

-- the codes that are left are the next number's, and then those behind it
codes : (ns : List ℕ) (i : ℕ) → i < length ns → flat_map uleb (drop i ns) ≡ uleb (get_or ns i 0) ++ flat_map uleb (drop (i + 1) ns)
codes ns i some = ap (flat_map uleb) (drop_more ns i 0 some)

pub returns-in_err-write_leb128 : goal.returns-in_err-write_leb128
returns-in_err-write_leb128 g c =
    let parts = codes c.args.numbers.now c.loop-number.number-index c.loop-number-test.true in
    record { is = fed_stop _ _ _ c.loop-number.invariant parts c.from_residual.result c.from_residual.ensures.0 c.in_err-write_leb128.ensures.wrote }

pub loop-number-preserved : goal.loop-number-preserved
loop-number-preserved g c =
    let parts = codes c.args.numbers.now c.loop-number.number-index c.loop-number-test.true in
    fed_on _ _ _ c.loop-number.invariant parts c.in_ok-write_leb128.ensures.wrote
