use Rattle.std.proofs.Common.{◌+◌, get_or, arith}
use Rattle.codec.specs.Laws.Powers.{pow_most}
use Rattle.codec.proofs.Scans.{cut, found, high_more, low_more, low_below, too_long, group_fits}
use Rattle.codec.proofs.parse.frame.frame_at.Goals as goal

pub returns-then-byte-lt-MORE : goal.returns-then-byte-lt-MORE
returns-then-byte-lt-MORE c =
    let v = c.loop-i.invariant in
    found c.args.bytes.now c.loop-i.i c.loop-i.low v.0 v.2 v.3 c.loop-i-test.true c.if-byte-lt-MORE.true

pub returns-then-i-eq-LONGEST : goal.returns-then-i-eq-LONGEST
returns-then-i-eq-LONGEST c =
    let v = c.loop-i.invariant in
    too_long c.args.bytes.now c.loop-i.i c.loop-i.low v.0 v.2 v.3 c.loop-i-test.true (omega (arith, c.if-i-eq-LONGEST.true)) c.if-byte-lt-MORE.false (omega arith)

pub at_place-low-requires : goal.at_place-low-requires
at_place-low-requires c =
    let g = group_fits (get_or c.args.bytes.now c.loop-i.i 0) c.loop-i.i c.loop-i.invariant.0 in
    (omega (arith, g.1, pow_most c.loop-i.i 8 (omega arith)), omega arith)

pub overflow_add-low : goal.overflow_add-low
overflow_add-low c =
    let v = c.loop-i.invariant in
    let below = low_below c.args.bytes.now c.loop-i.i c.loop-i.low v.0 v.2 v.3 c.loop-i-test.true v.1 in
    omega (arith, below, c.at_place-low.ensures, pow_most (c.loop-i.i + 1) 9 (omega arith))

pub loop-i-preserved : goal.loop-i-preserved
loop-i-preserved c =
    let v = c.loop-i.invariant in
    let bytes = c.args.bytes.now in
    let i = c.loop-i.i in
    let low = c.loop-i.low in
    let inside = c.loop-i-test.true in
    let sum = c.at_place-low.ensures in (
      omega arith,
      omega (arith, sum, low_below bytes i low v.0 v.2 v.3 inside v.1),
      omega (arith, sum, low_more bytes i low v.0 v.2 v.3 inside),
      high_more bytes i low v.0 v.2 v.3 inside c.if-byte-lt-MORE.false (omega arith),
    )

pub returns : goal.returns
returns c =
    let v = c.loop-i.invariant in
    cut c.args.bytes.now c.loop-i.i c.loop-i.low v.0 v.2 v.3 c.loop-i-test.false
