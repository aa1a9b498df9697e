use Rattle.std.proofs.Common.{length, sym, ap, ◌∙◌, arith}
use Rattle.codec.specs.Feed.{fed}
use Rattle.codec.proofs.Feeds.{fed_on, fed_stop}
use Rattle.columns.proofs.FlagsBack.{come, come_other, come_last}
use Rattle.columns.proofs.boolean.encoder.write_behind.Goals as goal

pub returns-in_err-write_leb128 : goal.returns-in_err-write_leb128
returns-in_err-write_leb128 g c =
    let rest = come 1 c.in-Some.flag (g.C.Source.list c.next.new.self) in
    record { is = fed_stop _ _ rest c.loop-flag.invariant.1 (come_other c.loop-flag.count c.loop-flag.value c.in-Some.ensures c.if-flag-value.false) c.from_residual.result c.from_residual.ensures.0 c.in_err-write_leb128.ensures.wrote }

pub returns : goal.returns
returns g c =
    let o = g.O.Output in
    record { is = sym c.loop-flag.invariant.1 ∙ ap (fed o.takes o.step (o.state c.loop-flag.out)) (come_last c.loop-flag.count c.loop-flag.value c.in_default.ensures (omega arith)) ∙ c.write_leb128-2.ensures.wrote.is }

pub loop-flag-preserved : goal.loop-flag-preserved
loop-flag-preserved g c = (
  omega (arith, c.loop-flag.invariant.0, ap length c.in-Some.ensures),
  fed_on _ _ (come 1 c.in-Some.flag (g.C.Source.list c.next.new.self)) c.loop-flag.invariant.1 (come_other c.loop-flag.count c.loop-flag.value c.in-Some.ensures c.if-flag-value.false) c.in_ok-write_leb128.ensures.wrote,
)
