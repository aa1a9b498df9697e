use Rattle.std.proofs.Common.{true, sym, ap, ◌∙◌}
use Rattle.codec.specs.Feed.{fed}
use Rattle.codec.proofs.Feeds.{made_when}
use Rattle.columns.proofs.FlagsBack.{maybe_none, maybe_flags_back}
use Rattle.columns.proofs.boolean.encoder.write_maybe_booleans.Goals as goal

pub returns-in_default-clause-wrote : goal.returns-in_default-clause-wrote
returns-in_default-clause-wrote g c =
    let o = g.O.Output in
    record { is = ap (fed o.takes o.step (o.state c.args.out.now)) (maybe_none c.first.count c.first.invariant.0 c.in_default.ensures) ∙ ap (λ s. (true, o.state s)) (sym c.first.invariant.1) }

pub returns-in_default-clause-back : goal.returns-in_default-clause-back
returns-in_default-clause-back g c = maybe_flags_back (g.C.Source.list c.args.flags) (g.C.Source.few c.args.flags)

pub returns-then-flag-clause-back : goal.returns-then-flag-clause-back
returns-then-flag-clause-back g c = made_when c.write_behind.result _ (maybe_flags_back (g.C.Source.list c.args.flags) (g.C.Source.few c.args.flags))
