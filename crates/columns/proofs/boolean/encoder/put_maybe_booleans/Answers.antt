use Rattle.codec.proofs.Feeds.{at_sink, put_back}
use Rattle.columns.specs.Flags.{MaybeFlagsAt}
use Rattle.columns.proofs.FlagsBack.{flag_cut}
use Rattle.columns.proofs.boolean.encoder.put_maybe_booleans.Goals as goal

pub returns : goal.returns
returns g c =
    let xs = g.C.Source.list c.args.flags in
    let told = at_sink c.write_maybe_booleans.ensures.wrote in
    record { told = told; cut = flag_cut xs; back = put_back c.write_maybe_booleans.result (MaybeFlagsAt xs) told c.write_maybe_booleans.ensures.back }
