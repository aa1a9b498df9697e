use Rattle.codec.proofs.Feeds.{at_sink}
use Rattle.columns.specs.Deltas.{DeltaAt}
use Rattle.codec.proofs.Feeds.{put_back}
use Rattle.columns.proofs.delta.encoder.put_deltas.Goals as goal

pub returns : goal.returns
returns g c =
    let told = at_sink c.write_deltas.ensures.wrote in
    record { told = told; back = put_back c.write_deltas.result (DeltaAt (g.N.Source.list c.args.numbers)) told c.write_deltas.ensures.back }
