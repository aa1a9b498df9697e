use Rattle.codec.proofs.Feeds.{at_sink}
use Rattle.columns.specs.Came.{coming}
use Rattle.columns.specs.Law.{ColumnAt}
use Rattle.columns.proofs.Cuts.{the_cut}
use Rattle.codec.proofs.Feeds.{put_back}
use Rattle.columns.proofs.rle.put.put_runs.Goals as goal

pub returns : goal.returns
returns g c =
    let k = g.E.Decodable in
    let xs = coming g.C.Entry.Entry.code g.C.Source.list c.args.source in
    let told = at_sink c.write_runs.ensures.wrote in
    record { told = told; cut = the_cut xs; back = put_back c.write_runs.result (ColumnAt k.Element k.code k.reads xs) told c.write_runs.ensures.back }
