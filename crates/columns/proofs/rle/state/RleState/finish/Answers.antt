use Rattle.std.proofs.Common.{sym, refl}
use Rattle.codec.proofs.Feeds.{fed_same}
use Rattle.columns.specs.Came.{coming}
use Rattle.columns.proofs.Arms.{coming_few, end_silent, end_nulls, end_lone, end_run, end_size, end_literal}
use Rattle.columns.proofs.rle.state.RleState.finish.Goals as goal

pub returns-in-Empty : goal.returns-in-Empty
returns-in-Empty g c = let k = g.E.Decodable in fed_same (sym (end_silent k.code k.means (coming g.C.Entry.Entry.code g.C.Source.list) c.requires c.in-Empty.is)) (record { is = refl })

pub returns-in-NullRun : goal.returns-in-NullRun
returns-in-NullRun g c = let k = g.E.Decodable in fed_same (sym (end_nulls k.code k.means (coming g.C.Entry.Entry.code g.C.Source.list) c.requires c.in-NullRun.is)) c.flush_null_run.ensures

pub returns-in-LoneVal : goal.returns-in-LoneVal
returns-in-LoneVal g c = let k = g.E.Decodable in fed_same (sym (end_lone k.code k.means (coming g.C.Entry.Entry.code g.C.Source.list) c.requires c.in-LoneVal.is)) c.flush_lit_run.ensures

pub returns-in-Run : goal.returns-in-Run
returns-in-Run g c = let k = g.E.Decodable in fed_same (sym (end_run k.code k.means (coming g.C.Entry.Entry.code g.C.Source.list) c.requires c.in-Run.is)) c.flush_run.ensures

pub returns-in-LiteralRun : goal.returns-in-LiteralRun
returns-in-LiteralRun g c = let k = g.E.Decodable in fed_same (sym (end_literal k.code k.means (coming g.C.Entry.Entry.code g.C.Source.list) c.requires c.in-LiteralRun.is)) c.flush_lit_run-in-LiteralRun.ensures

pub flush_lit_run-requires-in-LiteralRun : goal.flush_lit_run-requires-in-LiteralRun
flush_lit_run-requires-in-LiteralRun g c = let k = g.E.Decodable in let z = end_size k.code k.means (coming g.C.Entry.Entry.code g.C.Source.list) c.requires (coming_few g.C.Entry.Entry.code g.C.Source.list g.C.Source.few c.in-LiteralRun.from) c.in-LiteralRun.is in λ _. ((refl, tt), (z.0, z.1))
