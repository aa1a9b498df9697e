use Rattle.std.proofs.Common.{◌≡◌, length, ◌∙◌, arith}
use Rattle.columns.specs.Came.{coming}
use Rattle.columns.specs.Cut.{written}
use Rattle.std.proofs.lemmas.Result.{MatchResult-from_err}
use Rattle.columns.proofs.Length.{written_most}
use Rattle.columns.proofs.Puts.{counter_all, counter_full}
use Rattle.columns.proofs.rle.put.runs_len.Goals as goal

pub returns : goal.returns
returns g c =
    let n : c.told.result ≡ length (written (coming g.C.Entry.Entry.code g.C.Source.list c.args.source)) = c.told.ensures ∙ counter_all c.new-counter.ensures c.in_ok-write_runs.ensures.wrote in
    (n, omega (arith, n, written_most (coming g.C.Entry.Entry.code g.C.Source.list c.args.source)))

pub returns-in_err-write_runs : goal.returns-in_err-write_runs
returns-in_err-write_runs g c = MatchResult-from_err c.from_residual.result _ _ c.from_residual.ensures.0 (λ _. counter_full c.new-counter.ensures c.in_err-write_runs.ensures.wrote)
