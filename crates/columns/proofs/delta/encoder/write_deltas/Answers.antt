use Rattle.std.proofs.lemmas.Result.{IfOk-weaker}
use Rattle.columns.proofs.Deltas.{delta_back}
use Rattle.columns.proofs.delta.encoder.write_deltas.Goals as goal

pub returns : goal.returns
returns g c = record { wrote = c.write_runs.ensures.wrote; back = IfOk-weaker c.write_runs.result _ _ (λ _. delta_back (g.N.Source.list c.args.numbers)) c.write_runs.ensures.back }
