use Rattle.std.proofs.Common.{refl, arith}
use Rattle.columns.proofs.Moves.{stays, goes, stops}
use Rattle.columns.proofs.Back.{codes_same, codes_differ}
use Rattle.columns.proofs.Arms.{coming_few, empty_none, empty_some, first_none, first_then_some, nulls_none, nulls_then_some, lone_none, lone_same, lone_other, run_then_null, run_same, run_then_other, literal_size, literal_then_null, literal_then_same, literal_then_other}
use Rattle.columns.proofs.rle.state.RleState.next.Goals as goal

pub returns-in_err-flush_null_run-in-InitialNullRun-Some : goal.returns-in_err-flush_null_run-in-InitialNullRun-Some
returns-in_err-flush_null_run-in-InitialNullRun-Some g c = stops _ c.from_residual.result _ c.from_residual.ensures.0 c.in_err-flush_null_run-in-InitialNullRun-Some.ensures (first_then_some c.requires c.in-InitialNullRun-Some.is-0 c.in-InitialNullRun-Some.is-1)

pub returns-in_ok-flush_null_run-in-InitialNullRun-Some : goal.returns-in_ok-flush_null_run-in-InitialNullRun-Some
returns-in_ok-flush_null_run-in-InitialNullRun-Some g c = goes _ c.in_ok-flush_null_run-in-InitialNullRun-Some.ensures (first_then_some c.requires c.in-InitialNullRun-Some.is-0 c.in-InitialNullRun-Some.is-1)

pub returns-in_err-flush_null_run-in-NullRun-Some : goal.returns-in_err-flush_null_run-in-NullRun-Some
returns-in_err-flush_null_run-in-NullRun-Some g c = stops _ c.from_residual-in_err-flush_null_run-in-NullRun-Some.result _ c.from_residual-in_err-flush_null_run-in-NullRun-Some.ensures.0 c.in_err-flush_null_run-in-NullRun-Some.ensures (nulls_then_some c.requires c.in-NullRun-Some.is-0 c.in-NullRun-Some.is-1)

pub returns-in_ok-flush_null_run-in-NullRun-Some : goal.returns-in_ok-flush_null_run-in-NullRun-Some
returns-in_ok-flush_null_run-in-NullRun-Some g c = goes _ c.in_ok-flush_null_run-in-NullRun-Some.ensures (nulls_then_some c.requires c.in-NullRun-Some.is-0 c.in-NullRun-Some.is-1)

pub returns-in_err-flush_lit_run-in-LoneVal-None : goal.returns-in_err-flush_lit_run-in-LoneVal-None
returns-in_err-flush_lit_run-in-LoneVal-None g c = stops _ c.from_residual-in_err-flush_lit_run-in-LoneVal-None.result _ c.from_residual-in_err-flush_lit_run-in-LoneVal-None.ensures.0 c.in_err-flush_lit_run-in-LoneVal-None.ensures (lone_none c.requires (coming_few g.C.Entry.Entry.code g.C.Source.list g.C.Source.few c.args.at) c.in-LoneVal-None.is-0 c.in-LoneVal-None.is-1)

pub returns-in_ok-flush_lit_run-in-LoneVal-None : goal.returns-in_ok-flush_lit_run-in-LoneVal-None
returns-in_ok-flush_lit_run-in-LoneVal-None g c = goes _ c.in_ok-flush_lit_run-in-LoneVal-None.ensures (lone_none c.requires (coming_few g.C.Entry.Entry.code g.C.Source.list g.C.Source.few c.args.at) c.in-LoneVal-None.is-0 c.in-LoneVal-None.is-1)

pub returns-in_err-flush_run-in-Run-None : goal.returns-in_err-flush_run-in-Run-None
returns-in_err-flush_run-in-Run-None g c = stops _ c.from_residual-in_err-flush_run-in-Run-None.result _ c.from_residual-in_err-flush_run-in-Run-None.ensures.0 c.in_err-flush_run-in-Run-None.ensures (run_then_null c.requires (coming_few g.C.Entry.Entry.code g.C.Source.list g.C.Source.few c.args.at) c.in-Run-None.is-0 c.in-Run-None.is-1)

pub returns-in_ok-flush_run-in-Run-None : goal.returns-in_ok-flush_run-in-Run-None
returns-in_ok-flush_run-in-Run-None g c = goes _ c.in_ok-flush_run-in-Run-None.ensures (run_then_null c.requires (coming_few g.C.Entry.Entry.code g.C.Source.list g.C.Source.few c.args.at) c.in-Run-None.is-0 c.in-Run-None.is-1)

pub returns-in_err-flush_run-in-Run-Some : goal.returns-in_err-flush_run-in-Run-Some
returns-in_err-flush_run-in-Run-Some g c = stops _ c.from_residual-in_err-flush_run-in-Run-Some.result _ c.from_residual-in_err-flush_run-in-Run-Some.ensures.0 c.in_err-flush_run-in-Run-Some.ensures (run_then_other c.requires c.in-Run-Some.is-0 c.in-Run-Some.is-1 (codes_differ g.E.Decodable.laws (g.E.Decodable.holds c.in-Run-Some.value) (g.E.Decodable.holds c.in-Run-Some.x) c.if-same-2.ensures))

pub returns-in_ok-flush_run-in-Run-Some : goal.returns-in_ok-flush_run-in-Run-Some
returns-in_ok-flush_run-in-Run-Some g c = goes _ c.in_ok-flush_run-in-Run-Some.ensures (run_then_other c.requires c.in-Run-Some.is-0 c.in-Run-Some.is-1 (codes_differ g.E.Decodable.laws (g.E.Decodable.holds c.in-Run-Some.value) (g.E.Decodable.holds c.in-Run-Some.x) c.if-same-2.ensures))

pub returns-in_err-flush_lit_run-in-LiteralRun-None : goal.returns-in_err-flush_lit_run-in-LiteralRun-None
returns-in_err-flush_lit_run-in-LiteralRun-None g c = stops _ c.from_residual-in_err-flush_lit_run-in-LiteralRun-None.result _ c.from_residual-in_err-flush_lit_run-in-LiteralRun-None.ensures.0 c.in_err-flush_lit_run-in-LiteralRun-None.ensures (literal_then_null c.requires (coming_few g.C.Entry.Entry.code g.C.Source.list g.C.Source.few c.args.at) c.in-LiteralRun-None.is-0 c.in-LiteralRun-None.is-1)

pub returns-in_ok-flush_lit_run-in-LiteralRun-None : goal.returns-in_ok-flush_lit_run-in-LiteralRun-None
returns-in_ok-flush_lit_run-in-LiteralRun-None g c = goes _ c.in_ok-flush_lit_run-in-LiteralRun-None.ensures (literal_then_null c.requires (coming_few g.C.Entry.Entry.code g.C.Source.list g.C.Source.few c.args.at) c.in-LiteralRun-None.is-0 c.in-LiteralRun-None.is-1)

pub returns-in_err-flush_lit_run-in-LiteralRun-Some : goal.returns-in_err-flush_lit_run-in-LiteralRun-Some
returns-in_err-flush_lit_run-in-LiteralRun-Some g c = stops _ c.from_residual-in_err-flush_lit_run-in-LiteralRun-Some.result _ c.from_residual-in_err-flush_lit_run-in-LiteralRun-Some.ensures.0 c.in_err-flush_lit_run-in-LiteralRun-Some.ensures (literal_then_same c.requires (coming_few g.C.Entry.Entry.code g.C.Source.list g.C.Source.few c.in-LiteralRun-Some.from) c.in-LiteralRun-Some.is-0 c.in-LiteralRun-Some.is-1 (codes_same g.E.Decodable.laws c.if-same-3.ensures))

pub returns-in_ok-flush_lit_run-in-LiteralRun-Some : goal.returns-in_ok-flush_lit_run-in-LiteralRun-Some
returns-in_ok-flush_lit_run-in-LiteralRun-Some g c = goes _ c.in_ok-flush_lit_run-in-LiteralRun-Some.ensures (literal_then_same c.requires (coming_few g.C.Entry.Entry.code g.C.Source.list g.C.Source.few c.in-LiteralRun-Some.from) c.in-LiteralRun-Some.is-0 c.in-LiteralRun-Some.is-1 (codes_same g.E.Decodable.laws c.if-same-3.ensures))

pub returns-in-Empty-None : goal.returns-in-Empty-None
returns-in-Empty-None g c = let o = g.O.Output in stays o.takes o.step (o.state c.args.out.now) (empty_none c.requires (coming_few g.C.Entry.Entry.code g.C.Source.list g.C.Source.few c.args.at) c.in-Empty-None.is-0 c.in-Empty-None.is-1)

pub returns-in-Empty-Some : goal.returns-in-Empty-Some
returns-in-Empty-Some g c = let o = g.O.Output in stays o.takes o.step (o.state c.args.out.now) (empty_some c.requires c.in-Empty-Some.is-0 c.in-Empty-Some.is-1)

pub returns-in-InitialNullRun-None : goal.returns-in-InitialNullRun-None
returns-in-InitialNullRun-None g c = let o = g.O.Output in stays o.takes o.step (o.state c.args.out.now) (first_none c.requires c.in-InitialNullRun-None.is-0 c.in-InitialNullRun-None.is-1)

pub returns-in-NullRun-None : goal.returns-in-NullRun-None
returns-in-NullRun-None g c = let o = g.O.Output in stays o.takes o.step (o.state c.args.out.now) (nulls_none c.requires c.in-NullRun-None.is-0 c.in-NullRun-None.is-1)

pub returns-then-same : goal.returns-then-same
returns-then-same g c = let o = g.O.Output in stays o.takes o.step (o.state c.args.out.now) (lone_same c.requires (coming_few g.C.Entry.Entry.code g.C.Source.list g.C.Source.few c.in-LoneVal-Some.from) c.in-LoneVal-Some.is-0 c.in-LoneVal-Some.is-1 (codes_same g.E.Decodable.laws c.if-same.ensures))

pub returns-else-same : goal.returns-else-same
returns-else-same g c = let o = g.O.Output in stays o.takes o.step (o.state c.args.out.now) (lone_other c.requires c.in-LoneVal-Some.is-0 c.in-LoneVal-Some.is-1 (codes_differ g.E.Decodable.laws (g.E.Decodable.holds c.in-LoneVal-Some.last) (g.E.Decodable.holds c.in-LoneVal-Some.x) c.if-same.ensures))

pub returns-then-same-2 : goal.returns-then-same-2
returns-then-same-2 g c = let o = g.O.Output in stays o.takes o.step (o.state c.args.out.now) (run_same c.requires c.in-Run-Some.is-0 c.in-Run-Some.is-1 (codes_same g.E.Decodable.laws c.if-same-2.ensures))

pub returns-else-same-3 : goal.returns-else-same-3
returns-else-same-3 g c = let o = g.O.Output in stays o.takes o.step (o.state c.args.out.now) (literal_then_other c.requires c.in-LiteralRun-Some.is-0 c.in-LiteralRun-Some.is-1 (codes_differ g.E.Decodable.laws (g.E.Decodable.holds c.in-LiteralRun-Some.last) (g.E.Decodable.holds c.in-LiteralRun-Some.x) c.if-same-3.ensures))

pub flush_lit_run-requires-in-LiteralRun-None : goal.flush_lit_run-requires-in-LiteralRun-None
flush_lit_run-requires-in-LiteralRun-None g c = let z = literal_size c.requires (coming_few g.C.Entry.Entry.code g.C.Source.list g.C.Source.few c.in-LiteralRun-None.from) c.in-LiteralRun-None.is-0 in λ _. ((refl, tt), (omega arith, omega arith))

pub flush_lit_run-requires-then-same-3 : goal.flush_lit_run-requires-then-same-3
flush_lit_run-requires-then-same-3 g c = let z = literal_size c.requires (coming_few g.C.Entry.Entry.code g.C.Source.list g.C.Source.few c.in-LiteralRun-Some.from) c.in-LiteralRun-Some.is-0 in λ _. ((refl, tt), (omega arith, omega arith))

pub overflow_add-result-else-same-3 : goal.overflow_add-result-else-same-3
overflow_add-result-else-same-3 g c = let z = literal_size c.requires (coming_few g.C.Entry.Entry.code g.C.Source.list g.C.Source.few c.in-LiteralRun-Some.from) c.in-LiteralRun-Some.is-0 in omega arith
