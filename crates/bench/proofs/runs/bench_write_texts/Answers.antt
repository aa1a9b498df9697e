use Rattle.std.proofs.Common.{◌≡◌, ℕ, List, Option, length, map, subst, arith}
use Rattle.std.proofs.lemmas.Grind.{common_steps}
use Rattle.std.specs.Option.{option_map}
use Rattle.codec.specs.Elements.{text_code}
use Rattle.columns.specs.Cut.{written}
use Rattle.bench.specs.declared.spans.Span.{Span}
use Rattle.bench.specs.Columns.{length_or_refused}
use Rattle.bench.specs.Lists.{text_at, spanned, spanned_map}
use Rattle.bench.proofs.runs.bench_write_texts.Goals as goal

pub returns : goal.returns
returns c =
    let spans = c.new.result in
    let code = λ (s : Span). option_map text_code (text_at s.pool.now s.start s.end) in
    let one : ℕ → ℕ → Span = λ start end. record { pool = spans.pool; start = start; end = end } in
    let told : List (Option (List ℕ)) → Type 0 = λ xs. c.map_or.result ≡ length_or_refused (length c.args.out.now) (written xs) in
    let there : told (map code (spanned one spans.spans.now)) = grind (arith, common_steps) in
    subst (λ (pool : List ℕ). told (spanned (λ s e. option_map text_code (text_at pool s e)) c.args.spans.now)) c.new.ensures.0
    (subst (λ (l : List ℕ). told (spanned (λ s e. option_map text_code (text_at spans.pool.now s e)) l)) c.new.ensures.1 (subst told (spanned_map code one spans.spans.now) there))
