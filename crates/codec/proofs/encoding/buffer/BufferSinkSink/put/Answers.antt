use Rattle.std.proofs.Common.{ℕ, ◌+◌, ◌<◌, List, [], ◌∷◌, ◌++◌, length, take, drop, set, sym, ap, ◌∙◌, arith, rules}
use Rattle.std.proofs.lemmas.Bool.{ltb-true}
use Rattle.std.proofs.lemmas.List.{length-take-le, take_more_set, length-set, drop-set-lt, drop-drop}
use Rattle.codec.specs.Sinks.{holding}
use Rattle.codec.proofs.encoding.buffer.BufferSinkSink.put.Goals as goal

pub returns-then-accepts : goal.returns-then-accepts
returns-then-accepts c =
    let xs = c.args.self.now.buf.now in
    let i = c.args.self.now.len in
    let b = c.args.byte in
    let free : i < length xs = omega (arith, ltb-true _ _ (sym c.accepts.ensures ∙ c.if-accepts.true), length-take-le i xs c.args.self.now.inside) in
    record {
      answer = search rules;
      after =
          ap (λ (h : List ℕ). holding h (drop (i + 1) (set xs i b)) (length (set xs i b), c.args.self.now.buf.ghost_name)) (take_more_set xs i b free)
          ∙ ap (λ (f : List ℕ). holding (take i xs ++ b ∷ []) f (length (set xs i b), c.args.self.now.buf.ghost_name)) (drop-set-lt (i + 1) xs i b (omega arith) ∙ sym (drop-drop 1 i xs))
          ∙ ap (λ (n : ℕ). holding (take i xs ++ b ∷ []) (drop 1 (drop i xs)) (n, c.args.self.now.buf.ghost_name)) (length-set xs i b);
    }
