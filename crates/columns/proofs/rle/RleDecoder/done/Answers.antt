use Rattle.std.proofs.Common.{sym, ◌∙◌, arith, ne_eqb}
use Rattle.columns.specs.Runs.{run_by}
use Rattle.columns.proofs.Columns.{none_at, run_begun}
use Rattle.columns.proofs.rle.RleDecoder.done.Goals as goal

pub returns-then-self-eq0 : goal.returns-then-self-eq0
returns-then-self-eq0 g c =
    let k = g.E.Decodable in
    let s = c.args.self.now in
    c.at_end.ensures ∙ none_at k.reads k.laws s.cursor.bytes.now (run_by k.means s.head.run) s.head.count s.cursor.offset c.if-self-eq0.true

pub returns-else-self-eq0 : goal.returns-else-self-eq0
returns-else-self-eq0 g c =
    let k = g.E.Decodable in
    let s = c.args.self.now in
    ne_eqb s.head.count 0 c.if-self-eq0.false ∙ sym (run_begun k.reads k.laws s.cursor.bytes.now (run_by k.means s.head.run) s.head.count s.cursor.offset _ (omega arith))
