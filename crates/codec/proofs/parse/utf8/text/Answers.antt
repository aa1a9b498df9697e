use Rattle.std.proofs.Common.{IsUtf8, sym, ◌∙◌, rules}
use Rattle.codec.proofs.Grammar.{decides_utf8}
use Rattle.codec.proofs.parse.utf8.text.Goals as goal

pub then-requires : goal.then-requires
then-requires c e =
    let text : IsUtf8 c.args.bytes.now = (decides_utf8 c.args.bytes.now).0 (sym c.is_utf8.ensures.answer ∙ e) in
    search rules

pub returns-clause-language : goal.returns-clause-language
returns-clause-language c = decides_utf8 c.args.bytes.now
