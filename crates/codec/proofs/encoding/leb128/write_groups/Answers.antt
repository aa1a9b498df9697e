use Rattle.std.proofs.Common.{ℕ, ◌+◌, ◌/◌, [], ◌∷◌, sym, ap, ◌∙◌}
use Rattle.codec.specs.Feed.{fed}
use Rattle.codec.specs.Leb128.{groups}
use Rattle.codec.proofs.Feeds.{fed_on, fed_stop}
use Rattle.codec.specs.Laws.Groups.{groups_next, groups_last}
use Rattle.codec.proofs.encoding.leb128.write_groups.Goals as goal

pub returns-in_err-tell : goal.returns-in_err-tell
returns-in_err-tell g c =
    let n = c.loop-rest.rest in
    let top = c.args.top in
    let negative = c.args.bits.negative in
    let bits = c.group.result in
    let parts = groups_next top c.requires.0 c.requires.1 negative n bits c.loop-rest-test.true c.group.ensures in
    record { is = fed_stop (groups top negative n) ((128 + bits) ∷ []) (groups top negative (n / 128)) c.loop-rest.invariant parts c.from_residual.result c.from_residual.ensures.0 c.in_err-tell.ensures }

pub loop-rest-preserved : goal.loop-rest-preserved
loop-rest-preserved g c =
    let n = c.loop-rest.rest in
    let top = c.args.top in
    let negative = c.args.bits.negative in
    let bits = c.group.result in
    let parts = groups_next top c.requires.0 c.requires.1 negative n bits c.loop-rest-test.true c.group.ensures in
    fed_on (groups top negative n) ((128 + bits) ∷ []) (groups top negative (n / 128)) c.loop-rest.invariant parts c.in_ok-tell.ensures

pub returns : goal.returns
returns g c =
    let o = g.O.Output in
    let n = c.loop-rest.rest in
    let last = groups_last c.args.top c.requires.0 c.requires.1 c.args.bits.negative n c.loop-rest-test.false ∙ ap (λ (b : ℕ). b ∷ []) (sym c.group-2.ensures) in
    record { is = sym c.loop-rest.invariant ∙ ap (fed o.takes o.step (o.state c.loop-rest.out)) last ∙ c.tell-2.ensures.is }
