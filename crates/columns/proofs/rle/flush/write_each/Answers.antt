use Rattle.std.proofs.Common.{◌-◌, ◌+◌, take, sym, ap, ◌∙◌}
use Rattle.codec.specs.Feed.{fed}
use Rattle.codec.proofs.Feeds.{fed_on, fed_stop}
use Rattle.columns.specs.Came.{coming}
use Rattle.columns.specs.Spelled.{spelled}
use Rattle.columns.proofs.Parts.{each_step}
use Rattle.columns.proofs.rle.flush.write_each.Goals as goal
use Rattle.columns.proofs.rle.flush.write_each.Goals.{in-Some-element+in_ok-encode, in_default-element}

pub returns-in_err-encode : goal.returns-in_err-encode
returns-in_err-encode g c =
    let n = c.loop.counter in
    let rest = spelled (take (c.args.count - (n + 1)) (coming g.C.Entry.Entry.code g.C.Source.list c.next.new.self)) in
    record { is = fed_stop _ _ rest c.loop.invariant (each_step g.C.Entry.Entry.code c.args.count n c.loop-test.true c.in-Some.ensures c.in-Some-element.ensures) c.from_residual.result c.from_residual.ensures.0 c.in_err-encode.ensures }

pub loop-preserved : goal.loop-preserved
loop-preserved g c =
    let o = g.O.Output in
    let n = c.loop.counter in
    let rest = spelled (take (c.args.count - (n + 1)) (coming g.C.Entry.Entry.code g.C.Source.list c.next.new.self)) in
    elim c.match-element.branch [
      | in-Some-element+in_ok-encode w ↦
          ap (λ u. fed o.takes o.step (o.state u) rest) w.out-is
          ∙ fed_on _ _ rest c.loop.invariant (each_step g.C.Entry.Entry.code c.args.count n c.loop-test.true c.in-Some.ensures w.in-Some-element.ensures) w.in_ok-encode.ensures
      | in_default-element w ↦
          ap (λ u. fed o.takes o.step (o.state u) rest) w.out-is
          ∙ ap (fed o.takes o.step (o.state c.loop.out)) (sym (each_step g.C.Entry.Entry.code c.args.count n c.loop-test.true c.in-Some.ensures w.in_default-element.ensures))
          ∙ c.loop.invariant
    ]
