use Rattle.std.proofs.Common.{◌≡◌, drop}
use Rattle.codec.specs.Feed.{fed}
use Rattle.codec.proofs.encoding.append.Given as goal

-- what is left to tell gives the whole answer
abbrev pub invariant-loop-byte : goal.invariant-loop-byte
invariant-loop-byte g l =
    let o = g.O.Output in
    fed o.takes o.step (o.state l.out) (drop l.byte-index l.bytes) ≡ fed o.takes o.step (o.state l.initial.out) l.bytes
