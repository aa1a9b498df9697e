use Rattle.std.proofs.Common.{◌≡◌, ◌^◌, ◌<◌, ◌≤◌, take}
use Rattle.codec.specs.Leb128.{unsigned}
use Rattle.codec.specs.Laws.Frames.{High}
use Rattle.codec.proofs.parse.frame.frame_at.Given as goal

-- so far no byte ended the number, and `low` is what they are worth
abbrev pub invariant-loop-i : goal.invariant-loop-i
invariant-loop-i l = (l.i ≤ 9) × (l.low < 128 ^ l.i) × (l.low ≡ unsigned (take l.i l.bytes)) × High (take l.i l.bytes)
