use Rattle.std.proofs.Common.{ℕ, ◌≤◌, leb, Bool, MatchOption, ◌^◌, sym, subst}
use Rattle.codec.specs.declared.parse.frame.Frame.{Frame}
use Rattle.codec.specs.Frames.{worth, Split}
use Rattle.codec.proofs.Readers.{split_above, split_below}
use Rattle.codec.proofs.parse.frame.Frame.bits.Goals as goal
use Rattle.codec.proofs.parse.frame.Frame.bits.Goals.{then-negative, else-negative}

-- what a frame is worth that is taken for another one
abbrev Taken : ℕ → Frame → Frame → Type 0
Taken top f frame = Split top (worth f.low f.last f.used) f.used (leb top f.last) (worth frame.low frame.last frame.used)

pub returns-in_err-magnitude : goal.returns-in_err-magnitude
returns-in_err-magnitude c =
    let f = c.args.self in
    let top = c.args.top in
    let there : Taken top f c.if-negative.frame =
    elim c.if-negative.branch [
      | then-negative w ↦
          let i = w.inverted-frame in
          subst (Taken top f) (sym w.frame-is) (split_above top f.low f.last f.used f.some f.below c.requires.0 c.requires.1 i.result.low i.result.last i.result.used w.if-negative.true i.ensures.low i.ensures.last i.ensures.used)
      | else-negative w ↦ subst (Taken top f) (sym w.frame-is) (split_below top f.low f.last f.used f.some f.below c.requires.0 c.requires.1 w.if-negative.false)
    ]
    in
    subst (λ r. MatchOption r ((negative : Bool) × (m : ℕ) × Split top (worth f.low f.last f.used) f.used negative m × (2 ^ 64 ≤ m)) (λ b. Split top (worth f.low f.last f.used) f.used b.negative b.magnitude)) (sym c.from_residual.ensures) (leb top f.last, worth c.if-negative.frame.low c.if-negative.frame.last c.if-negative.frame.used, there, c.in_err-magnitude.ensures)

pub returns : goal.returns
returns c =
    let f = c.args.self in
    let top = c.args.top in
    let there : Taken top f c.if-negative.frame =
    elim c.if-negative.branch [
      | then-negative w ↦
          let i = w.inverted-frame in
          subst (Taken top f) (sym w.frame-is) (split_above top f.low f.last f.used f.some f.below c.requires.0 c.requires.1 i.result.low i.result.last i.result.used w.if-negative.true i.ensures.low i.ensures.last i.ensures.used)
      | else-negative w ↦ subst (Taken top f) (sym w.frame-is) (split_below top f.low f.last f.used f.some f.below c.requires.0 c.requires.1 w.if-negative.false)
    ]
    in
    subst (Split top (worth f.low f.last f.used) f.used (leb top f.last)) (sym c.in_ok-magnitude.ensures) there
