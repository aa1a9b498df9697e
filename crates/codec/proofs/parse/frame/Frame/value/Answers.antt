use Rattle.std.proofs.Common.{arith}
use Rattle.codec.proofs.Readers.{value_room}
use Rattle.codec.proofs.parse.frame.Frame.value.Goals as goal
use Rattle.codec.proofs.parse.frame.Frame.value.Goals.{else-self-eq-LONGEST-via-then-self-eq-LONGEST+else-self-gt1, else-self-eq-LONGEST-via-else-self-eq-LONGEST}

pub at_place-requires : goal.at_place-requires
at_place-requires c =
    let f = c.args.self.now in
    let r = value_room f.low f.last f.used f.some f.few f.group f.below (elim c.else-self-eq-LONGEST.branch [
      | else-self-eq-LONGEST-via-then-self-eq-LONGEST+else-self-gt1 w ↦ (λ _. w.if-self-gt1.false)
      | else-self-eq-LONGEST-via-else-self-eq-LONGEST w ↦ (λ e. absurd (w.if-self-eq-LONGEST.false e))
    ]) in
    (omega (arith, r), omega (arith, f.few))

pub overflow_add-result : goal.overflow_add-result
overflow_add-result c =
    let f = c.args.self.now in
    let r = value_room f.low f.last f.used f.some f.few f.group f.below (elim c.else-self-eq-LONGEST.branch [
      | else-self-eq-LONGEST-via-then-self-eq-LONGEST+else-self-gt1 w ↦ (λ _. w.if-self-gt1.false)
      | else-self-eq-LONGEST-via-else-self-eq-LONGEST w ↦ (λ e. absurd (w.if-self-eq-LONGEST.false e))
    ]) in
    omega (arith, r, c.at_place.ensures)
