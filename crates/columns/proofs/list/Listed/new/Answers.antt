use Rattle.std.proofs.Common.{◌≡◌, ◌-◌, ◌^◌, min, length, take, ap, ◌∙◌, arith}
use Rattle.std.proofs.lemmas.List.{take_min}
use Rattle.columns.proofs.list.Listed.new.Goals as goal

pub returns : goal.returns
returns g c =
    let xs = c.args.items.now in
    let len : c.min-len.result - 0 ≡ min (2 ^ 63 - 1) (length xs) = omega arith in
    ap (λ n. take n xs) len ∙ take_min (2 ^ 63 - 1) xs
