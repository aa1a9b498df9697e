use Rattle.std.proofs.Common.{ℕ, List, drop, sym, subst}
use Rattle.codec.specs.Elements.{StandsFor}
use Rattle.codec.proofs.Feeds.{at_sink, made_when, put_back}
use Rattle.codec.proofs.element.put_element.Goals as goal

pub returns : goal.returns
returns g c =
    let k = g.E.Decodable in
    let x = c.args.element.now in
    let m = k.means x in
    let told = at_sink c.encode.ensures in
    let stands : StandsFor k.reads m (k.code m) = record { some = k.laws.some m (k.holds x); back = k.laws.back m (k.holds x) } in
    record {
      told = told;
      back = put_back c.encode.result (λ (d : List ℕ) (p : ℕ). StandsFor k.reads m (drop p d)) told (made_when c.encode.result _ (λ d p e. subst (StandsFor k.reads m) (sym e) stands));
    }
