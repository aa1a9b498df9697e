use Rattle.codec.proofs.Feeds.{made_when}
use Rattle.columns.proofs.FlagsBack.{flags_back}
use Rattle.columns.proofs.boolean.encoder.write_booleans.Goals as goal

pub returns-clause-back : goal.returns-clause-back
returns-clause-back g c = made_when c.write_behind.result _ (flags_back (g.C.Source.list c.args.flags) (g.C.Source.few c.args.flags))
