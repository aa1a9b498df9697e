use Rattle.columns.proofs.Stands.{texts_stand}
use Rattle.columns.proofs.column_decoder.columns.RleDecoderTextColumnDecoder.maybe_next.Goals as goal

pub returns-in_err-next-clause-places : goal.returns-in_err-next-clause-places
returns-in_err-next-clause-places c = texts_stand

pub returns-clause-places : goal.returns-clause-places
returns-clause-places c = texts_stand
