use Rattle.field_laws.proofs.TypeReads.{numbers_are_read}
use Rattle.field_laws.proofs.values.numbers_are_read.Goals as goal

pub returns : goal.returns
returns c = numbers_are_read
