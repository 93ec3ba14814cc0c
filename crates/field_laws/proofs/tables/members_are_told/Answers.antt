use Rattle.field_laws.proofs.ObjectLaws.{members_as_told}
use Rattle.field_laws.proofs.tables.members_are_told.Goals as goal

pub returns : goal.returns
returns c = members_as_told
