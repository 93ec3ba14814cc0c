use Rattle.field_laws.proofs.ObjectLaws.{stated_as_told}
use Rattle.field_laws.proofs.tables.stated_objects_are_told.Goals as goal

pub returns : goal.returns
returns c = stated_as_told
