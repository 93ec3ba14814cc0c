use Rattle.field_laws.proofs.ObjectLaws.{changed_as_told}
use Rattle.field_laws.proofs.tables.changed_objects_are_told.Goals as goal

pub returns : goal.returns
returns c = changed_as_told
