use Rattle.field_laws.proofs.ObjectLaws.{deleted_as_told}
use Rattle.field_laws.proofs.tables.deleted_objects_are_told.Goals as goal

pub returns : goal.returns
returns c = deleted_as_told
