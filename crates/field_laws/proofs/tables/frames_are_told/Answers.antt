use Rattle.field_laws.proofs.ObjectLaws.{frames_as_told}
use Rattle.field_laws.proofs.tables.frames_are_told.Goals as goal

pub returns : goal.returns
returns c = frames_as_told
