use Rattle.field_laws.proofs.LineLaws.{lines_as_told}
use Rattle.field_laws.proofs.tables.lines_are_told.Goals as goal

pub returns : goal.returns
returns c = lines_as_told
