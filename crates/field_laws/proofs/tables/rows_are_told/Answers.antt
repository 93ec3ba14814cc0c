use Rattle.field_laws.proofs.RowReads.{rows_are_told}
use Rattle.field_laws.proofs.tables.rows_are_told.Goals as goal

pub returns : goal.returns
returns c = rows_are_told
