use Rattle.field_laws.proofs.LineLaws.{lines_are_read_by_value}
use Rattle.field_laws.proofs.tables.lines_are_read_by_value.Goals as goal

pub returns : goal.returns
returns c = lines_are_read_by_value
