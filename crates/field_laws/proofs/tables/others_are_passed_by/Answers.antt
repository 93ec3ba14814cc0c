use Rattle.field_laws.proofs.LineLaws.{others_are_passed_by}
use Rattle.field_laws.proofs.tables.others_are_passed_by.Goals as goal

pub returns : goal.returns
returns c = others_are_passed_by
