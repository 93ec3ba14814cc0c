use Rattle.json_fields.proofs.FieldLaws.{absent_parent}
use Rattle.json_fields.proofs.laws.absent_parent.Goals as goal

pub returns : goal.returns
returns c = absent_parent
