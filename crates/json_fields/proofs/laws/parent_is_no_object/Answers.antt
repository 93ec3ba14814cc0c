use Rattle.json_fields.proofs.FieldLaws.{parent_is_no_object}
use Rattle.json_fields.proofs.laws.parent_is_no_object.Goals as goal

pub returns : goal.returns
returns c = parent_is_no_object
