use Rattle.json_fields.proofs.FieldLaws.{null_is_absent}
use Rattle.json_fields.proofs.laws.null_is_absent.Goals as goal

pub returns : goal.returns
returns c = null_is_absent
