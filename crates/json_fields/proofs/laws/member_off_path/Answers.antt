use Rattle.json_fields.proofs.FieldLaws.{member_off_path}
use Rattle.json_fields.proofs.laws.member_off_path.Goals as goal

pub returns : goal.returns
returns c = member_off_path
