use Rattle.json_text_laws.proofs.Values.{values_have_texts}
use Rattle.json_text_laws.proofs.laws.values_have_texts.Goals as goal

pub returns : goal.returns
returns c = values_have_texts
