use Rattle.json_text_laws.proofs.Readers.{text_maps_are_labels}
use Rattle.json_text_laws.proofs.laws.text_maps_are_labels.Goals as goal

pub returns : goal.returns
returns c = text_maps_are_labels
