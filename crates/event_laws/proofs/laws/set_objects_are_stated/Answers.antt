use Rattle.event_laws.proofs.TellingLaws.{set_objects_are_stated}
use Rattle.event_laws.proofs.laws.set_objects_are_stated.Goals as goal

pub returns : goal.returns
returns c = set_objects_are_stated
