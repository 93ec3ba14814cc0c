use Rattle.object_history.proofs.Force.{all_versions_are_shown}
use Rattle.object_history.proofs.laws.versions_are_last_shown.Goals as goal

pub returns : goal.returns
returns c = all_versions_are_shown
