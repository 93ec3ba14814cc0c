use Rattle.event_laws.proofs.VersionLaws.{set_versions_are_versions}
use Rattle.event_laws.proofs.laws.set_versions_are_versions.Goals as goal

pub returns : goal.returns
returns c = set_versions_are_versions
