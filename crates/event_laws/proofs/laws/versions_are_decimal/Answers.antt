use Rattle.event_laws.proofs.VersionLaws.{versions_are_decimal}
use Rattle.event_laws.proofs.laws.versions_are_decimal.Goals as goal

pub returns : goal.returns
returns c = versions_are_decimal
