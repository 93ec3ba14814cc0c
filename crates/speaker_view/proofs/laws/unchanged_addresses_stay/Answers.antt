use Rattle.speaker_view.proofs.Staying.{unchanged_addresses_stay}
use Rattle.speaker_view.proofs.laws.unchanged_addresses_stay.Goals as goal

pub returns : goal.returns
returns c = unchanged_addresses_stay
