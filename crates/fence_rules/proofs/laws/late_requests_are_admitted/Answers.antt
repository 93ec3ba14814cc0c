use Rattle.fence_rules.proofs.Histories.{namings_may_be_lost, puts_may_be_held_back, puts_may_be_owed, puts_may_be_resent}
use Rattle.fence_rules.proofs.laws.late_requests_are_admitted.Goals as goal

pub returns : goal.returns
returns c = record { held_back = puts_may_be_held_back; resent = puts_may_be_resent; lost = namings_may_be_lost; owed = puts_may_be_owed }
