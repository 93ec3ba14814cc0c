use Rattle.choice_laws.proofs.Reasons.{exhausted-full, no-pool-open, pending-in-vain}
use Rattle.choice_laws.proofs.laws.exhausted_is_full.Goals as goal

pub returns-clause-full : goal.returns-clause-full
returns-clause-full c = exhausted-full

pub returns-clause-none : goal.returns-clause-none
returns-clause-none c = no-pool-open

pub returns-clause-vain : goal.returns-clause-vain
returns-clause-vain c = pending-in-vain
