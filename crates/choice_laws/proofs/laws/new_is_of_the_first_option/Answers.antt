use Rattle.choice_laws.proofs.Records.{new-of-the-first, new-of-the-first-pool, new-could-be-had}
use Rattle.choice_laws.proofs.laws.new_is_of_the_first_option.Goals as goal

pub returns-clause-first : goal.returns-clause-first
returns-clause-first c = new-of-the-first

pub returns-clause-could : goal.returns-clause-could
returns-clause-could c = new-could-be-had

pub returns-clause-pool : goal.returns-clause-pool
returns-clause-pool c = new-of-the-first-pool
