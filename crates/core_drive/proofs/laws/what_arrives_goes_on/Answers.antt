use Rattle.core_drive.proofs.Goes.{begins_fresh, events_go_on, expiries_go_on, replies_go_on}
use Rattle.core_drive.proofs.laws.what_arrives_goes_on.Goals as goal

pub returns-clause-begins : goal.returns-clause-begins
returns-clause-begins c = begins_fresh

pub returns-clause-events : goal.returns-clause-events
returns-clause-events c = events_go_on

pub returns-clause-expiries : goal.returns-clause-expiries
returns-clause-expiries c = expiries_go_on

pub returns-clause-replies : goal.returns-clause-replies
returns-clause-replies c = replies_go_on
