use Rattle.fence_rules.proofs.Going.{leases_are_taken_over, puts_are_made}
use Rattle.fence_rules.proofs.laws.clusters_go_on.Goals as goal

pub returns : goal.returns
returns c = record { puts = puts_are_made; takes = leases_are_taken_over }
