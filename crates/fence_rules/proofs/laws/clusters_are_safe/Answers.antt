use Rattle.fence_rules.proofs.Safe.{clusters_are_safe, happenings_keep_fenced}
use Rattle.fence_rules.proofs.laws.clusters_are_safe.Goals as goal

pub returns : goal.returns
returns c = record { safe = clusters_are_safe; keeps = happenings_keep_fenced }
