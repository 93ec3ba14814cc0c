use Rattle.fence_rules.proofs.Among.{runs_are_safe_among_others}
use Rattle.fence_rules.proofs.laws.runs_are_safe_among_others.Goals as goal

pub returns : goal.returns
returns c = runs_are_safe_among_others
