use Rattle.fence_laws.proofs.HeldBack.{gone_are_held_back}
use Rattle.fence_laws.proofs.laws.gone_puts_are_held_back.Goals as goal

pub returns : goal.returns
returns c = gone_are_held_back
