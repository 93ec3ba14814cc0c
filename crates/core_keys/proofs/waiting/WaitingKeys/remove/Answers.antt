use Rattle.core_keys.proofs.KeySets.{contains-removed}
use Rattle.core_keys.proofs.waiting.WaitingKeys.remove.Goals as goal

pub returns : goal.returns
returns c = λ k. rw (← c.self.view_is) (contains-removed c.self.inside.keys c.remove.new.self c.args.key.now k c.remove.ensures.updates)
