use Rattle.core_keys.proofs.KeySets.{contains-added}
use Rattle.core_keys.proofs.waiting.WaitingKeys.insert.Goals as goal

pub returns-clause-ok : goal.returns-clause-ok
returns-clause-ok c = λ k.
    rw (← c.self.view_is, ← c.in_ok-copy.ensures) (contains-added c.self.inside.keys c.insert.new.self c.in_ok-copy.field-0 k c.in_ok-insert.ensures.updates)
