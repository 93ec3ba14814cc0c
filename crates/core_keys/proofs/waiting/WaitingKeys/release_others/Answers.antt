use Rattle.std.proofs.Common.{rules}
use Rattle.std.proofs.lemmas.Fn.{filter_same}
use Rattle.kube_model.specs.Keys.{same_key}
use Rattle.core_keys.proofs.KeySets.{contains-one_left}
use Rattle.core_keys.proofs.waiting.WaitingKeys.release_others.Goals as goal

pub returns-then-is_lost : goal.returns-then-is_lost
returns-then-is_lost c = λ k.
    rw (← c.self.view_is)
    (contains-one_left c.args.is_lost c.self.inside.keys c.retain.new.self c.args.key.now c.if-is_lost.true
    (filter_same _ (λ x. same_key x c.args.key.now) _ (λ x b f' t. search rules) _ _ c.retain.ensures.filtered) k)
