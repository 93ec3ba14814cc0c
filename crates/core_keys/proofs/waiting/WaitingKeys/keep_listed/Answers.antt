use Rattle.std.proofs.Common.{rules, ap, ◌&&◌, not, ◌∙◌}
use Rattle.std.proofs.lemmas.Fn.{filter_same}
use Rattle.core_rules.specs.Take.{is_unlisted}
use Rattle.core_keys.proofs.KeySets.{contains-kept}
use Rattle.core_keys.proofs.waiting.WaitingKeys.keep_listed.Goals as goal

pub returns : goal.returns
returns c = λ k.
    rw (← c.self.view_is)
    (c.clear_where.ensures k
    ∙ ap (λ b. not c.args.is_lost && b)
    (contains-kept (λ key. not (is_unlisted c.args.services.now key)) c.self.inside.keys c.retain.new.self
    (filter_same _ _ _ (λ x b f' t. search rules) _ _ c.retain.ensures.filtered) k))
