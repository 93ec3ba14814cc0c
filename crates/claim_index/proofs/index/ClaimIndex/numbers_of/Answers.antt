use Rattle.std.proofs.Common.{List, ℕ, ap, ◌∙◌}
use Rattle.kube_model.specs.declared.key.Key.{Key}
use Rattle.claim_index.proofs.index.ClaimIndex.numbers_of.Goals as goal

pub returns : goal.returns
returns c = rw (← c.self.view_is) (c.numbers.ensures ∙ ap (λ (f : Key → List ℕ). f c.args.key.now) c.self.invariant.keys)
