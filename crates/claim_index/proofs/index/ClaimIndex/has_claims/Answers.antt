use Rattle.std.proofs.Common.{List, ℕ, not, ap, ◌∙◌}
use Rattle.kube_model.specs.declared.key.Key.{Key}
use Rattle.claim_index.proofs.IndexReading.{has_claims-is}
use Rattle.claim_index.proofs.index.ClaimIndex.has_claims.Goals as goal

pub returns : goal.returns
returns c =
    rw (← c.self.view_is)
    (ap not c.is_empty.ensures ∙ has_claims-is c.args.key.now c.self.inside.claims.items c.numbers.result.now
    (c.numbers.ensures ∙ ap (λ (f : Key → List ℕ). f c.args.key.now) c.self.invariant.keys))
