use Rattle.std.proofs.Common.{ℕ, List, ap, ◌∙◌}
use Rattle.std.specs.Option.{option_and_then}
use Rattle.kube_model.specs.declared.key.Key.{Key}
use Rattle.claim_index.specs.Claims.{ClaimValue}
use Rattle.claim_index.specs.Index.{numbers_of, first_but}
use Rattle.claim_index.proofs.index.ClaimIndex.first_other.Goals as goal

pub returns-clause-other : goal.returns-clause-other
returns-clause-other c =
    let items = c.self.inside.claims.items in
    rw (← c.self.view_is)
    (c.first_but.ensures
    ∙ ap (first_but c.args.number)
    (c.numbers.ensures ∙ ap (λ (f : Key → List ℕ). f c.key.result.now) c.self.invariant.keys ∙ ap (λ (key : Key). numbers_of key items) c.key.ensures)
    ∙ ap (option_and_then (λ (x : ClaimValue). first_but c.args.number (numbers_of x.key items))) c.in_ok-claim.ensures.item)
