use Rattle.std.proofs.Common.{ap, ◌∙◌}
use Rattle.sharing_terms.specs.declared.terms.Terms.{Terms}
use Rattle.claim_index.specs.GroupNumbers.{number_for}
use Rattle.claim_index.proofs.IndexRemoval.{indexed-still}
use Rattle.claim_index.proofs.RemovalLaws.{indexed-left}
use Rattle.claim_index.proofs.index.ClaimIndex.remove.Goals as goal

pub invariant_of-self : goal.invariant_of-self
invariant_of-self c =
    indexed-still c.args.number c.self.inside.claims.items c.remove.new.self.items c.self.inside.by_key c.self.inside.groups c.self.inside.holders
    c.remove.ensures.items (c.in_default.ensures.item) c.self.invariant

pub invariant_of-self-2 : goal.invariant_of-self-2
invariant_of-self-2 c =
    indexed-left c.args.number c.self.inside.claims.items c.remove.new.self.items c.in-Some.claim c.key.result.now c.self.inside.by_key c.remove-2.new.self
    c.self.inside.groups c.forget_unused.new.self c.self.inside.holders c.remove_claim.new.holders c.number-group.result
    c.remove.ensures.items c.remove.ensures.ascending c.in-Some.ensures.item c.key.ensures c.self.invariant c.number-group.ensures.numbered
    (c.number-group.ensures.number ∙ ap (λ (t : Terms). number_for c.self.inside.groups t) c.grouped.ensures)
    c.remove-2.ensures.numbers c.remove_claim.ensures.numbers c.forget_unused.ensures.numbers c.forget_unused.ensures.next
