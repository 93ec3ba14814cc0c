use Rattle.std.proofs.Common.{refl, ap, subst, ◌∙◌}
use Rattle.std.proofs.lemmas.Result.{on_ok_weaker}
use Rattle.kube_model.specs.declared.key.Key.{Key}
use Rattle.sharing_terms.specs.declared.terms.Terms.{Terms}
use Rattle.claim_index.specs.GroupNumbers.{HasNumber, number_for}
use Rattle.claim_index.proofs.IndexGrowth.{indexed-kept, room-claim, same-numbers}
use Rattle.claim_index.proofs.index.ClaimIndex.reserve.Goals as goal

pub invariant_of-self-in_err-reserve-2 : goal.invariant_of-self-in_err-reserve-2
invariant_of-self-in_err-reserve-2 c =
    indexed-kept c.self.inside.claims.items c.reserve.new.self.items c.self.inside.by_key c.reserve-2.new.self c.self.inside.groups c.self.inside.groups
    c.self.inside.holders c.self.inside.holders c.self.invariant c.reserve.ensures.items c.reserve-2.ensures.numbers (same-numbers c.self.inside.groups)
    (λ slot. refl)

pub invariant_of-self-in_err-group : goal.invariant_of-self-in_err-group
invariant_of-self-in_err-group c =
    indexed-kept c.self.inside.claims.items c.reserve.new.self.items c.self.inside.by_key c.reserve-2.new.self c.self.inside.groups c.give.new.self
    c.self.inside.holders c.self.inside.holders c.self.invariant c.reserve.ensures.items c.reserve-2.ensures.numbers c.give.ensures.more (λ slot. refl)

pub invariant_of-self-2 : goal.invariant_of-self-2
invariant_of-self-2 c =
    indexed-kept c.self.inside.claims.items c.reserve.new.self.items c.self.inside.by_key c.reserve-2.new.self c.self.inside.groups c.give.new.self
    c.self.inside.holders c.reserve_claim.new.holders c.self.invariant c.reserve.ensures.items c.reserve-2.ensures.numbers c.give.ensures.more
    c.reserve_claim.ensures.numbers

pub returns-clause-room : goal.returns-clause-room
returns-clause-room c =
    on_ok_weaker _
    (room-claim c.reserve.new.self.room c.reserve-2.new.self c.give.new.self c.reserve_claim.new.holders c.args.claim.now c.in_ok-copy.field-0
    c.in_ok-group.group
    c.in_ok-reserve.ensures.room c.in_ok-reserve-2.ensures.room (c.in_ok-copy.ensures ∙ ap (λ (k : Key). k) c.key.ensures)
    (subst (λ (t : Terms). HasNumber c.give.new.self t) c.grouped.ensures c.in_ok-group.ensures.given)
    (c.in_ok-group.ensures.number ∙ ap (λ (t : Terms). number_for c.give.new.self t) c.grouped.ensures))
    c.reserve_claim.ensures.room
