use Rattle.std.proofs.Common.{◌==◌, not, filter, sym, ap, ◌∙◌}
use Rattle.address_holders.specs.Holders.{claims_at}
use Rattle.address_holders.proofs.SlotLaws.{absent-filtered, written-now, written-claims, written-apart}
use Rattle.address_holders.proofs.holders.Holders.remove.Goals as goal

pub returns-in_default-clause-numbers : goal.returns-in_default-clause-numbers
returns-in_default-clause-numbers c =
    rw (c.get_mut.follows.holds-at-none, ← c.self.view_is)
    (absent-filtered c.args.slot.now c.self.inside.by_slot.entries (λ n. not (n == c.args.claim)) c.args.number c.in_default.ensures.value)

pub drop_empty-requires : goal.drop_empty-requires
drop_empty-requires c = ap claims_at (written-now c.args.slot.now c.self.inside.by_slot (c.get_mut.follows.lender c.remove.new.self) c.in-Some.claimants.now
    c.remove.new.self c.in-Some.ensures.value (c.get_mut.follows.holds c.remove.new.self)) ∙ c.is_empty.ensures.0 c.if-is_empty.true

pub returns-then-is_empty-clause-numbers : goal.returns-then-is_empty-clause-numbers
returns-then-is_empty-clause-numbers c =
    rw (← c.self.view_is)
    (c.drop_empty.ensures.numbers
    ∙ sym (ap claims_at (written-now c.args.slot.now c.self.inside.by_slot (c.get_mut.follows.lender c.remove.new.self) c.in-Some.claimants.now
    c.remove.new.self c.in-Some.ensures.value (c.get_mut.follows.holds c.remove.new.self)) ∙ c.is_empty.ensures.0 c.if-is_empty.true)
    ∙ written-claims c.args.slot.now c.self.inside.by_slot (c.get_mut.follows.lender c.remove.new.self) c.in-Some.claimants.now c.remove.new.self
    c.in-Some.ensures.value
    (c.get_mut.follows.holds c.remove.new.self) (filter (λ n. not (n == c.args.claim))) c.args.number c.remove.ensures.numbers)

pub returns-then-is_empty-clause-others : goal.returns-then-is_empty-clause-others
returns-then-is_empty-clause-others c =
    rw (← c.self.view_is)
    (λ s apart. c.drop_empty.ensures.others s apart
    ∙ written-apart c.args.slot.now c.self.inside.by_slot (c.get_mut.follows.lender c.remove.new.self) c.in-Some.claimants.now c.remove.new.self
    c.in-Some.ensures.value (c.get_mut.follows.holds c.remove.new.self) s apart)

pub returns-else-is_empty-clause-numbers : goal.returns-else-is_empty-clause-numbers
returns-else-is_empty-clause-numbers c =
    rw (← c.self.view_is)
    (written-claims c.args.slot.now c.self.inside.by_slot (c.get_mut.follows.lender c.remove.new.self) c.in-Some.claimants.now c.remove.new.self
    c.in-Some.ensures.value
    (c.get_mut.follows.holds c.remove.new.self) (filter (λ n. not (n == c.args.claim))) c.args.number c.remove.ensures.numbers)

pub returns-else-is_empty-clause-others : goal.returns-else-is_empty-clause-others
returns-else-is_empty-clause-others c =
    rw (← c.self.view_is)
    (written-apart c.args.slot.now c.self.inside.by_slot (c.get_mut.follows.lender c.remove.new.self) c.in-Some.claimants.now c.remove.new.self
    c.in-Some.ensures.value (c.get_mut.follows.holds c.remove.new.self))
