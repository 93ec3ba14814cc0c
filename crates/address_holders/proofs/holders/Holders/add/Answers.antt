use Rattle.std.proofs.Common.{subst, ◌<◌, ◌≤◌, ◌+◌, ◌==◌, ℕ, if◌then◌else◌, ◌++◌, ◌∷◌, [], arith}
use Rattle.address_holders.specs.Holders.{claim_room_at}
use Rattle.address_holders.proofs.SlotLaws.{slot-absent, to-found, written-claims, written-each, written-apart}
use Rattle.address_holders.proofs.holders.Holders.add.Goals as goal

pub add-requires-clause-claims : goal.add-requires-clause-claims
add-requires-clause-claims c =
    to-found c.args.slot.now c.self.inside.by_slot.entries c.in-Some.claimants.now c.in-Some.ensures.value
    (λ claimants. 0 < claim_room_at claimants c.args.number)
    (rw (← c.self.view_is) at c.requires.claims)

pub add-requires-clause-addresses : goal.add-requires-clause-addresses
add-requires-clause-addresses c =
    to-found c.args.slot.now c.self.inside.by_slot.entries c.in-Some.claimants.now c.in-Some.ensures.value (λ claimants. 0 < claimants.room)
    (rw (← c.self.view_is) at c.requires.addresses)

pub returns-clause-numbers : goal.returns-clause-numbers
returns-clause-numbers c =
    rw (← c.self.view_is)
    (written-claims c.args.slot.now c.self.inside.by_slot (c.get_mut.follows.lender c.add.new.self) c.in-Some.claimants.now c.add.new.self
    c.in-Some.ensures.value
    (c.get_mut.follows.holds c.add.new.self) (λ numbers. numbers ++ c.args.claim ∷ []) c.args.number c.add.ensures.numbers)

pub returns-clause-others : goal.returns-clause-others
returns-clause-others c =
    rw (← c.self.view_is)
    (written-apart c.args.slot.now c.self.inside.by_slot (c.get_mut.follows.lender c.add.new.self) c.in-Some.claimants.now c.add.new.self
    c.in-Some.ensures.value
    (c.get_mut.follows.holds c.add.new.self))

pub returns-clause-claims : goal.returns-clause-claims
returns-clause-claims c =
    rw (← c.self.view_is)
    (written-each c.args.slot.now c.self.inside.by_slot (c.get_mut.follows.lender c.add.new.self) c.in-Some.claimants.now c.add.new.self c.in-Some.ensures.value
    (c.get_mut.follows.holds c.add.new.self) (λ old new. (n : ℕ) → claim_room_at old n ≤ claim_room_at new n + (if c.args.number == n then 1 else 0))
    (λ same n. omega arith)
    c.add.ensures.claims c.args.slot.now)

pub returns-clause-addresses : goal.returns-clause-addresses
returns-clause-addresses c =
    rw (← c.self.view_is)
    (written-each c.args.slot.now c.self.inside.by_slot (c.get_mut.follows.lender c.add.new.self) c.in-Some.claimants.now c.add.new.self c.in-Some.ensures.value
    (c.get_mut.follows.holds c.add.new.self) (λ old new. old.room ≤ new.room + 1) (λ same. omega arith) c.add.ensures.addresses c.args.slot.now)

pub returns-in_default-clause-numbers : goal.returns-in_default-clause-numbers
returns-in_default-clause-numbers c =
    let room =
    subst (λ claimants. 0 < claim_room_at claimants c.args.number) (slot-absent c.args.slot.now c.self.inside.by_slot.entries c.in_default.ensures.value)
    (rw (← c.self.view_is) at c.requires.claims) in
    absurd (omega (arith, room))
