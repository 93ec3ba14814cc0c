use Rattle.std.proofs.Common.{◌<◌, OnOk, sym, subst, ◌≡◌, ◌≤◌, ℕ, refl, arith}
use Rattle.address_holders.specs.Holders.{ClaimantsValue, claims_at, claim_room_at}
use Rattle.address_holders.proofs.SlotLaws.{written-now, written-each, made-now, made-each}
use Rattle.address_holders.proofs.holders.Holders.reserve.Goals as goal

pub returns-in-Some-clause-numbers : goal.returns-in-Some-clause-numbers
returns-in-Some-clause-numbers c =
    rw (← c.self.view_is)
    (written-each c.args.slot.now c.self.inside.by_slot (c.get_mut.follows.lender c.reserve.new.self) c.in-Some.claimants.now c.reserve.new.self
    c.in-Some.ensures.value
    (c.get_mut.follows.holds c.reserve.new.self) (λ old new. claims_at new ≡ claims_at old) (λ same. refl) c.reserve.ensures.numbers)

pub returns-in-Some-clause-claims_kept : goal.returns-in-Some-clause-claims_kept
returns-in-Some-clause-claims_kept c =
    rw (← c.self.view_is)
    (written-each c.args.slot.now c.self.inside.by_slot (c.get_mut.follows.lender c.reserve.new.self) c.in-Some.claimants.now c.reserve.new.self
    c.in-Some.ensures.value
    (c.get_mut.follows.holds c.reserve.new.self) (λ old new. (n : ℕ) → claim_room_at old n ≤ claim_room_at new n) (λ same n. omega arith)
    c.reserve.ensures.claims_kept)

pub returns-in-Some-clause-addresses_kept : goal.returns-in-Some-clause-addresses_kept
returns-in-Some-clause-addresses_kept c =
    rw (← c.self.view_is)
    (written-each c.args.slot.now c.self.inside.by_slot (c.get_mut.follows.lender c.reserve.new.self) c.in-Some.claimants.now c.reserve.new.self
    c.in-Some.ensures.value
    (c.get_mut.follows.holds c.reserve.new.self) (λ old new. old.room ≤ new.room) (λ same. omega arith) c.reserve.ensures.addresses_kept)

pub returns-clause-numbers : goal.returns-clause-numbers
returns-clause-numbers c =
    rw (← c.self.view_is)
    (made-each c.args.slot.now c.args.slot.now refl c.self.inside.by_slot c.get_mut.follows.lender-at-none c.insert.new.self
    c.in_ok-claimants.claimants c.get_mut.follows.holds-at-none c.in_default.ensures.value
    c.in_ok-none.ensures.updates (λ old new. claims_at new ≡ claims_at old) (λ same. refl) c.in_ok-claimants.ensures.numbers)

pub returns-clause-claims : goal.returns-clause-claims
returns-clause-claims c =
    rw (made-now c.args.slot.now c.args.slot.now refl c.self.inside.by_slot c.get_mut.follows.lender-at-none c.insert.new.self
    c.in_ok-claimants.claimants c.get_mut.follows.holds-at-none c.in_default.ensures.value
    c.in_ok-none.ensures.updates)
    c.in_ok-claimants.ensures.claims

pub returns-clause-claims_kept : goal.returns-clause-claims_kept
returns-clause-claims_kept c =
    rw (← c.self.view_is)
    (made-each c.args.slot.now c.args.slot.now refl c.self.inside.by_slot c.get_mut.follows.lender-at-none c.insert.new.self
    c.in_ok-claimants.claimants c.get_mut.follows.holds-at-none c.in_default.ensures.value
    c.in_ok-none.ensures.updates (λ old new. (n : ℕ) → claim_room_at old n ≤ claim_room_at new n) (λ same n. omega arith) (λ n. omega arith))

pub returns-clause-addresses_kept : goal.returns-clause-addresses_kept
returns-clause-addresses_kept c =
    rw (← c.self.view_is)
    (made-each c.args.slot.now c.args.slot.now refl c.self.inside.by_slot c.get_mut.follows.lender-at-none c.insert.new.self
    c.in_ok-claimants.claimants c.get_mut.follows.holds-at-none c.in_default.ensures.value
    c.in_ok-none.ensures.updates (λ old new. old.room ≤ new.room) (λ same. omega arith) (omega arith))

pub returns-in-Some-clause-claims : goal.returns-in-Some-clause-claims
returns-in-Some-clause-claims c =
    subst (λ claimants. OnOk c.reserve.result (0 < claim_room_at claimants c.args.number))
    (sym (written-now c.args.slot.now c.self.inside.by_slot (c.get_mut.follows.lender c.reserve.new.self) c.in-Some.claimants.now c.reserve.new.self
    c.in-Some.ensures.value (c.get_mut.follows.holds c.reserve.new.self))) c.reserve.ensures.claims

pub returns-in-Some-clause-addresses : goal.returns-in-Some-clause-addresses
returns-in-Some-clause-addresses c =
    subst (λ (claimants : ClaimantsValue). OnOk c.reserve.result (c.args.more ≤ claimants.room))
    (sym (written-now c.args.slot.now c.self.inside.by_slot (c.get_mut.follows.lender c.reserve.new.self) c.in-Some.claimants.now c.reserve.new.self
    c.in-Some.ensures.value (c.get_mut.follows.holds c.reserve.new.self))) c.reserve.ensures.addresses

pub returns-clause-addresses : goal.returns-clause-addresses
returns-clause-addresses c =
    rw (made-now c.args.slot.now c.args.slot.now refl c.self.inside.by_slot c.get_mut.follows.lender-at-none c.insert.new.self
    c.in_ok-claimants.claimants c.get_mut.follows.holds-at-none c.in_default.ensures.value
    c.in_ok-none.ensures.updates)
    c.in_ok-claimants.ensures.addresses
