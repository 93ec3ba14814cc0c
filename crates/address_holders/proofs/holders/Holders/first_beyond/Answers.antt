use Rattle.std.proofs.Common.{◌≡◌, ℕ, Bool, true, ap, IfSome, IfNone, subst}
use Rattle.number_sets.specs.Least.{IsLeastIn, NonePasses}
use Rattle.address_holders.specs.Holders.{ClaimantsValue, in_slot_at, is_listed, is_listed_but}
use Rattle.address_holders.proofs.SlotLaws.{slot-absent, of-found, to-found, unlisted}
use Rattle.address_holders.proofs.holders.Holders.first_beyond.Goals as goal

pub returns-in_err-claimants-clause-none : goal.returns-in_err-claimants-clause-none
returns-in_err-claimants-clause-none c =
    rw (c.from_residual.ensures, ← c.self.view_is)
    (λ m from to. ap (λ (claimants : ClaimantsValue). is_listed_but claimants (in_slot_at c.self.inside.by_slot.entries c.args.fewer.now) m)
    (slot-absent c.args.slot.now c.self.inside.by_slot.entries c.in_err-claimants.ensures.value))

pub first_beyond-requires : goal.first_beyond-requires
first_beyond-requires c =
    let entries = c.self.inside.by_slot.entries in
    to-found c.args.slot.now entries c.in_ok-claimants.claimants.now c.in_ok-claimants.ensures.value
    (λ (claimants : ClaimantsValue). (n : ℕ) → is_listed c.in-Some.others.now n ≡ true → is_listed claimants n ≡ true)
    (to-found c.args.fewer.now entries c.in-Some.others.now c.in-Some.ensures.value
    (λ (others : ClaimantsValue). (n : ℕ) → is_listed others n ≡ true → is_listed (in_slot_at entries c.args.slot.now) n ≡ true)
    (rw (← c.self.view_is) at c.requires))

pub returns-in-Some-clause-some : goal.returns-in-Some-clause-some
returns-in-Some-clause-some c =
    let entries = c.self.inside.by_slot.entries in
    rw (← c.self.view_is)
    (of-found c.args.slot.now entries c.in_ok-claimants.claimants.now c.in_ok-claimants.ensures.value
    (λ (claimants : ClaimantsValue).
    IfSome c.first_beyond.result (λ n. IsLeastIn (is_listed_but claimants (in_slot_at entries c.args.fewer.now)) c.args.low c.args.high n))
    (of-found c.args.fewer.now entries c.in-Some.others.now c.in-Some.ensures.value
    (λ (others : ClaimantsValue). IfSome c.first_beyond.result (λ n. IsLeastIn (is_listed_but c.in_ok-claimants.claimants.now others) c.args.low c.args.high n))
    c.first_beyond.ensures.some))

pub returns-in-Some-clause-none : goal.returns-in-Some-clause-none
returns-in-Some-clause-none c =
    let entries = c.self.inside.by_slot.entries in
    rw (← c.self.view_is)
    (of-found c.args.slot.now entries c.in_ok-claimants.claimants.now c.in_ok-claimants.ensures.value
    (λ (claimants : ClaimantsValue).
    IfNone c.first_beyond.result (NonePasses (is_listed_but claimants (in_slot_at entries c.args.fewer.now)) c.args.low c.args.high))
    (of-found c.args.fewer.now entries c.in-Some.others.now c.in-Some.ensures.value
    (λ (others : ClaimantsValue). IfNone c.first_beyond.result (NonePasses (is_listed_but c.in_ok-claimants.claimants.now others) c.args.low c.args.high))
    c.first_beyond.ensures.none))

pub returns-in-None-clause-some : goal.returns-in-None-clause-some
returns-in-None-clause-some c =
    let entries = c.self.inside.by_slot.entries in
    rw (← c.self.view_is)
    (of-found c.args.slot.now entries c.in_ok-claimants.claimants.now c.in_ok-claimants.ensures.value
    (λ (claimants : ClaimantsValue).
    IfSome c.first_claimed.result (λ n. IsLeastIn (is_listed_but claimants (in_slot_at entries c.args.fewer.now)) c.args.low c.args.high n))
    (subst (λ (test : ℕ → Bool). IfSome c.first_claimed.result (λ n. IsLeastIn test c.args.low c.args.high n))
    (unlisted c.in_ok-claimants.claimants.now c.args.fewer.now entries c.in-None.ensures.value) c.first_claimed.ensures.some))

pub returns-in-None-clause-none : goal.returns-in-None-clause-none
returns-in-None-clause-none c =
    let entries = c.self.inside.by_slot.entries in
    rw (← c.self.view_is)
    (of-found c.args.slot.now entries c.in_ok-claimants.claimants.now c.in_ok-claimants.ensures.value
    (λ (claimants : ClaimantsValue).
    IfNone c.first_claimed.result (NonePasses (is_listed_but claimants (in_slot_at entries c.args.fewer.now)) c.args.low c.args.high))
    (subst (λ (test : ℕ → Bool). IfNone c.first_claimed.result (NonePasses test c.args.low c.args.high))
    (unlisted c.in_ok-claimants.claimants.now c.args.fewer.now entries c.in-None.ensures.value) c.first_claimed.ensures.none))
