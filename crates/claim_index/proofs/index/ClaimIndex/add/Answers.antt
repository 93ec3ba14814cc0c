use Rattle.std.proofs.Common.{◌≡◌, true, ◌<◌, ℕ, List, length, sym, ap, subst, ◌∙◌, Option}
use Rattle.std.specs.List.{Contains}
use Rattle.ip_ranges.specs.Values.{AddressValue}
use Rattle.kube_model.specs.declared.key.Key.{Key}
use Rattle.kube_model.specs.Keys.{key_cmp}
use Rattle.numbered_items.specs.Index.{room_under}
use Rattle.sharing_terms.specs.declared.terms.Terms.{Terms}
use Rattle.address_holders.specs.declared.slot.NumberedSlot.{NumberedSlot}
use Rattle.claim_index.specs.Room.{HasRoomFor}
use Rattle.claim_index.specs.Claims.{ClaimValue}
use Rattle.claim_index.specs.GroupNumbers.{number_for}
use Rattle.claim_index.specs.ListedClaims.{HasRoomAt}
use Rattle.claim_index.specs.Index.{ClaimIndexValue}
use Rattle.claim_index.specs.GroupSlots.{is_slot_by}
use Rattle.claim_index.specs.SharingGroups.{HasSharingGroup}
use Rattle.claim_index.proofs.IndexGrowth.{indexed-pushed, found-is, not-lost, not-listed}
use Rattle.claim_index.proofs.NumberLaws.{slot-are}
use Rattle.claim_index.proofs.index.ClaimIndex.add.Goals as goal

pub add-requires : goal.add-requires
add-requires c =
    let room = subst (λ (v : ClaimIndexValue). HasRoomFor v.room c.args.claim) (sym c.self.view_is) c.requires.room in
    let is = found-is c.self.inside.claims.items c.push-number.new.self.items c.push-number.result c.args.claim c.in-Some.claim.now c.push-number.ensures.items
    c.push-number.ensures.fresh c.in-Some.ensures.item in
    subst (λ (k : Key). 0 < room_under key_cmp c.self.inside.by_key k) (sym (c.key.ensures ∙ ap (λ (x : ClaimValue). x.key) is)) room.key

pub add_claim-requires-clause-room : goal.add_claim-requires-clause-room
add_claim-requires-clause-room c =
    let room = subst (λ (v : ClaimIndexValue). HasRoomFor v.room c.args.claim) (sym c.self.view_is) c.requires.room in
    let is = found-is c.self.inside.claims.items c.push-number.new.self.items c.push-number.result c.args.claim c.in-Some.claim.now c.push-number.ensures.items
    c.push-number.ensures.fresh c.in-Some.ensures.item in
    let found = c.in-Some.claim.now in
    let group_is : c.number-group.result ≡ number_for c.self.inside.groups found.terms =
    c.number-group.ensures.number ∙ ap (λ (t : Terms). number_for c.self.inside.groups t) c.grouped.ensures in
    subst (λ (g : Option ℕ). (slot : NumberedSlot) → is_slot_by g found.terms.ports slot ≡ true
    → HasRoomAt c.self.inside.holders (length found.holding.addresses) slot found.holding.addresses)
    (sym group_is)
    (subst (λ (x : ClaimValue). (slot : NumberedSlot) → is_slot_by (number_for c.self.inside.groups x.terms) x.terms.ports slot ≡ true
    → HasRoomAt c.self.inside.holders (length x.holding.addresses) slot x.holding.addresses)
    (sym is) room.addresses)

pub add_claim-requires-clause-fresh : goal.add_claim-requires-clause-fresh
add_claim-requires-clause-fresh c slot here a there =
    let found = c.in-Some.claim.now in
    let group_is : c.number-group.result ≡ number_for c.self.inside.groups found.terms =
    c.number-group.ensures.number ∙ ap (λ (t : Terms). number_for c.self.inside.groups t) c.grouped.ensures in
    let at = slot-are c.self.inside.groups c.self.inside.holders c.self.inside.claims.items c.self.invariant.holders found.terms slot
    (ap (λ (g : Option ℕ). is_slot_by g found.terms.ports slot) (sym group_is) ∙ here) in
    not-listed at.0 a c.self.inside.claims.items c.push-number.result c.push-number.ensures.fresh
    (subst (λ (f : AddressValue → List ℕ). Contains (f a) c.push-number.result) at.1 there)

pub invariant_of-self : goal.invariant_of-self
invariant_of-self c =
    let room = subst (λ (v : ClaimIndexValue). HasRoomFor v.room c.args.claim) (sym c.self.view_is) c.requires.room in
    let is = found-is c.self.inside.claims.items c.push-number.new.self.items c.push-number.result c.args.claim c.in-Some.claim.now c.push-number.ensures.items
    c.push-number.ensures.fresh c.in-Some.ensures.item in
    indexed-pushed c.self.inside.claims.items c.push-number.new.self.items c.push-number.result c.args.claim c.in-Some.claim.now c.key.result.now
    c.self.inside.by_key c.add.new.self c.self.inside.groups c.self.inside.holders c.add_claim.new.holders c.number-group.result c.self.invariant
    c.number-group.ensures.numbered room.group
    (c.number-group.ensures.number ∙ ap (λ (t : Terms). number_for c.self.inside.groups t) c.grouped.ensures) c.push-number.ensures.items
    (c.key.ensures ∙ ap (λ (x : ClaimValue). x.key) is) is c.requires.assigned c.add.ensures.numbers c.add_claim.ensures
    (subst HasSharingGroup c.grouped.ensures c.number-group.ensures.grouped)

pub invariant_of-self-in_default : goal.invariant_of-self-in_default
invariant_of-self-in_default c =
    absurd (not-lost c.self.inside.claims.items c.push-number.new.self.items c.push-number.result c.args.claim c.push-number.ensures.items
    c.push-number.ensures.fresh c.in_default.ensures.item)
