use Rattle.std.proofs.Common.{◌≡◌, ◌+◌, Some, None, length, take, ap, subst, ◌∙◌, arith}
use Rattle.std.specs.List.{slice_get}
use Rattle.sharing_terms.specs.Ports.{AreAscending}
use Rattle.sharing_terms.specs.declared.terms.Terms.{Terms}
use Rattle.claim_index.specs.Index.{numbered}
use Rattle.claim_index.specs.GroupSlots.{slots_by}
use Rattle.claim_index.proofs.GrowthLaws.{AreApart, among, contained, fresh-next, listed-none, listed-next, listed-each, not-yet, occupied-each, room-here}
use Rattle.claim_index.proofs.GrowthLaws.{room-behind, slot-shown, slots-all, slots-apart, slots-next, slots-past}
use Rattle.claim_index.proofs.growth.add_claim.Goals as goal
use Rattle.claim_index.proofs.growth.add_claim.Goals.{In-Some}

-- the slot that the walk comes to
reached : (c : In-Some) → slice_get (slots_by c.args.group c.args.claim.now.terms.ports) c.loop-index.index ≡ Some c.in-Some.slot
reached c =
    slot-shown c.args.group c.args.claim.now.terms.ports c.as_slice-ports.result.now c.loop-index.index (Some c.in-Some.slot)
    (c.as_slice-ports.ensures.listed ∙ ap (λ (t : Terms). t.ports) c.terms.ensures) c.in-Some.ensures

-- it stands once among those of the claim
apart : (c : In-Some) → AreApart (slots_by c.args.group c.args.claim.now.terms.ports)
apart c =
    slots-apart c.args.group c.args.claim.now.terms.ports
    (subst (λ (t : Terms). AreAscending t.ports) c.terms.ensures c.as_slice-ports.ensures.ascending)

pub loop-index-init : goal.loop-index-init
loop-index-init c =
    record {
      room = λ s there. c.requires.room s (occupied-each c.args.group c.args.claim.now.terms.ports s there);
      numbers = listed-none (numbered c.args.number c.args.claim.now.holding.addresses) c.args.holders.now;
    }

pub add_each-requires-clause-room : goal.add_each-requires-clause-room
add_each-requires-clause-room c =
    let addresses = c.args.claim.now.holding.addresses in
    let here = reached (goal.at.add_each-requires-clause-room c).In-Some in
    rw (c.addresses-addresses.ensures)
    (room-here (length addresses) addresses (slots_by c.args.group c.args.claim.now.terms.ports) c.loop-index.index c.in-Some.slot here
    c.loop-index.holders c.loop-index.invariant.room)

pub add_each-requires-clause-fresh : goal.add_each-requires-clause-fresh
add_each-requires-clause-fresh c =
    let held = c.args.claim.now.terms.ports in
    let slots = slots_by c.args.group held in
    let i = c.loop-index.index in
    let slot = c.in-Some.slot in
    let path = (goal.at.add_each-requires-clause-fresh c).In-Some in
    fresh-next (numbered c.args.number c.args.claim.now.holding.addresses) c.args.holders.now c.loop-index.holders (among (take i slots)) slot
    c.loop-index.invariant.numbers (not-yet slots i slot (reached path) (apart path)) c.args.number
    (c.requires.fresh slot (occupied-each c.args.group held slot (contained slots i slot (reached path))))

pub loop-index-preserved : goal.loop-index-preserved
loop-index-preserved c =
    let addresses = c.args.claim.now.holding.addresses in
    let slots = slots_by c.args.group c.args.claim.now.terms.ports in
    let i = c.loop-index.index in
    let slot = c.in-Some.slot in
    let path = (goal.at.loop-index-preserved c).In-Some in
    record {
      room = room-behind (length addresses) addresses slots i slot (reached path) c.loop-index.holders c.add_each.new.holders (apart path)
          c.loop-index.invariant.room c.add_each.ensures.others;
      numbers = listed-next (numbered c.args.number addresses) c.args.holders.now c.loop-index.holders (among (take i slots)) slot
          c.loop-index.invariant.numbers (not-yet slots i slot (reached path) (apart path)) c.add_each.new.holders (among (take (i + 1) slots))
          (slots-next slots i slot (reached path)) (rw c.addresses-addresses.ensures at c.add_each.ensures.numbers) c.add_each.ensures.others;
    }

pub returns-after-loop-index : goal.returns-after-loop-index
returns-after-loop-index c =
    let held = c.args.claim.now.terms.ports in
    let i = c.loop-index.index in
    let are = c.as_slice-ports.ensures.listed ∙ ap (λ (t : Terms). t.ports) c.terms.ensures in
    listed-each (numbered c.args.number c.args.claim.now.holding.addresses) c.args.holders.now c.loop-index.holders c.args.group held
    (take i (slots_by c.args.group held))
    (slots-all c.args.group held i (omega (arith, ap length are, c.slots_with-index-end.ensures, c.loop-index-test.false))) c.loop-index.invariant.numbers

pub returns-in_default : goal.returns-in_default
returns-in_default c =
    let held = c.args.claim.now.terms.ports in
    let slots = slots_by c.args.group held in
    let i = c.loop-index.index in
    let none = slot-shown c.args.group held c.as_slice-ports.result.now i None
    (c.as_slice-ports.ensures.listed ∙ ap (λ (t : Terms). t.ports) c.terms.ensures) c.in_default.ensures in
    listed-each (numbered c.args.number c.args.claim.now.holding.addresses) c.args.holders.now c.loop-index.holders c.args.group held
    (take i slots) (slots-past slots i none) c.loop-index.invariant.numbers
