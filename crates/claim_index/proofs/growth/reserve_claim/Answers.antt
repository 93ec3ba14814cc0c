use Rattle.std.proofs.Common.{◌+◌, Some, None, length, take, ap, ◌∙◌, arith}
use Rattle.sharing_terms.specs.declared.terms.Terms.{Terms}
use Rattle.claim_index.specs.GroupSlots.{slots_by}
use Rattle.claim_index.proofs.GrowthLaws.{among, room-next, room-all, slot-shown, slots-all, slots-next, slots-past}
use Rattle.claim_index.proofs.growth.reserve_claim.Goals as goal

pub returns-in_err-reserve_each-clause-numbers : goal.returns-in_err-reserve_each-clause-numbers
returns-in_err-reserve_each-clause-numbers c s = c.in_err-reserve_each.ensures.numbers s ∙ c.loop-index.invariant.numbers s

pub loop-index-preserved : goal.loop-index-preserved
loop-index-preserved c =
    let addresses = c.args.claim.now.holding.addresses in
    let held = c.args.claim.now.terms.ports in
    let slots = slots_by c.args.group held in
    let i = c.loop-index.index in
    let slot = c.in-Some.slot in
    let here = slot-shown c.args.group held c.as_slice-ports.result.now i (Some slot)
    (c.as_slice-ports.ensures.listed ∙ ap (λ (t : Terms). t.ports) c.terms.ensures) c.in-Some.ensures in
    record {
      numbers = λ s. c.in_ok-reserve_each.ensures.numbers s ∙ c.loop-index.invariant.numbers s;
      room = room-next c.loop-index.holders c.reserve_each.new.holders (length addresses) addresses (among (take i slots)) (among (take (i + 1) slots)) slot
          (slots-next slots i slot here) c.loop-index.invariant.room
          c.reserve_each.ensures.claims_kept c.reserve_each.ensures.addresses_kept
          (rw c.addresses-addresses.ensures at c.in_ok-reserve_each.ensures.room);
    }

pub returns-after-loop-index-clause-room : goal.returns-after-loop-index-clause-room
returns-after-loop-index-clause-room c =
    let addresses = c.args.claim.now.holding.addresses in
    let held = c.args.claim.now.terms.ports in
    let i = c.loop-index.index in
    let are = c.as_slice-ports.ensures.listed ∙ ap (λ (t : Terms). t.ports) c.terms.ensures in
    room-all c.loop-index.holders (length addresses) addresses c.args.group held (take i (slots_by c.args.group held))
    (slots-all c.args.group held i (omega (arith, ap length are, c.slots_with-index-end.ensures, c.loop-index-test.false))) c.loop-index.invariant.room

pub returns-in_default-clause-room : goal.returns-in_default-clause-room
returns-in_default-clause-room c =
    let addresses = c.args.claim.now.holding.addresses in
    let held = c.args.claim.now.terms.ports in
    let slots = slots_by c.args.group held in
    let i = c.loop-index.index in
    let none = slot-shown c.args.group held c.as_slice-ports.result.now i None
    (c.as_slice-ports.ensures.listed ∙ ap (λ (t : Terms). t.ports) c.terms.ensures) c.in_default.ensures in
    room-all c.loop-index.holders (length addresses) addresses c.args.group held (take i slots) (slots-past slots i none) c.loop-index.invariant.room
