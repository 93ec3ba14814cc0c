use Rattle.std.proofs.Common.{◌+◌, Some, None, length, take, ap, ◌∙◌, arith}
use Rattle.sharing_terms.specs.declared.terms.Terms.{Terms}
use Rattle.address_holders.specs.Holders.{claims_having}
use Rattle.claim_index.specs.GroupSlots.{slots_by}
use Rattle.claim_index.proofs.GrowthLaws.{among, slot-shown, slots-all, slots-next, slots-past}
use Rattle.claim_index.proofs.RemovalLaws.{left-slot, left-all}
use Rattle.claim_index.proofs.removal.remove_claim.Goals as goal

pub loop-index-preserved : goal.loop-index-preserved
loop-index-preserved c =
    let held = c.args.claim.now.terms.ports in
    let slots = slots_by c.args.group held in
    let i = c.loop-index.index in
    let slot = c.in-Some.slot in
    let here = slot-shown c.args.group held c.as_slice-ports.result.now i (Some slot)
    (c.as_slice-ports.ensures.listed ∙ ap (λ (t : Terms). t.ports) c.terms.ensures) c.in-Some.ensures in
    record {
      numbers = left-slot c.args.number c.args.claim.now.holding.addresses (claims_having c.args.holders.now) c.loop-index.holders c.remove_each.new.holders
          (among (take i slots)) (among (take (i + 1) slots)) slot c.addresses-addresses.result.now (slots-next slots i slot here)
          c.addresses-addresses.ensures c.remove_each.ensures.numbers c.remove_each.ensures.others c.loop-index.invariant.numbers;
    }

pub returns-after-loop-index : goal.returns-after-loop-index
returns-after-loop-index c =
    let held = c.args.claim.now.terms.ports in
    let i = c.loop-index.index in
    let are = c.as_slice-ports.ensures.listed ∙ ap (λ (t : Terms). t.ports) c.terms.ensures in
    record {
      numbers = left-all (claims_having c.args.holders.now) c.loop-index.holders c.args.number c.args.claim.now.holding.addresses c.args.group held
          (take i (slots_by c.args.group held))
          (slots-all c.args.group held i (omega (arith, ap length are, c.slots_with-index-end.ensures, c.loop-index-test.false)))
          c.loop-index.invariant.numbers;
    }

pub returns-in_default : goal.returns-in_default
returns-in_default c =
    let held = c.args.claim.now.terms.ports in
    let slots = slots_by c.args.group held in
    let i = c.loop-index.index in
    let none = slot-shown c.args.group held c.as_slice-ports.result.now i None
    (c.as_slice-ports.ensures.listed ∙ ap (λ (t : Terms). t.ports) c.terms.ensures) c.in_default.ensures in
    record {
      numbers = left-all (claims_having c.args.holders.now) c.loop-index.holders c.args.number c.args.claim.now.holding.addresses c.args.group held
          (take i slots) (slots-past slots i none) c.loop-index.invariant.numbers;
    }
