use Rattle.std.proofs.Common.{◌≡◌, take}
use Rattle.address_holders.specs.declared.slot.NumberedSlot.{NumberedSlot}
use Rattle.address_holders.specs.Holders.{claims_having}
use Rattle.claim_index.specs.GroupSlots.{slots_by}
use Rattle.claim_index.proofs.GrowthLaws.{among}
use Rattle.claim_index.proofs.RemovalLaws.{left_in}
use Rattle.claim_index.proofs.removal.remove_claim.Given as goal

abbrev pub invariant-loop-index : goal.invariant-loop-index
invariant-loop-index l =
    record {
      numbers : (slot : NumberedSlot) → claims_having l.holders slot
          ≡ left_in l.number l.claim.holding.addresses (among (take l.index (slots_by l.group l.claim.terms.ports))) (claims_having l.fn.holders) slot;
    }
