use Rattle.std.proofs.Common.{◌≡◌, length, take}
use Rattle.address_holders.specs.declared.slot.NumberedSlot.{NumberedSlot}
use Rattle.address_holders.specs.Holders.{claims_having}
use Rattle.claim_index.specs.GroupSlots.{slots_by}
use Rattle.claim_index.proofs.GrowthLaws.{HasRoomIn, among}
use Rattle.claim_index.proofs.growth.reserve_claim.Given as goal

abbrev pub invariant-loop-index : goal.invariant-loop-index
invariant-loop-index l =
    record {
      numbers : (s : NumberedSlot) → claims_having l.holders s ≡ claims_having l.fn.holders s;
      room : HasRoomIn l.holders (length l.claim.holding.addresses) l.claim.holding.addresses
          (among (take l.index (slots_by l.group l.claim.terms.ports)));
    }
