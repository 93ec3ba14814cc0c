use Rattle.std.proofs.Common.{◌≡◌, false, take}
use Rattle.address_holders.specs.declared.slot.NumberedSlot.{NumberedSlot}
use Rattle.address_holders.specs.Holders.{in_slot, claims_having}
use Rattle.claim_index.specs.Removal.{left_at}
use Rattle.address_holders.specs.NumberedSlots.{same_slot}
use Rattle.claim_index.proofs.removal.remove_each.Given as goal

abbrev pub invariant-loop-address : goal.invariant-loop-address
invariant-loop-address l =
    record {
      numbers : claims_having l.holders l.slot ≡ left_at l.number (take l.address-index l.addresses) (claims_having l.fn.holders l.slot);
      others : (s : NumberedSlot) → same_slot l.slot s ≡ false → in_slot l.holders s ≡ in_slot l.fn.holders s;
    }
