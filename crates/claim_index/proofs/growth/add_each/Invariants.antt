use Rattle.std.proofs.Common.{◌≡◌, false, take, ◌++◌}
use Rattle.ip_ranges.specs.Values.{AddressValue}
use Rattle.address_holders.specs.declared.slot.NumberedSlot.{NumberedSlot}
use Rattle.address_holders.specs.Holders.{in_slot, claims_having}
use Rattle.claim_index.specs.Index.{numbered}
use Rattle.address_holders.specs.NumberedSlots.{same_slot}
use Rattle.claim_index.proofs.IndexGrowth.{HasRoomFrom}
use Rattle.claim_index.proofs.growth.add_each.Given as goal

abbrev pub invariant-loop-address : goal.invariant-loop-address
invariant-loop-address l =
    record {
      room : HasRoomFrom l.holders l.slot l.addresses l.address-index;
      numbers : (a : AddressValue)
          → claims_having l.holders l.slot a ≡ claims_having l.fn.holders l.slot a ++ numbered l.number (take l.address-index l.addresses) a;
      others : (s : NumberedSlot) → same_slot l.slot s ≡ false → in_slot l.holders s ≡ in_slot l.fn.holders s;
    }
