use Rattle.std.proofs.Common.{◌≡◌, ◌≤◌, length, take}
use Rattle.ip_ranges.specs.declared.family.Family.{Family}
use Rattle.ip_ranges.specs.Values.{AddressValue}
use Rattle.address_holders.specs.declared.slot.NumberedSlot.{NumberedSlot}
use Rattle.address_holders.specs.Holders.{claims_having, claim_room, address_room}
use Rattle.claim_index.specs.ListedClaims.{HasRoomAt}
use Rattle.claim_index.proofs.growth.reserve_each.Given as goal

abbrev pub invariant-loop-address : goal.invariant-loop-address
invariant-loop-address l =
    record {
      numbers : (s : NumberedSlot) → claims_having l.holders s ≡ claims_having l.fn.holders s;
      room : HasRoomAt l.holders (length l.addresses) l.slot (take l.address-index l.addresses);
      claims_kept : (s : NumberedSlot) (a : AddressValue) → claim_room l.fn.holders s a ≤ claim_room l.holders s a;
      addresses_kept : (s : NumberedSlot) (family : Family) → address_room l.fn.holders s family ≤ address_room l.holders s family;
    }
