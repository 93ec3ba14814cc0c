-- Which slots are one.
use Rattle.std.specs.Prelude.{Bool, true, false, ◌==◌, ◌&&◌}
use Rattle.sharing_terms.specs.Sharing.{same_port}
use Rattle.address_holders.specs.declared.slot.NumberedSlot.{NumberedSlot}
use Rattle.address_holders.specs.declared.slot.NumberedSlot.TheVariants.{Any, OfSharingGroup, OfPort}

-- whether the slots are one
abbrev pub same_slot : NumberedSlot → NumberedSlot → Bool
same_slot Any Any = true
same_slot Any (OfSharingGroup other) = false
same_slot Any (OfPort port other) = false
same_slot (OfSharingGroup group) Any = false
same_slot (OfSharingGroup group) (OfSharingGroup other) = group == other
same_slot (OfSharingGroup group) (OfPort port other) = false
same_slot (OfPort port group) Any = false
same_slot (OfPort port group) (OfSharingGroup other) = false
same_slot (OfPort port group) (OfPort other_port other) = same_port port other_port && (group == other)
