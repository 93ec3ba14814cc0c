-- The slots of claims by the numbers of their groups.
use Rattle.std.specs.Prelude.{ℕ, Bool, true, false, ◌==◌, ◌&&◌, List, [], ◌∷◌, map, Option, Some, None}
use Rattle.std.specs.Option.{option_map, option_map_or}
use Rattle.kube_model.specs.declared.port.Port.{Port}
use Rattle.sharing_terms.specs.Sharing.{has_port}
use Rattle.address_holders.specs.declared.slot.NumberedSlot.{NumberedSlot}
use Rattle.address_holders.specs.declared.slot.NumberedSlot.TheVariants.{Any, OfSharingGroup, OfPort}
use Rattle.claim_index.specs.GroupNumbers.{GroupsValue, number_of}
use Rattle.claim_index.specs.Slots as texts

-- there is a number, and it is this one
abbrev pub is_number : Option ℕ → ℕ → Bool
is_number group n = option_map_or (λ m. m == n) group false

-- the slot is that of all claims, or one of the group of this number, where there is one: that of the group or that of one of these ports in it
abbrev pub is_slot_by : Option ℕ → List Port → NumberedSlot → Bool
is_slot_by group ports Any = true
is_slot_by group ports (OfSharingGroup n) = is_number group n
is_slot_by group ports (OfPort port n) = is_number group n && has_port ports port

-- the slots in which a claim with these ports is listed: that of all claims, and where its group has a number that of the group and that of each
-- of the ports in it
abbrev pub slots_by : Option ℕ → List Port → List NumberedSlot
slots_by None ports = Any ∷ []
slots_by (Some group) ports = Any ∷ OfSharingGroup group ∷ map (λ port. OfPort port group) ports

-- the slot with the number of its group, where that has one
abbrev pub numbered_slot : GroupsValue → texts.Slot → Option NumberedSlot
numbered_slot groups texts.Any = Some Any
numbered_slot groups (texts.OfSharingGroup group) = option_map (λ n. OfSharingGroup n) (number_of groups group)
numbered_slot groups (texts.OfPort port group) = option_map (λ n. OfPort port n) (number_of groups group)
