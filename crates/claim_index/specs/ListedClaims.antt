-- Where claims are listed, by the number of their group, and where there is room for them.
use Rattle.std.specs.Prelude.{◌≡◌, ◌≤◌, ◌<◌, ◌⊎◌, ℕ, List, [], Option, Some, None}
use Rattle.std.specs.List.{Contains}
use Rattle.ip_ranges.specs.Values.{AddressValue}
use Rattle.kube_model.specs.declared.port.Port.{Port}
use Rattle.address_holders.specs.declared.slot.NumberedSlot.{NumberedSlot}
use Rattle.address_holders.specs.declared.slot.NumberedSlot.TheVariants.{OfSharingGroup, OfPort}
use Rattle.address_holders.specs.Holders.{AddressHoldersValue, claims_having, claim_room, address_room}
use Rattle.claim_index.specs.GroupNumbers.{GroupsValue, number_of}
use Rattle.claim_index.specs.GroupSlots.{numbered_slot}
use Rattle.claim_index.specs.Slots.{Slot}
use Rattle.claim_index.specs.Slots as texts

-- There is room in the slot for a claim more on each of the addresses, and for so many addresses.
pub record HasRoomAt (h : AddressHoldersValue) (more : ℕ) (slot : NumberedSlot) (addresses : List AddressValue) : Type 0 where
  pub by_claims : (a : AddressValue) → Contains addresses a → 0 < claim_room h slot a
  pub by_family : (a : AddressValue) → Contains addresses a → more ≤ address_room h slot a.family

-- the claims that are listed in the slot, by its number, and none where it has none
abbrev pub listed_in : AddressHoldersValue → Option NumberedSlot → AddressValue → List ℕ
listed_in h None a = []
listed_in h (Some slot) a = claims_having h slot a

-- the claims that are listed in the slot, under the number of its group
abbrev pub claims_in : GroupsValue → AddressHoldersValue → Slot → AddressValue → List ℕ
claims_in groups h slot a = listed_in h (numbered_slot groups slot) a

-- No claim is listed in the slots of this number.
pub record IsUnused (h : AddressHoldersValue) (n : ℕ) : Type 0 where
  pub group : claims_having h (OfSharingGroup n) ≡ (λ a. [])
  pub ports : (port : Port) → claims_having h (OfPort port n) ≡ (λ a. [])

-- each group has the number that it had, or none where no claim was listed in its slot
abbrev pub AreFewer : AddressHoldersValue → GroupsValue → GroupsValue → Type 0
AreFewer h before after =
    (group : List ℕ)
    → (number_of after group ≡ number_of before group) ⊎ ((number_of after group ≡ None) × (claims_in before h (texts.OfSharingGroup group) ≡ (λ a. [])))
