-- For what more the index has room.
use Rattle.std.specs.Prelude.{◌≡◌, ◌<◌, ℕ, true, length}
use Rattle.kube_model.specs.declared.key.Key.{Key}
use Rattle.kube_model.specs.Keys.{key_cmp}
use Rattle.numbered_items.specs.Index.{IndexValue, room_under}
use Rattle.address_holders.specs.declared.slot.NumberedSlot.{NumberedSlot}
use Rattle.claim_index.specs.Claims.{ClaimValue}
use Rattle.address_holders.specs.Holders.{AddressHoldersValue}
use Rattle.claim_index.specs.ListedClaims.{HasRoomAt}
use Rattle.claim_index.specs.GroupNumbers.{GroupsValue, HasNumber, number_for}
use Rattle.claim_index.specs.GroupSlots.{is_slot_by}

-- By what the claims are found, and for what more there is room, without memory.
pub record IndexRoom : Type 0 where
  pub claims : ℕ  -- for so many claims
  pub keys : IndexValue Key  -- by each key the numbers of its claims
  pub groups : GroupsValue  -- the numbers of groups
  pub holders : AddressHoldersValue  -- and by each address

-- There is room for a claim that has addresses.
pub record HasRoomFor (room : IndexRoom) (c : ClaimValue) : Type 0 where
  pub claim : 0 < room.claims
  pub key : 0 < room_under key_cmp room.keys c.key
  pub group : HasNumber room.groups c.terms
  pub addresses : (slot : NumberedSlot) → is_slot_by (number_for room.groups c.terms) c.terms.ports slot ≡ true
      → HasRoomAt room.holders (length c.holding.addresses) slot c.holding.addresses
