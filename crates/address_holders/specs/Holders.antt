-- Who has the addresses: by each address the numbers of the claims that have it.
use Rattle.std.specs.Prelude.{◌&&◌, not, ℕ, Bool, List, []}
use Rattle.std.specs.Map.{lookup}
use Rattle.std.specs.Option.{unwrap_or}
use Rattle.std.specs.Ordering.{nat_cmp}
use Rattle.ip_ranges.specs.declared.family.Family.{Family}
use Rattle.ip_ranges.specs.declared.family.Family.TheVariants.{V4, V6}
use Rattle.ip_ranges.specs.Values.{AddressValue, is_buggy}
use Rattle.mlb_base.specs.Items.{is_nil}
use Rattle.number_sets.specs.Blocks.{is_edge}
use Rattle.numbered_items.specs.Index.{IndexValue, numbers_under, room_under}
use Rattle.address_holders.specs.declared.slot.NumberedSlot.{NumberedSlot}
use Rattle.address_holders.specs.NumberedSlots.{same_slot}

-- The claims that are listed in one slot at the addresses of one family, by their numbers.
pub record ClaimantsValue : Type 0 where
  pub claims : IndexValue ℕ  -- the numbers of the claims at each address
  pub room : ℕ  -- at how many addresses more claims can be listed without memory

-- Who has the addresses of one family, by their numbers: the claims in each slot.
abbrev pub HoldersValue : Type 0
HoldersValue = List (NumberedSlot × ClaimantsValue)

-- Who has the addresses of both families.
pub record AddressHoldersValue : Type 0 where
  pub v4 : HoldersValue
  pub v6 : HoldersValue

-- the numbers of the claims that are listed at the address, by its number
abbrev pub claims_at : ClaimantsValue → ℕ → List ℕ
claims_at c n = numbers_under nat_cmp c.claims n

-- how many claims more can be listed there without memory
abbrev pub claim_room_at : ClaimantsValue → ℕ → ℕ
claim_room_at c n = room_under nat_cmp c.claims n

-- no claim is listed at the address, and it is no edge where it is sought inside blocks
abbrev pub is_open_at : Bool → ClaimantsValue → ℕ → Bool
is_open_at inside c n = not (inside && is_edge n) && is_nil (claims_at c n)

-- a claim is listed at the address
abbrev pub is_listed : ClaimantsValue → ℕ → Bool
is_listed c n = not (is_nil (claims_at c n))

-- a claim of the one list is listed at the address, and none of the other
abbrev pub is_listed_but : ClaimantsValue → ClaimantsValue → ℕ → Bool
is_listed_but c d n = is_listed c n && not (is_listed d n)

-- no claim is listed, and there is no room for one
abbrev pub no_claimants : ClaimantsValue
no_claimants = record { claims = []; room = 0 }

-- the claims in the slot
abbrev pub in_slot_at : HoldersValue → NumberedSlot → ClaimantsValue
in_slot_at h slot = unwrap_or (lookup (same_slot slot) h) no_claimants

-- the one of the family
abbrev pub of_family : AddressHoldersValue → Family → HoldersValue
of_family h V4 = h.v4
of_family h V6 = h.v6

-- the claims in the slot at addresses of the family
abbrev pub in_slot : AddressHoldersValue → NumberedSlot → Family → ClaimantsValue
in_slot h slot family = in_slot_at (of_family h family) slot

-- the numbers of the claims in the slot that have the address
abbrev pub claims_having : AddressHoldersValue → NumberedSlot → AddressValue → List ℕ
claims_having h slot a = claims_at (in_slot h slot a.family) a.number

-- no claim in the slot has the address, and it isn't a buggy one where those are avoided
abbrev pub is_open_in : Bool → AddressHoldersValue → NumberedSlot → AddressValue → Bool
is_open_in avoiding h slot a = not (avoiding && is_buggy a) && is_nil (claims_having h slot a)

-- a claim in the slot has the address
abbrev pub is_held_in : AddressHoldersValue → NumberedSlot → AddressValue → Bool
is_held_in h slot a = not (is_nil (claims_having h slot a))

-- how many claims more may be listed there without memory
abbrev pub claim_room : AddressHoldersValue → NumberedSlot → AddressValue → ℕ
claim_room h slot a = claim_room_at (in_slot h slot a.family) a.number

-- at how many addresses more of the family claims can be listed in the slot without memory
abbrev pub address_room : AddressHoldersValue → NumberedSlot → Family → ℕ
address_room h slot family = (in_slot h slot family).room

-- the address of the family with this number
abbrev pub address_of : Family → ℕ → AddressValue
address_of family n = record { family = family; number = n }

-- a claim in the slot has the address of the family with this number, and none in the other
abbrev pub is_held_but : AddressHoldersValue → NumberedSlot → NumberedSlot → Family → ℕ → Bool
is_held_but h slot fewer family n = is_held_in h slot (address_of family n) && not (is_held_in h fewer (address_of family n))
