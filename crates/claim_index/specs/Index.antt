-- The claims under their numbers, and by what each is found.
use Rattle.std.specs.Prelude.{◌≡◌, ◌≤◌, ◌<◌, ◌-◌, ℕ, length, Bool, false, ◌==◌, ◌&&◌, not, if◌then◌else◌, find, List, [], ◌∷◌, ◌++◌, filter, Option}
use Rattle.std.specs.List.{Contains, list_any, slice_get}
use Rattle.std.specs.Map.{lookup, keys_of, values_of}
use Rattle.std.specs.Option.{option_and_then, option_map_or}
use Rattle.ip_ranges.specs.declared.family.Family.{Family}
use Rattle.ip_ranges.specs.Values.{AddressValue, has_address, is_buggy}
use Rattle.kube_model.specs.declared.key.Key.{Key}
use Rattle.kube_model.specs.declared.port.Port.{Port}
use Rattle.kube_model.specs.Keys.{key_cmp, same_key}
use Rattle.sharing_terms.specs.declared.terms.Terms.{Terms}
use Rattle.numbered_items.specs.Index.{IndexValue, numbers_under}
use Rattle.claim_index.specs.Slots.{Slot, OfSharingGroup, OfPort}
use Rattle.claim_index.specs.SharingGroups.{HasSharingGroup, sharing_group_of}
use Rattle.claim_index.specs.Slots.{occupies}
use Rattle.claim_index.specs.Claims.{AreAssigned, ClaimValue}
use Rattle.claim_index.specs.Room.{IndexRoom}
use Rattle.claim_index.specs.GroupNumbers.{GroupsValue}
use Rattle.address_holders.specs.Holders.{AddressHoldersValue, address_of}
use Rattle.claim_index.specs.ListedClaims.{IsUnused, claims_in}

-- the numbers of the claims of the key
abbrev pub numbers_of : Key → List (ℕ × ClaimValue) → List ℕ
numbers_of key items = keys_of (filter (λ p. same_key p.1.key key) items)

-- the first number but this one
abbrev pub first_but : ℕ → List ℕ → Option ℕ
first_but n numbers = find (λ m. not (m == n)) numbers

-- the first number of another claim of the key that this claim is of
abbrev pub first_other : ℕ → List (ℕ × ClaimValue) → Option ℕ
first_other n items = option_and_then (λ c. first_but n (numbers_of c.key items)) (lookup (λ m. m == n) items)

-- the number, where the address is one of these
abbrev pub numbered : ℕ → List AddressValue → AddressValue → List ℕ
numbered n addresses a = if has_address addresses a then n ∷ [] else []

-- the number of the claim, where it is listed in the slot at the address
abbrev pub numbered_at : Slot → AddressValue → ℕ × ClaimValue → List ℕ
numbered_at slot a p = if occupies slot p.1 then numbered p.0 p.1.holding.addresses a else []

-- the numbers of the claims in the slot that have the address
abbrev pub numbers_at : Slot → AddressValue → List (ℕ × ClaimValue) → List ℕ
numbers_at slot a [] = []
numbers_at slot a (p ∷ items) = numbered_at slot a p ++ numbers_at slot a items

-- a claim that is listed in the slot has the address
abbrev pub is_taken : Slot → List ClaimValue → AddressValue → Bool
is_taken slot claims a = list_any (λ c. occupies slot c && has_address c.holding.addresses a) claims

-- a claim of this group has the address
abbrev pub is_shared : List ℕ → List ClaimValue → AddressValue → Bool
is_shared group claims a = is_taken (OfSharingGroup group) claims a

-- a claim of this group that has one of the ports has the address
abbrev pub is_barred : List ℕ → List Port → List ClaimValue → AddressValue → Bool
is_barred group ports claims a = list_any (λ port. is_taken (OfPort port group) claims a) ports

-- claims of the terms' group have the address, and none with a port of theirs does
abbrev pub is_shareable : Terms → List ClaimValue → AddressValue → Bool
is_shareable t claims a = is_shared (sharing_group_of t) claims a && not (is_barred (sharing_group_of t) t.ports claims a)

-- no claim that is listed in the slot has the address, and it isn't a buggy one where those are avoided
abbrev pub is_open : Bool → Slot → List ClaimValue → AddressValue → Bool
is_open avoiding slot claims a = not (avoiding && is_buggy a) && not (is_taken slot claims a)

-- the terms of each claim have a group
abbrev pub HaveSharingGroups : List ClaimValue → Type 0
HaveSharingGroups claims = (c : ClaimValue) → Contains claims c → HasSharingGroup c.terms

-- The claims have addresses and groups, and these are what each is found by. Under numbers that no group had nothing is listed.
pub record IsIndexed (items : List (ℕ × ClaimValue)) (by_key : IndexValue Key) (numbers : GroupsValue) (h : AddressHoldersValue) : Type 0 where
  pub assigned : AreAssigned (values_of items)
  pub keys : numbers_under key_cmp by_key ≡ (λ key. numbers_of key items)
  pub holders : (slot : Slot) → claims_in numbers h slot ≡ (λ a. numbers_at slot a items)
  pub unused : (n : ℕ) → numbers.next ≤ n → IsUnused h n
  pub groups : HaveSharingGroups (values_of items)

-- no address of the family with a number from low on, below high, is one that terms like these may share by their ports
abbrev pub NoneShareable : Family → Terms → List ClaimValue → ℕ → ℕ → Type 0
NoneShareable family t claims low high = (n : ℕ) → low ≤ n → n < high → is_shareable t claims (address_of family n) ≡ false

-- the number stands at the end
abbrev pub ends_with : ℕ → List ℕ → Bool
ends_with n numbers = option_map_or (λ m. m == n) (slice_get numbers (length numbers - 1)) false

-- An index of claims as the book sees it.
pub record ClaimIndexValue : Type 0 where
  pub items : List (ℕ × ClaimValue)  -- the claims, each with its number
  pub room : IndexRoom  -- what can be added without memory
