-- Items by the number that each was given, in slots of which one may be empty.
use Rattle.std.specs.Prelude.{◌≡◌, ℕ, ◌+◌, ◌<◌, ◌^◌, if◌then◌else◌, List, Option, Some, None, is_some}
use Rattle.std.specs.Ordering.{nat_cmp}
use Rattle.std.specs.Option.{option_map}
use Rattle.std.specs.List.{filter_map, AllByRecursion}
use Rattle.std.specs.List.Sorted.{IsStrictlySortedBy}
use Rattle.std.specs.Map.{lookup, keys_of}
use Rattle.std.specs.BTreeMap.{is_at}

-- A numbered list as contracts see it.
pub record NumberedValue (X : Type 0) : Type 0 where
  pub items : List (ℕ × X)  -- each with its number, ascending
  pub room : ℕ  -- how many items more it can take without memory
  pub next : ℕ  -- the number that the next item gets

-- the item of a slot, with its number
abbrev pub item_of : {X : Type 0} → ℕ × Option X → Option (ℕ × X)
item_of slot = option_map (λ x. (slot.0, x)) slot.1

-- the items of the slots
abbrev pub items_of : {X : Type 0} → List (ℕ × Option X) → List (ℕ × X)
items_of slots = filter_map item_of slots

-- how many items more there are slots for: 1 where the next number has one
abbrev pub room_of : {X : Type 0} → ℕ → List (ℕ × Option X) → ℕ
room_of next slots = if is_some (lookup (is_at (nat_cmp next)) slots) then 1 else 0

-- an item has a number that was given, and an empty slot the next one, behind which there is one more
abbrev pub IsSlot : {X : Type 0} → ℕ → ℕ → Option X → Type 0
IsSlot next number None = (number ≡ next) × (next + 1 < 2 ^ 64)
IsSlot next number (Some x) = number < next

-- the slots stand by ascending number, none beyond the next one, which fits 64 bits
abbrev pub AreSlots : {X : Type 0} → ℕ → List (ℕ × Option X) → Type 0
AreSlots next slots =
    IsStrictlySortedBy nat_cmp (keys_of slots) × AllByRecursion (λ slot. IsSlot next slot.0 slot.1) slots × (next < 2 ^ 64)
