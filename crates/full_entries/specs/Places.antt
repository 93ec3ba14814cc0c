-- Entries, and the order in which they begin.
use Rattle.std.specs.Prelude.{◌≡◌, ◌≤◌, ◌-◌, ℕ, nat_le, List, Option, Some, slice_get}
use Rattle.std.specs.List.{count_by}
use Rattle.ip_ranges.specs.declared.family.Family.{Family}
use Rattle.ip_ranges.specs.Values.{AddressValue}
use Rattle.full_entries.specs.declared.entries.Entry.{Entry}
use Rattle.full_entries.specs.declared.order.FamilyOrder.{FamilyOrder}

-- the entry has the address
abbrev pub HasAddress : AddressValue → Entry → Type 0
HasAddress a e = (e.family ≡ a.family) × (e.low ≤ a.number) × (a.number ≤ e.high)

-- how many of the numbers aren't above this one
abbrev pub begun : List ℕ → ℕ → ℕ
begun lows n = count_by (λ low. nat_le low n) lows

-- the place of the last entry that begins at the number or below it; that of the first entry, where none does
abbrev pub place_at : FamilyOrder → ℕ → Option ℕ
place_at order n = slice_get order.places.items (begun order.lows.items n - 1)

-- the entry, which has this place, is found by each of its numbers, where it is of the family
abbrev pub IsFound : Family → FamilyOrder → Entry → ℕ → Type 0
IsFound family order e place = e.family ≡ family → (n : ℕ) → e.low ≤ n → n ≤ e.high → place_at order n ≡ Some place

-- each entry of the family is found by each of its numbers
abbrev pub AreFound : Family → List Entry → FamilyOrder → Type 0
AreFound family entries order = (i : ℕ) (e : Entry) → slice_get entries i ≡ Some e → IsFound family order e i
