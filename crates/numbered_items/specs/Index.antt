-- The numbers of items, listed under each term that the items have.
use Rattle.std.specs.Prelude.{◌≡◌, ◌≤◌, ℕ, ◌-◌, Bool, true, List, [], drop, Option, Some, None}
use Rattle.std.specs.List.Sorted.{IsStrictlySortedBy}
use Rattle.std.specs.Ordering.{nat_cmp}
use Rattle.std.specs.Map.{lookup}
use Rattle.std.specs.BTreeMap.{is_at}
use Rattle.std.specs.Vec.{vec_len, vec_capacity}
use Rattle.std.specs.declared.cmp.Ordering.{Ordering}
use Rattle.std.specs.declared.vec.Vec.{Vec}

-- A term's list as contracts see it.
pub record TermList : Type 0 where
  pub numbers : List ℕ  -- in the order in which they were added
  pub room : ℕ  -- how many numbers more it can take without memory

-- An inverted index as contracts see it: terms with their lists. What is said of it is said by the two functions below.
abbrev pub IndexValue : Type 0 → Type 0
IndexValue T = List (T × TermList)

-- the numbers of a list, and none where there is no list
abbrev pub numbers_in : Option TermList → List ℕ
numbers_in None = []
numbers_in (Some list) = list.numbers

-- the room of a list, and none where there is no list
abbrev pub room_in : Option TermList → ℕ
room_in None = 0
room_in (Some list) = list.room

-- the numbers that are listed under a term
abbrev pub numbers_under : {T : Type 0} → (T → T → Ordering) → IndexValue T → T → List ℕ
numbers_under cmp index term = numbers_in (lookup (is_at (cmp term)) index)

-- how many numbers more the term's list can take without memory
abbrev pub room_under : {T : Type 0} → (T → T → Ordering) → IndexValue T → T → ℕ
room_under cmp index term = room_in (lookup (is_at (cmp term)) index)

-- the list that a vector is behind the first so many numbers
abbrev pub list_behind : {A : Type 0} → ℕ → Vec ℕ A → TermList
list_behind gone list = record { numbers = drop gone list.items; room = vec_capacity list - vec_len list }

-- So many numbers of the vector are gone, and those after them ascend where the flag says so.
pub record AreLeft {A : Type 0} (gone : ℕ) (ascending : Bool) (list : Vec ℕ A) : Type 0 where
  pub within : gone ≤ vec_len list
  pub ascend : ascending ≡ true → IsStrictlySortedBy nat_cmp (drop gone list.items)
