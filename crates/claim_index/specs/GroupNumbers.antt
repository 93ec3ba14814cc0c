-- The numbers of groups.
use Rattle.std.specs.Prelude.{◌≡◌, ◌≤◌, ◌<◌, ◌⊎◌, ℕ, List, Option, Some, None, false}
use Rattle.std.specs.Map.{lookup}
use Rattle.std.specs.Option.{option_and_then}
use Rattle.std.specs.Str.{bytes_eq}
use Rattle.mlb_base.specs.Items.{is_nil}
use Rattle.sharing_terms.specs.declared.terms.Terms.{Terms}
use Rattle.claim_index.specs.SharingGroups.{sharing_group_of, group_of}

-- The numbers of groups as contracts see them.
pub record GroupsValue : Type 0 where
  pub numbers : List (List ℕ × ℕ)  -- groups with their numbers
  pub next : ℕ  -- the number that the next one gets

-- the number of the group, where it has one
abbrev pub number_of : GroupsValue → List ℕ → Option ℕ
number_of groups group = lookup (bytes_eq group) groups.numbers

-- the number of the group of the terms, where they have a sharing key and it has one
abbrev pub number_for : GroupsValue → Terms → Option ℕ
number_for groups t = option_and_then (number_of groups) (group_of t)

-- the group of the terms has a number, where they have a sharing key
abbrev pub HasNumber : GroupsValue → Terms → Type 0
HasNumber groups t = is_nil t.key ≡ false → ¬ (number_of groups (sharing_group_of t) ≡ None)

-- The numbers are below the next one, and no two groups have one number.
pub record AreNumbered (groups : GroupsValue) : Type 0 where
  pub below : (group : List ℕ) (n : ℕ) → number_of groups group ≡ Some n → n < groups.next
  pub apart : (a b : List ℕ) (n : ℕ) → number_of groups a ≡ Some n → number_of groups b ≡ Some n → a ≡ b

-- the group has the number that it had, or none before and then one that none had
abbrev pub IsNumbered : GroupsValue → GroupsValue → List ℕ → Type 0
IsNumbered before after group =
    (number_of after group ≡ number_of before group)
    ⊎ ((number_of before group ≡ None) × ((n : ℕ) × (number_of after group ≡ Some n) × (before.next ≤ n)))

-- Each group has the number that it had, or a new one in place of none.
pub record AreMore (before after : GroupsValue) : Type 0 where
  pub each : (group : List ℕ) → IsNumbered before after group
  pub next : before.next ≤ after.next
