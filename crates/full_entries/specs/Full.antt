-- Which entries are full.
use Rattle.std.specs.Prelude.{◌≡◌, ℕ, true, List, Some, slice_get}
use Rattle.number_sets.specs.Least.{NonePasses}
use Rattle.number_sets.specs.Runs.{has}
use Rattle.claim_index.specs.Claims.{ClaimValue}
use Rattle.address_holders.specs.Holders.{address_of}
use Rattle.claim_index.specs.Index.{is_open}
use Rattle.claim_index.specs.Room.{IndexRoom}
use Rattle.claim_index.specs.Slots.{Any}
use Rattle.full_entries.specs.declared.entries.Entry.{Entry}
use Rattle.full_entries.specs.Known.{EntriesValue}

-- each address of the entry has a claim, or is a buggy one, where those are avoided
abbrev pub IsFull : List ClaimValue → Entry → Type 0
IsFull claims e = NonePasses (λ n. is_open e.avoiding Any claims (address_of e.family n)) e.low e.high

-- the entries that are known to be full are
abbrev pub AreFull : List ClaimValue → EntriesValue → Type 0
AreFull claims f = (i : ℕ) (e : Entry) → has f.full i ≡ true → slice_get f.entries i ≡ Some e → IsFull claims e

-- The claims, and the entries of which it is kept whether they are full, as contracts see them.
pub record EntryClaimsValue : Type 0 where
  pub items : List (ℕ × ClaimValue)  -- the claims, each with its number
  pub room : IndexRoom  -- what can be added without memory
  pub entries : List Entry
