-- Entries, and which of them are known to be full.
use Rattle.std.specs.Prelude.{◌≡◌, ℕ, Bool, true, false, List, Some, slice_get}
use Rattle.ip_ranges.specs.Values.{AddressValue}
use Rattle.number_sets.specs.Runs.{RunsValue, has}
use Rattle.full_entries.specs.declared.entries.Entry.{Entry}
use Rattle.full_entries.specs.Places.{HasAddress}

-- Entries, by their places, and the places of those that are known to be full.
pub record EntriesValue : Type 0 where
  pub entries : List Entry
  pub full : RunsValue

-- each entry that is known to be full has a place that passes
abbrev pub AreKnownTo : (ℕ → Bool) → EntriesValue → Type 0
AreKnownTo test f = (i : ℕ) → has f.full i ≡ true → test i ≡ true

-- no entry is known to be full
abbrev pub NoneIsKnown : EntriesValue → Type 0
NoneIsKnown f = AreKnownTo (λ i. false) f

-- no entry that has the address is known to be full
abbrev pub IsUnknown : AddressValue → EntriesValue → Type 0
IsUnknown a f = (i : ℕ) (e : Entry) → has f.full i ≡ true → slice_get f.entries i ≡ Some e → ¬ HasAddress a e
