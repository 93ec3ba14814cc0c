use Rattle.std.proofs.Common.{ℕ, ◌≡◌, ◌<◌, get_or}
use Rattle.ip_ranges.specs.Values.{AddressValue}
use Rattle.number_sets.specs.Runs.{has}
use Rattle.full_entries.specs.Known.{AreKnownTo, IsUnknown}
use Rattle.full_entries.proofs.entry_claims.forget_at_each.Given as goal

abbrev pub invariant-loop-address : goal.invariant-loop-address
invariant-loop-address l =
    record {
      entries : l.entries.entries ≡ l.fn.entries.entries;
      fewer : AreKnownTo (has l.fn.entries.full) l.entries;
      gone : (k : ℕ) (a : AddressValue) → k < l.address-index → get_or l.addresses k a ≡ a → IsUnknown a l.entries;
    }
