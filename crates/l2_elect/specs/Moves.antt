-- How little the election moves where members leave and join.
use Rattle.std.specs.Prelude.{◌≢◌, ◌⊎◌, ℕ, not, List, filter}
use Rattle.std.specs.Str.{bytes_eq}
use Rattle.ip_ranges.specs.Values.{AddressValue}
use Rattle.speaker_view.specs.ViewValue.{ViewValue}
use Rattle.l2_elect.specs.Eligible.{IsEligible}
use Rattle.l2_elect.specs.Election.{IsAnnouncer}

-- the same but that this node is no member
abbrev pub without_member : List ℕ → ViewValue → ViewValue
without_member node v = record v { members = filter (λ m. not (bytes_eq m node)) v.members }

-- An address moves only from a node that left or to one that joined.
pub record ElectionMovesLeast : Type 0 where
  -- Where no node is eligible that wasn't before, the announcer stays as long as it is eligible.
  pub stays : (v w : ViewValue) (address : AddressValue) → ((m : List ℕ) → IsEligible w address m → IsEligible v address m)
      → (node : List ℕ) → IsAnnouncer v address node → IsEligible w address node → IsAnnouncer w address node
  -- Where a member leaves, each address that another announced is announced by that one still. Read the other way round: where one joins, each
  -- address that it doesn't announce itself stays where it was.
  pub kept : (v : ViewValue) (gone : List ℕ) (address : AddressValue) (node : List ℕ) → node ≢ gone → IsAnnouncer v address node
      → IsAnnouncer (without_member gone v) address node
  -- And what one announces then it announced before, or the one that left did.
  pub moved : (v : ViewValue) (gone : List ℕ) (address : AddressValue) (node : List ℕ) → IsAnnouncer (without_member gone v) address node
      → IsAnnouncer v address node ⊎ IsAnnouncer v address gone
