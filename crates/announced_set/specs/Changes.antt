-- How what a node announces changes.
use Rattle.std.specs.Prelude.{◌≡◌, ℕ, Bool, not, List, [], filter}
use Rattle.ip_ranges.specs.Values.{AddressValue, has_address}
use Rattle.pool_config.specs.KeySets.{keys_with}
use Rattle.speaker_view.specs.ViewValue.{ViewValue}
use Rattle.l2_elect.specs.Election.{is_named}
use Rattle.l2_elect.specs.Kept.{AreKeptFor, kept_announcer}
use Rattle.announced_set.specs.Announced.{address_cmp, announced_by}

-- the addresses that aren't among the others
abbrev pub difference : List AddressValue → List AddressValue → List AddressValue
difference addresses others = filter (λ a. not (has_address others a)) addresses

-- of whichever view the entries were: these are the addresses that the node announces by that one and not by the other
abbrev pub AreWithdrawn : List (AddressValue × List ℕ) → ViewValue → List ℕ → List AddressValue → Type 0
AreWithdrawn entries after node addresses =
    (before : ViewValue) → AreKeptFor entries before → addresses ≡ difference (announced_by before node) (announced_by after node)

-- and these those that it announces by the other and not by that one
abbrev pub AreComeSince : List (AddressValue × List ℕ) → ViewValue → List ℕ → List AddressValue → Type 0
AreComeSince entries after node addresses =
    (before : ViewValue) → AreKeptFor entries before → addresses ≡ difference (announced_by after node) (announced_by before node)

-- the node's name is held for the address
abbrev pub is_kept_announcer : List (AddressValue × List ℕ) → List ℕ → AddressValue → Bool
is_kept_announcer entries node a = is_named node (kept_announcer entries a)

-- the addresses for which it is, each put in its place, once
abbrev pub kept_among : List (AddressValue × List ℕ) → List ℕ → List AddressValue → List AddressValue
kept_among entries node addresses = keys_with address_cmp [] (filter (is_kept_announcer entries node) addresses)
