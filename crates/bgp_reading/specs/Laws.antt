-- What holds of reading.
use Rattle.std.specs.Prelude.{◌≡◌, ◌↔◌, ◌<◌, ◌^◌, ℕ, List, [], ◌∷◌, ◌++◌, All, Some}
use Rattle.std.specs.Option.{option_map}
use Rattle.std.specs.List.{AllByRecursion, flat_map}
use Rattle.ip_ranges.specs.Values.{PrefixValue}
use Rattle.bgp_updates.specs.declared.route.Terms.{Terms}
use Rattle.bgp_updates.specs.declared.route.Peering.{Peering}
use Rattle.bgp_updates.specs.Between.{messages_between}
use Rattle.bgp_updates.specs.Received.{terms_at}
use Rattle.bgp_updates.specs.Tables.{HasFew, IsTable}
use Rattle.bgp_reading.specs.declared.parts.UpdateParts.{UpdateParts}
use Rattle.bgp_reading.specs.Joined.{received_bytes}
use Rattle.bgp_reading.specs.Reading.{update_of}
use Rattle.bgp_reading.specs.Update.{AreValues, IsMessageOf, IsTold, IsUpdate}

-- A message says one thing.
abbrev pub MessagesSayOneThing : Type 0
MessagesSayOneThing = (a b : UpdateParts) (bytes : List ℕ) → IsUpdate a bytes → IsUpdate b bytes → a ≡ b

-- In octets, what is computed is exactly what a message says.
abbrev pub MessagesAreComputed : Type 0
MessagesAreComputed = (parts : UpdateParts) (bytes : List ℕ) → All (λ b. b < 2 ^ 8) bytes → (update_of bytes ≡ Some parts) ↔ IsUpdate parts bytes

-- the routes have a preference exactly where the peer is of the same AS
abbrev pub AreOfPeer : Peering → List (PrefixValue × Terms) → Type 0
AreOfPeer peering routes = AllByRecursion (λ route. IsTold peering route.1) routes

-- the numbers are what their types hold, as they always are outside of a law
abbrev pub AreTyped : Peering → List (PrefixValue × Terms) → Type 0
AreTyped peering routes = AllByRecursion (λ route. AreValues peering route.1) routes

-- the messages, one after the other
abbrev pub joined : List (List ℕ) → List ℕ
joined messages = flat_map (λ message. message) messages

-- The octets of the joined messages between two tables are messages, and after them the table is the new one.
abbrev pub UpdatesAreReceived : Type 0
UpdatesAreReceived = (peering : Peering) (old new : List (PrefixValue × Terms)) → IsTable old → IsTable new → All HasFew new → AreOfPeer peering new
    → AreTyped peering new
    → (p : PrefixValue) → option_map (λ table. table p) (received_bytes (terms_at old) (joined (messages_between peering old new))) ≡ Some (terms_at new p)

-- What can be told to a peer in messages that are read as what they say: a table with few communities, whose numbers are what their types
-- hold and whose routes have a preference exactly inside one AS.
pub record CanBeTold (peering : Peering) (routes : List (PrefixValue × Terms)) : Type 0 where
  pub table : IsTable routes
  pub few : All HasFew routes
  pub of_peer : AreOfPeer peering routes
  pub typed : AreTyped peering routes

-- the messages from each table to the next
abbrev pub messages_over : Peering → List (PrefixValue × Terms) → List (List (PrefixValue × Terms)) → List (List ℕ)
messages_over peering old [] = []
messages_over peering old (new ∷ later) = messages_between peering old new ++ messages_over peering new later

-- the last of the tables
abbrev pub last_table : List (PrefixValue × Terms) → List (List (PrefixValue × Terms)) → List (PrefixValue × Terms)
last_table old [] = old
last_table old (new ∷ later) = last_table new later

-- So it is over any number of tables: after the octets of the messages from each to the next the first table is the last one.
abbrev pub TablesAreReceived : Type 0
TablesAreReceived = (peering : Peering) (old : List (PrefixValue × Terms)) (tables : List (List (PrefixValue × Terms))) → IsTable old
    → AllByRecursion (CanBeTold peering) tables
    → (p : PrefixValue)
    → option_map (λ table. table p) (received_bytes (terms_at old) (joined (messages_over peering old tables))) ≡ Some (terms_at (last_table old tables) p)

-- Each of these messages is one of the sender.
abbrev pub MessagesAreOfSender : Type 0
MessagesAreOfSender = (peering : Peering) (old : List (PrefixValue × Terms)) (tables : List (List (PrefixValue × Terms))) → IsTable old
    → AllByRecursion (CanBeTold peering) tables
    → AllByRecursion (IsMessageOf peering) (messages_over peering old tables)
