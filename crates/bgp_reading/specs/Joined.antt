-- A table after joined messages (RFC 4271, section 3.1), as what it says of each prefix.
use Rattle.std.specs.Prelude.{ℕ, zero, suc, List, [], ◌∷◌, length, take, drop, Option, Some, None}
use Rattle.std.specs.Option.{option_and_then}
use Rattle.ip_ranges.specs.Values.{PrefixValue}
use Rattle.bgp_updates.specs.declared.route.Terms.{Terms}
use Rattle.bgp_updates.specs.Received.{Update, after}
use Rattle.bgp_reading.specs.declared.parts.UpdateParts.{UpdateParts}
use Rattle.bgp_reading.specs.Places.{short_at}
use Rattle.bgp_reading.specs.Reading.{update_of}
use Rattle.bgp_reading.specs.Update.{terms_of}

-- what the parts say: withdrawn prefixes, and announced ones with the message's preference and communities
abbrev pub said : UpdateParts → Update
said parts = record { withdrawn = parts.withdrawn; announced = parts.announced; terms = Some (terms_of parts) }

-- A withdrawn prefix has no route from now on, and an announced one has the message's terms.
abbrev pub after_parts : (PrefixValue → Option Terms) → UpdateParts → PrefixValue → Option Terms
after_parts table parts = after table (said parts)

-- the first message has as many octets as its length field at 16 says
abbrev pub first_message : List ℕ → List ℕ
first_message bytes = take (short_at 16 bytes) bytes

abbrev pub behind_first : List ℕ → List ℕ
behind_first bytes = drop (short_at 16 bytes) bytes

-- the table after at most so many messages that stand one after the other; `None` where the octets aren't that
abbrev pub received_within : ℕ → (PrefixValue → Option Terms) → List ℕ → Option (PrefixValue → Option Terms)
received_within most table [] = Some table
received_within zero table (octet ∷ rest) = None
received_within (suc most) table (octet ∷ rest) =
    option_and_then (λ parts. received_within most (after_parts table parts) (behind_first (octet ∷ rest))) (update_of (first_message (octet ∷ rest)))

-- the table after the messages in the octets, of which each has at least one
abbrev pub received_bytes : (PrefixValue → Option Terms) → List ℕ → Option (PrefixValue → Option Terms)
received_bytes table bytes = received_within (length bytes) table bytes
