-- The options of a Neighbor Discovery message (RFC 4861, section 4.6).
use Rattle.std.specs.Prelude.{ℕ, zero, suc, Bool, true, ◌&&◌, ◌||◌, ◌==◌, if◌then◌else◌, ◌-◌, ◌*◌, List, [], ◌∷◌, length, take, Option, Some, None}
use Rattle.std.specs.List.{list_any, find}
use Rattle.std.specs.Option.{option_map, option_or}
use Rattle.neigh_frames.specs.declared.options.Sender.{Sender}

-- an option: its type, and the bytes after type and length
pub record NdpOption : Type 0 where
  pub kind : ℕ
  pub body : List ℕ

-- The options in the bytes, after the bytes that an option which has begun still has. An option is a type, a length in units of
-- eight bytes, which isn't 0, and as many bytes in all; the last ends where the bytes end.
abbrev pub options_behind : ℕ → List ℕ → Option (List NdpOption)
options_behind (suc left) [] = None
options_behind (suc left) (byte ∷ rest) = options_behind left rest
options_behind zero [] = Some []
options_behind zero (kind ∷ []) = None
options_behind zero (kind ∷ zero ∷ rest) = None
options_behind zero (kind ∷ suc units ∷ rest) =
    option_map (λ options. record { kind = kind; body = take (suc units * 8 - 2) rest } ∷ options) (options_behind (suc units * 8 - 2) rest)

-- the options that the bytes are
abbrev pub options_of : List ℕ → Option (List NdpOption)
options_of bytes = options_behind 0 bytes

-- it is a Source Link-Layer Address (section 4.6.1)
abbrev pub states_source : NdpOption → Bool
states_source option = option.kind == 1

-- it is one of length 1, of an Ethernet address
abbrev pub states_hardware : NdpOption → Bool
states_hardware option = (option.kind == 1) && (length option.body == 6)

-- the first Ethernet address that the options state as the sender's
abbrev pub hardware_of : List NdpOption → Option (List ℕ)
hardware_of options = option_map (λ option. option.body) (find states_hardware options)

-- what the options say of their sender: whether they state a link-layer address, and the first Ethernet address
abbrev pub sender_in : List NdpOption → Sender
sender_in options = record { stated = list_any states_source options; hardware = hardware_of options }

-- ---- one option after the other
-- what was said, and then one option more
abbrev pub with_option : Sender → ℕ → List ℕ → Sender
with_option sender kind body =
    if kind == 1 then record { stated = true; hardware = option_or sender.hardware (if length body == 6 then Some body else None) } else sender

-- what was said, and then all these options
abbrev pub with_options : Sender → List NdpOption → Sender
with_options sender options = record { stated = sender.stated || list_any states_source options; hardware = option_or sender.hardware (hardware_of options) }
