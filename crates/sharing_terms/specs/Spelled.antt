-- Marks that are read: what a text may spell is written again, and compared with the text.
use Rattle.std.specs.Prelude.{ℕ, ◌+◌, ◌-◌, ◌*◌, ◌&&◌, ◌==◌, nat_lt, nat_le, if◌then◌else◌, List, [], ◌∷◌, Option, Some, None}
use Rattle.std.specs.Option.{option_and_then}
use Rattle.std.specs.Result.{result_ok}
use Rattle.std.specs.Str.{bytes_eq, is_utf8}
use Rattle.hex.specs.Hex.{decode_of}
use Rattle.kube_labels.specs.Pairs.{with_pair}
use Rattle.kube_model.specs.declared.port.Port.{Port}
use Rattle.kube_model.specs.declared.port.Protocol.{Protocol}
use Rattle.kube_model.specs.declared.port.Protocol.TheVariants.{Tcp, Udp, Sctp}
use Rattle.sharing_terms.specs.declared.terms.Terms.{Terms}
use Rattle.sharing_terms.specs.declared.terms.Backend.{Backend}
use Rattle.sharing_terms.specs.declared.terms.Backend.TheVariants.{Cluster, Local}
use Rattle.sharing_terms.specs.Marks.{mark_of}
use Rattle.sharing_terms.specs.Ports.{ports_in}

-- the text ahead of the first such byte, or all of it
abbrev pub ahead_of : ℕ → List ℕ → List ℕ
ahead_of byte [] = []
ahead_of byte (c ∷ text) = if c == byte then [] else c ∷ ahead_of byte text

-- the text after the first such byte, or nothing
abbrev pub behind : ℕ → List ℕ → List ℕ
behind byte [] = []
behind byte (c ∷ text) = if c == byte then text else behind byte text

-- the bytes, where they are UTF-8
abbrev pub text_of_bytes : List ℕ → Option (List ℕ)
text_of_bytes bytes = if is_utf8 bytes then Some bytes else None

-- the text of these digits, where they are UTF-8
abbrev pub text_of_hex : List ℕ → Option (List ℕ)
text_of_hex digits = option_and_then text_of_bytes (result_ok (decode_of digits))

-- the protocol of T, U or S
abbrev pub protocol_of_letter : ℕ → Option Protocol
protocol_of_letter c = if c == 84 then Some Tcp else (if c == 85 then Some Udp else (if c == 83 then Some Sctp else None))

-- the number of these digits after n, where it is one of 16 bits
abbrev pub number_from : ℕ → List ℕ → Option ℕ
number_from n [] = Some n
number_from n (c ∷ digits) =
    if nat_le 48 c && nat_le c 57 && nat_lt (n * 10 + (c - 48)) 65536 then number_from (n * 10 + (c - 48)) digits else None

-- the port of the two, where both are there
abbrev pub port_by : Option Protocol → Option ℕ → Option Port
port_by (Some protocol) (Some number) = Some (record { protocol = protocol; port = number })
port_by (Some protocol) None = None
port_by None number = None

-- the port of a letter and a number
abbrev pub port_of_text : List ℕ → Option Port
port_of_text [] = None
port_of_text (c ∷ digits) = port_by (protocol_of_letter c) (number_from 0 digits)

-- the byte at the head of the first piece
abbrev pub extended : ℕ → List (List ℕ) → List (List ℕ)
extended c [] = (c ∷ []) ∷ []
extended c (piece ∷ pieces) = (c ∷ piece) ∷ pieces

-- the text cut at each such byte
abbrev pub pieces : ℕ → List ℕ → List (List ℕ)
pieces byte [] = [] ∷ []
pieces byte (c ∷ text) = if c == byte then [] ∷ pieces byte text else extended c (pieces byte text)

-- the port ahead of the others, where all are there
abbrev pub ports_by : Option Port → Option (List Port) → Option (List Port)
ports_by None more = None
ports_by (Some port) None = None
ports_by (Some port) (Some more) = Some (port ∷ more)

-- the ports of the pieces, where each is a port
abbrev pub ports_from : List (List ℕ) → Option (List Port)
ports_from [] = Some []
ports_from (piece ∷ pieces) = ports_by (port_of_text piece) (ports_from pieces)

-- the ports of a text, with commas between; the empty text is that of no port
abbrev pub ports_of_text : List ℕ → Option (List Port)
ports_of_text [] = Some []
ports_of_text (c ∷ text) = ports_from (pieces 44 (c ∷ text))

-- the pair of the two, where both are there
abbrev pub pair_by : Option (List ℕ) → Option (List ℕ) → Option (List ℕ × List ℕ)
pair_by None value = None
pair_by (Some name) None = None
pair_by (Some name) (Some value) = Some (name, value)

-- the name and the value on both sides of the equals sign
abbrev pub pair_of_text : List ℕ → Option (List ℕ × List ℕ)
pair_of_text text = pair_by (text_of_hex (ahead_of 61 text)) (text_of_hex (behind 61 text))

-- the pairs of the pieces put into those kept, where each is a pair
abbrev pub labels_from : List (List ℕ × List ℕ) → List (List ℕ) → Option (List (List ℕ × List ℕ))
labels_from kept [] = Some kept
labels_from kept (piece ∷ pieces) = option_and_then (λ pair. labels_from (with_pair pair.0 pair.1 kept) pieces) (pair_of_text piece)

-- the backend of the two, where both are there
abbrev pub local_by : Option (List ℕ) → Option (List (List ℕ × List ℕ)) → Option Backend
local_by None selector = None
local_by (Some namespace) None = None
local_by (Some namespace) (Some selector) = Some (Local namespace selector)

-- the backend of a namespace and pairs
abbrev pub local_from : List (List ℕ) → Option Backend
local_from [] = None
local_from (piece ∷ pieces) = local_by (text_of_hex piece) (labels_from [] pieces)

-- the backend of a text that begins with C or L
abbrev pub backend_of_text : List ℕ → Option Backend
backend_of_text [] = None
backend_of_text (c ∷ text) = if c == 67 then Some Cluster else (if c == 76 then local_from (pieces 44 text) else None)

-- the terms of the three, where all are there
abbrev pub terms_by : Option (List ℕ) → Option (List Port) → Option Backend → Option Terms
terms_by None ports backend = None
terms_by (Some key) None backend = None
terms_by (Some key) (Some ports) None = None
terms_by (Some key) (Some ports) (Some backend) = Some (record { key = key; ports = ports_in ports; backend = backend })

-- the terms that a text may spell, if it spells some
abbrev pub spelled : List ℕ → Option Terms
spelled text =
    let rest = behind 59 text in
    let last = behind 59 rest in
    terms_by (text_of_hex (ahead_of 59 rest)) (ports_of_text (ahead_of 59 last)) (backend_of_text (behind 59 last))

-- the terms, where the text is their mark
abbrev pub if_marked : List ℕ → Option Terms → Option Terms
if_marked text None = None
if_marked text (Some t) = if bytes_eq (mark_of t) text then Some t else None

-- the terms of which the text is the mark, if there are some
abbrev pub recorded_terms : List ℕ → Option Terms
recorded_terms text = if_marked text (spelled text)
