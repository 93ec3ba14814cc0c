-- What is said as a function of the words.
use Rattle.std.specs.Prelude.{ℕ, Bool, ◌&&◌, ◌||◌, not, is_some, is_none, nat_lt, if◌then◌else◌, List, []}
use Rattle.std.specs.Prelude.{◌∷◌, ◌++◌, length, Option, Some, None, option_and_then, Result, Ok, Err}
use Rattle.std.specs.List.{list_any, before_first, after_first}
use Rattle.std.specs.Option.{option_map}
use Rattle.std.specs.Str.{bytes_eq}
use Rattle.command_options.specs.Values.{once, text_of, taken_in}
use Rattle.command_options.specs.Lanes.{LaneNames, LanesGiven, no_lanes, with_first, with_second, lanes_of}
use Rattle.ip_ranges.specs.declared.family.Family.{Family}
use Rattle.ip_ranges.specs.declared.family.Family.TheVariants.{V4, V6}
use Rattle.ip_ranges.specs.declared.fault.RangeFault.{RangeFault}
use Rattle.ip_ranges.specs.Values.{AddressValue, same_family}
use Rattle.ip_ranges.specs.AddressText.{address_of}
use Rattle.speaker_words.specs.Interface.{InterfaceValue, interface_of}
use Rattle.speaker_words.specs.Words.{Said, node_option, class_option, interface_option, next_hop_option, next_hop_v6_option, watch_option, frame_option}
use Rattle.speaker_words.specs.Words.{responder_flag}

-- what options said so far
pub record Given : Type 0 where
  pub node : Option (List ℕ)
  pub class : Option (List ℕ)
  pub interfaces : List InterfaceValue
  pub next_hop : Option AddressValue
  pub next_hop_v6 : Option AddressValue
  pub lanes : LanesGiven

abbrev pub nothing_given : Given
nothing_given = record { node = None; class = None; interfaces = []; next_hop = None; next_hop_v6 = None; lanes = no_lanes }

abbrev pub with_node : List ℕ → Given → Option Given
with_node value g =
    option_map
    (λ node. record { node = node; class = g.class; interfaces = g.interfaces; next_hop = g.next_hop; next_hop_v6 = g.next_hop_v6; lanes = g.lanes })
    (once text_of value g.node)

abbrev pub with_class : List ℕ → Given → Option Given
with_class value g =
    option_map
    (λ class. record { node = g.node; class = class; interfaces = g.interfaces; next_hop = g.next_hop; next_hop_v6 = g.next_hop_v6; lanes = g.lanes })
    (once text_of value g.class)

-- whether one of the interfaces has the name
abbrev pub is_named : List ℕ → List InterfaceValue → Bool
is_named name interfaces = list_any (λ i. bytes_eq i.name name) interfaces

-- one more of at most 16 interfaces of distinct names
abbrev pub with_one : List InterfaceValue → InterfaceValue → Option (List InterfaceValue)
with_one interfaces i =
    if nat_lt (length interfaces) 16 && not (is_named i.name interfaces) then Some (interfaces ++ i ∷ []) else None

abbrev pub one_more : List ℕ → List InterfaceValue → Option (List InterfaceValue)
one_more value interfaces = option_and_then (with_one interfaces) (interface_of value)

abbrev pub with_interface : List ℕ → Given → Option Given
with_interface value g =
    option_map
    (λ interfaces. record { node = g.node; class = g.class; interfaces = interfaces; next_hop = g.next_hop; next_hop_v6 = g.next_hop_v6; lanes = g.lanes })
    (one_more value g.interfaces)

-- an address of the family
abbrev pub only_of : Family → Result AddressValue RangeFault → Option AddressValue
only_of family (Ok a) = if same_family a.family family then Some a else None
only_of family (Err fault) = None

abbrev pub next_hop_of : Family → List ℕ → Option AddressValue
next_hop_of family text = only_of family (address_of text)

abbrev pub with_next_hop : List ℕ → Given → Option Given
with_next_hop value g =
    option_map (λ hop. record { node = g.node; class = g.class; interfaces = g.interfaces; next_hop = hop; next_hop_v6 = g.next_hop_v6; lanes = g.lanes })
    (once (next_hop_of V4) value g.next_hop)

abbrev pub with_next_hop_v6 : List ℕ → Given → Option Given
with_next_hop_v6 value g =
    option_map (λ hop. record { node = g.node; class = g.class; interfaces = g.interfaces; next_hop = g.next_hop; next_hop_v6 = hop; lanes = g.lanes })
    (once (next_hop_of V6) value g.next_hop_v6)

abbrev pub with_lanes : LanesGiven → Given → Given
with_lanes lanes g = record { node = g.node; class = g.class; interfaces = g.interfaces; next_hop = g.next_hop; next_hop_v6 = g.next_hop_v6; lanes = lanes }

abbrev pub with_watch : List ℕ → Given → Option Given
with_watch value g = option_map (λ lanes. with_lanes lanes g) (with_first value g.lanes)

abbrev pub with_frame : List ℕ → Given → Option Given
with_frame value g = option_map (λ lanes. with_lanes lanes g) (with_second value g.lanes)

abbrev pub with_option : List ℕ → List ℕ → Given → Option Given
with_option name value g =
    if bytes_eq name node_option then with_node value g
    else if bytes_eq name class_option then with_class value g
    else if bytes_eq name interface_option then with_interface value g
    else if bytes_eq name next_hop_option then with_next_hop value g
    else if bytes_eq name next_hop_v6_option then with_next_hop_v6 value g
    else if bytes_eq name watch_option then with_watch value g
    else if bytes_eq name frame_option then with_frame value g
    else None

-- a speaker has a node, and two lanes or one stream
abbrev pub said_by : Given → List ℕ → Bool → Option LaneNames → Said
said_by g node responder lanes = record {
  node = node;
  class = g.class;
  interfaces = g.interfaces;
  next_hop = g.next_hop;
  next_hop_v6 = g.next_hop_v6;
  lanes = lanes;
  responder = responder;
}

-- a responder stands beside two lanes alone
abbrev pub responder_stands : Bool → Option LaneNames → Bool
responder_stands responder lanes = not responder || is_some lanes

abbrev pub said_if : Given → List ℕ → Bool → Option LaneNames → Option Said
said_if g node responder lanes = if responder_stands responder lanes then Some (said_by g node responder lanes) else None

-- a hop of IPv6 stands beside one of IPv4 alone
abbrev pub hops_stand : Option AddressValue → Option AddressValue → Bool
hops_stand next_hop next_hop_v6 = is_some next_hop || is_none next_hop_v6

abbrev pub finished : Bool → Given → Option Said
finished responder g =
    if hops_stand g.next_hop g.next_hop_v6 then option_and_then (λ node. option_and_then (said_if g node responder) (lanes_of g.lanes)) g.node
    else None

abbrev pub is_flag : List ℕ → Bool
is_flag word = bytes_eq word responder_flag

-- what the options ahead of the flag and after it give; all words are ahead of it where it isn't there
abbrev pub given_in : List (List ℕ) → Option Given
given_in words =
    option_and_then (taken_in with_option (after_first is_flag words)) (taken_in with_option (before_first is_flag words) nothing_given)

-- what the words say, where they are of the table
abbrev pub said_in : List (List ℕ) → Option Said
said_in words = option_and_then (finished (list_any is_flag words)) (given_in words)
