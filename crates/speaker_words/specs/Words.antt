-- What the words of the command line say: `--node-name NODE`, and perhaps `--lb-class CLASS`, `--interface NAME=MAC`, `--next-hop ADDRESS`, beside
-- it `--next-hop-v6 ADDRESS`, and `--watch-lane FILE` with `--frame-lane FILE`, beside these `--responder`.
use Rattle.std.specs.Prelude.{◌≡◌, ◌≢◌, ◌≤◌, ◌⊎◌, ℕ, Bool, true, false, List, [], ◌∷◌, ◌++◌, length, codes, Option, None}
use Rattle.std.specs.List.{AllByRecursion, AllZip, AllPairs}
use Rattle.std.specs.Option.{option_to_list}
use Rattle.command_options.specs.Options.{CommandOption, AreOptions}
use Rattle.command_options.specs.Values.{values_of}
use Rattle.command_options.specs.Lanes.{LaneNames, MayNameLanes}
use Rattle.ip_ranges.specs.declared.family.Family.{Family}
use Rattle.ip_ranges.specs.declared.family.Family.TheVariants.{V4, V6}
use Rattle.ip_ranges.specs.Values.{AddressValue, IsMapped}
use Rattle.ip_ranges.specs.AddressText.{IsAddressText}
use Rattle.speaker_words.specs.Interface.{InterfaceValue, IsInterface}

-- the node that the speaker runs on, the class of the services that it announces, with none those that name none, the interfaces that it
-- answers on, the addresses that its routes of IPv4 and of IPv6 lead to, the files of the watched objects and of the received frames, and whether
-- frames are answered on a thread of their own
pub record Said : Type 0 where
  pub node : List ℕ
  pub class : Option (List ℕ)
  pub interfaces : List InterfaceValue
  pub next_hop : Option AddressValue
  pub next_hop_v6 : Option AddressValue
  pub lanes : Option LaneNames
  pub responder : Bool

abbrev pub node_option : List ℕ
node_option = codes "--node-name"

abbrev pub class_option : List ℕ
class_option = codes "--lb-class"

abbrev pub interface_option : List ℕ
interface_option = codes "--interface"

abbrev pub next_hop_option : List ℕ
next_hop_option = codes "--next-hop"

abbrev pub next_hop_v6_option : List ℕ
next_hop_v6_option = codes "--next-hop-v6"

abbrev pub watch_option : List ℕ
watch_option = codes "--watch-lane"

abbrev pub frame_option : List ℕ
frame_option = codes "--frame-lane"

-- a word of its own, without a value
abbrev pub responder_flag : List ℕ
responder_flag = codes "--responder"

abbrev pub IsKnown : CommandOption → Type 0
IsKnown o =
    (o.name ≡ node_option) ⊎ (o.name ≡ class_option) ⊎ (o.name ≡ interface_option) ⊎ (o.name ≡ next_hop_option)
    ⊎ (o.name ≡ next_hop_v6_option) ⊎ (o.name ≡ watch_option) ⊎ (o.name ≡ frame_option)

-- the text writes the address, which is of the family, and no IPv4 one that is mapped into IPv6 (RFC 4291, section 2.5.5.2)
pub record IsNextHop (family : Family) (text : List ℕ) (a : AddressValue) : Type 0 where
  pub is : a.family ≡ family
  pub written : IsAddressText text a
  pub unmapped : ¬ (IsMapped a)

-- no two have one name
abbrev pub AreApart : List InterfaceValue → Type 0
AreApart interfaces = AllPairs (λ i j. i.name ≢ j.name) interfaces

-- The words are these options, one after the other, and where the flag is said it stands once, ahead of one of them or after the last.
abbrev pub AreSpelled : Bool → List CommandOption → List (List ℕ) → Type 0
AreSpelled false options words = AreOptions options words
AreSpelled true options words =
    (front : List CommandOption) × (back : List CommandOption) × (before : List (List ℕ)) × (behind : List (List ℕ)) × (options ≡ front ++ back)
    × (words ≡ before ++ responder_flag ∷ behind) × AreOptions front before × AreOptions back behind

-- The words are of the table, and say this: the node's option stands once, those of the class and of the next hops at most once, that of
-- the IPv6 one only beside that of the IPv4 one, that of an interface up to 16 times with distinct names, those of the two lanes once each,
-- of distinct files, or neither, and no other does; the flag stands beside two lanes alone.
pub record Say (words : List (List ℕ)) (said : Said) : Type 0 where
  pub options : List CommandOption
  pub spelled : AreSpelled said.responder options words
  pub known : AllByRecursion IsKnown options
  pub node : values_of node_option options ≡ said.node ∷ []
  pub class : values_of class_option options ≡ option_to_list said.class
  pub interfaces : AllZip IsInterface (values_of interface_option options) said.interfaces
  pub few : length said.interfaces ≤ 16
  pub apart : AreApart said.interfaces
  pub next_hop : AllZip (IsNextHop V4) (values_of next_hop_option options) (option_to_list said.next_hop)
  pub next_hop_v6 : AllZip (IsNextHop V6) (values_of next_hop_v6_option options) (option_to_list said.next_hop_v6)
  pub beside : said.next_hop ≡ None → said.next_hop_v6 ≡ None
  pub lanes : MayNameLanes watch_option frame_option options said.lanes
  pub beside_lanes : said.lanes ≡ None → said.responder ≡ false

-- some words of the table
abbrev pub AreKnown : List (List ℕ) → Type 0
AreKnown words = (said : Said) × Say words said
