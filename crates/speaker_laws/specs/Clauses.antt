-- What runs begin with by their words.
use Rattle.std.specs.Prelude.{◌≡◌, ℕ, Bool, false, if◌then◌else◌, List, [], String, Option, Some, None}
use Rattle.std.specs.List.{AllZip}
use Rattle.ip_ranges.specs.Values.{AddressValue}
use Rattle.command_options.specs.Lanes.{LaneNames}
use Rattle.command_options.specs.Options.{texts_of}
use Rattle.speaker_view.specs.View.{fresh}
use Rattle.speaker_words.specs.Interface.{InterfaceValue}
use Rattle.speaker_words.specs.Reading.{said_in}
use Rattle.speaker_words.specs.Words.{Said, Say}
use Rattle.speaker_machine.specs.declared.local_node.Interface.{Interface}
use Rattle.speaker_machine.specs.Stream.{SpeakerState, first_state}

abbrev pub nothing_said : Said
nothing_said = record { node = []; class = None; interfaces = []; next_hop = None; next_hop_v6 = None; lanes = None; responder = false }

-- where the words aren't of the table there is no run
abbrev pub begun_with : Option Said → SpeakerState
begun_with None = first_state nothing_said
begun_with (Some said) = first_state said

-- the state that a run begins with
abbrev pub begun_by : {Z : Type 0} → List (String Z) → SpeakerState
begun_by words = begun_with (said_in (texts_of words))

-- the lane files that words name; there are none where the words aren't of the table
abbrev pub lanes_in : Option Said → Option LaneNames
lanes_in None = None
lanes_in (Some said) = said.lanes

abbrev pub lanes_of : List (List ℕ) → Option LaneNames
lanes_of words = lanes_in (said_in words)

-- whether words ask for a responder
abbrev pub responds_in : Option Said → Bool
responds_in None = false
responds_in (Some said) = said.responder

-- the lane files where words ask for a responder, and where they don't
abbrev pub responder_lanes_of : List (List ℕ) → Option LaneNames
responder_lanes_of words = if responds_in (said_in words) then lanes_of words else None

abbrev pub plain_lanes_of : List (List ℕ) → Option LaneNames
plain_lanes_of words = if responds_in (said_in words) then None else lanes_of words

-- an interface of the speaker is one that the words name, with its hardware address
abbrev pub IsNamed : Interface → InterfaceValue → Type 0
IsNamed interface word = (interface.name ≡ word.name) × (interface.mac ≡ word.mac)

-- A run that begins so is that of what the words say: of the node and the class, by the interfaces in their order, with the next hops, over the
-- lane files, and with a responder exactly where they ask for one. Nothing was shown yet.
pub record SpeaksFor (said : Said) (s : SpeakerState) (lanes : Option LaneNames) (responds : Bool) : Type 0 where
  pub node : s.local.node ≡ said.node
  pub class : s.view ≡ fresh said.class
  pub interfaces : AllZip IsNamed s.local.interfaces said.interfaces
  pub hops : (hop : AddressValue) → said.next_hop ≡ Some hop → s.local.next_hops ≡ Some (record { v4 = hop; v6 = said.next_hop_v6 })
  pub no_hops : said.next_hop ≡ None → s.local.next_hops ≡ None
  pub begun : s ≡ first_state said
  pub files : lanes ≡ said.lanes
  pub responder : responds ≡ said.responder

abbrev pub SpeaksForNamed : {Z : Type 0} → List (String Z) → Type 0
SpeaksForNamed words = (said : Said) → Say (texts_of words) said
    → SpeaksFor said (begun_by words) (lanes_of (texts_of words)) (responds_in (said_in (texts_of words)))
