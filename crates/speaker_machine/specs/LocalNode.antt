-- Where a speaker runs, as its words say.
use Rattle.std.specs.Prelude.{map, Option}
use Rattle.std.specs.Option.{option_map}
use Rattle.speaker_words.specs.Interface.{InterfaceValue}
use Rattle.speaker_words.specs.Words.{Said}
use Rattle.speaker_machine.specs.declared.local_node.Interface.{Interface}
use Rattle.speaker_machine.specs.declared.local_node.NextHops.{NextHops}
use Rattle.speaker_machine.specs.declared.local_node.LocalNode.{LocalNode}

abbrev pub interface_by : InterfaceValue → Interface
interface_by i = record { name = i.name; mac = i.mac }

-- the next hops of the words, with one of IPv4 at least
abbrev pub hops_of : Said → Option NextHops
hops_of said = option_map (λ hop. record { v4 = hop; v6 = said.next_hop_v6 }) said.next_hop

-- the node, the interfaces and the next hops of the words
abbrev pub local_node_of : Said → LocalNode
local_node_of said = record { node = said.node; interfaces = map interface_by said.interfaces; next_hops = hops_of said }
