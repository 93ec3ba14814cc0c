-- What the words say as contracts see it.
use Rattle.std.specs.Prelude.{List, map}
use Rattle.std.specs.Option.{option_map}
use Rattle.arrayvec.specs.ArrayVec.{ArrayVec}
use Rattle.command_options.specs.Lanes.{lane_seen, given_seen as lanes_seen}
use Rattle.speaker_words.specs.declared.interface.InterfaceWord.{InterfaceWord}
use Rattle.speaker_words.specs.declared.words.SaidSoFar.{SaidSoFar}
use Rattle.speaker_words.specs.declared.words.SpeakerWords.{SpeakerWords}
use Rattle.speaker_words.specs.Interface.{InterfaceValue}
use Rattle.speaker_words.specs.Reading.{Given}
use Rattle.speaker_words.specs.Words.{Said}

abbrev pub interface_seen : InterfaceWord → InterfaceValue
interface_seen i = record { name = i.name.now; mac = i.mac }

abbrev pub interfaces_seen : ArrayVec InterfaceWord → List InterfaceValue
interfaces_seen v = map interface_seen v.items

abbrev pub given_seen : SaidSoFar → Given
given_seen g = record {
  node = option_map (λ t. t.now) g.node;
  class = option_map (λ t. t.now) g.class;
  interfaces = interfaces_seen g.interfaces;
  next_hop = g.next_hop;
  next_hop_v6 = g.next_hop_v6;
  lanes = lanes_seen g.lanes;
}

abbrev pub said_seen : SpeakerWords → Said
said_seen w = record {
  node = w.node.now;
  class = option_map (λ t. t.now) w.class;
  interfaces = interfaces_seen w.interfaces;
  next_hop = w.next_hop;
  next_hop_v6 = w.next_hop_v6;
  lanes = option_map lane_seen w.lanes;
  responder = w.responder;
}
