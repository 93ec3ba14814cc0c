-- What a run begins with, its lane files, and whether it has a responder, are what the words say.
use Rattle.std.proofs.Common.{◌≡◌, ℕ, true, false, List, [], ◌∷◌, map, Option, None, refl, sym, ap, ◌∙◌, subst}
use Rattle.std.specs.List.{AllZip}
use Rattle.std.specs.Option.{option_map}
use Rattle.ip_ranges.specs.Values.{AddressValue}
use Rattle.speaker_words.specs.Interface.{InterfaceValue}
use Rattle.speaker_words.specs.Reading.{said_in}
use Rattle.speaker_words.specs.Words.{Said, Say}
use Rattle.speaker_words.proofs.NamedWords.{say-read}
use Rattle.speaker_machine.specs.declared.local_node.NextHops.{NextHops}
use Rattle.speaker_machine.specs.LocalNode.{interface_by}
use Rattle.speaker_machine.specs.Stream.{first_state}
use Rattle.speaker_laws.specs.Clauses.{IsNamed, SpeaksFor, begun_with, lanes_in, lanes_of, plain_lanes_of, responder_lanes_of, responds_in}

pub named-begun : (words : List (List ℕ)) (said : Said) → Say words said → (begun_with (said_in words) ≡ first_state said) × (lanes_of words ≡ said.lanes)
named-begun words said say = (ap begun_with (say-read words said say), ap lanes_in (say-read words said say))

-- ---- whether they ask for a responder
module _ (words : List (List ℕ)) (said : Said) (say : Say words said) where
  asks : responds_in (said_in words) ≡ said.responder
  asks = ap responds_in (say-read words said say)

  -- where they do, no lane files are without one
  pub with-responder : said.responder ≡ true → (responder_lanes_of words ≡ said.lanes) × (plain_lanes_of words ≡ None)
  with-responder is = (
    rw (asks ∙ is) (named-begun words said say).1,
    rw (asks ∙ is) refl,
  )

  -- and where they don't all are
  pub without-responder : said.responder ≡ false → (responder_lanes_of words ≡ None) × (plain_lanes_of words ≡ said.lanes)
  without-responder is = (
    rw (asks ∙ is) refl,
    rw (asks ∙ is) (named-begun words said say).1,
  )

-- ---- in the words' own terms
same-interfaces : (words : List InterfaceValue) → AllZip IsNamed (map interface_by words) words
same-interfaces [] = tt
same-interfaces (word ∷ words) = ((refl, refl), same-interfaces words)

abbrev hops-with : (said : Said) → Option AddressValue → Option NextHops
hops-with said o = option_map (λ (hop : AddressValue). let hops : NextHops = record { v4 = hop; v6 = said.next_hop_v6 } in hops) o

first-speaks : (said : Said) → SpeaksFor said (first_state said) said.lanes said.responder
first-speaks said = record {
  node = refl;
  class = refl;
  interfaces = same-interfaces said.interfaces;
  hops = λ hop is. ap (hops-with said) is;
  no_hops = λ none. ap (hops-with said) none;
  begun = refl;
  files = refl;
  responder = refl;
}

pub named-speaks : (words : List (List ℕ)) (said : Said) → Say words said
    → SpeaksFor said (begun_with (said_in words)) (lanes_of words) (responds_in (said_in words))
named-speaks words said say =
    subst (λ (read : Option Said). SpeaksFor said (begun_with read) (lanes_in read) (responds_in read)) (sym (say-read words said say)) (first-speaks said)
