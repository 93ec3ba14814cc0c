-- What a written line of a speaker says can be read off it.
use Rattle.std.specs.Prelude.{◌≡◌, ℕ, Bool, true, not, ◌==◌, List, [], ◌∷◌, codes}
use Rattle.std.specs.List.{list_all}
use Rattle.hex.specs.Hex.{encode_lower}
use Rattle.json.specs.Lex.{tokens}
use Rattle.json.specs.Token.{Token, begin_object, end_object, key, string}
use Rattle.ip_ranges.specs.Values.{AddressValue}
use Rattle.ip_ranges.specs.AddressText.{canonical_text}
use Rattle.kube_model.specs.declared.config_fault.ConfigFault.{ConfigFault}
use Rattle.kube_model.specs.LineWords.{cause_text, kind_text}
use Rattle.kube_lines.specs.OutputLines.{accepted_text, refused_text, announce_text, withdraw_text, send_text, update_text}

-- no 0x0A stands in it
abbrev pub is_plain : List ℕ → Bool
is_plain text = list_all (λ b. not (b == 10)) text

-- an object of texts alone (RFC 8259, section 4)
abbrev pub members_of : List (List ℕ × List ℕ) → List Token
members_of [] = end_object ∷ []
members_of (p ∷ pairs) = key p.0 ∷ string p.1 ∷ members_of pairs

abbrev pub texts_object : List (List ℕ × List ℕ) → List Token
texts_object pairs = begin_object ∷ members_of pairs

abbrev pub accepted_pairs : List (List ℕ × List ℕ)
accepted_pairs = (codes "op", codes "config") ∷ (codes "result", codes "accepted") ∷ []

abbrev pub refused_pairs : ConfigFault → List (List ℕ × List ℕ)
refused_pairs fault = (codes "fault", cause_text fault.cause) ∷ (codes "kind", kind_text fault.kind) ∷ (codes "name", fault.name) ∷ (codes "op", codes "config")
    ∷ (codes "result", codes "refused") ∷ []

abbrev pub announce_pairs : AddressValue → List (List ℕ × List ℕ)
announce_pairs a = (codes "address", canonical_text a) ∷ (codes "op", codes "announce") ∷ []

abbrev pub withdraw_pairs : AddressValue → List (List ℕ × List ℕ)
withdraw_pairs a = (codes "address", canonical_text a) ∷ (codes "op", codes "withdraw") ∷ []

abbrev pub send_pairs : List ℕ → List ℕ → List (List ℕ × List ℕ)
send_pairs interface bytes = (codes "bytes", encode_lower bytes) ∷ (codes "interface", interface) ∷ (codes "op", codes "send") ∷ []

abbrev pub update_pairs : List ℕ → List ℕ → List (List ℕ × List ℕ)
update_pairs peer bytes = (codes "bytes", encode_lower bytes) ∷ (codes "op", codes "update") ∷ (codes "peer", peer) ∷ []

-- the text is one line, and reads as the object of these texts
pub record IsLineOf (text : List ℕ) (pairs : List (List ℕ × List ℕ)) : Type 0 where
  pub one : is_plain text ≡ true
  pub reads : tokens text ≡ texts_object pairs

-- So is each line that a speaker writes of what it says.
pub record LinesAreRead : Type 0 where
  pub accepted : IsLineOf accepted_text accepted_pairs
  pub refused : (fault : ConfigFault) → IsLineOf (refused_text fault) (refused_pairs fault)
  pub announce : (a : AddressValue) → IsLineOf (announce_text a) (announce_pairs a)
  pub withdraw : (a : AddressValue) → IsLineOf (withdraw_text a) (withdraw_pairs a)
  pub send : (interface bytes : List ℕ) → IsLineOf (send_text interface bytes) (send_pairs interface bytes)
  pub update : (peer bytes : List ℕ) → IsLineOf (update_text peer bytes) (update_pairs peer bytes)
