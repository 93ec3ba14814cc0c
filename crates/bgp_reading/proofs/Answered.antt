-- What reading answers, by the messages.
use Rattle.std.proofs.Common.{◌≡◌, ◌^◌, ◌<◌, ℕ, List, Some, None, Result, Ok, Err, sym, ◌∙◌}
use Rattle.std.specs.Prelude.{IfOk}
use Rattle.bgp_reading.specs.declared.parts.UpdateParts.{UpdateParts}
use Rattle.bgp_reading.specs.declared.parts.UpdateFault.{UpdateFault}
use Rattle.std.proofs.lemmas.List.Elements.{recursion_from_All}
use Rattle.bgp_reading.specs.Laws.{MessagesAreComputed}
use Rattle.bgp_reading.specs.Reading.{update_of}
use Rattle.bgp_reading.specs.Update.{IsUpdate}
use Rattle.bgp_reading.proofs.Bytes.{AreOctets}
use Rattle.bgp_reading.proofs.Meaning.{read-means}
use Rattle.bgp_reading.proofs.ReadAgain.{messages-are-read}

pub read-by : (bytes : List ℕ) (answer : Result UpdateParts UpdateFault) → AreOctets bytes → IfOk answer (λ parts. update_of bytes ≡ Some parts)
    → IfOk answer (λ parts. IsUpdate parts bytes)
read-by bytes (Ok parts) all read = read-means bytes parts all read
read-by bytes (Err fault) all read = tt

pub refused-by : (bytes : List ℕ) → update_of bytes ≡ None → (parts : UpdateParts) → ¬ IsUpdate parts bytes
refused-by bytes none parts is = neither parts (sym none ∙ messages-are-read parts bytes is) where
  neither : (parts : UpdateParts) → None ≡ Some parts → ⊥
  neither parts e = cc

pub computed : MessagesAreComputed
computed parts bytes all =
    (read-means bytes parts (recursion_from_All (λ b. b < 2 ^ 8) bytes all), messages-are-read parts bytes)
