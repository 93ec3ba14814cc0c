-- Frames that an interface received.
use Rattle.std.specs.Prelude.{ℕ, List, Result, Ok, option_and_then, codes}
use Rattle.std.specs.Result.{result_ok}
use Rattle.hex.specs.Hex.{decode_of}
use Rattle.serde_json.specs.Data.{Data}
use Rattle.serde_json.specs.Find.{as_str}
use Rattle.json_fields.specs.Path.{Path}
use Rattle.json_fields.specs.Reading.{◌>>=◌, required_at, or_itself, text_of}
use Rattle.kube_model.specs.declared.event.Event.{Event}
use Rattle.kube_model.specs.declared.event.Event.TheVariants.{Frame}

-- an even number of hexadecimal digits of either case
unfoldable pub bytes_of : Data → Result (List ℕ) Path
bytes_of d = or_itself (option_and_then (λ text. result_ok (decode_of text)) (as_str d))

abbrev pub interface_field : Data → Result (List ℕ) Path
interface_field line = required_at text_of (codes "interface") line

abbrev pub bytes_field : Data → Result (List ℕ) Path
bytes_field line = required_at bytes_of (codes "bytes") line

unfoldable pub frame_of : Data → Result Event Path
frame_of line = do
  interface ← interface_field line
  bytes ← bytes_field line
  Ok (Frame interface bytes)
