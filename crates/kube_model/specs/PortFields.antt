-- The fields of a port, in the order in which the first faulty one is named.
use Rattle.std.specs.Prelude.{Result, Ok, codes}
use Rattle.serde_json.specs.Data.{Data}
use Rattle.json_fields.specs.Path.{Path}
use Rattle.json_fields.specs.Reading.{◌>>=◌, default_at, required_at, object_of, number_in}
use Rattle.kube_model.specs.declared.port.Port.{Port}
use Rattle.kube_model.specs.declared.port.Protocol.TheVariants.{Tcp}
use Rattle.kube_model.specs.Named.{protocol_of}

unfoldable pub port_of : Data → Result Port Path
port_of d = do
  members ← object_of d
  protocol ← default_at protocol_of (codes "protocol") Tcp d
  port ← required_at (number_in 1 65535) (codes "port") d
  Ok (record { protocol = protocol; port = port })
