-- The fields of what a fence is told, in the order in which the first faulty one is named.
use Rattle.std.specs.Prelude.{ℕ, List, [], Option, Some, None, Result, Ok, codes, if◌then◌else◌}
use Rattle.std.specs.Str.{bytes_eq}
use Rattle.serde_json.specs.Data.{Data}
use Rattle.json_fields.specs.Path.{Path}
use Rattle.json_fields.specs.Reading.{◌>>=◌, default_at, list_at, name_at, number_in, object_of}
use Rattle.json_fields.specs.Reading.{one_of, required_at, text_of}
use Rattle.put_fence.specs.declared.answer.Answer.TheVariants as answers
use Rattle.put_fence.specs.declared.answer.Input.{Input}
use Rattle.put_fence.specs.declared.answer.Input.TheVariants as inputs
use Rattle.put_fence.specs.declared.fields.Told.{Told}
use Rattle.put_fence.specs.declared.fields.Told.TheVariants as told
use Rattle.put_fence.specs.declared.lease.Lease.{Lease}
use Rattle.put_fence.specs.declared.lease.ServiceVersion.{ServiceVersion}

abbrev pub told_named : List ℕ → Option Told
told_named name = if bytes_eq name (codes "tick") then Some told.Tick else
    if bytes_eq name (codes "renew") then Some told.Renew else
    if bytes_eq name (codes "lapsed") then Some told.Lapsed else
    if bytes_eq name (codes "chase") then Some told.Chase else
    if bytes_eq name (codes "relist") then Some told.Relist else
    if bytes_eq name (codes "lease") then Some told.Lease else
    if bytes_eq name (codes "at") then Some told.At else
    if bytes_eq name (codes "listed") then Some told.Listed else
    if bytes_eq name (codes "missing") then Some told.Missing else
    if bytes_eq name (codes "refused") then Some told.Refused else
    if bytes_eq name (codes "unknown") then Some told.Unknown else None

unfoldable pub told_of : Data → Result Told Path
told_of d = one_of told_named d

-- versions are from 1, and of 64 bits
abbrev pub version_in : Data → Result ℕ Path
version_in d = required_at (number_in 1 18446744073709551615) (codes "version") d

unfoldable pub service_version_of : Data → Result ServiceVersion Path
service_version_of d = do
  members ← object_of d
  namespace ← name_at (codes "namespace") d
  name ← name_at (codes "name") d
  version ← version_in d
  Ok (record { key = record { namespace = namespace; name = name }; version = version })

-- a Lease that nobody holds has no holder, or an empty one
unfoldable pub lease_of : Data → Result Lease Path
lease_of d = do
  members ← object_of d
  version ← version_in d
  holder ← default_at text_of (codes "holder") [] d
  named ← list_at service_version_of (codes "named") d
  Ok (record { version = version; holder = holder; named = named })

abbrev pub lapsed_at : Result ℕ Path → Result Input Path
lapsed_at read = do
  version ← read
  Ok (inputs.Lapsed version)

abbrev pub lease_told : Result Lease Path → Result Input Path
lease_told read = do
  lease ← read
  Ok (inputs.Answer (answers.Lease lease))

abbrev pub at_told : Result ℕ Path → Result Input Path
at_told read = do
  version ← read
  Ok (inputs.Answer (answers.At version))

abbrev pub input_by : Told → Data → Result Input Path
input_by told.Tick d = Ok inputs.Tick
input_by told.Renew d = Ok inputs.Renew
input_by told.Lapsed d = lapsed_at (version_in d)
input_by told.Chase d = Ok inputs.Chase
input_by told.Relist d = Ok inputs.Relist
input_by told.Lease d = lease_told (lease_of d)
input_by told.At d = at_told (version_in d)
input_by told.Listed d = Ok (inputs.Answer answers.Listed)
input_by told.Missing d = Ok (inputs.Answer answers.Missing)
input_by told.Refused d = Ok (inputs.Answer answers.Refused)
input_by told.Unknown d = Ok (inputs.Answer answers.Unknown)

-- what an object tells a fence, by its member `fence`
unfoldable pub input_of : Data → Result Input Path
input_of d = do
  members ← object_of d
  told ← required_at told_of (codes "fence") d
  input_by told d
