-- The lines of fences: compact JSON, the members in the byte order of their names.
use Rattle.std.specs.Prelude.{◌≡◌, ℕ, List, Option, Some, None, Result, Ok, Err, codes}
use Rattle.std.specs.Prelude.{map, ⊤}
use Rattle.serde_json.specs.Data.{Data, Items, Members, string, number, unsigned, array, object}
use Rattle.serde_json.specs.Data.{member, no_members, put as with_member}
use Rattle.serde_json.specs.View.{items_of}
use Rattle.serde_json.specs.Written.{compact_text}
use Rattle.json_values.specs.Line.{value_of_line}
use Rattle.json_fields.specs.Path.{Path}
use Rattle.kube_model.specs.declared.event.EventFault.{EventFault}
use Rattle.kube_model.specs.declared.event.EventFault.TheVariants.{NotJson, NotEvent, Field}
use Rattle.kube_model.specs.declared.event.EventFault.TheVariants.{NoMemory}
use Rattle.kube_lines.specs.OutputLines.{put_text}
use Rattle.put_fence.specs.declared.answer.Input.{Input}
use Rattle.put_fence.specs.declared.fence.Fence.{Fence}
use Rattle.put_fence.specs.declared.known.Known.{Known}
use Rattle.put_fence.specs.declared.lease.ServiceVersion.{ServiceVersion}
use Rattle.put_fence.specs.declared.output.Output.{Output}
use Rattle.put_fence.specs.declared.output.Output.TheVariants as outputs
use Rattle.put_fence.specs.declared.output.Request.{Request}
use Rattle.put_fence.specs.declared.output.Request.TheVariants as requests
use Rattle.put_fence.specs.declared.stage.Stage.{Stage}
use Rattle.put_fence.specs.declared.stage.Stage.TheVariants.{Waiting, Fencing, Listing, Free}
use Rattle.put_fence.specs.declared.stage.Stage.TheVariants.{Naming, Sent, Checking, Lost}
use Rattle.put_fence.specs.declared.stage.Stage.TheVariants.{Chasing, Relisting}
use Rattle.put_fence.specs.Fences.{checked}
use Rattle.put_fence.specs.Fields.{input_of}

-- ---- what a line tells

abbrev pub in_field : Result Input Path → Result Input EventFault
in_field (Ok input) = Ok input
in_field (Err path) = Err (Field path)

abbrev pub input_if : Option Data → Result Input EventFault
input_if None = Err NotJson
input_if (Some d) = in_field (input_of d)

unfoldable pub input_of_line : List ℕ → Result Input EventFault
input_of_line line = input_if (value_of_line line)

-- The fault is the one that the line has, unless memory ran out.
abbrev pub FailsInput : EventFault → Result Input EventFault → Type 0
FailsInput NotJson read = read ≡ Err NotJson
FailsInput NotEvent read = ⊥
FailsInput (Field path) read = read ≡ Err (Field path)
FailsInput NoMemory read = ⊤

-- What a call returned is what the line says, unless memory ran out.
abbrev pub GivesInput : Result Input EventFault → Result Input EventFault → Type 0
GivesInput (Ok input) read = read ≡ Ok input
GivesInput (Err fault) read = FailsInput fault read

-- ---- what is written

abbrev pub version_data : ℕ → Data
version_data n = number (unsigned n)

-- a service at a version
abbrev pub service_data : ServiceVersion → Data
service_data n = object (member (codes "name") (string n.key.name)
    (member (codes "namespace") (string n.key.namespace)
    (member (codes "version") (version_data n.version) no_members)))

abbrev pub named_items : List ServiceVersion → Items
named_items named = items_of (map service_data named)

-- the Lease is to be the bridge's, and to name these, where it is at the version
abbrev pub lease_data : Known → Data
lease_data k = object (member (codes "holder") (string k.name)
    (member (codes "named") (array (named_items k.asked.named))
    (member (codes "op") (string (codes "lease"))
    (member (codes "version") (version_data k.asked.at) no_members))))

-- its members, with those that stand there already
abbrev pub with_lease : Known → Members → Members
with_lease k members = with_member (codes "version") (version_data k.asked.at)
    (with_member (codes "op") (string (codes "lease"))
    (with_member (codes "named") (array (named_items k.asked.named))
    (with_member (codes "holder") (string k.name) members)))

-- what is to be done with a service at a version
abbrev pub check_data : List ℕ → ServiceVersion → Data
check_data op n = object (member (codes "name") (string n.key.name)
    (member (codes "namespace") (string n.key.namespace)
    (member (codes "op") (string op)
    (member (codes "version") (version_data n.version) no_members))))

abbrev pub check_text : List ℕ → Option ServiceVersion → Option (List ℕ)
check_text op None = None
check_text op (Some n) = Some (compact_text (check_data op n))

-- the line of a put is the program's own
abbrev pub patch_text : Stage → Option (List ℕ)
patch_text (Waiting call) = None
patch_text (Fencing call next) = None
patch_text Listing = None
patch_text (Free call) = None
patch_text (Naming put call) = None
patch_text (Sent put) = Some (put_text put)
patch_text (Checking put call tries) = None
patch_text (Chasing call put) = None
patch_text Relisting = None
patch_text Lost = None

abbrev pub request_text : Request → Fence → Option (List ℕ)
request_text requests.ReadLease f = Some (codes "{\"lease\":1,\"op\":\"get\"}")
request_text requests.ChangeLease f = Some (compact_text (lease_data f.known))
request_text requests.Get f = check_text (codes "get") (checked f.stage f.known)
request_text requests.Touch f = check_text (codes "touch") (checked f.stage f.known)
request_text requests.List f = Some (codes "{\"op\":\"list\"}")
request_text requests.Patch f = patch_text f.stage

-- What is written of an output: the request, or what became of the Lease. Replies go to the
-- program.
abbrev pub output_text : Output → Fence → Option (List ℕ)
output_text outputs.Nothing f = None
output_text (outputs.Ask request) f = request_text request f
output_text (outputs.Again request) f = request_text request f
output_text (outputs.Reply reply) f = None
output_text outputs.Lost f = Some (codes "{\"op\":\"lost\"}")
output_text outputs.Absent f = Some (codes "{\"op\":\"absent\"}")
output_text outputs.Unexpected f = Some (codes "{\"op\":\"unexpected\"}")
