-- How a program ends: the exit status, and the line that says why.
use Rattle.std.specs.Prelude.{ℕ, List, [], ◌++◌, Bool, true, false, codes, decimal}
use Rattle.kube_model.specs.declared.key.Key.{Key}
use Rattle.kube_model.specs.declared.status.LaneName.{LaneName}
use Rattle.kube_model.specs.declared.status.LaneName.TheVariants as lanes
use Rattle.kube_model.specs.declared.status.What.{What}
use Rattle.kube_model.specs.declared.status.What.TheVariants as whats
use Rattle.kube_model.specs.declared.status.Status.{Status}
use Rattle.kube_model.specs.declared.status.Status.TheVariants.{Done, Usage, OpenFault, ReadFault, WriteFault, BadLine, BadReply, NoReply, Limit, NoMemory}

abbrev pub lane_text : LaneName → List ℕ
lane_text lanes.Input = codes "input"
lane_text lanes.Config = codes "config"
lane_text lanes.Service = codes "service"
lane_text lanes.Watch = codes "watch"
lane_text lanes.Frame = codes "frame"

abbrev pub what_text : What → List ℕ
what_text whats.Line = codes "line"
what_text whats.Input = codes "input"
what_text whats.Services = codes "services"
what_text whats.Nodes = codes "nodes"

abbrev pub is_done : Status → Bool
is_done Done = true
is_done Usage = false
is_done (OpenFault lane) = false
is_done (ReadFault lane) = false
is_done WriteFault = false
is_done (BadLine lane number bytes) = false
is_done (BadReply number bytes) = false
is_done (NoReply put) = false
is_done (Limit what count) = false
is_done NoMemory = false

abbrev pub status_code : Status → ℕ
status_code Done = 0
status_code Usage = 2
status_code (OpenFault lane) = 3
status_code (ReadFault lane) = 4
status_code WriteFault = 5
status_code (BadLine lane number bytes) = 6
status_code (BadReply number bytes) = 7
status_code (NoReply put) = 8
status_code (Limit what count) = 9
status_code NoMemory = 10

abbrev pub no_reply_text : Key → List ℕ
no_reply_text key = codes "no reply to the put of " ++ (key.namespace ++ (codes "/" ++ key.name))

abbrev pub status_text : Status → List ℕ
status_text Done = []
status_text Usage = codes "usage error"
status_text (OpenFault lane) = codes "cannot open the " ++ (lane_text lane ++ codes " lane")
status_text (ReadFault lane) = codes "read fault on " ++ lane_text lane
status_text WriteFault = codes "write fault"
status_text (BadLine lane number bytes) = codes "bad line " ++ (decimal number ++ (codes " on " ++ lane_text lane))
status_text (BadReply number bytes) = codes "bad reply at line " ++ decimal number
status_text (NoReply put) = no_reply_text put.key
status_text (Limit what count) = codes "limit passed: " ++ what_text what
status_text NoMemory = codes "out of memory"
