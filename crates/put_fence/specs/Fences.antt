-- What a fence comes to, whatever it is told (docs/BRIDGE.md, "The fence").
use Rattle.std.specs.Prelude.{◌==◌, ◌&&◌, ◌||◌, ◌+◌, ◌++◌, ℕ, Bool, true, false, if◌then◌else◌}
use Rattle.std.specs.Prelude.{List, [], ◌∷◌, Option, Some, None, length, nat_le, nat_lt, slice_get}
use Rattle.std.specs.List.{list_any}
use Rattle.std.specs.BTreeMap.{is_at}
use Rattle.std.specs.Map.{remove_entry}
use Rattle.std.specs.Str.{bytes_eq}
use Rattle.kube_model.specs.Keys.{key_cmp, same_key}
use Rattle.kube_model.specs.declared.put.Put.{Put}
use Rattle.kube_model.specs.declared.reply.PutReply.TheVariants as replies
use Rattle.put_fence.specs.declared.answer.Answer.{Answer}
use Rattle.put_fence.specs.declared.answer.Answer.TheVariants as answers
use Rattle.put_fence.specs.declared.answer.Input.{Input}
use Rattle.put_fence.specs.declared.answer.Input.TheVariants as inputs
use Rattle.put_fence.specs.declared.fence.Fence.{Fence}
use Rattle.put_fence.specs.declared.known.Known.{Known}
use Rattle.put_fence.specs.declared.lease.Lease.{Lease}
use Rattle.put_fence.specs.declared.lease.ServiceVersion.{ServiceVersion}
use Rattle.put_fence.specs.declared.output.Output.{Output}
use Rattle.put_fence.specs.declared.output.Output.TheVariants as outputs
use Rattle.put_fence.specs.declared.output.Request.{Request}
use Rattle.put_fence.specs.declared.output.Request.TheVariants as requests
use Rattle.put_fence.specs.declared.output.Taken.{Taken}
use Rattle.put_fence.specs.declared.stage.CheckCall.{CheckCall}
use Rattle.put_fence.specs.declared.stage.CheckCall.TheVariants as checks
use Rattle.put_fence.specs.declared.stage.LeaseCall.{LeaseCall}
use Rattle.put_fence.specs.declared.stage.LeaseCall.TheVariants.{Idle, Read, Change}
use Rattle.put_fence.specs.declared.stage.Stage.{Stage}
use Rattle.put_fence.specs.declared.stage.Stage.TheVariants.{Waiting, Fencing, Listing, Free}
use Rattle.put_fence.specs.declared.stage.Stage.TheVariants.{Naming, Sent, Checking, Lost}
use Rattle.put_fence.specs.declared.stage.Stage.TheVariants.{Chasing, Relisting}
use Rattle.versioned_map.specs.Objects.{shown, version_at}

-- ---- what it knows

-- the service of the put, at the put's version
abbrev pub named_by : Put → ServiceVersion
named_by put = record { key = put.key; version = put.version }

abbrev pub is_put : Put → ServiceVersion → Bool
is_put put n = same_key n.key put.key && (n.version == put.version)

-- the put is among those that are named
abbrev pub is_named : Put → List ServiceVersion → Bool
is_named put named = list_any (is_put put) named

-- the Lease is its own
abbrev pub is_own : Known → Lease → Bool
is_own k lease = bytes_eq lease.holder k.name

-- the Lease is at a later version than that of its last request: none of its own is under way
abbrev pub is_quiet : Known → Lease → Bool
is_quiet k lease = nat_lt k.asked.at lease.version

-- what the Lease names, as it was read last
abbrev pub named_in : Option Lease → List ServiceVersion
named_in None = []
named_in (Some lease) = lease.named

abbrev pub is_of : Put → ServiceVersion → Bool
is_of put n = same_key n.key put.key

-- the put is of the service of one that is owed
abbrev pub is_owed : Put → Known → Bool
is_owed put k = list_any (is_of put) k.owed

-- as many as may be are owed
abbrev pub is_full : Known → Bool
is_full k = nat_le 1000 (length k.owed)

-- No put of its service at its version can be carried out any more. Versions are from 1.
abbrev pub is_gone : Put → Known → Bool
is_gone put k = nat_le put.version (version_at key_cmp k.gone put.key)

-- nor can one at this put's version, or before
abbrev pub sees_gone : Put → Known → Known
sees_gone put k = record k { gone = shown key_cmp k.gone put.key put.version tt }

-- the put was stored: nothing is held against its service
abbrev pub forgets : Put → Known → Known
forgets put k = record k { gone = remove_entry (is_at (key_cmp put.key)) k.gone }

-- nothing is sent of it
abbrev pub is_held_back : Put → Known → Bool
is_held_back put k = (is_owed put k || is_full k) || is_gone put k

-- what is owed, and this put
abbrev pub owed_and : Put → Known → List ServiceVersion
owed_and put k = k.owed ++ named_by put ∷ []

-- this put is owed too
abbrev pub owes : Put → Known → Known
owes put k = record k { owed = owed_and put k }

-- the first isn't owed any more
abbrev pub but_first : List ServiceVersion → List ServiceVersion
but_first [] = []
but_first (n ∷ more) = more

-- the first stands after the others
abbrev pub first_last : List ServiceVersion → List ServiceVersion
first_last [] = []
first_last (n ∷ more) = more ++ n ∷ []

-- the service that is fenced, where one is
abbrev pub checked : Stage → Known → Option ServiceVersion
checked (Waiting call) k = None
checked (Fencing call next) k = slice_get (named_in k.seen) next
checked Listing k = None
checked (Free call) k = None
checked (Naming put call) k = None
checked (Sent put) k = None
checked (Checking put call tries) k = Some (named_by put)
checked (Chasing call put) k = slice_get k.owed 0
checked Relisting k = None
checked Lost k = None

-- ---- what is to be done

abbrev pub to : Stage → Output → Known → Taken
to stage output k = record { fence = record { known = k; stage = stage }; output = output }

-- nothing comes of it
abbrev pub unexpected : Stage → Known → Taken
unexpected stage k = to stage outputs.Unexpected k

-- It asks that the Lease, at this version, be its own and name these. Where a request of its own
-- may be under way, that one is made once more.
abbrev pub asking : ℕ → List ServiceVersion → Stage → Known → Taken
asking version named stage k =
    if nat_lt k.asked.at version
    then to stage (outputs.Ask requests.ChangeLease)
    (record k { asked = record { at = version; named = named } })
    else to stage (outputs.Again requests.ChangeLease) k

-- what the Lease names is fenced from this place on; then the services are listed
abbrev pub fencing_from : Option ServiceVersion → ℕ → Known → Taken
fencing_from None next k = to Listing (outputs.Ask requests.List) k
fencing_from (Some n) next k = to (Fencing checks.Get next) (outputs.Ask requests.Get) k

abbrev pub fencing : ℕ → Known → Taken
fencing next k = fencing_from (slice_get (named_in k.seen) next) next k

-- where the Lease is its own and names the put, and no request for the Lease is under way, the put
-- may be sent
abbrev pub may_send : Put → Lease → Known → Bool
may_send put lease k = is_quiet k lease && is_named put lease.named

-- the put is sent, or it is to be named first, beside what is owed
abbrev pub sending_by : Bool → Put → ℕ → Known → Taken
sending_by true put version k = to (Sent put) (outputs.Ask requests.Patch) k
sending_by false put version k = asking version (owed_and put k) (Naming put Change) k

abbrev pub sending : Put → Lease → Known → Taken
sending put lease k = sending_by (may_send put lease k) put lease.version k

-- ---- the clock's ticks, and the program's put

abbrev pub ticked : Stage → Known → Taken
ticked (Waiting Idle) k = to (Waiting Read) (outputs.Ask requests.ReadLease) k
ticked (Free Idle) k = to (Free Read) (outputs.Ask requests.ReadLease) k
ticked stage k = to stage outputs.Nothing k

-- the holder changes the Lease, which names what it named
abbrev pub renewed_by : Option Lease → Known → Taken
renewed_by None k = to (Free Idle) outputs.Nothing k
renewed_by (Some lease) k =
    if is_own k lease then asking lease.version lease.named (Free Change) k
    else to (Free Idle) outputs.Nothing k

-- the version of the Lease and what it names, where it is its own
abbrev pub own_names : Option Lease → Known → Option (ℕ × List ServiceVersion)
own_names None k = None
own_names (Some lease) k = if is_own k lease then Some (lease.version, lease.named) else None

abbrev pub renewed : Stage → Known → Taken
renewed (Free Idle) k = renewed_by k.seen k
renewed stage k = to stage outputs.Nothing k

-- the Lease is taken over as it was read last, and names what it named
abbrev pub lapsed_by : Option Lease → ℕ → Known → Taken
lapsed_by None version k = to (Waiting Idle) outputs.Nothing k
lapsed_by (Some lease) version k =
    if lease.version == version then asking lease.version lease.named (Waiting Change) k
    else to (Waiting Idle) outputs.Nothing k

-- what the Lease names, where it is at this version
abbrev pub names_at : Option Lease → ℕ → Option (List ServiceVersion)
names_at None version = None
names_at (Some lease) version = if lease.version == version then Some lease.named else None

abbrev pub lapsed : Stage → ℕ → Known → Taken
lapsed (Waiting Idle) version k = lapsed_by k.seen version k
lapsed stage version k = to stage outputs.Nothing k

-- where it doesn't hold the Lease nothing is sent: `stale`
abbrev pub wanted_by : Option Lease → Put → Known → Taken
wanted_by None put k = to (Free Idle) (outputs.Reply replies.Stale) k
wanted_by (Some lease) put k =
    if is_own k lease then sending put lease k else to (Free Idle) (outputs.Reply replies.Stale) k

-- the version of the Lease, and whether the put may be sent, where the Lease is its own
abbrev pub way_of : Put → Option Lease → Known → Option (ℕ × Bool)
way_of put None k = None
way_of put (Some lease) k =
    if is_own k lease then Some (lease.version, may_send put lease k) else None

-- a put that comes while a request for the Lease is under way awaits its answer
abbrev pub wanted_free : LeaseCall → Put → Known → Taken
wanted_free Idle put k = wanted_by k.seen put k
wanted_free Read put k = to (Naming put Read) outputs.Nothing k
wanted_free Change put k = to (Naming put Change) outputs.Nothing k

-- Of a service of which a put is owed none is sent, none at a version at which one was seen to be
-- gone, or before, and none at all where as many as may be are owed: `stale`. One that comes while
-- a put that is owed is fenced awaits the answer.
abbrev pub wanted : Stage → Put → Known → Taken
wanted (Free call) put k =
    if is_held_back put k then to (Free call) (outputs.Reply replies.Stale) k
    else wanted_free call put k
wanted (Chasing call None) put k =
    if is_held_back put k then to (Chasing call None) (outputs.Reply replies.Stale) k
    else to (Chasing call (Some put)) outputs.Nothing k
wanted stage put k = unexpected stage k

-- ---- what is owed, and the list

-- the first that is owed is fenced
abbrev pub chased_by : List ServiceVersion → Known → Taken
chased_by [] k = to (Free Idle) outputs.Nothing k
chased_by (n ∷ more) k = to (Chasing checks.Get None) (outputs.Ask requests.Get) k

abbrev pub chased : Stage → Known → Taken
chased (Free Idle) k = chased_by k.owed k
chased stage k = to stage outputs.Nothing k

-- The services are listed anew where nothing is owed. What was gone isn't kept: each service is
-- given anew, at a version that it has.
abbrev pub relisted_by : List ServiceVersion → Known → Taken
relisted_by [] k = to Relisting (outputs.Ask requests.List) (record k { gone = [] })
relisted_by (n ∷ more) k = to (Free Idle) outputs.Nothing k

abbrev pub relisted : Stage → Known → Taken
relisted (Free Idle) k = relisted_by k.owed k
relisted stage k = to stage outputs.Nothing k

-- ---- answers about the Lease

-- the request that a call makes
abbrev pub lease_request : LeaseCall → Request
lease_request Idle = requests.ReadLease
lease_request Read = requests.ReadLease
lease_request Change = requests.ChangeLease

abbrev pub reads : Lease → Known → Known
reads lease k = record k { seen = Some lease }

-- who reads that it has the Lease, with no request under way, fences what the Lease names
abbrev pub waiting_told : LeaseCall → Answer → Known → Taken
waiting_told call (answers.Lease lease) k =
    if is_own k lease && is_quiet k lease then fencing 0 (reads lease k)
    else to (Waiting Idle) outputs.Nothing (reads lease k)
waiting_told call answers.Missing k = to (Waiting Idle) outputs.Absent k
waiting_told call answers.Refused k = to (Waiting Read) (outputs.Ask requests.ReadLease) k
waiting_told call answers.Unknown k = to (Waiting call) (outputs.Again (lease_request call)) k
waiting_told call (answers.At version) k = unexpected (Waiting call) k
waiting_told call answers.Listed k = unexpected (Waiting call) k

abbrev pub free_told : LeaseCall → Answer → Known → Taken
free_told call (answers.Lease lease) k =
    if is_own k lease then to (Free Idle) outputs.Nothing (reads lease k)
    else to Lost outputs.Lost (reads lease k)
free_told call answers.Missing k = to (Free Idle) outputs.Absent k
free_told call answers.Refused k = to (Free Read) (outputs.Ask requests.ReadLease) k
free_told call answers.Unknown k = to (Free call) (outputs.Again (lease_request call)) k
free_told call (answers.At version) k = unexpected (Free call) k
free_told call answers.Listed k = unexpected (Free call) k

-- where there is no Lease the put isn't sent: `stale`
abbrev pub naming_told : Put → LeaseCall → Answer → Known → Taken
naming_told put call (answers.Lease lease) k =
    if is_own k lease then sending put lease (reads lease k)
    else to Lost outputs.Lost (reads lease k)
naming_told put call answers.Missing k = to (Free Idle) (outputs.Reply replies.Stale) k
naming_told put call answers.Refused k = to (Naming put Read) (outputs.Ask requests.ReadLease) k
naming_told put call answers.Unknown k = to (Naming put call) (outputs.Again (lease_request call)) k
naming_told put call (answers.At version) k = unexpected (Naming put call) k
naming_told put call answers.Listed k = unexpected (Naming put call) k

-- ---- answers about a service

-- the service is at a later version than this, or isn't there
abbrev pub shows_gone : ℕ → Answer → Bool
shows_gone at (answers.Lease lease) = false
shows_gone at (answers.At version) = nat_lt at version
shows_gone at answers.Listed = false
shows_gone at answers.Missing = true
shows_gone at answers.Refused = false
shows_gone at answers.Unknown = false

-- a service that is read and isn't later is changed; after anything else it is read
abbrev pub check_behind : CheckCall → Answer → CheckCall
check_behind checks.Get (answers.At version) = checks.Touch
check_behind call answer = checks.Get

abbrev pub check_request : CheckCall → Request
check_request checks.Get = requests.Get
check_request checks.Touch = requests.Touch

-- no request for a service is answered so
abbrev pub is_other : Answer → Bool
is_other (answers.Lease lease) = true
is_other (answers.At version) = false
is_other answers.Listed = true
is_other answers.Missing = false
is_other answers.Refused = false
is_other answers.Unknown = false

abbrev pub fencing_told : Option ServiceVersion → CheckCall → ℕ → Answer → Known → Taken
fencing_told None call next answer k = unexpected (Fencing call next) k
fencing_told (Some n) call next answer k =
    if is_other answer then unexpected (Fencing call next) k
    else (if shows_gone n.version answer then fencing (next + 1) k
    else to (Fencing (check_behind call answer) next)
    (outputs.Ask (check_request (check_behind call answer))) k)

abbrev pub listing_told : Answer → Known → Taken
listing_told (answers.Lease lease) k = unexpected Listing k
listing_told (answers.At version) k = unexpected Listing k
listing_told answers.Listed k = to (Free Idle) outputs.Nothing k
listing_told answers.Missing k = to Listing (outputs.Again requests.List) k
listing_told answers.Refused k = to Listing (outputs.Again requests.List) k
listing_told answers.Unknown k = to Listing (outputs.Again requests.List) k

abbrev pub relisting_told : Answer → Known → Taken
relisting_told (answers.Lease lease) k = unexpected Relisting k
relisting_told (answers.At version) k = unexpected Relisting k
relisting_told answers.Listed k = to (Free Idle) outputs.Nothing k
relisting_told answers.Missing k = to Relisting (outputs.Again requests.List) k
relisting_told answers.Refused k = to Relisting (outputs.Again requests.List) k
relisting_told answers.Unknown k = to Relisting (outputs.Again requests.List) k

-- `ok` where the put was answered with success; else it is fenced
abbrev pub sent_told : Put → Answer → Known → Taken
sent_told put (answers.Lease lease) k = unexpected (Sent put) k
sent_told put (answers.At version) k =
    to (Free Idle) (outputs.Reply (replies.Ok version)) (forgets put k)
sent_told put answers.Listed k = unexpected (Sent put) k
sent_told put answers.Missing k = to (Checking put checks.Get 0) (outputs.Ask requests.Get) k
sent_told put answers.Refused k = to (Checking put checks.Get 0) (outputs.Ask requests.Get) k
sent_told put answers.Unknown k = to (Checking put checks.Get 0) (outputs.Ask requests.Get) k

-- Where the service is to be read once more a try has come to nothing. After three of them the put
-- is owed, and answered `unknown` too.
abbrev pub checking_on : CheckCall → Put → ℕ → Known → Taken
checking_on checks.Touch put tries k =
    to (Checking put checks.Touch tries) (outputs.Ask requests.Touch) k
checking_on checks.Get put tries k =
    if nat_lt tries 2 then to (Checking put checks.Get (tries + 1)) (outputs.Ask requests.Get) k
    else to (Free Idle) (outputs.Reply replies.Unknown) (owes put k)

-- `unknown` once the put can't be carried out any more, which is kept
abbrev pub checking_told : Put → CheckCall → ℕ → Answer → Known → Taken
checking_told put call tries answer k =
    if is_other answer then unexpected (Checking put call tries) k
    else (if shows_gone put.version answer
    then to (Free Idle) (outputs.Reply replies.Unknown) (sees_gone put k)
    else checking_on (check_behind call answer) put tries k)

-- then the put that was awaited is looked at, where there is one
abbrev pub behind_chase : Option Put → Known → Taken
behind_chase None k = to (Free Idle) outputs.Nothing k
behind_chase (Some put) k = wanted_by k.seen put k

-- what can't be fenced stands after the others
abbrev pub chasing_on : CheckCall → Option Put → Known → Taken
chasing_on checks.Touch put k = to (Chasing checks.Touch put) (outputs.Ask requests.Touch) k
chasing_on checks.Get put k = behind_chase put (record k { owed = first_last k.owed })

-- what is gone isn't owed any more
abbrev pub chasing_told
    : Option ServiceVersion → CheckCall → Option Put → Answer → Known → Taken
chasing_told None call put answer k = unexpected (Chasing call put) k
chasing_told (Some n) call put answer k =
    if is_other answer then unexpected (Chasing call put) k
    else (if shows_gone n.version answer
    then behind_chase put (record k { owed = but_first k.owed })
    else chasing_on (check_behind call answer) put k)

-- an answer where none is awaited is unexpected
abbrev pub answered : Stage → Answer → Known → Taken
answered (Waiting Idle) answer k = unexpected (Waiting Idle) k
answered (Waiting Read) answer k = waiting_told Read answer k
answered (Waiting Change) answer k = waiting_told Change answer k
answered (Fencing call next) answer k =
    fencing_told (slice_get (named_in k.seen) next) call next answer k
answered Listing answer k = listing_told answer k
answered (Free Idle) answer k = unexpected (Free Idle) k
answered (Free Read) answer k = free_told Read answer k
answered (Free Change) answer k = free_told Change answer k
answered (Naming put Idle) answer k = unexpected (Naming put Idle) k
answered (Naming put Read) answer k = naming_told put Read answer k
answered (Naming put Change) answer k = naming_told put Change answer k
answered (Sent put) answer k = sent_told put answer k
answered (Checking put call tries) answer k = checking_told put call tries answer k
answered (Chasing call put) answer k = chasing_told (slice_get k.owed 0) call put answer k
answered Relisting answer k = relisting_told answer k
answered Lost answer k = unexpected Lost k

-- ---- all of it

-- a bridge without a program, which reads the Lease
abbrev pub started : List ℕ → Taken
started name =
    to (Waiting Read) (outputs.Ask requests.ReadLease)
    (record {
      name = name;
      seen = None;
      asked = record { at = 0; named = [] };
      owed = [];
      gone = [];
    })

abbrev pub taken : Input → Fence → Taken
taken inputs.Tick f = ticked f.stage f.known
taken inputs.Renew f = renewed f.stage f.known
taken (inputs.Lapsed version) f = lapsed f.stage version f.known
taken inputs.Chase f = chased f.stage f.known
taken inputs.Relist f = relisted f.stage f.known
taken (inputs.Put put) f = wanted f.stage put f.known
taken (inputs.Answer answer) f = answered f.stage answer f.known
