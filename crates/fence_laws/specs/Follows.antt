-- When a fence stands for a bridge of a cluster, and what it does there.
use Rattle.std.specs.Prelude.{◌≡◌, ◌≢◌, ◌<◌, ◌≤◌, ◌++◌, ℕ, true, false, List, [], ◌∷◌, map}
use Rattle.std.specs.Prelude.{Option, Some, None, slice_get, ⊤}
use Rattle.std.specs.List.{Contains}
use Rattle.kube_model.specs.declared.key.Key.{Key}
use Rattle.kube_model.specs.declared.put.Put.{Put}
use Rattle.kube_model.specs.declared.reply.PutReply.{PutReply}
use Rattle.kube_model.specs.declared.reply.PutReply.TheVariants as replies
use Rattle.status_store.specs.declared.change.Outcome.TheVariants.{Refused}
use Rattle.status_store.specs.Places.{service_at}
use Rattle.status_store.specs.Objects.{stored_at}
use Rattle.status_store.specs.Changes.{StoreValue, is_at_version}
use Rattle.world_rules.specs.Moves.{Turns}
use Rattle.world_rules.specs.World.{next_put}
use Rattle.fence_rules.specs.Cluster as clusters
use Rattle.fence_rules.specs.Cluster.{Bridge, Cluster, Happening, Named, Asks, Carried, Does}
use Rattle.fence_rules.specs.Cluster.{GivesUp, Hears, Reads, Sends, AreCovered, AreGone, IsGone}
use Rattle.fence_rules.specs.Cluster.{IsQuiet}
use Rattle.put_fence.specs.declared.answer.Answer.{Answer}
use Rattle.put_fence.specs.declared.answer.Answer.TheVariants as answers
use Rattle.put_fence.specs.declared.answer.Input.{Input}
use Rattle.put_fence.specs.declared.answer.Input.TheVariants as inputs
use Rattle.put_fence.specs.declared.fence.Fence.{Fence}
use Rattle.put_fence.specs.declared.known.Known.{Known}
use Rattle.put_fence.specs.declared.lease.Asked.{Asked}
use Rattle.put_fence.specs.declared.lease.Lease.{Lease}
use Rattle.put_fence.specs.declared.lease.ServiceVersion.{ServiceVersion}
use Rattle.put_fence.specs.declared.output.Output.{Output}
use Rattle.put_fence.specs.declared.output.Output.TheVariants as outputs
use Rattle.put_fence.specs.declared.output.Request.{Request}
use Rattle.put_fence.specs.declared.output.Request.TheVariants as requests
use Rattle.put_fence.specs.declared.output.Taken.{Taken}
use Rattle.put_fence.specs.declared.stage.LeaseCall.TheVariants.{Idle, Read, Change}
use Rattle.put_fence.specs.declared.stage.Stage.{Stage}
use Rattle.put_fence.specs.declared.stage.Stage.TheVariants.{Waiting, Fencing, Listing, Free}
use Rattle.put_fence.specs.declared.stage.Stage.TheVariants.{Naming, Sent, Checking, Lost}
use Rattle.put_fence.specs.declared.stage.Stage.TheVariants.{Chasing, Relisting}
use Rattle.put_fence.specs.Fences.{checked, is_owed, named_in}

-- ---- the same in a fence and in a cluster

-- which bridge has which name
abbrev pub Directory : Type 0
Directory = List ℕ → ℕ

abbrev pub name_at : ServiceVersion → Key × ℕ
name_at n = (n.key, n.version)

abbrev pub names_of : List ServiceVersion → Named
names_of named = map name_at named

abbrev pub lease_of : Directory → Lease → clusters.Lease
lease_of who lease =
    record { version = lease.version; holder = who lease.holder; named = names_of lease.named }

abbrev pub ask_of : Asked → clusters.Ask
ask_of asked = record { at = asked.at; named = names_of asked.named }

-- Its name is that of the bridge, which knows as much of the Lease; and what the bridge gave up is
-- gone, or owed.
pub record Knows (who : Directory) (i : ℕ) (k : Known) (store : StoreValue) (b : Bridge)
    : Type 0 where
  pub named : who k.name ≡ i
  pub asked : b.ask ≡ ask_of k.asked
  pub seen : (lease : Lease) → k.seen ≡ Some lease → b.seen ≡ lease_of who lease
  pub owed : AreCovered store (names_of k.owed) b.late

-- what was named before this place is gone
abbrev pub AreGoneBefore : ℕ → StoreValue → List ServiceVersion → Type 0
AreGoneBefore next store named = (place : ℕ) → place < next → (n : ServiceVersion)
    → slice_get named place ≡ Some n → IsGone store (name_at n)

-- The bridge fences what the Lease named when it was read last, and is past what is gone.
pub record IsFencing (next : ℕ) (k : Known) (store : StoreValue) (b : Bridge) : Type 0 where
  pub free : b.phase ≡ clusters.Free
  pub quiet : IsQuiet b
  pub named : b.seen.named ≡ names_of (named_in k.seen)
  pub gone : AreGoneBefore next store (named_in k.seen)

-- All of it is gone.
pub record IsListing (store : StoreValue) (b : Bridge) : Type 0 where
  pub free : b.phase ≡ clusters.Free
  pub quiet : IsQuiet b
  pub gone : AreGone store b.seen.named

-- its program wants this put, which isn't sent, and none of its service is owed
pub record IsNaming (put : Put) (k : Known) (b : Bridge) : Type 0 where
  pub free : b.phase ≡ clusters.Free
  pub wants : next_put b.core ≡ Some put
  pub unowed : is_owed put k ≡ false

-- and which is sent
pub record IsOut (put : Put) (b : Bridge) : Type 0 where
  pub out : b.phase ≢ clusters.Free
  pub wants : next_put b.core ≡ Some put

-- the bridge is at the stage
abbrev pub IsAt : Stage → Known → StoreValue → Bridge → Type 0
IsAt (Waiting call) k store b = (b.core ≡ None) × (b.phase ≡ clusters.Free)
IsAt (Fencing call next) k store b = IsFencing next k store b
IsAt Listing k store b = IsListing store b
IsAt (Free call) k store b = b.phase ≡ clusters.Free
IsAt (Naming put call) k store b = IsNaming put k b
IsAt (Sent put) k store b = IsOut put b
IsAt (Checking put call tries) k store b = IsOut put b
IsAt (Chasing call None) k store b = b.phase ≡ clusters.Free
IsAt (Chasing call (Some put)) k store b = IsNaming put k b
IsAt Relisting k store b = (b.phase ≡ clusters.Free) × (k.owed ≡ [])
IsAt Lost k store b = ⊤

-- The fence stands for this bridge.
pub record Follows (who : Directory) (i : ℕ) (f : Fence) (store : StoreValue) (b : Bridge)
    : Type 0 where
  pub knows : Knows who i f.known store b
  pub at : IsAt f.stage f.known store b

-- ---- what is relied on of what it is told

-- the service was stored at this version at one of these moments
pub record WasAt (past : List StoreValue) (key : Key) (version : ℕ) : Type 0 where
  pub store : StoreValue
  pub moment : Contains past store
  pub at : is_at_version version (stored_at store.objects (service_at key)) ≡ true

-- it wasn't stored at one of these moments, when this version was already given
pub record WasAbsent (past : List StoreValue) (key : Key) (version : ℕ) : Type 0 where
  pub store : StoreValue
  pub moment : Contains past store
  pub absent : stored_at store.objects (service_at key) ≡ None
  pub given : version ≤ store.counter

abbrev pub ChecksAt : List StoreValue → ℕ → Option ServiceVersion → Type 0
ChecksAt past version None = ⊤
ChecksAt past version (Some n) = WasAt past n.key version

abbrev pub ChecksAbsent : List StoreValue → Option ServiceVersion → Type 0
ChecksAbsent past None = ⊤
ChecksAbsent past (Some n) = WasAbsent past n.key n.version

-- a put that is answered with success was carried out, and its service has the version since
abbrev pub IsStoredAt : ℕ → Stage → Bridge → Type 0
IsStoredAt version (Waiting call) b = ⊤
IsStoredAt version (Fencing call next) b = ⊤
IsStoredAt version Listing b = ⊤
IsStoredAt version (Free call) b = ⊤
IsStoredAt version (Naming put call) b = ⊤
IsStoredAt version (Sent put) b = b.phase ≡ Carried version
IsStoredAt version (Checking put call tries) b = ⊤
IsStoredAt version (Chasing call put) b = ⊤
IsStoredAt version Relisting b = ⊤
IsStoredAt version Lost b = ⊤

-- An answer tells what the store held at some moment so far, and of the Lease what the API server
-- gave last.
abbrev pub IsAnswer : Directory → List StoreValue → Answer → Stage → Known → Bridge → Type 0
IsAnswer who past (answers.Lease lease) stage k b = b.given ≡ lease_of who lease
IsAnswer who past (answers.At version) stage k b = ChecksAt past version (checked stage k)
    × IsStoredAt version stage b
IsAnswer who past answers.Listed stage k b = ⊤
IsAnswer who past answers.Missing stage k b = ChecksAbsent past (checked stage k)
IsAnswer who past answers.Refused stage k b = ⊤
IsAnswer who past answers.Unknown stage k b = ⊤

-- A put is one that the program wants; of the clock nothing is relied on.
abbrev pub IsTold : Directory → List StoreValue → Input → Fence → Bridge → Type 0
IsTold who past inputs.Tick f b = ⊤
IsTold who past inputs.Renew f b = ⊤
IsTold who past (inputs.Lapsed version) f b = ⊤
IsTold who past inputs.Chase f b = ⊤
IsTold who past inputs.Relist f b = ⊤
IsTold who past (inputs.Put put) f b = next_put b.core ≡ Some put
IsTold who past (inputs.Answer answer) f b = IsAnswer who past answer f.stage f.known b

-- ---- what it does

-- the Lease is read, where it was asked for
abbrev pub reads_at : ℕ → Stage → List Happening
reads_at i (Waiting Idle) = []
reads_at i (Waiting Read) = Reads i ∷ []
reads_at i (Waiting Change) = Reads i ∷ []
reads_at i (Fencing call next) = []
reads_at i Listing = []
reads_at i (Free Idle) = []
reads_at i (Free Read) = Reads i ∷ []
reads_at i (Free Change) = Reads i ∷ []
reads_at i (Naming put Idle) = []
reads_at i (Naming put Read) = Reads i ∷ []
reads_at i (Naming put Change) = Reads i ∷ []
reads_at i (Sent put) = []
reads_at i (Checking put call tries) = []
reads_at i (Chasing call put) = []
reads_at i Relisting = []
reads_at i Lost = []

abbrev pub read_of : ℕ → Input → Stage → List Happening
read_of i inputs.Tick stage = []
read_of i inputs.Renew stage = []
read_of i (inputs.Lapsed version) stage = []
read_of i inputs.Chase stage = []
read_of i inputs.Relist stage = []
read_of i (inputs.Put put) stage = []
read_of i (inputs.Answer (answers.Lease lease)) stage = reads_at i stage
read_of i (inputs.Answer (answers.At version)) stage = []
read_of i (inputs.Answer answers.Listed) stage = []
read_of i (inputs.Answer answers.Missing) stage = []
read_of i (inputs.Answer answers.Refused) stage = []
read_of i (inputs.Answer answers.Unknown) stage = []

-- the put of the stage, where it has one
abbrev pub put_of : Stage → Option Put
put_of (Waiting call) = None
put_of (Fencing call next) = None
put_of Listing = None
put_of (Free call) = None
put_of (Naming put call) = Some put
put_of (Sent put) = Some put
put_of (Checking put call tries) = Some put
put_of (Chasing call put) = put
put_of Relisting = None
put_of Lost = None

abbrev pub sends : ℕ → Option Put → List Happening
sends i None = []
sends i (Some put) = Sends i put ∷ []

abbrev pub gives_up : ℕ → Option Put → List Happening
gives_up i None = []
gives_up i (Some put) = GivesUp i put ∷ []

-- a request that is made: one for the Lease, or one that sends a put; the others change nothing
-- that a cluster knows of, or are edits
abbrev pub asked_of : ℕ → Request → Fence → List Happening
asked_of i requests.ReadLease f = []
asked_of i requests.ChangeLease f = Asks i (names_of f.known.asked.named) ∷ []
asked_of i requests.Get f = []
asked_of i requests.Touch f = []
asked_of i requests.List f = []
asked_of i requests.Patch f = sends i (put_of f.stage)

-- a reply to the program; `missing` is never said
abbrev pub replied_of : ℕ → PutReply → Stage → List Happening
replied_of i (replies.Ok version) stage = Hears i version ∷ []
replied_of i replies.Stale stage = Does i (Turns Refused) ∷ []
replied_of i replies.Missing stage = []
replied_of i replies.Unknown stage = gives_up i (put_of stage)

-- what is done, from this stage to this fence
abbrev pub done_of : ℕ → Stage → Output → Fence → List Happening
done_of i stage outputs.Nothing f = []
done_of i stage (outputs.Ask request) f = asked_of i request f
done_of i stage (outputs.Again request) f = []
done_of i stage (outputs.Reply reply) f = replied_of i reply stage
done_of i stage outputs.Lost f = []
done_of i stage outputs.Absent f = []
done_of i stage outputs.Unexpected f = []

abbrev pub happened : ℕ → Input → Stage → Taken → List Happening
happened i input stage taken = read_of i input stage ++ done_of i stage taken.output taken.fence

-- No put is sent once more, and `missing` isn't said.
abbrev pub IsOnce : Request → Type 0
IsOnce requests.ReadLease = ⊤
IsOnce requests.ChangeLease = ⊤
IsOnce requests.Get = ⊤
IsOnce requests.Touch = ⊤
IsOnce requests.List = ⊤
IsOnce requests.Patch = ⊥

abbrev pub IsSaid : PutReply → Type 0
IsSaid (replies.Ok version) = ⊤
IsSaid replies.Stale = ⊤
IsSaid replies.Missing = ⊥
IsSaid replies.Unknown = ⊤

abbrev pub IsAdmitted : Output → Type 0
IsAdmitted outputs.Nothing = ⊤
IsAdmitted (outputs.Ask request) = ⊤
IsAdmitted (outputs.Again request) = IsOnce request
IsAdmitted (outputs.Reply reply) = IsSaid reply
IsAdmitted outputs.Lost = ⊤
IsAdmitted outputs.Absent = ⊤
IsAdmitted outputs.Unexpected = ⊤
