-- What a fence replies at once to a put makes the core queue nothing anew: so turns come to an end, whatever the fence does.
use Rattle.std.proofs.Common.{◌≡◌, ℕ, Bool, true, false, cond, nat_lt, Option, Some, None, refl, ap, is_some}
use Rattle.std.specs.Prelude.{⊤}
use Rattle.kube_model.specs.declared.put.Put.{Put}
use Rattle.kube_model.specs.declared.reply.PutReply.{PutReply}
use Rattle.kube_model.specs.declared.reply.PutReply.TheVariants as replies
use Rattle.core_rules.specs.Core.{State}
use Rattle.core_rules.specs.Replied.{replied_to}
use Rattle.core_rules.specs.Turn.{core_turn, after_turn, put_in, rest_of}
use Rattle.core_rules.specs.declared.turn.Turn.{Turn}
use Rattle.core_rules.specs.declared.turn.Turn.TheVariants.{Idle, NoPut, Wants}
use Rattle.core_rules.proofs.Runs.{heard-out}
use Rattle.put_fence.specs.declared.answer.Input.{Input}
use Rattle.put_fence.specs.declared.answer.Input.TheVariants as inputs
use Rattle.put_fence.specs.declared.fence.Fence.{Fence}
use Rattle.put_fence.specs.declared.known.Known.{Known}
use Rattle.put_fence.specs.declared.lease.Lease.{Lease}
use Rattle.put_fence.specs.declared.output.Output.TheVariants as outputs
use Rattle.put_fence.specs.declared.output.Taken.{Taken}
use Rattle.put_fence.specs.declared.output.Request.TheVariants as requests
use Rattle.put_fence.specs.declared.stage.LeaseCall.{LeaseCall}
use Rattle.put_fence.specs.declared.stage.LeaseCall.TheVariants as calls
use Rattle.put_fence.specs.declared.stage.Stage.{Stage}
use Rattle.put_fence.specs.declared.stage.Stage.TheVariants as stages
use Rattle.put_fence.specs.Fences.{is_held_back, is_own, may_send, owed_and, sending_by, taken, to, wanted, wanted_by, wanted_free}
use Rattle.fenced_run.specs.Drive.{FencedState, given_in, heard, telling, turning, turning_by, with_core, with_fence}

-- nothing is queued anew where the core hears this
abbrev pub IsRefusal : PutReply → Type 0
IsRefusal (replies.Ok version) = ⊥
IsRefusal replies.Stale = ⊤
IsRefusal replies.Missing = ⊤
IsRefusal replies.Unknown = ⊥

abbrev pub GivesRefusal : Option PutReply → Type 0
GivesRefusal None = ⊤
GivesRefusal (Some reply) = IsRefusal reply

-- ---- the fence

asking-so : (b : Bool) (stage : Stage) (k asked : Known)
    → GivesRefusal (given_in (cond b (to stage (outputs.Ask requests.ChangeLease) asked) (to stage (outputs.Again requests.ChangeLease) k)).output)
asking-so true stage k asked = tt
asking-so false stage k asked = tt

sending-so : (may : Bool) (put : Put) (version : ℕ) (k : Known) → GivesRefusal (given_in (sending_by may put version k).output)
sending-so true put version k = tt
sending-so false put version k =
    asking-so (nat_lt k.asked.at version) (stages.Naming put calls.Change) k (record k { asked = record { at = version; named = owed_and put k } })

wanted-own : (own : Bool) (put : Put) (lease : Lease) (k : Known)
    → GivesRefusal (given_in (cond own (sending_by (may_send put lease k) put lease.version k) (to (stages.Free calls.Idle) (outputs.Reply replies.Stale) k)).output)
wanted-own true put lease k = sending-so (may_send put lease k) put lease.version k
wanted-own false put lease k = tt

wanted-so : (seen : Option Lease) (put : Put) (k : Known) → GivesRefusal (given_in (wanted_by seen put k).output)
wanted-so None put k = tt
wanted-so (Some lease) put k = wanted-own (is_own k lease) put lease k

free-so : (call : LeaseCall) (put : Put) (k : Known) → GivesRefusal (given_in (wanted_free call put k).output)
free-so calls.Idle put k = wanted-so k.seen put k
free-so calls.Read put k = tt
free-so calls.Change put k = tt

held-so : (b : Bool) (held goes : Taken) → GivesRefusal (given_in held.output) → GivesRefusal (given_in goes.output)
    → GivesRefusal (given_in (cond b held goes).output)
held-so true held goes first second = first
held-so false held goes first second = second

by-stage : (stage : Stage) (put : Put) (k : Known) → GivesRefusal (given_in (wanted stage put k).output)
by-stage (stages.Waiting call) put k = tt
by-stage (stages.Fencing call next) put k = tt
by-stage stages.Listing put k = tt
by-stage (stages.Free call) put k =
    held-so (is_held_back put k) (to (stages.Free call) (outputs.Reply replies.Stale) k) (wanted_free call put k) tt (free-so call put k)
by-stage (stages.Naming other call) put k = tt
by-stage (stages.Sent other) put k = tt
by-stage (stages.Checking other call tries) put k = tt
by-stage (stages.Chasing call None) put k =
    held-so (is_held_back put k) (to (stages.Chasing call None) (outputs.Reply replies.Stale) k) (to (stages.Chasing call (Some put)) outputs.Nothing k) tt tt
by-stage (stages.Chasing call (Some other)) put k = tt
by-stage stages.Relisting put k = tt
by-stage stages.Lost put k = tt

-- the one thing that is relied on of a fence: it replies at once, if at all, that the put is refused
pub at_once : (put : Put) (f : Fence) → GivesRefusal (given_in (taken (inputs.Put put) f).output)
at_once put f = by-stage f.stage put f.known

-- ---- the core

pub refused-queue : (out : Option Put) (reply : PutReply) (s : State) → IsRefusal reply → (replied_to out s reply).queue ≡ s.queue
refused-queue None reply s is = refl
refused-queue (Some put) (replies.Ok version) s is = absurd is
refused-queue (Some put) replies.Stale s is = refl
refused-queue (Some put) replies.Missing s is = refl
refused-queue (Some put) replies.Unknown s is = absurd is

heard-queue : (out : Option Put) (given : Option PutReply) (s : FencedState) → GivesRefusal given → (heard out given s).state.core.queue ≡ s.core.queue
heard-queue None given s is = refl
heard-queue (Some put) None s is = refl
heard-queue (Some put) (Some reply) s is = refused-queue s.core.out reply s.core is

heard-idle : (out : Option Put) (given : Option PutReply) (s : FencedState) → s.core.out ≡ out → (heard out given s).goes_on ≡ true
    → (heard out given s).state.core.out ≡ None
heard-idle None given s e goes = absurd (cc)
heard-idle (Some put) None s e goes = absurd (cc)
heard-idle (Some put) (Some reply) s e goes = heard-out s.core.out reply s.core (ap is_some e)

-- where turns follow what the fence was told no put is in flight
pub telling-idle : (input : Input) (s : FencedState) → (telling input s).goes_on ≡ true → (telling input s).state.core.out ≡ None
telling-idle input s goes =
    let t = taken input s.fence in
    heard-idle s.core.out (given_in t.output) (with_fence t.fence s) refl goes

turned-queue : (turn : Turn) (s : FencedState) → (turning_by turn s).state.core.queue ≡ s.core.queue
turned-queue Idle s = refl
turned-queue (NoPut key pending) s = refl
turned-queue (Wants put pending) s =
    let t = taken (inputs.Put put) s.fence in
    heard-queue s.core.out (given_in t.output) (with_fence t.fence s) (at_once put s.fence)

turned-idle : (turn : Turn) (s : FencedState) → s.core.out ≡ put_in turn → (turning_by turn s).goes_on ≡ true → (turning_by turn s).state.core.out ≡ None
turned-idle Idle s e goes = e
turned-idle (NoPut key pending) s e goes = e
turned-idle (Wants put pending) s e goes = telling-idle (inputs.Put put) s goes

-- a turn takes its key out of the queue
pub turning-queue : (s : FencedState) → (turning s).state.core.queue ≡ rest_of s.core.queue
turning-queue s = turned-queue (core_turn s.core) (with_core (after_turn s.core) s)

-- and where turns follow it no put is in flight
pub turning-idle : (s : FencedState) → (turning s).goes_on ≡ true → (turning s).state.core.out ≡ None
turning-idle s goes = turned-idle (core_turn s.core) (with_core (after_turn s.core) s) refl goes
