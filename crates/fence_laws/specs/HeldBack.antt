-- A put that was seen to be gone isn't sent again, nor is one of its service at a version before.
use Rattle.std.specs.Prelude.{◌≡◌, ◌≤◌, ℕ, true, Some, None, ⊤}
use Rattle.kube_model.specs.declared.put.Put.{Put}
use Rattle.kube_model.specs.declared.reply.PutReply.TheVariants as replies
use Rattle.put_fence.specs.declared.answer.Answer.{Answer}
use Rattle.put_fence.specs.declared.answer.Input.TheVariants as inputs
use Rattle.put_fence.specs.declared.known.Known.{Known}
use Rattle.put_fence.specs.declared.output.Output.TheVariants as outputs
use Rattle.put_fence.specs.declared.output.Taken.{Taken}
use Rattle.put_fence.specs.declared.stage.CheckCall.{CheckCall}
use Rattle.put_fence.specs.declared.stage.Stage.{Stage}
use Rattle.put_fence.specs.declared.stage.Stage.TheVariants as stages
use Rattle.put_fence.specs.Fences.{shows_gone, taken, to}

-- a put may come: the program is up and wants none, and no list is asked for
abbrev pub MayWant : Stage → Type 0
MayWant (stages.Waiting call) = ⊥
MayWant (stages.Fencing call next) = ⊥
MayWant stages.Listing = ⊥
MayWant (stages.Free call) = ⊤
MayWant (stages.Naming put call) = ⊥
MayWant (stages.Sent put) = ⊥
MayWant (stages.Checking put call tries) = ⊥
MayWant (stages.Chasing call None) = ⊤
MayWant (stages.Chasing call (Some put)) = ⊥
MayWant stages.Relisting = ⊥
MayWant stages.Lost = ⊥

-- Wherever a put may come, one of this put's service at its version or before is answered `stale`
-- at once: nothing is sent, and the fence is as before.
abbrev pub AreHeldBack : Put → Known → Type 0
AreHeldBack put k = (stage : Stage) (other : Put) → MayWant stage → other.key ≡ put.key
    → other.version ≤ put.version
    → taken (inputs.Put other) (record { known = k; stage = stage })
    ≡ to stage (outputs.Reply replies.Stale) k

-- what comes of an answer about the service of a put that was sent
abbrev pub after_check : Put → CheckCall → ℕ → Answer → Known → Taken
after_check put call tries answer k = taken (inputs.Answer answer)
    (record { known = k; stage = stages.Checking put call tries })

-- So it is once an answer shows that a put is gone, of which the program hears `unknown`.
abbrev pub GoneAreHeldBack : Type 0
GoneAreHeldBack = (k : Known) (put : Put) (call : CheckCall) (tries : ℕ) (answer : Answer)
    → shows_gone put.version answer ≡ true
    → ((after_check put call tries answer k).output ≡ outputs.Reply replies.Unknown)
    × AreHeldBack put (after_check put call tries answer k).fence.known
