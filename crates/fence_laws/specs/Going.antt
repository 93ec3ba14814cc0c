-- So that what is said of every cluster of fences isn't said of nothing: a bridge takes the Lease
-- over, and starts its program; and its put is named, sent and carried out.
use Rattle.std.specs.Prelude.{◌≡◌, ◌+◌, ℕ, true, List, [], ◌∷◌, Option, Some}
use Rattle.kube_model.specs.declared.event.Event.{Event}
use Rattle.kube_model.specs.declared.put.Put.{Put}
use Rattle.kube_model.specs.declared.record.Record.{Record}
use Rattle.kube_model.specs.declared.reply.PutReply.TheVariants as replies
use Rattle.status_store.specs.declared.change.Outcome.TheVariants.{Delivered}
use Rattle.status_store.specs.Changes.{StoreValue, after_put, is_made}
use Rattle.core_rules.specs.Core.{fresh}
use Rattle.world_rules.specs.Moves.{IsListOf}
use Rattle.fence_rules.specs.Among.{after_all}
use Rattle.world_rules.specs.World.{next_put}
use Rattle.fence_rules.specs.Cluster as clusters
use Rattle.fence_rules.specs.Cluster.{Ask, Bridge, Cluster, Carries, Changes, Gives, answered}
use Rattle.fence_rules.specs.Cluster.{first_cluster}
use Rattle.put_fence.specs.declared.answer.Answer.TheVariants as answers
use Rattle.put_fence.specs.declared.answer.Input.TheVariants as inputs
use Rattle.put_fence.specs.declared.fence.Fence.{Fence}
use Rattle.put_fence.specs.declared.lease.Lease.{Lease}
use Rattle.put_fence.specs.declared.stage.LeaseCall.TheVariants.{Idle}
use Rattle.put_fence.specs.declared.stage.Stage.TheVariants as stages
use Rattle.put_fence.specs.Fences.{named_by}
use Rattle.fence_laws.specs.Runs.{AllCome, Coming, Comes, Lists, Tells, first_fences, history}

-- each bridge is called by its number
abbrev pub name_of : ℕ → List ℕ
name_of i = i ∷ []

abbrev pub bridge_of : List ℕ → ℕ
bridge_of [] = 0
bridge_of (i ∷ more) = i

-- the Lease at a version, held by a bridge, and without names
abbrev pub held : ℕ → ℕ → Lease
held version i = record { version = version; holder = name_of i; named = [] }

-- The second bridge reads the Lease of the first, which counts as given up; it asks for it, reads
-- that it has it, and lists.
abbrev pub taken_over : List Event → List Coming
taken_over list =
    Comes (Gives 1) ∷ Tells 1 (inputs.Answer (answers.Lease (held 1 0))) ∷ Tells 1 (inputs.Lapsed 1)
    ∷ Comes (Changes 1 (record { at = 1; named = [] }) 2) ∷ Comes (Gives 1)
    ∷ Tells 1 (inputs.Answer (answers.Lease (held 2 1)))
    ∷ Lists 1 list ∷ Tells 1 (inputs.Answer answers.Listed) ∷ []

abbrev pub second : Cluster → Bridge
second c = c.bridges 1

-- so it may come, and its program is started
abbrev pub FencesGoOn : Type 0
FencesGoOn = (class : Option (List ℕ)) (store : StoreValue) (list : List Event)
    → IsListOf store list
    → AllCome bridge_of (taken_over list) (first_fences name_of) (first_cluster class store) []
    × ((second (after_all (history (taken_over list) (first_fences name_of))
    (first_cluster class store))).core
    ≡ Some (fresh class))

-- ---- a put

-- what the second bridge is then
abbrev pub holder : Fence
holder = record {
  known =
      record {
        name = name_of 1;
        seen = Some (held 2 1);
        asked = record { at = 1; named = [] };
        owed = [];
        gone = [];
      };
  stage = stages.Free Idle;
}

-- a put of some service at a version
abbrev pub some_put : Record → Put
some_put holding =
    record { key = record { namespace = 1 ∷ []; name = 1 ∷ [] }; version = 1; holding = holding }

-- the program of the second bridge wants it, and the service is at its version
pub record CanPut (c : Cluster) (holding : Record) : Type 0 where
  pub wants : next_put (second c).core ≡ Some (some_put holding)
  pub known : (second c).seen.version ≡ c.lease.version
  pub lease : c.lease.version ≡ 2
  pub current : is_made (some_put holding) Delivered c.store.objects ≡ true

-- It is named, the Lease is read to name it, it is sent and carried out, and answered with success.
abbrev pub put_made : Cluster → Record → List Coming
put_made c holding =
    let put : Put = some_put holding in
    let ask : Ask = record { at = (second c).seen.version; named = clusters.name_of put ∷ [] } in
    let lease : Lease =
    record { version = 3; holder = name_of 1; named = named_by put ∷ [] } in
    Tells 1 (inputs.Put put) ∷ Comes (Changes 1 ask 3) ∷ Comes (Gives 1)
    ∷ Tells 1 (inputs.Answer (answers.Lease lease)) ∷ Comes (Carries 1 put)
    ∷ Tells 1 (inputs.Answer (answers.At (c.store.counter + 1))) ∷ []

-- so it may come: the put is stored, and the program hears so
abbrev pub PutsGoOn : Type 0
PutsGoOn = (c : Cluster) (holding : Record) (past : List StoreValue) → CanPut c holding
    → AllCome bridge_of (put_made c holding) (λ j. holder) c past
    × ((after_all (history (put_made c holding) (λ j. holder)) c).store
    ≡ after_put (some_put holding) Delivered c.store)
    × ((second (after_all (history (put_made c holding) (λ j. holder)) c)).core
    ≡ answered (second c).core (replies.Ok (c.store.counter + 1)))
