-- So that what is said of every cluster isn't said of nothing: puts are made, and the Lease is taken over.
use Rattle.std.specs.Prelude.{◌≡◌, ◌+◌, true, List, [], ◌∷◌, Some, None}
use Rattle.kube_model.specs.declared.event.Event.{Event}
use Rattle.kube_model.specs.declared.put.Put.{Put}
use Rattle.status_store.specs.declared.change.Outcome.TheVariants.{Delivered}
use Rattle.status_store.specs.Changes.{after_put, is_made}
use Rattle.world_rules.specs.Moves.{IsListOf}
use Rattle.world_rules.specs.World.{next_put}
use Rattle.fence_rules.specs.Among.{after_all}
use Rattle.fence_rules.specs.Cluster.{Ask, Cluster, Free, Happening, Asks, Carries, Changes, Hears, Gives, Reads, Sends, Starts, AreGone, IsQuiet, MayAllHappen, name_of}

-- The first bridge holds the Lease, knows it, has no request under way, and gave nothing up; and the put that its program wants is at the stored
-- version.
pub record CanPut (c : Cluster) (put : Put) : Type 0 where
  pub wants : next_put (c.bridges 0).core ≡ Some put
  pub free : (c.bridges 0).phase ≡ Free
  pub quiet : IsQuiet (c.bridges 0)
  pub known : (c.bridges 0).seen ≡ c.lease
  pub holds : c.lease.holder ≡ 0
  pub current : is_made put Delivered c.store.objects ≡ true
  pub none : (c.bridges 0).late ≡ []

-- it names the put, reads so, and sends it; it is carried out, and the answer is heard
abbrev pub put_made : Cluster → Put → List Happening
put_made c put =
    let ask : Ask = record { at = (c.bridges 0).seen.version; named = name_of put ∷ [] } in
    Asks 0 (name_of put ∷ []) ∷ Changes 0 ask (c.lease.version + 1) ∷ Gives 0 ∷ Reads 0 ∷ Sends 0 put ∷ Carries 0 put ∷ Hears 0 (c.store.counter + 1) ∷ []

abbrev pub PutsAreMade : Type 0
PutsAreMade = (c : Cluster) (put : Put) → CanPut c put
    → MayAllHappen (put_made c put) c × ((after_all (put_made c put) c).store ≡ after_put put Delivered c.store)

-- The second bridge has no program, and has read the Lease, which names nothing that can still be carried out.
pub record CanTakeOver (c : Cluster) (list : List Event) : Type 0 where
  pub down : (c.bridges 1).core ≡ None
  pub quiet : IsQuiet (c.bridges 1)
  pub known : (c.bridges 1).seen ≡ c.lease
  pub gone : AreGone c.store c.lease.named
  pub listed : IsListOf c.store list

-- it asks for the Lease, reads that it has it, and starts its program
abbrev pub taken_over : Cluster → List Event → List Happening
taken_over c list =
    let named = (c.bridges 1).seen.named in
    let ask : Ask = record { at = (c.bridges 1).seen.version; named = named } in
    Asks 1 named ∷ Changes 1 ask (c.lease.version + 1) ∷ Gives 1 ∷ Reads 1 ∷ Starts 1 list ∷ []

abbrev pub LeasesAreTakenOver : Type 0
LeasesAreTakenOver = (c : Cluster) (list : List Event) → CanTakeOver c list
    → MayAllHappen (taken_over c list) c × ((after_all (taken_over c list) c).lease.holder ≡ 1)
