-- Four histories that are admitted: what is said of every cluster is said of requests that come
-- late, twice, or too late, and of a put that can't be fenced.
use Rattle.std.specs.Prelude.{◌≡◌, ◌≢◌, ◌<◌, ◌+◌, ℕ, true, List, [], ◌∷◌, Some, None}
use Rattle.kube_model.specs.declared.event.Event.{Event}
use Rattle.kube_model.specs.declared.put.Put.{Put}
use Rattle.kube_model.specs.declared.reply.PutReply.TheVariants as replies
use Rattle.status_store.specs.declared.change.Outcome.TheVariants.{Delivered, Refused}
use Rattle.status_store.specs.Changes.{IsWellFormed, after_put, is_made}
use Rattle.world_rules.specs.Moves.{Move, ServicesExpire, Turns, IsMove, IsListOf}
use Rattle.world_rules.specs.World.{next_put}
use Rattle.fence_rules.specs.Among.{after_all}
use Rattle.fence_rules.specs.Cluster.{Ask, Cluster, Happening, Edits, Asks, Carries, Changes, Does}
use Rattle.fence_rules.specs.Cluster.{GivesUp, Gives, Hears, Reads, Sends, Starts, IsEdit, IsGone}
use Rattle.fence_rules.specs.Cluster.{IsQuiet, MayAllHappen, MayHappen, after, answered, name_of}
use Rattle.fence_rules.specs.Cluster.{store_alone}
use Rattle.fence_rules.specs.Going.{CanPut}

-- the first bridge's request that its put be named
abbrev pub naming : Cluster → Put → Ask
naming c put = record { at = (c.bridges 0).seen.version; named = name_of put ∷ [] }

-- ---- a put is held back, while the second bridge takes the Lease over

-- The second bridge has no program and no request under way. The edit, which may be its own, gives
-- the put's service another version.
pub record CanBeHeldBack (c : Cluster) (put : Put) (touch : Move) (list : List Event) : Type 0 where
  pub sends : CanPut c put
  pub down : (c.bridges 1).core ≡ None
  pub quiet : (c.bridges 1).ask.at < c.lease.version
  pub edit : IsEdit touch
  pub may : IsMove touch (store_alone c) []
  pub gone : IsGone (after (Edits touch) c).store (name_of put)
  pub listed : IsListOf (after (Edits touch) c).store list

-- The first names its put and sends it; the second takes the Lease over as it is, fences the put,
-- and starts its program; the first says `unknown`.
abbrev pub held_back : Cluster → Put → Move → List Event → List Happening
held_back c put touch list =
    let named = name_of put ∷ [] in
    let ask : Ask = record { at = c.lease.version + 1; named = named } in
    Asks 0 named ∷ Changes 0 (naming c put) (c.lease.version + 1) ∷ Gives 0 ∷ Reads 0 ∷ Sends 0 put
    ∷ Gives 1 ∷ Reads 1 ∷ Asks 1 named ∷ Changes 1 ask (c.lease.version + 2) ∷ Gives 1 ∷ Reads 1
    ∷ Edits touch ∷ Starts 1 list ∷ GivesUp 0 put ∷ []

-- so it may be, and the put comes too late then
abbrev pub PutsMayBeHeldBack : Type 0
PutsMayBeHeldBack = (c : Cluster) (put : Put) (touch : Move) (list : List Event)
    → CanBeHeldBack c put touch list
    → MayAllHappen (held_back c put touch list) c
    × ¬ (MayHappen (Carries 0 put) (after_all (held_back c put touch list) c))

-- ---- a hop between sends a put twice: the first is carried out, the second is answered

-- it names its put and sends it; the put is carried out, and though it is, `unknown` is said, since
-- what was answered is 409
abbrev pub resent : Cluster → Put → List Happening
resent c put =
    let named = name_of put ∷ [] in
    Asks 0 named ∷ Changes 0 (naming c put) (c.lease.version + 1) ∷ Gives 0 ∷ Reads 0 ∷ Sends 0 put
    ∷ Carries 0 put ∷ GivesUp 0 put ∷ []

-- so it may be: the put is stored, and the second delivery changes nothing
abbrev pub PutsMayBeResent : Type 0
PutsMayBeResent = (c : Cluster) (put : Put) → CanPut c put → IsWellFormed c.store
    → MayAllHappen (resent c put) c
    × ((after_all (resent c put) c).store ≡ after_put put Delivered c.store)
    × ¬ (MayHappen (Carries 0 put) (after_all (resent c put) c))

-- ---- a request that a put be named is lost: the second bridge takes the Lease over first

-- the second bridge has no program, no request under way, and has read the Lease as it is
pub record CanLose (c : Cluster) (put : Put) : Type 0 where
  pub wants : CanPut c put
  pub down : (c.bridges 1).core ≡ None
  pub quiet : IsQuiet (c.bridges 1)
  pub known : (c.bridges 1).seen ≡ c.lease

-- The first asks that its put be named; the second takes the Lease over; the first reads so, and
-- says `stale`.
abbrev pub naming_lost : Cluster → Put → List Happening
naming_lost c put =
    let named = (c.bridges 1).seen.named in
    let ask : Ask = record { at = (c.bridges 1).seen.version; named = named } in
    Asks 0 (name_of put ∷ []) ∷ Asks 1 named ∷ Changes 1 ask (c.lease.version + 1) ∷ Gives 0
    ∷ Reads 0 ∷ Does 0 (Turns Refused) ∷ []

-- so it may be; its request comes too late then, and it can send nothing
abbrev pub NamingsMayBeLost : Type 0
NamingsMayBeLost = (c : Cluster) (put : Put) → CanLose c put
    → MayAllHappen (naming_lost c put) c
    × ((version : ℕ)
    → ¬ (MayHappen (Changes 0 (naming c put) version) (after_all (naming_lost c put) c)))
    × ((other : Put) → ¬ (MayHappen (Sends 0 other) (after_all (naming_lost c put) c)))

-- ---- a put can't be fenced, and another one is made

-- Once the first program heard `unknown` of the put it wants another one, of another service. Both
-- are at the stored versions; and the list is as the store is once both are carried out.
pub record CanBeOwed (c : Cluster) (put other : Put) (list : List Event) : Type 0 where
  pub sends : CanPut c put
  pub then_wants : next_put (answered (c.bridges 0).core replies.Unknown) ≡ Some other
  pub apart : put.key ≢ other.key
  pub current : is_made other Delivered c.store.objects ≡ true
  pub still : is_made put Delivered (after_put other Delivered c.store).objects ≡ true
  pub kept : IsWellFormed (after_put other Delivered c.store)
  pub listed : IsListOf (after_put put Delivered (after_put other Delivered c.store)) list

-- It sends its put, and gives it up; it names the other beside it, sends that one, and hears `ok`.
-- The first one is carried out after all; only then are the services listed anew.
abbrev pub owed_beside : Cluster → Put → Put → List Event → List Happening
owed_beside c put other list =
    let both = name_of other ∷ name_of put ∷ [] in
    let ask : Ask = record { at = c.lease.version + 1; named = both } in
    Asks 0 (name_of put ∷ []) ∷ Changes 0 (naming c put) (c.lease.version + 1) ∷ Gives 0 ∷ Reads 0
    ∷ Sends 0 put ∷ GivesUp 0 put ∷ Asks 0 both ∷ Changes 0 ask (c.lease.version + 2) ∷ Gives 0
    ∷ Reads 0 ∷ Sends 0 other ∷ Carries 0 other ∷ Hears 0 (c.store.counter + 1) ∷ Carries 0 put
    ∷ Does 0 (ServicesExpire list) ∷ []

-- so it may be, and both are stored
abbrev pub PutsMayBeOwed : Type 0
PutsMayBeOwed = (c : Cluster) (put other : Put) (list : List Event) → CanBeOwed c put other list
    → MayAllHappen (owed_beside c put other list) c
    × ((after_all (owed_beside c put other list) c).store
    ≡ after_put put Delivered (after_put other Delivered c.store))
