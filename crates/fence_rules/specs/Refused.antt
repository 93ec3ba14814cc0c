-- What is no step of any cluster: each of these, let through, leads to two services with one
-- address (`tests/fence_explorer`).
use Rattle.std.specs.Prelude.{◌≡◌, ◌≢◌, ℕ, false, List, None}
use Rattle.std.specs.List.{Contains}
use Rattle.kube_model.specs.declared.event.Event.{Event}
use Rattle.kube_model.specs.declared.put.Put.{Put}
use Rattle.status_store.specs.Places.{service_at}
use Rattle.status_store.specs.Objects.{stored_at}
use Rattle.status_store.specs.Changes.{is_at_version}
use Rattle.world_rules.specs.Moves.{Move, ServicesExpire}
use Rattle.fence_rules.specs.Cluster.{Ask, Cluster, Named, Free, Asks, Carries, Changes, Does}
use Rattle.fence_rules.specs.Cluster.{Sends, Starts, AreGone, IsGone, IsQuiet, MayHappen}
use Rattle.fence_rules.specs.Cluster.{name_of}

-- a step of one bridge, at any moment
pub record AreRefused (c : Cluster) (i : ℕ) : Type 0 where
  -- named after it is sent, or at another version
  pub unnamed : (put : Put) → ¬ (Contains (c.bridges i).seen.named (name_of put))
      → ¬ (MayHappen (Sends i put) c)
  -- sent without the Lease
  pub not_holding : (put : Put) → (c.bridges i).seen.holder ≢ i → ¬ (MayHappen (Sends i put) c)
  -- sent while a request for the Lease is under way
  pub beside_a_request : (put : Put) → ¬ (IsQuiet (c.bridges i)) → ¬ (MayHappen (Sends i put) c)
  pub sent_again : (put : Put) → (c.bridges i).phase ≢ Free → ¬ (MayHappen (Sends i put) c)
  -- 409 answered `stale`
  pub stale_once_sent : (move : Move) → (c.bridges i).phase ≢ Free → ¬ (MayHappen (Does i move) c)
  -- one that was given up, and may still come, isn't named any more
  pub owed_dropped : (named : Named) (put : Put) → Contains (c.bridges i).late put
      → ¬ (IsGone c.store (name_of put)) → ¬ (Contains named (name_of put))
      → named ≢ (c.bridges i).seen.named → ¬ (MayHappen (Asks i named) c)
  -- services are listed anew before it is gone
  pub listed_while_owed : (list : List Event) (put : Put) → Contains (c.bridges i).late put
      → ¬ (IsGone c.store (name_of put)) → ¬ (MayHappen (Does i (ServicesExpire list)) c)
  pub blind_put : (put : Put)
      → is_at_version put.version (stored_at c.store.objects (service_at put.key)) ≡ false
      → ¬ (MayHappen (Carries i put) c)
  pub blind_lease : (ask : Ask) (version : ℕ) → ask.at ≢ c.lease.version
      → ¬ (MayHappen (Changes i ask version) c)
  pub two_requests : (named : Named) → ¬ (IsQuiet (c.bridges i)) → ¬ (MayHappen (Asks i named) c)
  -- by who takes over
  pub names_dropped : (named : Named) → (c.bridges i).core ≡ None
      → named ≢ (c.bridges i).seen.named → ¬ (MayHappen (Asks i named) c)
  -- a loser's program
  pub goes_on : (named : Named) → (c.bridges i).core ≢ None → (c.bridges i).seen.holder ≢ i
      → ¬ (MayHappen (Asks i named) c)
  -- started, or listed, before the fence
  pub unfenced : (list : List Event) → ¬ (AreGone c.store (c.bridges i).seen.named)
      → ¬ (MayHappen (Starts i list) c)
  pub started_again : (list : List Event) → (c.bridges i).core ≢ None
      → ¬ (MayHappen (Starts i list) c)

abbrev pub WrongStepsAreRefused : Type 0
WrongStepsAreRefused = (c : Cluster) (i : ℕ) → AreRefused c i
