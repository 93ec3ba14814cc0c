-- What holds at each moment of a cluster: the puts that can still be carried out are those of one program alone.
use Rattle.std.specs.Prelude.{◌≡◌, ◌≢◌, ◌⊎◌, ◌<◌, ◌≤◌, ◌++◌, ℕ, List, Option, Some, None}
use Rattle.std.specs.List.{Contains}
use Rattle.kube_model.specs.declared.event.Event.{Event}
use Rattle.kube_model.specs.declared.put.Put.{Put}
use Rattle.kube_model.specs.declared.reply.PutReply.TheVariants as replies
use Rattle.status_store.specs.Changes.{StoreValue}
use Rattle.core_rules.specs.Core.{State}
use Rattle.world_rules.specs.Expected.{AreExpected}
use Rattle.world_rules.specs.Good.{IsGood}
use Rattle.world_rules.specs.Moves.{puts_in}
use Rattle.world_rules.specs.World.{next_put}
use Rattle.fence_rules.specs.Cluster.{Lease, Ask, Phase, Free, Sent, Carried, Bridge, Cluster, Happening, AreCovered, AreGone, IsGone, MayHappen}
use Rattle.fence_rules.specs.Cluster.{answered, after, name_of, world_with}

-- The bridge waits for the answer to this put, which wasn't carried out.
pub record IsOut (b : Bridge) (put : Put) : Type 0 where
  pub sent : b.phase ≡ Sent
  pub wants : next_put b.core ≡ Some put

-- The bridge waits for the answer to it, or gave it up.
abbrev pub IsPending : Bridge → Put → Type 0
IsPending b put = IsOut b put ⊎ Contains b.late put

-- What holds of a Lease that a bridge was given. The active one is the bridge whose program was the last to be started while it held the Lease.
pub record IsKnown (store : StoreValue) (lease : Lease) (active j : ℕ) (b : Bridge) (known : Lease) : Type 0 where
  pub past : known.version ≤ lease.version
  pub same : known.version ≡ lease.version → known ≡ lease
  pub own : b.ask.at < known.version → lease.holder ≡ j → known ≡ lease  -- who holds the Lease, and has no request under way, knows it as it is
  pub may_send : b.core ≢ None → b.ask.at < known.version → known.holder ≡ j
      → AreGone store known.named ⊎ ((j ≡ active) × (known.named ≡ lease.named))

-- What holds of each bridge: what it knows of the Lease, and what it may have asked for.
pub record IsKept (store : StoreValue) (lease : Lease) (active j : ℕ) (b : Bridge) : Type 0 where
  pub seen : IsKnown store lease active j b b.seen
  pub given : IsKnown store lease active j b b.given
  pub below : b.ask.at ≤ lease.version
  pub single : b.core ≢ None → b.ask.at ≡ lease.version → lease.holder ≡ j  -- no program gets the Lease back for its bridge
  pub fits : b.ask.at ≡ lease.version
      → (b.ask.named ≡ lease.named)
      ⊎ ((lease.holder ≡ j) × (j ≡ active) × (b.phase ≢ Sent) × AreCovered store b.ask.named b.late)  -- no request makes a put that is on its way be forgotten
  pub carried : (version : ℕ) (put : Put) → b.phase ≡ Carried version → next_put b.core ≡ Some put → IsGone store (name_of put)
  pub apart : (put other : Put) → IsOut b put → Contains b.late other → other.key ≡ put.key → IsGone store (name_of other)  -- one put of a service at most
  pub none : b.core ≡ None → (put : Put) → ¬ (Contains b.late put)  -- who has no program gave nothing up

-- the world of the program is good, and expects the puts that were given up
abbrev pub IsGoodWith : Option (List ℕ) → StoreValue → List Event → Option State → List Put → Type 0
IsGoodWith class store lane core late = IsGood (world_with class store lane core) × AreExpected store core late

-- once its put was carried out it is, whichever of the two replies it hears
abbrev pub IsGoodIn : Phase → Option (List ℕ) → StoreValue → List Event → Option State → List Put → Type 0
IsGoodIn Free class store lane core late = IsGoodWith class store lane core late
IsGoodIn Sent class store lane core late = IsGoodWith class store lane core late
IsGoodIn (Carried version) class store lane core late =
    IsGoodWith class store lane (answered core (replies.Ok version)) late
    × IsGoodWith class store lane (answered core replies.Unknown) (puts_in (next_put core) ++ late)

pub record IsFenced (c : Cluster) : Type 0 where
  pub active : ℕ
  pub good : IsGoodIn (c.bridges active).phase c.class c.store (c.bridges active).lane (c.bridges active).core (c.bridges active).late
  pub each : (j : ℕ) → IsKept c.store c.lease active j (c.bridges j)
  pub holder : (c.lease.holder ≡ active) ⊎ ((c.bridges c.lease.holder).core ≡ None)
  pub asked : (by : ℕ) (ask : Ask) → Contains c.asks (by, ask) → (ask ≡ (c.bridges by).ask) ⊎ (ask.at < c.lease.version)  -- all others come too late
  pub sent : (by : ℕ) (put : Put) → Contains c.sent (by, put) → IsGone c.store (name_of put) ⊎ ((by ≡ active) × IsPending (c.bridges active) put)
  pub out : (put : Put) → IsPending (c.bridges active) put → IsGone c.store (name_of put) ⊎ Contains c.lease.named (name_of put)

-- whatever happens keeps it
abbrev pub HappeningsKeepFenced : Type 0
HappeningsKeepFenced = (happening : Happening) (c : Cluster) → MayHappen happening c → IsFenced c → IsFenced (after happening c)
