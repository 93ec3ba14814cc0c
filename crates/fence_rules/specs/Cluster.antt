-- Any number of controllers over one store. Each may be paused, cut off or killed at any moment: then it takes no step any more. Whatever
-- was asked for may be carried out late, again or never, and answers may be lost. Two things alone are relied on: a request that names a
-- version is carried out only at that version, and versions grow. When a Lease counts as given up isn't said: anyone may take it at any time.
use Rattle.std.specs.Prelude.{◌≡◌, ◌≢◌, ◌⊎◌, ◌+◌, ◌<◌, ◌≤◌, ◌==◌, ◌&&◌, ℕ, Bool, true, false, if◌then◌else◌}
use Rattle.std.specs.Prelude.{List, [], ◌∷◌, ◌++◌, Option, Some, None, ⊤}
use Rattle.std.specs.List.{AllByRecursion, Contains}
use Rattle.kube_model.specs.declared.event.Event.{Event}
use Rattle.kube_model.specs.Keys.{same_key}
use Rattle.kube_model.specs.declared.key.Key.{Key}
use Rattle.kube_model.specs.declared.put.Put.{Put}
use Rattle.kube_model.specs.declared.reply.PutReply.{PutReply}
use Rattle.kube_model.specs.declared.reply.PutReply.TheVariants as replies
use Rattle.status_store.specs.declared.change.Outcome.{Outcome}
use Rattle.status_store.specs.declared.change.Outcome.TheVariants.{Delivered, Lost, Refused}
use Rattle.status_store.specs.Places.{service_at}
use Rattle.status_store.specs.Objects.{stored_at}
use Rattle.status_store.specs.Changes.{StoreValue, after_put, is_at_version, is_made}
use Rattle.core_rules.specs.Core.{State, fresh}
use Rattle.core_rules.specs.Replied.{core_reply}
use Rattle.core_rules.specs.Turn.{after_turn}
use Rattle.core_laws.specs.Shared.{AllShowTerms}
use Rattle.world_rules.specs.Good.{IsGoodStore}
use Rattle.world_rules.specs.Moves.{Move, Sets, Deletes, Tells, Takes, Turns, Stops, Starts as StartsAnew, ConfigExpires, ServicesExpire, EndsLater, Lands}
use Rattle.world_rules.specs.Moves.{IsMove, IsListOf, after_move, entries_of}
use Rattle.world_rules.specs.Safe.{IsSafe}
use Rattle.world_rules.specs.World.{WorldValue, next_put, shown_put, while_up}

-- services, each at a version: a put that may be on its way is at one of these
abbrev pub Named : Type 0
Named = List (Key × ℕ)

abbrev pub name_of : Put → Key × ℕ
name_of put = (put.key, put.version)

-- the Lease, which is stored beside the services, and is changed at the version that was read alone
pub record Lease : Type 0 where
  pub version : ℕ
  pub holder : ℕ
  pub named : Named

-- a request that the Lease be the bridge's and name this, where it is at the version
pub record Ask : Type 0 where
  pub at : ℕ
  pub named : Named

-- how far it is with the put that its program wants
pub data Phase : Type 0 where
  Free : Phase  -- it isn't sent
  Sent : Phase  -- it is sent, and wasn't carried out
  Carried : (version : ℕ) → Phase  -- it was carried out, and the service has this version since

-- A bridge with its program, which is started once: what starts another one is another bridge.
pub record Bridge : Type 0 where
  pub core : Option State  -- none until the program is started
  pub lane : List Event  -- what it is still going to be shown of the services
  pub seen : Lease  -- the Lease as it was read last
  pub given : Lease  -- the Lease as the API server gave it last for a reading, of which the bridge may not have heard yet
  pub ask : Ask  -- what it asked for of the Lease last
  pub phase : Phase
  pub late : List Put  -- what it gave up: each may be carried out yet, until it is gone

pub record Cluster : Type 0 where
  pub class : Option (List ℕ)
  pub store : StoreValue
  pub lease : Lease
  pub asks : List (ℕ × Ask)  -- what was asked for of the Lease, and by whom
  pub sent : List (ℕ × Put)  -- the puts that were sent, and by whom
  pub bridges : ℕ → Bridge

-- what one program is in: a world of a single controller
abbrev pub world_with : Option (List ℕ) → StoreValue → List Event → Option State → WorldValue
world_with class store lane core = record { class = class; store = store; config_lane = []; service_lane = lane; core = core }

abbrev pub world_of : Option (List ℕ) → StoreValue → Bridge → WorldValue
world_of class store b = world_with class store b.lane b.core

-- the program and its lane as the world has them
abbrev pub in_world : WorldValue → Bridge → Bridge
in_world w b = record b { lane = w.service_lane; core = w.core }

-- No put at this version of the service is carried out any more: it isn't stored at it, and versions have grown to it.
abbrev pub IsGone : StoreValue → Key × ℕ → Type 0
IsGone store n = (n.1 ≤ store.counter) × (is_at_version n.1 (stored_at store.objects (service_at n.0)) ≡ false)

abbrev pub AreGone : StoreValue → Named → Type 0
AreGone store named = AllByRecursion (IsGone store) named

-- each of these puts is gone, or named
abbrev pub AreCovered : StoreValue → Named → List Put → Type 0
AreCovered store named late = (put : Put) → Contains late put → IsGone store (name_of put) ⊎ Contains named (name_of put)

-- each is gone
abbrev pub AreOver : StoreValue → List Put → Type 0
AreOver store late = (put : Put) → Contains late put → IsGone store (name_of put)

-- ---- what may happen

pub data Happening : Type 0 where
  Edits : (move : Move) → Happening  -- somebody else edits the store
  Carries : (by : ℕ) (put : Put) → Happening  -- a put that was sent is carried out; elsewhere than at its version it changes nothing
  -- what was asked for of the Lease is carried out at its version, and gives it a later one
  Changes : (by : ℕ) (ask : Ask) (version : ℕ) → Happening
  Gives : (i : ℕ) → Happening  -- the API server gives a bridge the Lease as it is
  Reads : (i : ℕ) → Happening  -- the bridge hears what it was given, however late
  Asks : (i : ℕ) (named : Named) → Happening  -- it asks that the Lease be its own and name this
  Starts : (i : ℕ) (list : List Event) → Happening  -- it starts its program, which is going to be shown this list of the services
  Does : (i : ℕ) (move : Move) → Happening  -- the program takes what it is shown, or makes a turn of which nothing is sent
  Sends : (i : ℕ) (put : Put) → Happening  -- the put that it wants is sent
  Hears : (i : ℕ) (version : ℕ) → Happening  -- the put was answered, and so is the program: `ok`
  GivesUp : (i : ℕ) (put : Put) → Happening  -- the program is answered `unknown` of the put, which may be carried out yet

-- others set and delete objects
abbrev pub IsEdit : Move → Type 0
IsEdit (Sets object holding) = ⊤
IsEdit (Deletes kind key) = ⊤
IsEdit (Tells event) = ⊥
IsEdit Takes = ⊥
IsEdit (Turns outcome) = ⊥
IsEdit (Stops applied) = ⊥
IsEdit (StartsAnew list) = ⊥
IsEdit ConfigExpires = ⊥
IsEdit (ServicesExpire list) = ⊥
IsEdit (EndsLater before event behind) = ⊥
IsEdit (Lands put) = ⊥

-- nothing is sent: `stale` or `unknown` is said of the put that the turn wants, if it wants one
abbrev pub IsUnsent : Outcome → Type 0
IsUnsent Delivered = ⊥
IsUnsent (Lost applied) = applied ≡ false
IsUnsent Refused = ⊤

-- what a program does without the store
abbrev pub IsOwnMove : Move → Type 0
IsOwnMove (Sets object holding) = ⊥
IsOwnMove (Deletes kind key) = ⊥
IsOwnMove (Tells event) = ⊤
IsOwnMove Takes = ⊤
IsOwnMove (Turns outcome) = IsUnsent outcome
IsOwnMove (Stops applied) = ⊥
IsOwnMove (StartsAnew list) = ⊥
IsOwnMove ConfigExpires = ⊤
IsOwnMove (ServicesExpire list) = ⊤
IsOwnMove (EndsLater before event behind) = ⊤
IsOwnMove (Lands put) = ⊥

-- The bridge has seen the Lease at a later version than that of its last request: none of its own is under way.
abbrev pub IsQuiet : Bridge → Type 0
IsQuiet b = b.ask.at < b.seen.version

-- Whoever has no program may ask for the Lease, and so may who has seen it as its own: it names what it named, or else, where a program runs
-- and awaits no answer to a put, whatever the bridge likes, with each put that it gave up and that isn't gone.
pub record MayAsk (i : ℕ) (store : StoreValue) (b : Bridge) (named : Named) : Type 0 where
  pub quiet : IsQuiet b
  pub own : (b.core ≡ None) ⊎ (b.seen.holder ≡ i)
  pub names : (named ≡ b.seen.named) ⊎ ((b.phase ≡ Free) × (b.core ≢ None) × AreCovered store named b.late)

-- What the Lease named when it was read is gone: only now are the services listed. Who starts a program though the Lease is another's can send
-- nothing, so that isn't asked about. What it was given and didn't hear of is ignored.
pub record MayStart (list : List Event) (store : StoreValue) (b : Bridge) : Type 0 where
  pub down : b.core ≡ None
  pub quiet : IsQuiet b
  pub fenced : AreGone store b.seen.named
  pub listed : IsListOf store list

-- services are listed anew only where each put that was given up is gone
abbrev pub MayList : Move → StoreValue → List Put → Type 0
MayList (Sets object holding) store late = ⊤
MayList (Deletes kind key) store late = ⊤
MayList (Tells event) store late = ⊤
MayList Takes store late = ⊤
MayList (Turns outcome) store late = ⊤
MayList (Stops applied) store late = ⊤
MayList (StartsAnew list) store late = ⊤
MayList ConfigExpires store late = ⊤
MayList (ServicesExpire list) store late = AreOver store late
MayList (EndsLater before event behind) store late = ⊤
MayList (Lands put) store late = ⊤

-- Puts that were given up are under way.
pub record MayDo (move : Move) (w : WorldValue) (phase : Phase) (late : List Put) : Type 0 where
  pub free : phase ≡ Free
  pub own : IsOwnMove move
  pub may : IsMove move w late
  pub typed : AllShowTerms (entries_of move w)
  pub listed : MayList move w.store late

-- The Lease was seen to be the bridge's and to name the put; and of the service each that was given up is gone.
pub record MaySend (i : ℕ) (put : Put) (store : StoreValue) (b : Bridge) : Type 0 where
  pub free : b.phase ≡ Free
  pub wants : next_put b.core ≡ Some put
  pub quiet : IsQuiet b
  pub own : b.seen.holder ≡ i
  pub named : Contains b.seen.named (name_of put)
  pub unowed : (other : Put) → Contains b.late other → other.key ≡ put.key → IsGone store (name_of other)

pub record MayGiveUp (put : Put) (b : Bridge) : Type 0 where
  pub out : b.phase ≢ Free
  pub wants : next_put b.core ≡ Some put

-- the store, where no program is asked about
abbrev pub store_alone : Cluster → WorldValue
store_alone c = world_with c.class c.store [] None

abbrev pub MayHappen : Happening → Cluster → Type 0
MayHappen (Edits move) c = IsEdit move × IsMove move (store_alone c) []
MayHappen (Carries by put) c = Contains c.sent (by, put) × (is_made put Delivered c.store.objects ≡ true)
MayHappen (Changes by ask version) c =
    Contains c.asks (by, ask) × (ask.at ≡ c.lease.version) × (c.lease.version < version)
MayHappen (Gives i) c = ⊤
MayHappen (Reads i) c = ⊤
MayHappen (Asks i named) c = MayAsk i c.store (c.bridges i) named
MayHappen (Starts i list) c = MayStart list c.store (c.bridges i)
MayHappen (Does i move) c = MayDo move (world_of c.class c.store (c.bridges i)) (c.bridges i).phase (c.bridges i).late
MayHappen (Sends i put) c = MaySend i put c.store (c.bridges i)
MayHappen (Hears i version) c = (c.bridges i).phase ≡ Carried version
MayHappen (GivesUp i put) c = MayGiveUp put (c.bridges i)

-- ---- what comes of it

-- this bridge is so from now on
abbrev pub with_bridge : ℕ → Bridge → (ℕ → Bridge) → ℕ → Bridge
with_bridge i b bridges j = if j == i then b else bridges j

-- the program has made its turn, and hears of the put
abbrev pub answered : Option State → PutReply → Option State
answered None reply = None
answered (Some s) reply = Some (core_reply (after_turn s) reply)

-- the put that is wanted is of the service and the version of this one
abbrev pub is_awaited : Put → Option Put → Bool
is_awaited put None = false
is_awaited put (Some wanted) = same_key wanted.key put.key && (wanted.version == put.version)

-- whoever waits for the answer to the put that was carried out may hear it
abbrev pub carried_out : Bool → ℕ → Phase → Phase
carried_out true version Free = Free
carried_out true version Sent = Carried version
carried_out true version (Carried earlier) = Carried earlier
carried_out false version phase = phase

-- the put is carried out, and shown to each program that runs
abbrev pub carried : ℕ → Put → StoreValue → (ℕ → Bridge) → ℕ → Bridge
carried by put store bridges j =
    let b = bridges j in
    record b {
      lane = b.lane ++ while_up b.core (shown_put put Delivered store);
      phase = carried_out (j == by && is_awaited put (next_put b.core)) (store.counter + 1) b.phase;
    }

-- so is an edit
abbrev pub edited_by : Move → Cluster → ℕ → Bridge
edited_by move c j = in_world (after_move move (world_of c.class c.store (c.bridges j))) (c.bridges j)

abbrev pub at_bridge : ℕ → Cluster → Bridge → Cluster
at_bridge i c b = record c { bridges = with_bridge i b c.bridges }

abbrev pub after : Happening → Cluster → Cluster
after (Edits move) c = record c { store = (after_move move (store_alone c)).store; bridges = edited_by move c }
after (Carries by put) c = record c { store = after_put put Delivered c.store; bridges = carried by put c.store c.bridges }
after (Changes by ask version) c =
    record c { lease = record { version = version; holder = by; named = ask.named } }
after (Gives i) c = let b = c.bridges i in at_bridge i c (record b { given = c.lease })
after (Reads i) c = let b = c.bridges i in at_bridge i c (record b { seen = b.given })
after (Asks i named) c =
    let b = c.bridges i in
    let ask : Ask = record { at = b.seen.version; named = named } in
    record c { asks = (i, ask) ∷ c.asks; bridges = with_bridge i (record b { ask = ask }) c.bridges }
after (Starts i list) c = let b = c.bridges i in at_bridge i c (record b { core = Some (fresh c.class); lane = list; given = b.seen; phase = Free; late = [] })
after (Does i move) c = let b = c.bridges i in at_bridge i c (in_world (after_move move (world_of c.class c.store b)) b)
after (Sends i put) c = let b = c.bridges i in record c { sent = (i, put) ∷ c.sent; bridges = with_bridge i (record b { phase = Sent }) c.bridges }
after (Hears i version) c = let b = c.bridges i in at_bridge i c (record b { core = answered b.core (replies.Ok version); phase = Free })
after (GivesUp i put) c = let b = c.bridges i in at_bridge i c (record b { core = answered b.core replies.Unknown; phase = Free; late = put ∷ b.late })

-- ---- the law

-- a Lease that nobody has changed yet
abbrev pub first_lease : Lease
first_lease = record { version = 1; holder = 0; named = [] }

abbrev pub first_bridge : Bridge
first_bridge = record { core = None; lane = []; seen = first_lease; given = first_lease; ask = record { at = 0; named = [] }; phase = Free; late = [] }

abbrev pub first_cluster : Option (List ℕ) → StoreValue → Cluster
first_cluster class store = record { class = class; store = store; lease = first_lease; asks = []; sent = []; bridges = λ j. first_bridge }

-- each of these may happen, one after the other
abbrev pub MayAllHappen : List Happening → Cluster → Type 0
MayAllHappen [] c = ⊤
MayAllHappen (happening ∷ more) c = MayHappen happening c × MayAllHappen more (after happening c)

-- the store is safe before and after each
abbrev pub IsSafeThroughout : List Happening → Cluster → Type 0
IsSafeThroughout [] c = IsSafe c.store
IsSafeThroughout (happening ∷ more) c = IsSafe c.store × IsSafeThroughout more (after happening c)

-- Whatever happens among any number of controllers, no two services are wrongly given one address.
abbrev pub ClustersAreSafe : Type 0
ClustersAreSafe =
    (class : Option (List ℕ)) (store : StoreValue) (happenings : List Happening) → IsGoodStore store → MayAllHappen happenings (first_cluster class store)
    → IsSafeThroughout happenings (first_cluster class store)
