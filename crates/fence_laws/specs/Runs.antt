-- Clusters whose bridges are fences, whatever comes to them.
use Rattle.std.specs.Prelude.{◌≡◌, ◌==◌, ◌++◌, ℕ, if◌then◌else◌, List, [], ◌∷◌, Option, Some, None, ⊤}
use Rattle.std.specs.List.{Contains}
use Rattle.kube_model.specs.declared.event.Event.{Event}
use Rattle.kube_model.specs.declared.key.Key.{Key}
use Rattle.status_store.specs.Changes.{StoreValue, IsWellFormed}
use Rattle.core_laws.specs.Shared.{AllShowTerms}
use Rattle.world_rules.specs.Good.{IsGoodStore}
use Rattle.world_rules.specs.Moves.{Move, Sets, Deletes, Tells as IsShown, Takes, Turns, Stops}
use Rattle.world_rules.specs.Moves.{Starts as StartsAnew, ConfigExpires, ServicesExpire, EndsLater}
use Rattle.world_rules.specs.Moves.{Lands, IsListOf, IsMove, entries_of}
use Rattle.fence_rules.specs.Among.{after_all}
use Rattle.fence_rules.specs.Cluster.{Cluster, Happening, Edits, Carries, Changes, Gives, Reads}
use Rattle.fence_rules.specs.Cluster.{Asks, Starts, Does, Sends, Hears, GivesUp}
use Rattle.fence_rules.specs.Cluster.{IsGone, IsOwnMove, IsSafeThroughout, MayAllHappen, MayHappen}
use Rattle.fence_rules.specs.Cluster.{first_cluster, world_of}
use Rattle.put_fence.specs.declared.answer.Input.{Input}
use Rattle.put_fence.specs.declared.fence.Fence.{Fence}
use Rattle.put_fence.specs.declared.stage.Stage.{Stage}
use Rattle.put_fence.specs.declared.stage.Stage.TheVariants as stages
use Rattle.put_fence.specs.Fences.{started, taken}
use Rattle.fence_laws.specs.Follows.{Directory, Follows, IsAdmitted, IsTold, happened}

-- ---- one step

-- each of these stores was that of an earlier moment: what was gone then is gone
abbrev pub AreEarlier : List StoreValue → StoreValue → Type 0
AreEarlier past store = (old : StoreValue) → Contains past old → IsWellFormed old
    × ((n : Key × ℕ) → IsGone old n → IsGone store n)

-- What a fence does may happen, and changes its own bridge alone, for which it stands again.
pub record IsFollowed (who : Directory) (i : ℕ) (happenings : List Happening) (c : Cluster)
    (f : Fence) : Type 0 where
  pub may : MayAllHappen happenings c
  pub store : (after_all happenings c).store ≡ c.store
  pub others : (j : ℕ) → ¬ (j ≡ i) → (after_all happenings c).bridges j ≡ c.bridges j
  pub follows : Follows who i f c.store ((after_all happenings c).bridges i)

-- So it is wherever a fence stands for a bridge, and what it is told is so.
abbrev pub FenceFollows : Type 0
FenceFollows =
    (who : Directory) (i : ℕ) (past : List StoreValue) (c : Cluster) (f : Fence) (input : Input)
    → AreEarlier past c.store
    → Follows who i f c.store (c.bridges i) → IsTold who past input f (c.bridges i)
    → IsFollowed who i (happened i input f.stage (taken input f)) c (taken input f).fence
    × IsAdmitted (taken input f).output

-- ---- a whole run

pub data Coming : Type 0 where
  -- from outside of the bridges: an edit, a request carried out, the Lease given to a reading
  Comes : (happening : Happening) → Coming
  -- the list that a bridge asked for is given, and its program started with it
  Lists : (i : ℕ) (list : List Event) → Coming
  -- the list that a bridge asked for anew is given to its program
  Relists : (i : ℕ) (list : List Event) → Coming
  -- a program takes what it is shown, or makes a turn of which nothing is sent
  Goes : (i : ℕ) (move : Move) → Coming
  Tells : (i : ℕ) (input : Input) → Coming  -- a fence is told this

-- what no bridge does
abbrev pub IsOutside : Happening → Type 0
IsOutside (Edits move) = ⊤
IsOutside (Carries by put) = ⊤
IsOutside (Changes by ask version) = ⊤
IsOutside (Gives i) = ⊤
IsOutside (Reads i) = ⊥
IsOutside (Asks i named) = ⊥
IsOutside (Starts i list) = ⊥
IsOutside (Does i move) = ⊥
IsOutside (Sends i put) = ⊥
IsOutside (Hears i version) = ⊥
IsOutside (GivesUp i put) = ⊥

-- the program is up, and awaits no reply
abbrev pub IsUp : Stage → Type 0
IsUp (stages.Waiting call) = ⊥
IsUp (stages.Fencing call next) = ⊥
IsUp stages.Listing = ⊥
IsUp (stages.Free call) = ⊤
IsUp (stages.Naming put call) = ⊥
IsUp (stages.Sent put) = ⊥
IsUp (stages.Checking put call tries) = ⊥
IsUp (stages.Chasing call None) = ⊤
IsUp (stages.Chasing call (Some put)) = ⊥
IsUp stages.Relisting = ⊤
IsUp stages.Lost = ⊥

-- no list of the services is begun by it
abbrev pub IsUnlisted : Move → Type 0
IsUnlisted (Sets object holding) = ⊤
IsUnlisted (Deletes kind key) = ⊤
IsUnlisted (IsShown event) = ⊤
IsUnlisted Takes = ⊤
IsUnlisted (Turns outcome) = ⊤
IsUnlisted (Stops applied) = ⊤
IsUnlisted (StartsAnew list) = ⊤
IsUnlisted ConfigExpires = ⊤
IsUnlisted (ServicesExpire list) = ⊥
IsUnlisted (EndsLater before event behind) = ⊤
IsUnlisted (Lands put) = ⊤

-- a program that awaits a reply does nothing, and is shown no list that its bridge didn't ask for
pub record MayGo (move : Move) (f : Fence) (i : ℕ) (c : Cluster) : Type 0 where
  pub free : IsUp f.stage
  pub own : IsOwnMove move
  pub unlisted : IsUnlisted move
  pub may : IsMove move (world_of c.class c.store (c.bridges i)) (c.bridges i).late
  pub typed : AllShowTerms (entries_of move (world_of c.class c.store (c.bridges i)))

-- the list is as the store is at a moment after it was asked for, and a program is started once
pub record MayList (list : List Event) (f : Fence) (i : ℕ) (c : Cluster) : Type 0 where
  pub asked : f.stage ≡ stages.Listing
  pub down : (c.bridges i).core ≡ None
  pub listed : IsListOf c.store list

pub record MayRelist (list : List Event) (f : Fence) (c : Cluster) : Type 0 where
  pub asked : f.stage ≡ stages.Relisting
  pub listed : IsListOf c.store list

abbrev pub MayCome : Directory → Coming → (ℕ → Fence) → Cluster → List StoreValue → Type 0
MayCome who (Comes happening) fences c past = IsOutside happening × MayHappen happening c
MayCome who (Lists i list) fences c past = MayList list (fences i) i c
MayCome who (Relists i list) fences c past = MayRelist list (fences i) c
MayCome who (Goes i move) fences c past = MayGo move (fences i) i c
MayCome who (Tells i input) fences c past = IsTold who (c.store
    ∷ past) input (fences i) (c.bridges i)

-- what happens then
abbrev pub comes_to : Coming → (ℕ → Fence) → List Happening
comes_to (Comes happening) fences = happening ∷ []
comes_to (Lists i list) fences = Starts i list ∷ []
comes_to (Relists i list) fences = Does i (ServicesExpire list) ∷ []
comes_to (Goes i move) fences = Does i move ∷ []
comes_to (Tells i input) fences = happened i input (fences i).stage (taken input (fences i))

abbrev pub with_fence : ℕ → Fence → (ℕ → Fence) → ℕ → Fence
with_fence i f fences j = if j == i then f else fences j

abbrev pub fences_after : Coming → (ℕ → Fence) → ℕ → Fence
fences_after (Comes happening) fences = fences
fences_after (Lists i list) fences = fences
fences_after (Relists i list) fences = fences
fences_after (Goes i move) fences = fences
fences_after (Tells i input) fences = with_fence i (taken input (fences i)).fence fences

-- each of these comes, one after the other
abbrev pub AllCome : Directory → List Coming → (ℕ → Fence) → Cluster → List StoreValue → Type 0
AllCome who [] fences c past = ⊤
AllCome who (coming ∷ more) fences c past =
    MayCome who coming fences c past
    × AllCome who more (fences_after coming fences) (after_all (comes_to coming fences) c) (c.store
    ∷ past)

abbrev pub history : List Coming → (ℕ → Fence) → List Happening
history [] fences = []
history (coming ∷ more) fences = comes_to coming fences ++ history more (fences_after coming fences)

-- each bridge's fence as it was started, under its name
abbrev pub first_fences : (ℕ → List ℕ) → ℕ → Fence
first_fences names j = (started (names j)).fence

-- Whatever comes to bridges that are fences, each of a name of its own: it is a history of the
-- cluster, and safe throughout.
abbrev pub FencesAreSafe : Type 0
FencesAreSafe =
    (class : Option (List ℕ)) (store : StoreValue) (who : Directory) (names : ℕ
    → List ℕ) (comings : List Coming) → IsGoodStore store
    → ((j : ℕ) → who (names j) ≡ j)
    → AllCome who comings (first_fences names) (first_cluster class store) []
    → MayAllHappen (history comings (first_fences names)) (first_cluster class store)
    × IsSafeThroughout (history comings (first_fences names)) (first_cluster class store)
