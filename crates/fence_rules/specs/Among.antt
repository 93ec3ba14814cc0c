-- Which histories of a cluster explain what one program went through. Runs have the newest entry first.
use Rattle.std.specs.Prelude.{◌≡◌, ◌≢◌, ◌==◌, ℕ, if◌then◌else◌, List, [], ◌∷◌, ◌++◌, Option, Some, None}
use Rattle.kube_model.specs.declared.reply.PutReply.{PutReply}
use Rattle.kube_model.specs.declared.reply.PutReply.TheVariants as replies
use Rattle.status_store.specs.Changes.{StoreValue}
use Rattle.core_rules.specs.Core.{State}
use Rattle.core_rules.specs.Run.{TranscriptEntry, Turned, Heard, core_after, IsRun}
use Rattle.core_rules.specs.Turn.{core_turn}
use Rattle.world_rules.specs.Explaining.{acts_of, answered as but_unanswered, puts_of}
use Rattle.world_rules.specs.Good.{IsGoodStore}
use Rattle.world_rules.specs.Moves.{entries_of}
use Rattle.fence_rules.specs.Cluster.{Cluster, Happening, Edits, Carries, Changes, Gives, Reads, Asks, Starts, Does, Sends, Hears, GivesUp}
use Rattle.fence_rules.specs.Cluster.{MayAllHappen, IsSafeThroughout, after, first_cluster, world_of}

-- the program made its turn, and heard of its put
abbrev pub entries_heard : Option State → PutReply → List TranscriptEntry
entries_heard None reply = []
entries_heard (Some s) reply = Heard reply ∷ Turned (core_turn s) ∷ []

-- what happens to the program of this bridge
abbrev pub entries_at : Happening → ℕ → Cluster → List TranscriptEntry
entries_at (Edits move) j c = []
entries_at (Carries by put) j c = []
entries_at (Changes by ask version) j c = []
entries_at (Gives i) j c = []
entries_at (Reads i) j c = []
entries_at (Asks i named) j c = []
entries_at (Starts i list) j c = []
entries_at (Does i move) j c = if j == i then entries_of move (world_of c.class c.store (c.bridges i)) else []
entries_at (Sends i put) j c = []
entries_at (Hears i version) j c = if j == i then entries_heard (c.bridges i).core (replies.Ok version) else []
entries_at (GivesUp i put) j c = if j == i then entries_heard (c.bridges i).core replies.Unknown else []

abbrev pub run_at : List Happening → ℕ → Cluster → List TranscriptEntry → List TranscriptEntry
run_at [] j c earlier = earlier
run_at (happening ∷ more) j c earlier = run_at more j (after happening c) (entries_at happening j c ++ earlier)

abbrev pub after_all : List Happening → Cluster → Cluster
after_all [] c = c
after_all (happening ∷ more) c = after_all more (after happening c)

-- A history explains the run of a core as that of one bridge's program: what it was shown and answered there, and how often a turn was made,
-- is what the run has, but for a last put that has no reply.
pub record ExplainsAt (class : Option (List ℕ)) (store : StoreValue) (happenings : List Happening) (j : ℕ) (run : List TranscriptEntry) : Type 0 where
  pub good : IsGoodStore store
  pub may : MayAllHappen happenings (first_cluster class store)
  pub up : ((after_all happenings (first_cluster class store)).bridges j).core ≢ None
  pub same : acts_of (run_at happenings j (first_cluster class store) []) ≡ acts_of (but_unanswered run)

-- The program is the run's core, its puts are the run's, and the store is safe throughout.
pub record IsSafeAt (class : Option (List ℕ)) (store : StoreValue) (happenings : List Happening) (j : ℕ) (run : List TranscriptEntry) : Type 0 where
  pub core : ((after_all happenings (first_cluster class store)).bridges j).core ≡ Some (core_after class (but_unanswered run))
  pub puts : puts_of (run_at happenings j (first_cluster class store) []) ≡ puts_of (but_unanswered run)
  pub safe : IsSafeThroughout happenings (first_cluster class store)

-- so it is whichever history explains the run
abbrev pub IsSafeAmongOthers : Option (List ℕ) → List TranscriptEntry → Type 0
IsSafeAmongOthers class run =
    (store : StoreValue) (happenings : List Happening) (j : ℕ) → ExplainsAt class store happenings j run → IsSafeAt class store happenings j run

-- and so for every run of a core
abbrev pub RunsAreSafeAmongOthers : Type 0
RunsAreSafeAmongOthers = (class : Option (List ℕ)) (run : List TranscriptEntry) → IsRun class run → IsSafeAmongOthers class run
