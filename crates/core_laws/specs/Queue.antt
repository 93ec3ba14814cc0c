-- The queue is orderly.
use Rattle.std.specs.Prelude.{◌≡◌, ℕ, true, false, List, [], ◌∷◌, Option, Some, is_some, ⊤}
use Rattle.kube_model.specs.declared.key.Key.{Key}
use Rattle.kube_model.specs.declared.put.Put.{Put}
use Rattle.kube_model.specs.Keys.{has_key}
use Rattle.core_rules.specs.Core.{State, is_ready, service_of}
use Rattle.core_rules.specs.Run.{TranscriptEntry, core_after, IsRun}

-- each key stands in the list once
abbrev pub AreApart : List Key → Type 0
AreApart [] = ⊤
AreApart (k ∷ keys) = (has_key keys k ≡ false) × AreApart keys

-- none of the keys is among the others
abbrev pub NoneAmong : List Key → List Key → Type 0
NoneAmong keys others = (key : Key) → has_key keys key ≡ true → has_key others key ≡ false

-- the service of the key is held
abbrev pub IsHeld : State → Key → Type 0
IsHeld s key = is_some (service_of s.held key) ≡ true

-- Each key is queued once, is held and doesn't await a newer event. The key of the put in flight isn't queued, and while the core
-- isn't ready no key is.
pub record IsOrderlyQueue (s : State) : Type 0 where
  pub once : AreApart s.queue
  pub held : (key : Key) → has_key s.queue key ≡ true → IsHeld s key
  pub free : NoneAmong s.queue s.awaiting
  pub out_unqueued : (put : Put) → s.out ≡ Some put → has_key s.queue put.key ≡ false
  pub empty_unready : is_ready s.held ≡ false → s.queue ≡ []

-- so it is at each moment of every run
abbrev pub QueuesAreOrderly : Type 0
QueuesAreOrderly = (class : Option (List ℕ)) (run : List TranscriptEntry) → IsRun class run → IsOrderlyQueue (core_after class run)
