-- What an event makes of a view.
use Rattle.std.specs.Prelude.{ℕ, List, [], ◌∷◌, Option}
use Rattle.kube_model.specs.declared.event.Event.{Event}
use Rattle.kube_model.specs.declared.event.Event.TheVariants.{Changed, Deleted, ListEnd, Expired, Members, Frame, Ignored}
use Rattle.kube_model.specs.declared.object.Kind.{Kind}
use Rattle.object_history.specs.Observations.{Watched}
use Rattle.object_history.specs.Cache.{cached_after, nothing}
use Rattle.object_cache.specs.declared.change.TakeNote.{TakeNote}
use Rattle.object_cache.specs.Change.{applied}
use Rattle.object_cache.specs.Limits.{limit_of}
use Rattle.speaker_view.specs.ViewValue.{ViewValue}

-- nothing is held, and no speaker is active
abbrev pub fresh : Option (List ℕ) → ViewValue
fresh class = record { class = class; held = nothing; members = [] }

-- an event that tells the members replaces them
abbrev pub members_after : Event → List (List ℕ) → List (List ℕ)
members_after (Members names) before = names
members_after (Changed version object) before = before
members_after (Deleted kind key) before = before
members_after (ListEnd group) before = before
members_after Expired before = before
members_after (Frame interface bytes) before = before
members_after Ignored before = before

-- the view after an event
abbrev pub view_after : Event → ViewValue → ViewValue
view_after event v = record { class = v.class; held = cached_after (Watched event) v.held; members = members_after event v.members }

-- the view after all these events, the newest first
abbrev pub view_of : Option (List ℕ) → List Event → ViewValue
view_of class [] = fresh class
view_of class (event ∷ earlier) = view_after event (view_of class earlier)

-- what is to be told of the event
abbrev pub note_by : ViewValue → Event → TakeNote
note_by v event = (applied v.held event).note

-- the limit that the event would pass: the kind of which one more would be held than may be, and how many that were
abbrev pub limit_by : ViewValue → Event → Option (Kind × ℕ)
limit_by v event = limit_of v.held event
