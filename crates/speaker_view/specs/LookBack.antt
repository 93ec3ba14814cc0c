-- What a look back over the events shows. The newest stands first.
use Rattle.std.specs.Prelude.{◌≡◌, ◌↔◌, ℕ, List, [], ◌∷◌, ◌++◌, map, Option, Some, ⊤, ◌⊎◌}
use Rattle.kube_model.specs.declared.event.Event.{Event}
use Rattle.kube_model.specs.declared.event.Event.TheVariants.{Changed, Deleted, ListEnd, Expired, Members, Frame, Ignored}
use Rattle.kube_model.specs.declared.object.Kind.{Kind}
use Rattle.object_history.specs.Observations.{Watched}
use Rattle.object_history.specs.AsShown.{IsAsShown}
use Rattle.object_cache.specs.Limits.{IsPastLimit, NonePassed}
use Rattle.speaker_view.specs.ViewValue.{ViewValue}
use Rattle.speaker_view.specs.View.{view_of, limit_by}

-- the event doesn't tell the members
abbrev pub IsOther : Event → Type 0
IsOther (Members names) = ⊥
IsOther (Changed version object) = ⊤
IsOther (Deleted kind key) = ⊤
IsOther (ListEnd group) = ⊤
IsOther Expired = ⊤
IsOther (Frame interface bytes) = ⊤
IsOther Ignored = ⊤

abbrev pub AreOthers : List Event → Type 0
AreOthers [] = ⊤
AreOthers (event ∷ events) = IsOther event × AreOthers events

-- An event told these members, and no later one told any.
pub record AreLastTold (names : List (List ℕ)) (events : List Event) : Type 0 where
  pub later : List Event
  pub earlier : List Event
  pub split : events ≡ later ++ Members names ∷ earlier
  pub last : AreOthers later

-- the members were last told, or there are none, and none were told
abbrev pub AreMembers : List (List ℕ) → List Event → Type 0
AreMembers names events = AreLastTold names events ⊎ ((names ≡ []) × AreOthers events)

-- The view is of the class, and has the cluster as it was last shown and the members that were last told.
pub record IsViewAsShown (v : ViewValue) (class : Option (List ℕ)) (events : List Event) : Type 0 where
  pub class_is : v.class ≡ class
  pub held : IsAsShown v.held (map Watched events)
  pub members : AreMembers v.members events

-- whatever events were applied
abbrev pub ViewsAreAsShown : Type 0
ViewsAreAsShown = (class : Option (List ℕ)) (events : List Event) → IsViewAsShown (view_of class events) class events

-- whatever events were applied and not refused, the next one passes a limit exactly where more would be held after it than may be
abbrev pub ViewLimitsAreExact : Type 0
ViewLimitsAreExact = (class : Option (List ℕ)) (events : List Event) (event : Event) (kind : Kind) (count : ℕ)
    → NonePassed (map Watched events)
    → (limit_by (view_of class events) event ≡ Some (kind, count)) ↔ IsPastLimit (view_of class (event ∷ events)).held kind count
