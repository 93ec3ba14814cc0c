-- What a view shows is what a look back shows.
use Rattle.std.proofs.Common.{◌≡◌, ◌↔◌, ℕ, List, [], ◌∷◌, map, Option, Some, refl, sym, ap, subst, inl, inr}
use Rattle.kube_model.specs.declared.event.Event.{Event}
use Rattle.kube_model.specs.declared.event.Event.TheVariants.{Changed, Deleted, ListEnd, Expired, Members, Frame, Ignored}
use Rattle.object_history.specs.Observations.{Watched}
use Rattle.object_history.specs.Cache.{Cached, cached, cached_after}
use Rattle.object_history.specs.AsShown.{IsAsShown}
use Rattle.object_history.proofs.Force.{all_is_as_shown}
use Rattle.object_cache.specs.Limits.{limit_of, IsPastLimit}
use Rattle.object_cache.proofs.Limited.{limits_are_exact}
use Rattle.speaker_view.specs.View.{view_of, members_after}
use Rattle.speaker_view.specs.LookBack.{AreMembers, IsOther, ViewsAreAsShown, ViewLimitsAreExact}

-- what is held is what the cache holds after the same events
view_held : (class : Option (List ℕ)) (events : List Event) → (view_of class events).held ≡ cached (map Watched events)
view_held class [] = refl
view_held class (event ∷ earlier) = ap (cached_after (Watched event)) (view_held class earlier)

view_class : (class : Option (List ℕ)) (events : List Event) → (view_of class events).class ≡ class
view_class class [] = refl
view_class class (event ∷ earlier) = view_class class earlier

-- an event that doesn't tell the members leaves them
still : (event : Event) (names : List (List ℕ)) (earlier : List Event) → IsOther event → AreMembers names earlier → AreMembers names (event ∷ earlier)
still event names earlier other (inl told) =
    inl (record { later = event ∷ told.later; earlier = told.earlier; split = ap (λ es. event ∷ es) told.split; last = (other, told.last) })
still event names earlier other (inr (none, others)) = inr (none, (other, others))

told_by : (event : Event) (names : List (List ℕ)) (earlier : List Event) → AreMembers names earlier → AreMembers (members_after event names) (event ∷ earlier)
told_by (Members told) names earlier before = inl (record { later = []; earlier = earlier; split = refl; last = tt })
told_by (Changed version object) names earlier before = still _ names earlier tt before
told_by (Deleted kind key) names earlier before = still _ names earlier tt before
told_by (ListEnd group) names earlier before = still _ names earlier tt before
told_by Expired names earlier before = still _ names earlier tt before
told_by (Frame interface bytes) names earlier before = still _ names earlier tt before
told_by Ignored names earlier before = still _ names earlier tt before

members_told : (class : Option (List ℕ)) (events : List Event) → AreMembers (view_of class events).members events
members_told class [] = inr (refl, tt)
members_told class (event ∷ earlier) = told_by event _ earlier (members_told class earlier)

pub views_are_as_shown : ViewsAreAsShown
views_are_as_shown class events = record {
  class_is = view_class class events;
  held = subst (λ h. IsAsShown h (map Watched events)) (sym (view_held class events)) (all_is_as_shown (map Watched events));
  members = members_told class events;
}

pub view_limits_are_exact : ViewLimitsAreExact
view_limits_are_exact class events event kind count none =
    subst (λ (h : Cached). (limit_of h event ≡ Some (kind, count)) ↔ IsPastLimit (cached_after (Watched event) h) kind count)
    (sym (view_held class events)) (limits_are_exact (map Watched events) event kind count none)
