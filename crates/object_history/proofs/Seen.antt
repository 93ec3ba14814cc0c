-- What is last shown, as a function and by places.
use Rattle.std.proofs.Common.{◌≡◌, ℕ, ◌<◌, Bool, true, false, cond, ltb, eqb, ◌&&◌, ◌||◌, List, [], ◌∷◌, ◌++◌}
use Rattle.std.proofs.Common.{Option, Some, None, option_map, refl, sym, ap, subst, ◌∙◌, lt-ltb, ltb-true}
use Rattle.std.proofs.lemmas.Bool.{or_parts}
use Rattle.kube_model.specs.declared.event.Event.{Event}
use Rattle.versioned_map.specs.declared.map.Versioned.{Versioned}
use Rattle.object_history.specs.Kinds.{Resource}
use Rattle.object_history.specs.Observations.{Observation, Watched, WatchExpired, Written}
use Rattle.object_history.specs.LookBack.{event_object, object_in, deletes_key, ends_list, held_on, held_through, version_of}
use Rattle.object_history.specs.LookBack.{newer_than, seen_after, last_shown, version_last_shown, replaces, NoneReplaces, IsLastShown}

module _ {K T : Type 0} (resource : Resource K T) (key : K) where
  held_on_from : (observation : Observation) (before : Option (Versioned T)) (held : Versioned T)
      → option_map (held_on resource key observation) before ≡ Some held
      → (prev : Versioned T) × (before ≡ Some prev) × (held ≡ held_on resource key observation prev)
  held_on_from observation None held e = absurd (cc)
  held_on_from observation (Some prev) held e = (prev, refl, cc)

  -- one observation more
  abbrev Follows : Observation → List Observation → Versioned T → Type 0
  Follows observation earlier held = IsLastShown resource key held (observation ∷ earlier)

  told_now : (event : Event) (earlier : List Observation) (told : Versioned T) → event_object resource key event ≡ Some told
      → newer_than resource key (version_last_shown resource key earlier) (Some told) ≡ true
      → IsLastShown resource key told (Watched event ∷ earlier)
  told_now event earlier told e newer =
      record {
        later = [];
        event = event;
        earlier = earlier;
        object = told;
        split = refl;
        shown = e;
        newer = ltb-true (version_last_shown resource key earlier) told.version newer;
        kept = tt;
        held_is = refl;
      }

  newer_from : (observation : Observation) (earlier : List Observation) (held : Versioned T) → object_in resource key observation ≡ Some held
      → newer_than resource key (version_last_shown resource key earlier) (Some held) ≡ true
      → IsLastShown resource key held (observation ∷ earlier)
  newer_from (Watched event) earlier held e newer = told_now event earlier held e newer
  newer_from (WatchExpired group) earlier held e newer = absurd (cc)
  newer_from (Written k version holding) earlier held e newer = absurd (cc)

  kept_on : (observation : Observation) (earlier : List Observation) (prev held : Versioned T) → replaces resource key earlier observation ≡ false
      → held ≡ held_on resource key observation prev → IsLastShown resource key prev earlier → IsLastShown resource key held (observation ∷ earlier)
  kept_on observation earlier prev held same is i =
      record {
        later = observation ∷ i.later;
        event = i.event;
        earlier = i.earlier;
        object = i.object;
        split = ap (λ (l : List Observation). observation ∷ l) i.split;
        shown = i.shown;
        newer = i.newer;
        kept = (subst (λ (l : List Observation). replaces resource key l observation ≡ false) i.split same, i.kept);
        held_is = is ∙ ap (held_on resource key observation) i.held_is;
      }

  step_from : (newer gone : Bool) (observation : Observation) (earlier : List Observation) (told : Option (Versioned T)) (held : Versioned T)
      → told ≡ object_in resource key observation
      → newer ≡ newer_than resource key (version_last_shown resource key earlier) told
      → gone ≡ (deletes_key resource key observation || (ends_list resource.group observation && eqb (version_last_shown resource key earlier) 0))
      → ((prev : Versioned T) → last_shown resource key earlier ≡ Some prev → IsLastShown resource key prev earlier)
      → cond newer told (cond gone None (option_map (held_on resource key observation) (last_shown resource key earlier))) ≡ Some held
      → IsLastShown resource key held (observation ∷ earlier)
  step_from true gone observation earlier told held t n g ih e =
      newer_from observation earlier held (sym t ∙ e) (ap (newer_than resource key (version_last_shown resource key earlier)) (sym e) ∙ sym n)
  step_from false true observation earlier told held t n g ih e = absurd (cc)
  step_from false false observation earlier told held t n g ih e =
      let from = held_on_from observation (last_shown resource key earlier) held e in
      let older : newer_than resource key (version_last_shown resource key earlier) (object_in resource key observation) ≡ false =
      ap (newer_than resource key (version_last_shown resource key earlier)) (sym t) ∙ sym n in
      let same : replaces resource key earlier observation ≡ false = rw older (sym g) in
      kept_on observation earlier from.0 held same from.2 (ih from.0 from.1)

  -- the function finds what the relation says
  pub last_shown-is : (observations : List Observation) (held : Versioned T) → last_shown resource key observations ≡ Some held
      → IsLastShown resource key held observations
  last_shown-is [] held e = absurd (cc)
  last_shown-is (observation ∷ earlier) held e =
      step_from (newer_than resource key (version_last_shown resource key earlier) (object_in resource key observation))
      (deletes_key resource key observation || (ends_list resource.group observation && eqb (version_last_shown resource key earlier) 0))
      observation earlier (object_in resource key observation) held refl refl refl (λ prev. last_shown-is earlier prev) e

  shown_first : (told : Option (Versioned T)) (held : Versioned T) (before : ℕ) (rest : Option (Versioned T)) → told ≡ Some held → before < held.version
      → cond (newer_than resource key before told) told rest ≡ Some held
  shown_first None held before rest e newer = absurd (cc)
  shown_first (Some told) held before rest e newer =
      let same : told ≡ held = cc in
      let is : ltb before told.version ≡ true = subst (λ (v : Versioned T). ltb before v.version ≡ true) (sym same) (lt-ltb before held.version newer) in
      rw is e

  kept_through : (observation : Observation) (before : Option (Versioned T)) (prev : Versioned T) → before ≡ Some prev
      → (newer_than resource key (version_of resource key before) (object_in resource key observation)
      || (deletes_key resource key observation || (ends_list resource.group observation && eqb (version_of resource key before) 0))) ≡ false
      → seen_after resource key observation before ≡ Some (held_on resource key observation prev)
  kept_through observation before prev e same =
      let parts = or_parts (newer_than resource key (version_of resource key before) (object_in resource key observation))
      (deletes_key resource key observation || (ends_list resource.group observation && eqb (version_of resource key before) 0)) same in
      rw (parts.0, parts.1, e) refl

  shown_through : (later : List Observation) (event : Event) (earlier : List Observation) (told : Versioned T) → event_object resource key event ≡ Some told
      → version_last_shown resource key earlier < told.version → NoneReplaces resource key later (Watched event ∷ earlier)
      → last_shown resource key (later ++ Watched event ∷ earlier) ≡ Some (held_through resource key later told)
  shown_through [] event earlier told e newer kept = shown_first (event_object resource key event) told (version_last_shown resource key earlier) _ e newer
  shown_through (observation ∷ later) event earlier told e newer kept =
      kept_through observation (last_shown resource key (later ++ Watched event ∷ earlier)) (held_through resource key later told)
      (shown_through later event earlier told e newer kept.1) kept.0

  -- and the other way round
  pub is-last_shown : (observations : List Observation) (held : Versioned T) → IsLastShown resource key held observations
      → last_shown resource key observations ≡ Some held
  is-last_shown observations held i =
      ap (last_shown resource key) i.split ∙ shown_through i.later i.event i.earlier i.object i.shown i.newer i.kept
      ∙ ap (λ (held : Versioned T). Some held) (sym i.held_is)
