-- An event that is taken leaves fewer steps.
use Rattle.std.proofs.Common.{◌≡◌, ℕ, ◌+◌, ◌*◌, ◌≤◌, ◌<◌, Bool, true, false, cond, not, leb, eqb, List, [], ◌∷◌, ◌++◌, length}
use Rattle.std.proofs.Common.{Option, Some, None, option_map, refl, sym, ap, subst, ◌∙◌, arith}
use Rattle.std.proofs.lemmas.Bool.{true≢false, eqb-true}
use Rattle.std.proofs.lemmas.Map.Entries.{option_filter}
use Rattle.std.specs.List.{AllByRecursion, list_any}
use Rattle.std.specs.List.Sorted.{IsStrictlySortedBy}
use Rattle.std.specs.Map.{keys_of}
use Rattle.std.specs.Option.{option_map_or}
use Rattle.kube_model.specs.declared.event.Event.{Event}
use Rattle.kube_model.specs.declared.event.ListGroup.TheVariants as groups
use Rattle.kube_model.specs.declared.key.Key.{Key}
use Rattle.kube_model.specs.declared.service.Service.{Service}
use Rattle.kube_model.specs.Keys.{key_cmp, same_key}
use Rattle.kube_model.specs.Records.{empty_record, same_record}
use Rattle.kube_model.proofs.KeyLaws.{key_cmp-total, same_key-is, same_key-itself, is_eq-key_cmp}
use Rattle.versioned_map.specs.declared.map.Versioned.{Versioned}
use Rattle.versioned_map.specs.Objects.{held_at, object_at, version_at as version_held}
use Rattle.versioned_map.proofs.HeldLaws.{held_at-shown, held_at-removed, held_at-listed}
use Rattle.status_store.specs.Changes.{StoreValue}
use Rattle.object_history.specs.LookBack.{event_ends_list}
use Rattle.core_rules.specs.Core.{State, is_ready}
use Rattle.core_rules.specs.Take.{Effect, effect_of, core_by, core_take}
use Rattle.core_rules.proofs.Effects.{by_effect, config-services}
use Rattle.core_laws.specs.Queue.{IsOrderlyQueue}
use Rattle.world_rules.specs.Good.{stored_of, held_as, held_of, notices_in, notices_of, IsOfGroup, IsTrackedIn, IsFollowed}
use Rattle.world_rules.specs.Tracked.{Shown, Notice, Shows, Gone, IsBehind, Follows, AreOld}
use Rattle.world_rules.specs.World.{WorldValue}
use Rattle.world_rules.proofs.Following.{Follows-old, leb-older, eqb-apart}
use Rattle.world_rules.proofs.Lanes.{here-same}
use Rattle.world_rules.proofs.Takes.{services-sorted}
use Rattle.settling_laws.specs.Clear.{at_one_version, is_current}
use Rattle.settling_laws.specs.Settling.{behind_end, doubts_in}
use Rattle.settling_laws.proofs.Left.{are_news, news_among, late_among, has_record, turns_for, turns_in, steps_for}
use Rattle.settling_laws.proofs.Numbers.{fewer-each, two-fewer, fall-taken}
use Rattle.settling_laws.proofs.Counts.{took-services, queue-few, turns-few, news-less, late-less}
use Rattle.settling_laws.proofs.Doubted.{took-doubts}

-- ---- what is current
-- The service is stored and held, at one version.
pub record IsAtOne (a : Option Shown) (o : Option (Versioned Service)) : Type 0 where
  pub x : Shown
  pub held : Versioned Service
  pub stored : a ≡ Some x
  pub there : o ≡ Some held
  pub same : held.version ≡ x.version

at_one : (a : Option Shown) (o : Option (Versioned Service)) → at_one_version a (option_map held_as o) ≡ true → IsAtOne a o
at_one None o e = absurd (true≢false (sym e))
at_one (Some x) None e = absurd (true≢false (sym e))
at_one (Some x) (Some v) e = record { x = x; held = v; stored = refl; there = refl; same = eqb-true v.version x.version e }

module _ (store : StoreValue) (s : State) (key : Key) where
  abbrev here : Option (Versioned Service)
  here = held_at key_cmp s.held.services key

  pub current-at : is_current store s key ≡ true → IsAtOne (stored_of store key) here
  current-at e = at_one (stored_of store key) here e

-- ---- what is current stays as it is
shown_by : (old same : Bool) (o : Option (Versioned Service)) (new : Versioned Service) → (same ≡ true → old ≡ true)
    → cond old o (cond same (Some new) o) ≡ o
shown_by true same o new late = refl
shown_by false true o new late = absurd (true≢false (sym (late refl)))
shown_by false false o new late = refl

gone_by : (same : Bool) (v : ℕ) (o : Option (Versioned Service)) (more : List Notice) → AreOld v (cond same (Gone ∷ []) [] ++ more) → cond same None o ≡ o
gone_by true v o more old = absurd old
gone_by false v o more old = refl

version-of : (b : Bool) (v n : ℕ) (record_of : Shown) (more : List Notice) → b ≡ true → AreOld n (cond b (Shows record_of ∷ []) [] ++ more) → record_of.version ≤ n
version-of true v n x more e old = old.0
version-of false v n x more e old = absurd (cc)

not-false : (b : Bool) → not b ≡ false → b ≡ true
not-false true e = refl
not-false false e = absurd (true≢false e)

left_by : (b : Bool) (v : Versioned Service) → b ≡ false → cond (not b) (Some v) None ≡ Some v
left_by true v e = absurd (true≢false e)
left_by false v e = refl

module _ (s : State) (sorted : IsStrictlySortedBy key_cmp (keys_of s.held.services)) (key : Key) (h : Versioned Service)
    (held : held_at key_cmp s.held.services key ≡ Some h) (later : 0 < h.version) (more : List Notice)
  where
    pub same-held : (event : Event) → IsOfGroup groups.Service event → AreOld h.version (notices_of key event ++ more)
        → held_at key_cmp (core_take s event).held.services key ≡ held_at key_cmp s.held.services key
    same-held = by_effect (λ event c. IsOfGroup groups.Service event → AreOld h.version (notices_of key event ++ more)
        → held_at key_cmp (core_by c s event).held.services key ≡ held_at key_cmp s.held.services key)
        (λ version service of old.
        let new : Versioned Service = record { version = version; object = service } in
        let x : Shown = record { version = version; holding = service.holding } in
        held_at-shown key_cmp-total s.held.services service.key key version service
        ∙ ap (λ (b : Bool). cond (leb version (version_held key_cmp s.held.services service.key)) (held_at key_cmp s.held.services key)
        (cond b (Some new) (held_at key_cmp s.held.services key))) (here-same key service.key)
        ∙ shown_by (leb version (version_held key_cmp s.held.services service.key)) (same_key service.key key) (held_at key_cmp s.held.services key) new
        (λ same.
        let at : version_held key_cmp s.held.services service.key ≡ h.version =
        ap (λ (k : Key). version_held key_cmp s.held.services k) (same_key-is service.key key same)
        ∙ ap (λ (o : Option (Versioned Service)). option_map_or (λ (v : Versioned Service). v.version) o 0) held in
        let le : version ≤ h.version = version-of (same_key service.key key) 0 h.version x more same old in
        ap (leb version) at ∙ leb-older version h.version le))
        (λ gone of old.
        held_at-removed key_cmp-total s.held.services gone key sorted
        ∙ ap (λ (b : Bool). cond b None (held_at key_cmp s.held.services key)) (is_eq-key_cmp gone key)
        ∙ gone_by (same_key gone key) h.version (held_at key_cmp s.held.services key) more old)
        (λ of old.
        held_at-listed key_cmp-total s.held.services key sorted
        ∙ ap (option_filter (λ (v : Versioned Service). not (eqb v.version 0))) held
        ∙ left_by (eqb h.version 0) h (eqb-apart h.version later)
        ∙ sym held)
        (λ event c of old. ap (λ (es : List (Key × Versioned Service)). held_at key_cmp es key) (config-services event s.held c))
        (λ of. absurd of)
        (λ event of old. refl)

-- ---- an event of the services
module _ (w : WorldValue) (s : State) (event : Event) (lane : List Event) (is : w.service_lane ≡ event ∷ lane) (up : IsFollowed w s) where
  of : IsOfGroup groups.Service event
  of = (subst (AllByRecursion (IsOfGroup groups.Service)) is up.services).0

  abbrev pending : Key → List Notice
  pending key = notices_of key event ++ notices_in key lane

  -- of a current service nothing is pending but what is old
  old : (key : Key) → (c : IsAtOne (stored_of w.store key) (held_at key_cmp s.held.services key)) → (0 < c.held.version) × AreOld c.held.version (pending key)
  old key c =
      let t : IsTrackedIn w s key = up.tracked key in
      let pos : 0 < c.x.version = subst (λ (a : Option Shown). IsBehind a 0) c.stored t.stored_later in
      let follows : Follows (Some c.x) (Some (held_as c.held)) (pending key) =
      subst (λ (a : Option Shown). Follows a (Some (held_as c.held)) (pending key)) c.stored
      (subst (λ (o : Option (Versioned Service)). Follows (stored_of w.store key) (option_map held_as o) (pending key)) c.there
      (subst (λ (events : List Event). Follows (stored_of w.store key) (held_of s key) (notices_in key events)) is t.follows)) in
      let old : AreOld c.x.version (pending key) = (Follows-old c.x (held_as c.held) (pending key) c.same pos follows).0 in
      (rw c.same pos, rw c.same old)

  stays : (key : Key) → is_current w.store s key ≡ true → is_current w.store (core_take s event) key ≡ true
  stays key e =
      let c = current-at w.store s key e in
      let o = old key c in
      ap (λ (x : Option (Versioned Service)). at_one_version (stored_of w.store key) (option_map held_as x))
      (same-held s (services-sorted w s up) key c.held c.there o.0 (notices_in key lane) event of o.1)
      ∙ e

  -- what is no news changes neither services nor the queue nor the claims
  pub record IsPassedOver (e : Event) (c : Effect) : Type 0 where
    pub services : (core_by c s e).held.services ≡ s.held.services
    pub queue : (core_by c s e).queue ≡ s.queue
    pub claims : (core_by c s e).claims ≡ s.claims

  abbrev AreOldFor : Event → Type 0
  AreOldFor e = (key : Key) → is_current w.store s key ≡ true → AreOld (version_held key_cmp s.held.services key) (notices_of key e ++ notices_in key lane)

  old-for : AreOldFor event
  old-for key e =
      let c = current-at w.store s key e in
      subst (λ (n : ℕ). AreOld n (pending key)) (sym (ap (λ (o : Option (Versioned Service)). option_map_or (λ (v : Versioned Service). v.version) o 0) c.there))
      (old key c).1

  passed-over : (e : Event) → AreOldFor e → are_news w.store s (effect_of e) ≡ false → IsPassedOver e (effect_of e)
  passed-over = by_effect (λ e c. AreOldFor e → are_news w.store s c ≡ false → IsPassedOver e c)
      (λ version service olds no.
      let x : Shown = record { version = version; holding = service.holding } in
      let current : is_current w.store s service.key ≡ true = not-false (is_current w.store s service.key) no in
      let le : version ≤ version_held key_cmp s.held.services service.key =
      version-of (same_key service.key service.key) 0 (version_held key_cmp s.held.services service.key) x (notices_in service.key lane)
      (same_key-itself service.key) (olds service.key current) in
      let late : leb version (version_held key_cmp s.held.services service.key) ≡ true = leb-older version (version_held key_cmp s.held.services service.key) le in
      record { services = rw late refl; queue = rw late refl; claims = rw late refl })
      (λ gone olds no. absurd (true≢false no))
      (λ olds no. absurd (true≢false no))
      (λ e c olds no. absurd (true≢false no))
      (λ olds no. absurd (true≢false no))
      (λ e olds no. absurd (true≢false no))

  abbrev t : State
  t = core_take s event

  module _ (next : IsOrderlyQueue t) (ready_late : list_any (event_ends_list groups.Service) lane ≡ true → is_ready t.held ≡ false) where
    turns-then : turns_in t ≤ 2 * length t.held.services
    turns-then = turns-few (length t.held.services) (has_record t.held) t.queue (queue-few t next)

    -- ahead of the end of the list nothing is queued
    early-turns : list_any (event_ends_list groups.Service) lane ≡ true → turns_in t ≡ 0
    early-turns early = ap (turns_for (length t.held.services) (has_record t.held)) (next.empty_unready (ready_late early))

    abbrev before : ℕ
    before = behind_end groups.Config w.config_lane

    abbrev doubts : ℕ
    doubts = length (doubts_in s)

    abbrev Falls : ℕ → ℕ → Type 0
    Falls news late =
        steps_for (length t.held.services + news_among w.store t lane) (before + late_among w.store t lane) (length (doubts_in t)) (turns_in t)
        (length w.config_lane + length lane)
        < steps_for (length s.held.services + (news + news_among w.store s lane)) (before + (late + late_among w.store s lane)) doubts (turns_in s)
        (length w.config_lane + length (event ∷ lane))

    less : news_among w.store t lane ≤ news_among w.store s lane
    less = news-less w.store w.store s t stays lane

    later : late_among w.store t lane ≤ late_among w.store s lane
    later = late-less w.store w.store s t stays lane

    doubts-less : length (doubts_in t) ≤ doubts
    doubts-less = took-doubts s (services-sorted w s up) event

    news_fall : (ends : Bool) → list_any (event_ends_list groups.Service) lane ≡ ends → Falls 1 (cond ends 0 1)
    news_fall true early =
        let one = took-services s event in
        let none = early-turns early in
        let a = fewer-each (length s.held.services + (1 + news_among w.store s lane)) (2 * (before + (0 + late_among w.store s lane)) + doubts)
        (length t.held.services + news_among w.store t lane) (2 * (before + late_among w.store t lane) + length (doubts_in t))
        (omega (arith, one, less)) (omega (arith, later, doubts-less)) in
        fall-taken ((length s.held.services + (1 + news_among w.store s lane)) * (2 * (before + (0 + late_among w.store s lane)) + doubts)) (turns_in s)
        (length w.config_lane + length (event ∷ lane))
        ((length t.held.services + news_among w.store t lane) * (2 * (before + late_among w.store t lane) + length (doubts_in t))) (turns_in t)
        (length w.config_lane + length lane) (omega (arith, a, none)) (omega arith)
    news_fall false late =
        let one = took-services s event in
        let few = turns-then in
        let a = two-fewer (length s.held.services + (1 + news_among w.store s lane)) (2 * (before + (1 + late_among w.store s lane)) + doubts)
        (length t.held.services + news_among w.store t lane) (2 * (before + late_among w.store t lane) + length (doubts_in t))
        (omega (arith, one, less)) (omega (arith, later, doubts-less)) in
        fall-taken ((length s.held.services + (1 + news_among w.store s lane)) * (2 * (before + (1 + late_among w.store s lane)) + doubts)) (turns_in s)
        (length w.config_lane + length (event ∷ lane))
        ((length t.held.services + news_among w.store t lane) * (2 * (before + late_among w.store t lane) + length (doubts_in t))) (turns_in t)
        (length w.config_lane + length lane) (omega (arith, a, few)) (omega arith)

    echo_fall : are_news w.store s (effect_of event) ≡ false → Falls 0 0
    echo_fall e =
        let same = passed-over event old-for e in
        let as_many = ap length same.services in
        let turns : turns_in t ≡ turns_in s =
        ap (λ (es : List (Key × Versioned Service)). turns_for (length es) (λ key. option_map_or (λ (x : Service). not (same_record x.holding empty_record))
        (object_at key_cmp es key) false) t.queue) same.services
        ∙ ap (turns_for (length s.held.services) (has_record s.held)) same.queue in
        let a = fewer-each (length s.held.services + (0 + news_among w.store s lane)) (2 * (before + (0 + late_among w.store s lane)) + doubts)
        (length t.held.services + news_among w.store t lane) (2 * (before + late_among w.store t lane) + length (doubts_in t))
        (omega (arith, as_many, less)) (omega (arith, later, doubts-less)) in
        fall-taken ((length s.held.services + (0 + news_among w.store s lane)) * (2 * (before + (0 + late_among w.store s lane)) + doubts)) (turns_in s)
        (length w.config_lane + length (event ∷ lane))
        ((length t.held.services + news_among w.store t lane) * (2 * (before + late_among w.store t lane) + length (doubts_in t))) (turns_in t)
        (length w.config_lane + length lane) (omega (arith, a, turns)) (omega arith)

    falls_by : (b : Bool) → are_news w.store s (effect_of event) ≡ b
        → Falls (cond b 1 0) (cond b (cond (list_any (event_ends_list groups.Service) lane) 0 1) 0)
    falls_by true e = news_fall (list_any (event_ends_list groups.Service) lane) refl
    falls_by false e = echo_fall e

    pub service-fall : Falls (cond (are_news w.store s (effect_of event)) 1 0)
        (cond (are_news w.store s (effect_of event)) (cond (list_any (event_ends_list groups.Service) lane) 0 1) 0)
    service-fall = falls_by (are_news w.store s (effect_of event)) refl

-- ---- an event of the configuration
module _ (w : WorldValue) (s : State) (event : Event) (lane : List Event) (of : IsOfGroup groups.Config event) (up : IsFollowed w s)
    (next : IsOrderlyQueue (core_take s event))
    (ready_late : list_any (event_ends_list groups.Config) lane ≡ true → is_ready (core_take s event).held ≡ false)
  where
    same-services : (core_take s event).held.services ≡ s.held.services
    same-services = by_effect (λ e c. IsOfGroup groups.Config e → (core_by c s e).held.services ≡ s.held.services)
        (λ version service of. absurd (cc)) (λ gone of. absurd (cc)) (λ of. absurd (cc)) (λ e c of. config-services e s.held c) (λ of. absurd of) (λ e of. refl)
        event of

    config-stays : (key : Key) → is_current w.store s key ≡ true → is_current w.store (core_take s event) key ≡ true
    config-stays key e =
        ap (λ (es : List (Key × Versioned Service)). at_one_version (stored_of w.store key) (option_map held_as (held_at key_cmp es key))) same-services ∙ e

    abbrev u : State
    u = core_take s event

    abbrev FallsConfig : ℕ → Type 0
    FallsConfig late =
        steps_for (length u.held.services + news_among w.store u w.service_lane) (behind_end groups.Config lane + late_among w.store u w.service_lane)
        (length (doubts_in u)) (turns_in u) (length lane + length w.service_lane)
        < steps_for (length s.held.services + news_among w.store s w.service_lane)
        ((late + behind_end groups.Config lane) + late_among w.store s w.service_lane) (length (doubts_in s)) (turns_in s)
        (length (event ∷ lane) + length w.service_lane)

    config_by : (ends : Bool) → list_any (event_ends_list groups.Config) lane ≡ ends → FallsConfig (cond ends 0 1)
    config_by true early =
        let as_many = ap length same-services in
        let less = news-less w.store w.store s u config-stays w.service_lane in
        let later = late-less w.store w.store s u config-stays w.service_lane in
        let fewer = took-doubts s (services-sorted w s up) event in
        let none : turns_in u ≡ 0 = ap (turns_for (length u.held.services) (has_record u.held)) (next.empty_unready (ready_late early)) in
        let a = fewer-each (length s.held.services + news_among w.store s w.service_lane)
        (2 * ((0 + behind_end groups.Config lane) + late_among w.store s w.service_lane) + length (doubts_in s))
        (length u.held.services + news_among w.store u w.service_lane)
        (2 * (behind_end groups.Config lane + late_among w.store u w.service_lane) + length (doubts_in u))
        (omega (arith, as_many, less)) (omega (arith, later, fewer)) in
        fall-taken ((length s.held.services + news_among w.store s w.service_lane)
        * (2 * ((0 + behind_end groups.Config lane) + late_among w.store s w.service_lane) + length (doubts_in s))) (turns_in s)
        (length (event ∷ lane) + length w.service_lane)
        ((length u.held.services + news_among w.store u w.service_lane)
        * (2 * (behind_end groups.Config lane + late_among w.store u w.service_lane) + length (doubts_in u))) (turns_in u)
        (length lane + length w.service_lane) (omega (arith, a, none)) (omega arith)
    config_by false late =
        let as_many = ap length same-services in
        let less = news-less w.store w.store s u config-stays w.service_lane in
        let later = late-less w.store w.store s u config-stays w.service_lane in
        let fewer = took-doubts s (services-sorted w s up) event in
        let few = turns-few (length u.held.services) (has_record u.held) u.queue (queue-few u next) in
        let a = two-fewer (length s.held.services + news_among w.store s w.service_lane)
        (2 * ((1 + behind_end groups.Config lane) + late_among w.store s w.service_lane) + length (doubts_in s))
        (length u.held.services + news_among w.store u w.service_lane)
        (2 * (behind_end groups.Config lane + late_among w.store u w.service_lane) + length (doubts_in u))
        (omega (arith, as_many, less)) (omega (arith, later, fewer)) in
        fall-taken ((length s.held.services + news_among w.store s w.service_lane)
        * (2 * ((1 + behind_end groups.Config lane) + late_among w.store s w.service_lane) + length (doubts_in s))) (turns_in s)
        (length (event ∷ lane) + length w.service_lane)
        ((length u.held.services + news_among w.store u w.service_lane)
        * (2 * (behind_end groups.Config lane + late_among w.store u w.service_lane) + length (doubts_in u))) (turns_in u)
        (length lane + length w.service_lane) (omega (arith, a, few)) (omega arith)

    pub config-fall : FallsConfig (cond (list_any (event_ends_list groups.Config) lane) 0 1)
    config-fall = config_by (list_any (event_ends_list groups.Config) lane) refl
