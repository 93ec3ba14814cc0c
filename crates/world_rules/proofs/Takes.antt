-- An event that is taken keeps what holds of a world.
use Rattle.std.proofs.Common.{◌≡◌, ℕ, Bool, true, false, cond, eqb, leb, not, List, [], ◌∷◌, ◌++◌, Option}
use Rattle.std.proofs.Common.{Some, None, option_map, IfSome, ◌⊎◌, inl, inr, refl, sym, ap, subst, ◌∙◌, leb-true, leb-false}
use Rattle.std.proofs.lemmas.Map.Entries.{option_filter}
use Rattle.std.specs.List.{AllByRecursion}
use Rattle.std.specs.List.Sorted.{IsStrictlySortedBy}
use Rattle.std.specs.Map.{keys_of}
use Rattle.std.specs.Option.{option_map_or}
use Rattle.kube_model.specs.declared.event.Event.{Event}
use Rattle.kube_model.specs.declared.event.Event.TheVariants.{Changed, Deleted, ListEnd, Expired, Members, Frame, Ignored}
use Rattle.kube_model.specs.declared.event.ListGroup.TheVariants as groups
use Rattle.kube_model.specs.declared.key.Key.{Key}
use Rattle.kube_model.specs.declared.object.Kind.TheVariants as kinds
use Rattle.kube_model.specs.declared.object.Object.TheVariants as objects
use Rattle.kube_model.specs.declared.record.Record.{Record}
use Rattle.kube_model.specs.declared.service.Service.{Service}
use Rattle.kube_model.specs.Keys.{key_cmp, same_key}
use Rattle.kube_model.proofs.KeyLaws.{key_cmp-total, same_key-is, is_eq-key_cmp}
use Rattle.versioned_map.specs.declared.map.Versioned.{Versioned}
use Rattle.versioned_map.specs.Objects.{held_at, version_at as version_held, listed}
use Rattle.versioned_map.proofs.HeldLaws.{held_at-shown, held_at-removed, held_at-listed}
use Rattle.claim_index.specs.Claims.{ClaimValue, records_in, records_of, claimed_by, settled, claims_of}
use Rattle.world_rules.proofs.ClaimRecords.{records-either, records_of-settled, records_of-others}
use Rattle.core_rules.specs.Core.{State, shown_terms}
use Rattle.core_rules.specs.Take.{core_by, core_take, shows, is_unlisted as was_unlisted}
use Rattle.core_rules.specs.Run.{Took, observed}
use Rattle.core_rules.proofs.Claims.{claims_of-kept}
use Rattle.core_rules.proofs.Effects.{by_effect, config-services, config-services_ended}
use Rattle.core_rules.proofs.Runs.{took-out, core_holds_what_was_observed}
use Rattle.core_laws.specs.Shared.{AllShowTerms}
use Rattle.core_laws.proofs.Orderly.{sorted-services}
use Rattle.world_rules.specs.Tracked.{Shown, Notice, Shows, Gone, End, version_at, is_unlisted, EndsOnce, MatchesClaims, IsTracked}
use Rattle.world_rules.specs.World.{WorldValue, told, untold, after_take}
use Rattle.world_rules.specs.Moves.{Tells, IsOld, entries_taken, after_move}
use Rattle.world_rules.specs.Good.{held_as, stored_of, held_of, notices_in, notices_of, IsTrackedIn, IsOfGroup, IsFollowed, IsGood}
use Rattle.world_rules.proofs.Tracking.{tracked-newer, tracked-older, tracked-gone, tracked-end}
use Rattle.world_rules.proofs.Lanes.{tracked-as, here-same}
use Rattle.sharing_terms.specs.declared.terms.Terms.{Terms}

-- ---- events of the list of services
module _ (P : Event → Type 0) (shown : (version : ℕ) (service : Service) → P (shows version service)) (gone : (key : Key) → P (Deleted kinds.Service key))
    (ended : P (ListEnd groups.Service))
  where
    pub by_service : (event : Event) → IsOfGroup groups.Service event → P event
    by_service (Changed version (objects.Service service)) of = shown version service
    by_service (Changed version (objects.Pool pool)) of = absurd (cc)
    by_service (Changed version (objects.L2 adv)) of = absurd (cc)
    by_service (Changed version (objects.Bgp adv)) of = absurd (cc)
    by_service (Changed version (objects.Peer peer)) of = absurd (cc)
    by_service (Changed version (objects.Community community)) of = absurd (cc)
    by_service (Changed version (objects.Namespace namespace)) of = absurd (cc)
    by_service (Changed version (objects.Node node)) of = absurd (cc)
    by_service (Changed version (objects.Slice slice)) of = absurd (cc)
    by_service (Deleted kinds.Service key) of = gone key
    by_service (Deleted kinds.Pool key) of = absurd (cc)
    by_service (Deleted kinds.L2 key) of = absurd (cc)
    by_service (Deleted kinds.Bgp key) of = absurd (cc)
    by_service (Deleted kinds.Peer key) of = absurd (cc)
    by_service (Deleted kinds.Community key) of = absurd (cc)
    by_service (Deleted kinds.Namespace key) of = absurd (cc)
    by_service (Deleted kinds.Node key) of = absurd (cc)
    by_service (Deleted kinds.Slice key) of = absurd (cc)
    by_service (ListEnd groups.Service) of = ended
    by_service (ListEnd groups.Config) of = absurd (cc)
    by_service (ListEnd groups.Endpoint) of = absurd (cc)
    by_service Expired of = absurd of
    by_service (Members names) of = absurd of
    by_service (Frame interface bytes) of = absurd of
    by_service Ignored of = absurd of

-- ---- one service, by what the event is about
pub held-version : (o : Option (Versioned Service)) → option_map_or (λ (v : Versioned Service). v.version) o 0 ≡ version_at (option_map held_as o)
held-version None = refl
held-version (Some v) = refl

-- old: the event isn't newer than what is held; b: it is about this service
shown_by : (old b : Bool) (n : ℕ) (ended : Bool) (st : Option Shown) (o : Option (Versioned Service)) (version : ℕ) (service : Service) (claims : List Record)
    (notices : List Notice)
    → (b ≡ true → leb version (version_at (option_map held_as o)) ≡ old)
    → IsTracked n ended st (option_map held_as o) claims (cond b (Shows (record { version = version; holding = service.holding }) ∷ []) [] ++ notices)
    → IsTracked n ended st (option_map held_as (cond old o (cond b (Some (record { version = version; object = service })) o)))
    (cond old claims (cond b (claimed_by service.holding) claims)) notices
shown_by true true n ended st o version service claims notices late t =
    tracked-older n ended st (option_map held_as o) (record { version = version; holding = service.holding }) claims notices
    (leb-true version (version_at (option_map held_as o)) (late refl)) t
shown_by false true n ended st o version service claims notices late t =
    tracked-newer n ended st (option_map held_as o) (record { version = version; holding = service.holding }) claims notices
    (leb-false version (version_at (option_map held_as o)) (late refl)) t
shown_by true false n ended st o version service claims notices late t = t
shown_by false false n ended st o version service claims notices late t = t

gone_by : (b : Bool) (n : ℕ) (ended : Bool) (st : Option Shown) (o : Option (Versioned Service)) (claims : List Record) (notices : List Notice)
    → IsTracked n ended st (option_map held_as o) claims (cond b (Gone ∷ []) [] ++ notices)
    → IsTracked n ended st (option_map held_as (cond b None o)) (cond b [] claims) notices
gone_by true n ended st o claims notices t = tracked-gone n ended st (option_map held_as o) claims notices t
gone_by false n ended st o claims notices t = t

end_at : (b : Bool) (n : ℕ) (st : Option Shown) (v : Versioned Service) (claims : List Record) (notices : List Notice)
    → IsTracked n true st (cond b None (Some (held_as v))) (cond b [] claims) notices
    → IsTracked n true st (option_map held_as (cond (not b) (Some v) None)) (cond b [] claims) notices
end_at true n st v claims notices t = t
end_at false n st v claims notices t = t

-- what is held after the list has ended
abbrev left_of : Option (Versioned Service) → Option (Versioned Service)
left_of o = option_filter (λ (v : Versioned Service). not (eqb v.version 0)) o

end_by : (n : ℕ) (st : Option Shown) (o : Option (Versioned Service)) (claims : List Record) (notices : List Notice)
    → IsTracked n false st (option_map held_as o) claims (End ∷ notices)
    → IsTracked n true st (option_map held_as (left_of o)) (cond (is_unlisted (option_map held_as o)) [] claims) notices
end_by n st None claims notices t = tracked-end n st None claims notices t
end_by n st (Some v) claims notices t = end_at (eqb v.version 0) n st v claims notices (tracked-end n st (Some (held_as v)) claims notices t)

pub not-ended : (b : Bool) (notices : List Notice) → EndsOnce b (End ∷ notices) → b ≡ false
not-ended true notices e = absurd e
not-ended false notices e = refl

-- what is unlisted then is what isn't held, or wasn't listed before
unlisted_at : (b : Bool) (v : Versioned Service) → eqb v.version 0 ≡ b
    → eqb (option_map_or (λ (x : Versioned Service). x.version) (cond (not b) (Some v) None) 0) 0 ≡ b
unlisted_at true v e = refl
unlisted_at false v e = e

unlisted_by : (o : Option (Versioned Service)) (claims : List Record) → (o ≡ None → claims ≡ [])
    → cond (eqb (option_map_or (λ (x : Versioned Service). x.version) (left_of o) 0) 0) [] claims ≡ cond (is_unlisted (option_map held_as o)) [] claims
unlisted_by None claims none = sym (none refl)
unlisted_by (Some v) claims none = ap (λ (b : Bool). cond b [] claims) (unlisted_at (eqb v.version 0) v refl)

pub claimed_by_new : (old : Bool) (key k : Key) (holding : Record) (terms : Terms) (claims : List ClaimValue)
    → records_of key (cond (not old) (settled k holding terms claims) claims)
    ≡ cond old (records_of key claims) (cond (same_key k key) (claimed_by holding) (records_of key claims))
claimed_by_new true key k holding terms claims = refl
claimed_by_new false key k holding terms claims = records_of-settled claims k key holding terms

-- ---- each service of the core
module _ (w : WorldValue) (s : State) (sorted : IsStrictlySortedBy key_cmp (keys_of s.held.services)) (lane : List Event) (key : Key) where
  abbrev here : Option (Versioned Service)
  here = held_at key_cmp s.held.services key

  abbrev WasTracked : Event → Type 0
  WasTracked event = IsTracked w.store.counter s.held.services_ended (stored_of w.store key) (held_of s key) (records_of key s.claims)
      (notices_of key event ++ notices_in key lane)

  abbrev NowTracked : State → Type 0
  NowTracked t = IsTracked w.store.counter t.held.services_ended (stored_of w.store key) (held_of t key) (records_of key t.claims) (notices_in key lane)

  service-shown : (version : ℕ) (service : Service) → WasTracked (Changed version (objects.Service service))
      → NowTracked (core_take s (Changed version (objects.Service service)))
  service-shown version service t =
      let old = leb version (version_held key_cmp s.held.services service.key) in
      let new : Versioned Service = record { version = version; object = service } in
      tracked-as _ _ _ _ refl
      (ap (option_map held_as)
      (held_at-shown key_cmp-total s.held.services service.key key version service
      ∙ ap (λ (b : Bool). cond old here (cond b (Some new) here)) (here-same key service.key)))
      (claimed_by_new old key service.key service.holding (shown_terms service) s.claims) refl
      (shown_by old (same_key service.key key) w.store.counter s.held.services_ended (stored_of w.store key) here version service (records_of key s.claims)
      (notices_in key lane)
      (λ same. ap (leb version) (sym (held-version here))
      ∙ ap (λ (k : Key). leb version (version_held key_cmp s.held.services k)) (sym (same_key-is service.key key same))) t)

  service-deleted : (gone : Key) → WasTracked (Deleted kinds.Service gone) → NowTracked (core_take s (Deleted kinds.Service gone))
  service-deleted gone t =
      tracked-as _ _ _ _ refl
      (ap (option_map held_as) (held_at-removed key_cmp-total s.held.services gone key sorted ∙ ap (λ (b : Bool). cond b None here) (is_eq-key_cmp gone key)))
      (records_of-others s.claims gone key) refl
      (gone_by (same_key gone key) w.store.counter s.held.services_ended (stored_of w.store key) here (records_of key s.claims) (notices_in key lane) t)

  none-claimed : (o : Option (Versioned Service)) → here ≡ o → WasTracked (ListEnd groups.Service) → o ≡ None → records_of key s.claims ≡ []
  none-claimed o e t none = subst (λ (x : Option (Versioned Service)). MatchesClaims (option_map held_as x) (records_of key s.claims)) (e ∙ none) t.kept

  services-ended : WasTracked (ListEnd groups.Service) → NowTracked (core_take s (ListEnd groups.Service))
  services-ended t =
      let left = held_at-listed key_cmp-total s.held.services key sorted in
      let unended = not-ended s.held.services_ended (notices_in key lane) t.ends in
      tracked-as _ _ _ _ refl
      (ap (option_map held_as) left)
      (ap records_in (claims_of-kept (was_unlisted (listed s.held.services)) s.claims key)
      ∙ records-either (was_unlisted (listed s.held.services) key) [] (claims_of key s.claims)
      ∙ ap (λ (o : Option (Versioned Service)). cond (eqb (option_map_or (λ (x : Versioned Service). x.version) o 0) 0) [] (records_of key s.claims)) left
      ∙ unlisted_by here (records_of key s.claims) (none-claimed here refl t)) refl
      (end_by w.store.counter (stored_of w.store key) here (records_of key s.claims) (notices_in key lane)
      (subst (λ (b : Bool). IsTracked w.store.counter b (stored_of w.store key) (held_of s key) (records_of key s.claims) (End ∷ notices_in key lane)) unended
      t))

  -- an event of the list of services
  service-event : (event : Event) → IsOfGroup groups.Service event → WasTracked event → NowTracked (core_take s event)
  service-event = by_service (λ (e : Event). WasTracked e → NowTracked (core_take s e)) service-shown service-deleted services-ended

-- ---- the core that takes it
-- what is held of the services, their list and their claims are as they were
abbrev pub HasSameServices : State → State → Type 0
HasSameServices t s = (t.held.services ≡ s.held.services) × (t.held.services_ended ≡ s.held.services_ended) × (t.claims ≡ s.claims)

-- an event of the list of the configuration leaves them so
pub config-event : (s : State) (event : Event) → IsOfGroup groups.Config event → HasSameServices (core_take s event) s
config-event s = by_effect (λ event c. IsOfGroup groups.Config event → HasSameServices (core_by c s event) s)
    (λ version service of. absurd (cc))
    (λ gone of. absurd (cc))
    (λ of. absurd (cc))
    (λ event c of. (config-services event s.held c, config-services_ended event s.held c, refl))
    (λ of. absurd of)
    (λ event of. (refl, refl, refl))

-- a service that is shown once more leaves the core as it is
pub shown-old : (s : State) (version : ℕ) (service : Service) → leb version (version_held key_cmp s.held.services service.key) ≡ true
    → core_take s (shows version service) ≡ s
shown-old s version service old = rw old refl

-- whatever the core is told leaves its services and their claims as they are
pub told-event : (s : State) (event : Event) → IsOfGroup groups.Config event ⊎ IsOld event (Some s) → HasSameServices (core_take s event) s
told-event s event (inl of) = config-event s event of
told-event s event (inr is) = subst (λ (t : State). HasSameServices t s) (sym is) (refl, refl, refl)

pub same-tracked : (counter : ℕ) (st : Option Shown) (notices : List Notice) (s t : State) (key : Key) → HasSameServices t s
    → IsTracked counter s.held.services_ended st (held_of s key) (records_of key s.claims) notices
    → IsTracked counter t.held.services_ended st (held_of t key) (records_of key t.claims) notices
same-tracked counter st notices s t key same k =
    subst (λ (b : Bool). IsTracked counter b st (held_of t key) (records_of key t.claims) notices) (sym same.1)
    (tracked-as _ _ _ _ refl (ap (λ (es : List (Key × Versioned Service)). option_map held_as (held_at key_cmp es key)) same.0) (ap (records_of key) same.2)
    refl k)

pub services-sorted : (w : WorldValue) (s : State) → IsFollowed w s → IsStrictlySortedBy key_cmp (keys_of s.held.services)
services-sorted w s up =
    sorted-services s (observed up.run) (ap (λ (t : State). t.held) (sym up.leads) ∙ (core_holds_what_was_observed w.class up.run up.is).0)

service-up : (w : WorldValue) (s : State) (event : Event) (lane : List Event) → w.service_lane ≡ event ∷ lane → AllShowTerms (Took event ∷ []) → IsFollowed w s
    → (let v : WorldValue = record w { service_lane = lane; core = Some (core_take s event) } in IsFollowed v (core_take s event))
service-up w s event lane is typed up =
    let of : AllByRecursion (IsOfGroup groups.Service) (event ∷ lane) = subst (AllByRecursion (IsOfGroup groups.Service)) is up.services in
    record {
      run = Took event ∷ up.run;
      is = (ap (λ (t : State). t.out) up.leads ∙ up.none_out, up.is);
      leads = ap (λ (t : State). core_take t event) up.leads;
      typed = (typed.0, up.typed);
      none_out = took-out s event ∙ up.none_out;
      services = of.1;
      tracked = λ key. service-event w s (services-sorted w s up) lane key event of.0
          (subst (λ (events : List Event). IsTracked w.store.counter s.held.services_ended (stored_of w.store key) (held_of s key) (records_of key s.claims)
          (notices_in key events)) is (up.tracked key));
    }

service_by : (w : WorldValue) (c : Option State) (lane : List Event) → w.service_lane ≡ lane → AllShowTerms (entries_taken c lane) → IfSome c (IsFollowed w)
    → (let v : WorldValue = record w { service_lane = untold c lane; core = told c lane } in IfSome (told c lane) (IsFollowed v))
service_by w None lane is typed up = tt
service_by w (Some s) [] is typed up =
    let none : WorldValue = record w { service_lane = []; core = Some s } in
    let same : (key : Key) → IsTrackedIn none s key = λ key.
    subst (λ (events : List Event). IsTracked w.store.counter s.held.services_ended (stored_of w.store key) (held_of s key) (records_of key s.claims)
    (notices_in key events)) is (up.tracked key) in
    record {
      run = up.run;
      is = up.is;
      leads = up.leads;
      typed = up.typed;
      none_out = up.none_out;
      services = tt;
      tracked = same;
    }
service_by w (Some s) (event ∷ lane) is typed up = service-up w s event lane is typed up

pub good-take : (w : WorldValue) → AllShowTerms (entries_taken w.core w.service_lane) → IsGood w → IsGood (after_take groups.Service w)
good-take w typed good = record { stored = good.stored; up = service_by w w.core w.service_lane refl typed good.up }

config-up : (w : WorldValue) (s : State) (event : Event) → IsOfGroup groups.Config event ⊎ IsOld event (Some s) → AllShowTerms (Took event ∷ []) → IsFollowed w s
    → (let v : WorldValue = record w { core = Some (core_take s event) } in IsFollowed v (core_take s event))
config-up w s event of typed up = record {
  run = Took event ∷ up.run;
  is = (ap (λ (t : State). t.out) up.leads ∙ up.none_out, up.is);
  leads = ap (λ (t : State). core_take t event) up.leads;
  typed = (typed.0, up.typed);
  none_out = took-out s event ∙ up.none_out;
  services = up.services;
  tracked = λ key.
      same-tracked w.store.counter (stored_of w.store key) (notices_in key w.service_lane) s (core_take s event) key (told-event s event of) (up.tracked key);
}

config_by : (w : WorldValue) (c : Option State) (event : Event) → IsOfGroup groups.Config event ⊎ IsOld event c → AllShowTerms (entries_taken c (event ∷ []))
    → IfSome c (IsFollowed w)
    → (let v : WorldValue = record w { core = option_map (λ s. core_take s event) c } in IfSome (option_map (λ s. core_take s event) c) (IsFollowed v))
config_by w None event of typed up = tt
config_by w (Some s) event of typed up = config-up w s event of typed up

-- whatever of the configuration is shown, or leaves the core as it is
pub good-tell : (event : Event) (w : WorldValue) → IsOfGroup groups.Config event ⊎ IsOld event w.core → AllShowTerms (entries_taken w.core (event ∷ [])) → IsGood w
    → IsGood (after_move (Tells event) w)
good-tell event w of typed good = record { stored = good.stored; up = config_by w w.core event of typed good.up }
