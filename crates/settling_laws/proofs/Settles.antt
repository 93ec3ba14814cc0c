-- A world in which no put was refused for good settles by what is stored.
use Rattle.std.proofs.Common.{◌≡◌, ℕ, ◌+◌, ◌≤◌, Bool, true, false, cond, not, ◌&&◌, ◌||◌, eqb, is_some, List, [], ◌∷◌, ◌++◌}
use Rattle.std.proofs.Common.{Option, Some, None, option_map, IfSome, refl, sym, ap, subst, ◌∙◌, arith}
use Rattle.std.proofs.lemmas.Bool.{true≢false, eqb-true, or_from}
use Rattle.std.proofs.lemmas.Bool.Decides.{nat_tests}
use Rattle.std.specs.List.{AllByRecursion, Contains}
use Rattle.std.specs.Option.{option_map_or}
use Rattle.mlb_base.proofs.Among.{contains-first}
use Rattle.kube_model.specs.declared.event.Event.{Event}
use Rattle.kube_model.specs.declared.event.ListGroup.TheVariants as groups
use Rattle.kube_model.specs.declared.key.Key.{Key}
use Rattle.kube_model.specs.declared.object.Object.TheVariants as objects
use Rattle.kube_model.specs.declared.put.Put.{Put}
use Rattle.kube_model.specs.declared.reply.PutReply.{PutReply}
use Rattle.kube_model.specs.declared.reply.PutReply.TheVariants as replies
use Rattle.kube_model.specs.declared.service.Service.{Service}
use Rattle.kube_model.specs.Keys.{key_cmp, same_key, has_key}
use Rattle.kube_model.specs.Service.{with_holding}
use Rattle.kube_model.proofs.KeyLaws.{key_cmp-total, same_key-is, same_key-itself, is_eq-key_cmp}
use Rattle.versioned_map.specs.declared.map.Versioned.{Versioned}
use Rattle.versioned_map.specs.Objects.{held_at, amended_at}
use Rattle.versioned_map.proofs.HeldLaws.{held_at-amended}
use Rattle.pool_config.specs.ConfigValue.{ConfigValue}
use Rattle.claim_index.specs.Claims.{ClaimValue, Holders, claims_of, holders}
use Rattle.status_store.specs.declared.change.Outcome.{Outcome}
use Rattle.status_store.specs.declared.change.Outcome.TheVariants.{Delivered, Lost, Refused}
use Rattle.status_store.specs.declared.stored.Stored.{Stored}
use Rattle.status_store.specs.Places.{service_at}
use Rattle.status_store.specs.Objects.{IsStored, stored_at}
use Rattle.status_store.specs.Changes.{StoreValue, recorded as stored_with_record, with_put, is_made, is_at_version, after_put, delivered_reply, reply_to}
use Rattle.status_store.proofs.StoredLaws.{found-stored, stored-found}
use Rattle.core_rules.specs.Core.{State, is_ready, is_settled, service_of, offer_in}
use Rattle.core_rules.specs.Turn.{core_turn, after_turn, put_in}
use Rattle.core_rules.specs.Replied.{replied, replied_to}
use Rattle.core_laws.specs.Queue.{IsOrderlyQueue}
use Rattle.core_laws.specs.Certain.{IsCertain}
use Rattle.core_laws.specs.Quiet.{MeetsRow, is_put_of}
use Rattle.core_laws.proofs.Certain.{runs_are_certain}
use Rattle.core_laws.proofs.Puts.{IsWanted, wanted-of, held-of}
use Rattle.core_laws.proofs.Queued.{queues_are_orderly}
use Rattle.core_laws.proofs.QuietRuns.{wants-some}
use Rattle.core_laws.proofs.Rows.{has_key-append}
use Rattle.world_rules.specs.declared.step.Step.{Step}
use Rattle.world_rules.specs.declared.step.Step.TheVariants.{Edit as Edits, Take, Turn as Turns, Crash, Restart, Expire}
use Rattle.world_rules.specs.Good.{stored_as, stored_of, held_as, held_of, IsOfGroup, IsFollowed, IsGood, IsOwn}
use Rattle.world_rules.specs.Tracked.{Shown, version_at}
use Rattle.world_rules.specs.World.{WorldValue, after_turning, put_by, told, turned, world_step}
use Rattle.world_rules.proofs.Own.{steps_are_moves, steps_keep_own}
use Rattle.world_rules.proofs.Places.{worlds_are_in_order}
use Rattle.world_rules.proofs.Storing.{service-at, stored_at-recorded}
use Rattle.world_rules.proofs.Takes.{services-sorted}
use Rattle.world_rules.proofs.Worlds.{steps_keep_good}
use Rattle.settling_laws.specs.Clear.{at_one_version, is_current, IsClear, IsSureOutcome, AreClear, claims_with, claims_by, recorded}
use Rattle.settling_laws.specs.Settling.{IsOwnStep, IsSettled, IsSettledAsStored, ControllersSettle}
use Rattle.settling_laws.proofs.Clear.{IsClearBy, clear-as, took-clear, told-clear}
use Rattle.settling_laws.proofs.Copies.{moves_keep_copies}
use Rattle.settling_laws.proofs.Ends.{own-terms}
use Rattle.settling_laws.proofs.Rest.{rest_is_settled}

eqb-itself : (n : ℕ) → eqb n n ≡ true
eqb-itself n = grind (arith, nat_tests)

none-some : {X : Type 0} (x : X) → None ≡ Some x → ⊥
none-some x e = absurd (cc)

newer-apart : (o : Option (Versioned Service)) (given : Stored) (n : ℕ) → given.version ≡ n + 1 → version_at (option_map held_as o) ≤ n
    → at_one_version (Some (stored_as given)) (option_map held_as o) ≡ true → ⊥
newer-apart None given n new low current = true≢false (sym current)
newer-apart (Some v) given n new low current = let same = eqb-true v.version given.version current in absurd (omega (arith, same, new, low))

-- an object is stored at a version that wasn't given before
pub set_by : (same : Bool) (st : Option Stored) (o : Option (Versioned Service)) (awaits : Bool) (given : Stored) (n : ℕ)
    → given.version ≡ n + 1 → version_at (option_map held_as o) ≤ n → IsClearBy (option_map stored_as st) o awaits
    → IsClearBy (option_map stored_as (cond same (Some given) st)) o awaits
set_by true st o awaits given n new low clear = record { at = λ current. absurd (newer-apart o given n new low current) }
set_by false st o awaits given n new low clear = clear

-- ---- turns
refused_by : (same : Bool) (k key : Key) (st : Option Shown) (o : Option (Versioned Service)) (awaiting : List Key)
    → same_key k key ≡ same → (same ≡ true → at_one_version st (option_map held_as o) ≡ true → ⊥) → IsClearBy st o (has_key awaiting key)
    → IsClearBy st o (has_key (awaiting ++ k ∷ []) key)
refused_by true k key st o awaiting e apart clear = record { at = λ current. absurd (apart refl current) }
refused_by false k key st o awaiting e apart clear = record {
  at = λ current. has_key-append awaiting (k ∷ []) key
      ∙ or_from (has_key awaiting key) (has_key (k ∷ []) key) (clear.at current) (or_from (same_key k key) false e refl);
}

stored_by : (same : Bool) (st : Option Stored) (o : Option (Versioned Service)) (awaits : Bool) (given : Stored) (new : Versioned Service)
    → (same ≡ true → awaits ≡ false) → IsClearBy (option_map stored_as st) o awaits
    → IsClearBy (option_map stored_as (cond same (Some given) st)) (cond same (Some new) o) awaits
stored_by true st o awaits given new now clear = record { at = λ _. now refl }
stored_by false st o awaits given new now clear = clear

module _ (w : WorldValue) (s : State) (up : IsFollowed w s) (clear : (key : Key) → IsClear w.store s key) where
  orderly : IsOrderlyQueue s
  orderly = subst IsOrderlyQueue up.leads (queues_are_orderly w.class up.run up.is)

  -- ---- a put of which no reply comes
  module _ (put : Put) where
    abbrev Unheard : Bool → Option Stored → Type 0
    Unheard b found =
        (key : Key) → IsClearBy (option_map stored_as (stored_at (cond b (with_put (w.store.counter + 1) put found w.store.objects) w.store.objects)
        (service_at key))) (held_at key_cmp s.held.services key) (has_key s.awaiting key)

    lost_as : (b : Bool) (found : Option Stored) → stored_at w.store.objects (service_at put.key) ≡ found → Unheard b found
    lost_as false found is key = record { at = clear key }
    lost_as true None is key = record { at = clear key }
    lost_as true (Some g) is key =
        let given : Stored = stored_with_record (w.store.counter + 1) put.holding g in
        clear-as _ _ _ (ap (option_map stored_as) (stored_at-recorded w.store.objects g put.key key put.holding (w.store.counter + 1) is)) refl refl
        (set_by (same_key put.key key) (stored_at w.store.objects (service_at key)) (held_at key_cmp s.held.services key) (has_key s.awaiting key) given
        w.store.counter refl (up.tracked key).held_given (record { at = clear key }))

    pub lost-clear : (outcome : Outcome) → Unheard (is_made put outcome w.store.objects) (stored_at w.store.objects (service_at put.key))
    lost-clear outcome = lost_as (is_made put outcome w.store.objects) (stored_at w.store.objects (service_at put.key)) refl

  module _ (put : Put) (wants : put_in (core_turn s) ≡ Some put) where
    wanted : IsWanted s put (wants-some (core_turn s) put wants).0 s.queue
    wanted = let some = wants-some (core_turn s) put wants in wanted-of s s.queue put some.0 (sym some.1)

    abbrev there : (h : Versioned Service) × (held_at key_cmp s.held.services put.key ≡ Some h)
    there = let is = held-of (held_at key_cmp s.held.services put.key) wanted.service wanted.found in (is.0, is.1)

    abbrev h : Versioned Service
    h = there.0

    version-is : put.version ≡ h.version
    version-is = wanted.version_is ∙ ap (λ (o : Option (Versioned Service)). option_map_or (λ (v : Versioned Service). v.version) o 0) there.1

    abbrev Result : Bool → Option Stored → PutReply → Type 0
    Result b found reply =
        let t = replied (after_turn s) put reply in
        (key : Key) → IsClearBy (option_map stored_as (stored_at (cond b (with_put (w.store.counter + 1) put found w.store.objects) w.store.objects)
        (service_at key))) (held_at key_cmp t.held.services key) (has_key t.awaiting key)

    refused-result : (found : Option Stored) → (is_current w.store s put.key ≡ true → ⊥) → Result false found replies.Stale × Result false found replies.Missing
    refused-result found apart =
        let all : (key : Key) → IsClearBy (stored_of w.store key) (held_at key_cmp s.held.services key) (has_key (s.awaiting ++ put.key ∷ []) key) = λ key.
        refused_by (same_key put.key key) put.key key (stored_of w.store key) (held_at key_cmp s.held.services key) s.awaiting refl
        (λ same current. apart (ap (is_current w.store s) (same_key-is put.key key same) ∙ current)) (record { at = clear key }) in
        (all, all)

    module _ (g : Stored) (found : stored_at w.store.objects (service_at put.key) ≡ Some g) where
      stale : eqb g.version put.version ≡ false → is_current w.store s put.key ≡ true → ⊥
      stale other current =
          let here : eqb h.version g.version ≡ true =
          ap (λ (o : Option (Versioned Service)). at_one_version (Some (stored_as g)) (option_map held_as o)) (sym there.1)
          ∙ ap (λ (o : Option Stored). at_one_version (option_map stored_as o) (held_of s put.key)) (sym found)
          ∙ current in
          let same : g.version ≡ put.version = sym (eqb-true h.version g.version here) ∙ sym version-is in
          true≢false (sym (eqb-itself g.version) ∙ ap (eqb g.version) same ∙ other)

      abbrev next : ℕ
      next = w.store.counter + 1

      abbrev given : Stored
      given = stored_with_record next put.holding g

      abbrev new : Versioned Service
      new = record { version = next; object = with_holding put.holding h.object }

      now : (key : Key) → same_key put.key key ≡ true → has_key s.awaiting key ≡ false
      now key same =
          let queued : has_key s.queue put.key ≡ true =
          ap (λ (q : List Key). has_key q put.key) wanted.queue_is ∙ ap (λ (b : Bool). b || has_key wanted.rest put.key) (same_key-itself put.key) in
          ap (has_key s.awaiting) (sym (same_key-is put.key key same)) ∙ orderly.free put.key queued

      stored-result : Result true (Some g) (replies.Ok next)
      stored-result key =
          clear-as _ _ _
          (ap (option_map stored_as) (stored_at-recorded w.store.objects g put.key key put.holding next found))
          (ap (λ (o : Option (Versioned Service)).
          held_at key_cmp (amended_at key_cmp s.held.services put.key next (with_holding put.holding) o) key) there.1
          ∙ held_at-amended key_cmp-total s.held.services put.key key next (with_holding put.holding) h there.1
          ∙ ap (λ (b : Bool). cond b (Some new) (held_at key_cmp s.held.services key)) (is_eq-key_cmp put.key key))
          refl
          (stored_by (same_key put.key key) (stored_at w.store.objects (service_at key)) (held_at key_cmp s.held.services key) (has_key s.awaiting key)
          given new (now key) (record { at = clear key }))

      delivered_on : (b : Bool) → eqb g.version put.version ≡ b → Result b (Some g) (cond b (replies.Ok next) replies.Stale)
      delivered_on true e = stored-result
      delivered_on false e = (refused-result (Some g) (stale e)).0

    missing : stored_at w.store.objects (service_at put.key) ≡ None → is_current w.store s put.key ≡ true → ⊥
    missing none current =
        true≢false (sym current ∙ ap (λ (o : Option Stored). at_one_version (option_map stored_as o) (held_of s put.key)) none)

    delivered_by : (found : Option Stored) → stored_at w.store.objects (service_at put.key) ≡ found
        → Result (is_at_version put.version found) found (delivered_reply w.store.counter put found)
    delivered_by None is = (refused-result None (missing is)).1
    delivered_by (Some g) is = delivered_on g is (eqb g.version put.version) refl

    put-result : (outcome : Outcome) → IsSureOutcome outcome
        → Result (is_made put outcome w.store.objects) (stored_at w.store.objects (service_at put.key)) (reply_to put outcome w.store)
    put-result Delivered sure = delivered_by (stored_at w.store.objects (service_at put.key)) refl
    put-result (Lost applied) sure = lost-clear put (Lost applied)
    put-result Refused sure = absurd sure

    put-clear : (outcome : Outcome) → IsSureOutcome outcome → AreClear (put_by (after_turn s) put outcome w)
    put-clear outcome sure =
        let same : replied_to (put_in (core_turn s)) (after_turn s) (reply_to put outcome w.store) ≡ replied (after_turn s) put (reply_to put outcome w.store) =
        ap (λ (o : Option Put). replied_to o (after_turn s) (reply_to put outcome w.store)) wants in
        subst (λ (u : State). (key : Key) → IsClear (after_put put outcome w.store) u key) (sym same) (λ key. (put-result outcome sure key).at)

  turn_by : (p : Option Put) (outcome : Outcome) → IsSureOutcome outcome → put_in (core_turn s) ≡ p → AreClear (turned (after_turn s) p outcome w)
  turn_by None outcome sure e = clear
  turn_by (Some put) outcome sure e = put-clear put e outcome sure

-- ---- steps
config_clear : (store : StoreValue) (c : Option State) (lane : List Event) → AllByRecursion (IsOfGroup groups.Config) lane
    → IfSome c (λ s. (key : Key) → IsClear store s key) → IfSome (told c lane) (λ s. (key : Key) → IsClear store s key)
config_clear store None lane of clear = tt
config_clear store (Some s) [] of clear = clear
config_clear store (Some s) (event ∷ lane) of clear = λ key. (told-clear store s key (clear key) event of.0).at

pub service_clear : (w : WorldValue) (c : Option State) (lane : List Event) → w.service_lane ≡ lane → IfSome c (IsFollowed w)
    → IfSome c (λ s. (key : Key) → IsClear w.store s key) → IfSome (told c lane) (λ s. (key : Key) → IsClear w.store s key)
service_clear w None lane is up clear = tt
service_clear w (Some s) [] is up clear = clear
service_clear w (Some s) (event ∷ lane) is up clear =
    let of : AllByRecursion (IsOfGroup groups.Service) (event ∷ lane) = subst (AllByRecursion (IsOfGroup groups.Service)) is up.services in
    λ key. (took-clear w.store s key (clear key) (services-sorted w s up) event of.0).at

pub turn_clear : (class : Option (List ℕ)) (store : StoreValue) (config services : List Event) (c : Option State) (outcome : Outcome) → IsSureOutcome outcome
    → (let w : WorldValue = record { class = class; store = store; config_lane = config; service_lane = services; core = c } in
    IfSome c (IsFollowed w) → AreClear w → AreClear (after_turning c outcome w))
turn_clear class store config services None outcome sure up clear = tt
turn_clear class store config services (Some s) outcome sure up clear =
    let w : WorldValue = record { class = class; store = store; config_lane = config; service_lane = services; core = Some s } in
    turn_by w s up clear (put_in (core_turn s)) outcome sure refl

step-clear : (w : WorldValue) (step : Step) → IsGood w → IsOwn w → IsOwnStep step → AreClear w → AreClear (world_step step w)
step-clear w (Edits edit) good own is clear = absurd is
step-clear w (Take groups.Config) good own is clear = config_clear w.store w.core w.config_lane own.config clear
step-clear w (Take groups.Service) good own is clear = service_clear w w.core w.service_lane refl good.up clear
step-clear w (Take groups.Endpoint) good own is clear = clear
step-clear w (Turns outcome) good own is clear =
    subst (λ (o : Outcome). AreClear (after_turning w.core o w)) (sym is) (turn_clear w.class w.store w.config_lane w.service_lane w.core Delivered tt good.up clear)
step-clear w (Crash applied) good own is clear = absurd is
step-clear w (Restart order) good own is clear = absurd is
step-clear w (Expire group order) good own is clear = absurd is

-- ---- where nothing is left to do
none-claimed : (cs : List ClaimValue) → ((c : ClaimValue) → Contains cs c → ⊥) → cs ≡ []
none-claimed [] none = refl
none-claimed (c ∷ cs) none = absurd (none c (contains-first c cs))

unheld_by : (o : Option (Versioned Service)) → option_map held_as o ≡ None → o ≡ None
unheld_by None e = refl
unheld_by (Some v) e = absurd (cc)

free_by : (ready awaits : Bool) → ready ≡ true → awaits ≡ false → (ready && true && (true && not awaits)) ≡ true
free_by true false r a = refl
free_by true true r a = absurd (true≢false a)
free_by false awaits r a = absurd (true≢false (sym r))

module _ (class : Option (List ℕ)) (store : StoreValue) (config services : List Event) (s : State) where
  abbrev w : WorldValue
  w = record { class = class; store = store; config_lane = config; service_lane = services; core = Some s }

  module _ (good : IsGood w) (clear : (key : Key) → IsClear store s key) (same : (key : Key) → held_of s key ≡ stored_of store key)
      (there : (key : Key) (service : Service) (stored : Stored) → IsStored store.objects (service_at key) stored → stored.object ≡ objects.Service service
      → service_of s.held key ≡ Some service)
      (ready : is_ready s.held ≡ true) (queue : s.queue ≡ [])
    where
      up : IsFollowed w s
      up = good.up

      current : (key : Key) (stored : Stored) → stored_at store.objects (service_at key) ≡ Some stored → is_current store s key ≡ true
      current key stored found =
          ap (at_one_version (stored_of store key)) (same key)
          ∙ ap (λ (o : Option Stored). at_one_version (option_map stored_as o) (option_map stored_as o)) found
          ∙ eqb-itself stored.version

      -- none awaits
      pub awaits-none : (key : Key) (stored : Stored) → IsStored store.objects (service_at key) stored → has_key s.awaiting key ≡ false
      awaits-none key stored at = clear key (current key stored (stored-found store.objects (service_at key) stored good.stored.kept.ascending at))

      pub is-settled : (key : Key) (service : Service) (stored : Stored) → IsStored store.objects (service_at key) stored
          → stored.object ≡ objects.Service service → is_settled s key ≡ true
      is-settled key service stored at is =
          ap (λ (o : Option Service). is_ready s.held && is_some o && (not (has_key s.queue key) && not (has_key s.awaiting key))) (there key service stored at is)
          ∙ ap (λ (q : List Key). is_ready s.held && true && (not (has_key q key) && not (has_key s.awaiting key))) queue
          ∙ free_by (is_ready s.held) (has_key s.awaiting key) ready (awaits-none key stored at)

      pub unwritten : (key : Key) → is_put_of s.out key ≡ false
      unwritten key = ap (λ (p : Option Put). is_put_of p key) up.none_out

      certain : IsCertain s
      certain = subst IsCertain up.leads (runs_are_certain class up.run up.is)

      claims_are : (found : Option Stored) (key : Key) → stored_at store.objects (service_at key) ≡ found → claims_of key s.claims ≡ claims_by found
      claims_are None key is =
          let unheld : held_at key_cmp s.held.services key ≡ None =
          unheld_by (held_at key_cmp s.held.services key) (same key ∙ ap (option_map stored_as) is) in
          none-claimed (claims_of key s.claims) (λ c has.
          let held = (worlds_are_in_order w good).held_claimed.claims key c has in
          none-some held.0 (sym unheld ∙ held.1))
      claims_are (Some stored) key is =
          let at = found-stored store.objects (service_at key) stored is in
          let service = service-at stored.object key at.1 in
          certain key service.0 (is-settled key service.0 stored at service.1) (unwritten key) (there key service.0 stored at service.1)
          ∙ ap claims_with (sym service.1)

      pub claims-recorded : holders s.claims ≡ recorded store
      claims-recorded =
          let by : (key : Key) → holders s.claims key ≡ recorded store key = λ key. claims_are (stored_at store.objects (service_at key)) key refl in
          λ i key. by key i

  -- where a configuration is in force
  ready_by : (config_ended services_ended : Bool) (c : Option ConfigValue) → config_ended ≡ true → services_ended ≡ true → is_some c ≡ true
      → (config_ended && services_ended && is_some c) ≡ true
  ready_by true true c a b e = e
  ready_by true false c a b e = absurd (true≢false (sym b))
  ready_by false services_ended c a b e = absurd (true≢false (sym a))

  module _ (good : IsGood w) (clear : (key : Key) → IsClear store s key) (settled : IsSettled w s) where
    as_stored : IsSettledAsStored w s
    as_stored =
        let awaits : (key : Key) (stored : Stored) → IsStored store.objects (service_at key) stored → has_key s.awaiting key ≡ false =
        λ key stored there.
        clear key (ap (at_one_version (stored_of store key)) (settled.same key)
        ∙ ap (λ (o : Option Stored). at_one_version (option_map stored_as o) (option_map stored_as o))
        (stored-found store.objects (service_at key) stored good.stored.kept.ascending there)
        ∙ eqb-itself stored.version) in
        record {
          settled = settled;
          none_awaits = awaits;
          served = λ in_force key service stored there is.
              subst (λ (has : Holders). MeetsRow s.class (offer_in s.held) has service)
              (claims-recorded good clear settled.same settled.held
              (ready_by s.held.config_ended s.held.services_ended s.held.config settled.config_listed settled.services_listed in_force) settled.none_queued)
              (settled.served in_force key service stored there is (awaits key stored there));
        }

stored_of_rest : (class : Option (List ℕ)) (store : StoreValue) (config services : List Event) (c : Option State)
    → (let w : WorldValue = record { class = class; store = store; config_lane = config; service_lane = services; core = c } in
    IsGood w → AreClear w → IfSome c (IsSettled w) → IfSome c (IsSettledAsStored w))
stored_of_rest class store config services None good clear settled = tt
stored_of_rest class store config services (Some s) good clear settled = as_stored class store config services s good clear settled

pub controllers_settle : ControllersSettle
controllers_settle w good own copies clear [] are rest =
    stored_of_rest w.class w.store w.config_lane w.service_lane w.core good clear (rest_is_settled w good own copies rest)
controllers_settle w good own copies clear (step ∷ steps) are rest =
    let next = world_step step w in
    let move = steps_are_moves w step are.1 own in
    controllers_settle next (steps_keep_good w next move.0 move.1 good) (steps_keep_own w step (own-terms step are.0) good own)
    (moves_keep_copies w next move.0 move.1 good copies) (step-clear w step good own are.0 clear) steps are.2 rest
