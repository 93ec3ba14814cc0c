-- Where a controller has nothing to do any more.
use Rattle.std.proofs.Common.{◌≡◌, ◌≢◌, ℕ, Bool, true, false, not, ◌&&◌, is_some, List, [], ◌∷◌, Option, Some, None, option_map, IfSome, refl, sym, ap, subst, ◌∙◌}
use Rattle.std.proofs.lemmas.Bool.{true≢false}
use Rattle.kube_model.specs.declared.event.Event.{Event}
use Rattle.kube_model.specs.declared.event.ListGroup.TheVariants as groups
use Rattle.kube_model.specs.declared.key.Key.{Key}
use Rattle.kube_model.specs.declared.object.Object.TheVariants as objects
use Rattle.kube_model.specs.declared.put.Put.{Put}
use Rattle.kube_model.specs.declared.service.Service.{Service}
use Rattle.kube_model.specs.Keys.{key_cmp, has_key}
use Rattle.versioned_map.specs.declared.map.Versioned.{Versioned}
use Rattle.versioned_map.specs.Objects.{held_at}
use Rattle.status_store.specs.declared.change.Outcome.TheVariants.{Delivered}
use Rattle.status_store.specs.declared.stored.Stored.{Stored}
use Rattle.status_store.specs.Changes.{StoreValue}
use Rattle.status_store.specs.Objects.{IsAscending, IsStored, stored_at}
use Rattle.status_store.specs.Places.{service_at}
use Rattle.status_store.proofs.StoredLaws.{stored-found}
use Rattle.core_rules.specs.declared.turn.Turn.TheVariants.{Idle}
use Rattle.core_rules.specs.Core.{State, is_ready, is_settled, service_of}
use Rattle.core_rules.specs.Turn.{turn_of}
use Rattle.core_laws.specs.Quiet.{IsQuiet, is_put_of}
use Rattle.core_laws.proofs.Puts.{idle-queue}
use Rattle.core_laws.proofs.QuietRuns.{runs_are_quiet}
use Rattle.world_rules.specs.declared.step.Step.TheVariants.{Take, Turn as Turns}
use Rattle.world_rules.specs.Good.{stored_as, stored_of, held_as, held_of, ConfigEnds, IsFollowed, IsGood, IsOwn}
use Rattle.world_rules.specs.Tracked.{Shown, EndsOnce}
use Rattle.world_rules.specs.World.{WorldValue}
use Rattle.settling_laws.specs.Copies.{IsOfStore, HasCopies}
use Rattle.settling_laws.specs.Settling.{IsAtRest, IsSettled, RestIsSettled}

some-apart : {X : Type 0} (x : X) → Some x ≢ None
some-apart x e = absurd (cc)

first-apart : {X : Type 0} (x : X) (xs : List X) → x ∷ xs ≢ []
first-apart x xs e = absurd (cc)

-- a turn of a queued key isn't idle
busy : (s : State) (queue : List Key) → (turn_of s queue ≢ Idle → ⊥) → queue ≡ []
busy s [] idle = refl
busy s (key ∷ keys) idle = absurd (idle (λ e. first-apart key keys (idle-queue s (key ∷ keys) e)))

ended_by : (ended : Bool) → EndsOnce ended [] → ended ≡ true
ended_by true ends = refl
ended_by false ends = absurd ends

listed_by : (ended : Bool) → ConfigEnds ended [] → ended ≡ true
listed_by true ends = refl
listed_by false ends = absurd ends

-- what is held at the stored version is what is stored
held_by : (o : Option (Versioned Service)) (stored : Stored) → option_map held_as o ≡ Some (stored_as stored)
    → (v : Versioned Service) × (o ≡ Some v) × (v.version ≡ stored.version)
held_by None stored e = absurd (cc)
held_by (Some v) stored e =
    let same : held_as v ≡ stored_as stored = cc in
    (v, refl, ap (λ (x : Shown). x.version) same)

any-key : Key
any-key = record { namespace = []; name = [] }

same-service : (x y : Service) → objects.Service x ≡ objects.Service y → x ≡ y
same-service x y e = cc

pub held-stored : (store : StoreValue) (s : State) → IsAscending store.objects → ((key : Key) → held_of s key ≡ stored_of store key)
    → ((key : Key) (held : Versioned Service) → held_at key_cmp s.held.services key ≡ Some held → IsOfStore store key held.version held.object)
    → (key : Key) (service : Service) (stored : Stored) → IsStored store.objects (service_at key) stored → stored.object ≡ objects.Service service
    → service_of s.held key ≡ Some service
held-stored store s sorted same copies key service stored there is =
    let found : stored_at store.objects (service_at key) ≡ Some stored = stored-found store.objects (service_at key) stored sorted there in
    let at = held_by (held_at key_cmp s.held.services key) stored (same key ∙ ap (option_map stored_as) found) in
    let object : stored.object ≡ objects.Service at.0.object = (copies key at.0 at.1).1 stored found (sym at.2) in
    let one : at.0.object ≡ service = same-service at.0.object service (sym object ∙ is) in
    ap (option_map (λ (v : Versioned Service). v.object)) at.1 ∙ ap (λ (x : Service). Some x) one

settled_by : (a b c d : Bool) → a ≡ true → b ≡ true → c ≡ true → d ≡ false → ((a && b && c) && true && (true && not d)) ≡ true
settled_by true true true false p q r u = refl
settled_by false b c d p q r u = absurd (true≢false (sym p))
settled_by true false c d p q r u = absurd (true≢false (sym q))
settled_by true true false d p q r u = absurd (true≢false (sym r))
settled_by true true true true p q r u = absurd (true≢false u)

module _ (class : Option (List ℕ)) (store : StoreValue) (s : State) where
  abbrev w : WorldValue
  w = record { class = class; store = store; config_lane = []; service_lane = []; core = Some s }

  module _ (good : IsGood w) (own : IsOwn w) (copies : HasCopies w) (queue : s.queue ≡ []) where
    up : IsFollowed w s
    up = good.up

    same : (key : Key) → held_of s key ≡ stored_of store key
    same key = (up.tracked key).follows

    held : (key : Key) (service : Service) (stored : Stored) → IsStored store.objects (service_at key) stored → stored.object ≡ objects.Service service
        → service_of s.held key ≡ Some service
    held = held-stored store s good.stored.kept.ascending same copies.held

    quiet : IsQuiet s
    quiet = subst IsQuiet up.leads (runs_are_quiet class up.run up.is)

    settled : IsSettled w s
    settled =
        let listed : s.held.services_ended ≡ true = ended_by s.held.services_ended (up.tracked any-key).ends in
        let configured : s.held.config_ended ≡ true = listed_by s.held.config_ended own.config_ends in
        record {
          config_taken = refl;
          services_taken = refl;
          none_queued = queue;
          config_listed = configured;
          services_listed = listed;
          same = same;
          held = held;
          served = λ config key service stored there is awaits.
              let found = held key service stored there is in
              let free : is_settled s key ≡ true =
              ap (λ (o : Option Service). is_ready s.held && is_some o && (not (has_key s.queue key) && not (has_key s.awaiting key))) found
              ∙ ap (λ (q : List Key). is_ready s.held && true && (not (has_key q key) && not (has_key s.awaiting key))) queue
              ∙ settled_by s.held.config_ended s.held.services_ended (is_some s.held.config) (has_key s.awaiting key) configured listed config awaits in
              quiet key service free (ap (λ (p : Option Put). is_put_of p key) up.none_out) found;
        }

rest_by : (class : Option (List ℕ)) (store : StoreValue) (config services : List Event) (c : Option State)
    → (let w : WorldValue = record { class = class; store = store; config_lane = config; service_lane = services; core = c } in
    IsGood w → IsOwn w → HasCopies w → IsAtRest w → IfSome c (IsSettled w))
rest_by class store config services None good own copies rest = tt
rest_by class store (event ∷ lane) services (Some s) good own copies rest =
    absurd (rest (Take groups.Config) tt (some-apart s, first-apart event lane))
rest_by class store [] (event ∷ lane) (Some s) good own copies rest =
    absurd (rest (Take groups.Service) tt (some-apart s, first-apart event lane))
rest_by class store [] [] (Some s) good own copies rest =
    settled class store s good own copies (busy s s.queue (λ some. rest (Turns Delivered) refl (some-apart s, some)))

pub rest_is_settled : RestIsSettled
rest_is_settled w good own copies rest = rest_by w.class w.store w.config_lane w.service_lane w.core good own copies rest
