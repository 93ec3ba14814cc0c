-- After the end of a list, or a change of the configuration or of a namespace, the settled services meet their rows.
use Rattle.std.proofs.Common.{arith, ◌≡◌, ℕ, Bool, true, false, cond, leb, eqb, not, ◌&&◌, ◌||◌, List, [], ◌∷◌, ◌++◌, filter, Option}
use Rattle.std.proofs.Common.{Some, None, is_some, Result, Ok, Err, Ordering, Less, Equal, Greater, option_map, refl, sym, ap, ◌∙◌}
use Rattle.std.proofs.lemmas.Bool.{true≢false, and_parts, and_from, or_parts}
use Rattle.std.proofs.lemmas.Bool.Decides.{nat_tests}
use Rattle.std.specs.Ordering.{match_ordering}
use Rattle.std.specs.Map.{remove_entry}
use Rattle.std.specs.BTreeMap.{insert_entry, is_at}
use Rattle.std.specs.List.{Contains, list_all}
use Rattle.kube_model.specs.declared.config_fault.ConfigFault.{ConfigFault}
use Rattle.kube_model.specs.declared.event.Event.{Event}
use Rattle.kube_model.specs.declared.event.Event.TheVariants.{Changed, Deleted, ListEnd, Expired, Members, Frame, Ignored}
use Rattle.kube_model.specs.declared.event.ListGroup.TheVariants as groups
use Rattle.kube_model.specs.declared.key.Key.{Key}
use Rattle.kube_model.specs.declared.namespace.Namespace.{Namespace}
use Rattle.kube_model.specs.declared.object.Kind.TheVariants as kinds
use Rattle.kube_model.specs.declared.object.Object.TheVariants as objects
use Rattle.kube_model.specs.declared.service.Service.{Service}
use Rattle.versioned_map.specs.declared.map.Versioned.{Versioned}
use Rattle.versioned_map.specs.Objects.{held_at, object_at, version_at, is_listed, listed}
use Rattle.pool_config.specs.ConfigValue.{ConfigValue}
use Rattle.pool_config.specs.Compile.{compiled}
use Rattle.kube_labels.specs.Names.{name_cmp}
use Rattle.object_history.specs.Cache.{Cached, cached, cached_after, objects_after, in_force, held_after, ended_after}
use Rattle.object_history.specs.Observations.{Observation, Watched, WatchExpired, Written}
use Rattle.kube_model.specs.Keys.{key_cmp, same_key, has_key}
use Rattle.object_history.specs.Kinds.{service_resource, namespace_resource}
use Rattle.object_history.specs.LookBack.{seen_after, version_of}
use Rattle.object_cache.specs.declared.change.TakeNote.TheVariants.{Quiet as QuietNote}
use Rattle.object_cache.specs.Change.{applied, note_in}
use Rattle.object_cache.specs.Stays.{passing}
use Rattle.sharing_terms.specs.declared.terms.Terms.{Terms}
use Rattle.mlb_base.proofs.Among.{any-contains}
use Rattle.mlb_base.proofs.Lists.{filter-keeps}
use Rattle.alloc_book.specs.Asking.{asker_of}
use Rattle.claim_index.specs.Claims.{ClaimValue, holders}
use Rattle.kube_model.specs.Records.{is_assigned}
use Rattle.alloc_book.specs.Granted.{IsTighter}
use Rattle.alloc_book.proofs.BookLaws.{kept-more}
use Rattle.alloc_book.proofs.PendingLaws.{more-tighter}
use Rattle.kube_model.proofs.KeyLaws.{same_key-is}
use Rattle.core_rules.specs.Core.{State, is_ready, service_of, offer_in, is_free_with, all_free}
use Rattle.core_rules.specs.Take.{Configures, effect_of, no_key, is_unlisted, listed_keys, listed_claims}
use Rattle.core_rules.specs.Take.{have_claims, listed_and_free, with_services_listed, is_accepted, wakes, configured}
use Rattle.core_rules.proofs.Claims.{ended-version}
use Rattle.core_rules.proofs.Effects.{config-services}
use Rattle.core_laws.specs.Quiet.{MeetsRow, IsQuiet}
use Rattle.core_laws.proofs.Rows.{has_key-append, passing-has, row-on}
use Rattle.core_laws.proofs.Quiet.{settled-parts, settled-from, waits-queued, row-handled, row-empty}
use Rattle.core_laws.proofs.QuietReplies.{not-lost}
use Rattle.core_laws.proofs.QuietServices.{no-out}

-- ---- every free key is queued
free-by : (b : Bool) (queue awaiting : List Key) (key : Key) (service : Service) → b ≡ is_assigned service.holding → has_key queue key ≡ false
    → has_key awaiting key ≡ false → is_free_with queue awaiting b key service ≡ true
free-by true queue awaiting key service b q a = rw (q, a) (sym b)
free-by false queue awaiting key service b q a = rw (q, a) (ap not (sym b))

free-there-by : (b : Bool) (queue awaiting : List Key) (services : List (Key × Versioned Service)) (key : Key) (service : Service)
    → b ≡ is_assigned service.holding → object_at key_cmp services key ≡ Some service
    → has_key queue key ≡ false → has_key awaiting key ≡ false → has_key (all_free queue awaiting services) key ≡ false → ⊥
free-there-by true queue awaiting services key service b found q a out =
    let both = or_parts
    _ _ (sym (has_key-append (passing (is_free_with queue awaiting true) services) (passing (is_free_with queue awaiting false) services) key) ∙ out) in
    true≢false (sym (passing-has (is_free_with queue awaiting true) services key service found (free-by true queue awaiting key service b q a)) ∙ both.0)
free-there-by false queue awaiting services key service b found q a out =
    let both = or_parts
    _ _ (sym (has_key-append (passing (is_free_with queue awaiting true) services) (passing (is_free_with queue awaiting false) services) key) ∙ out) in
    true≢false (sym (passing-has (is_free_with queue awaiting false) services key service found (free-by false queue awaiting key service b q a)) ∙ both.1)

pub free-there : (queue awaiting : List Key) (services : List (Key × Versioned Service)) (key : Key) (service : Service)
    → object_at key_cmp services key ≡ Some service
    → has_key queue key ≡ false → has_key awaiting key ≡ false → has_key (all_free queue awaiting services) key ≡ false → ⊥
free-there queue awaiting services key service = free-there-by (is_assigned service.holding) queue awaiting services key service refl

-- ---- the end of the services' list
kept-by : (x y : Bool) (test : Key → Bool) (k key : Key) (keys less : List Key) → x ≡ test k → y ≡ same_key k key → test key ≡ false
    → has_key less key ≡ has_key keys key
    → has_key (cond (not x) (k ∷ less) less) key ≡ (y || has_key keys key)
kept-by true true test k key keys less x y t ih = absurd (true≢false (x ∙ ap test (same_key-is k key (sym y)) ∙ t))
kept-by true false test k key keys less x y t ih = ih
kept-by false y test k key keys less x e t ih = ap (λ b. same_key k key || b) ih ∙ ap (λ b. b || has_key keys key) (sym e)

pub kept-keys : (test : Key → Bool) (keys : List Key) (key : Key) → test key ≡ false → has_key (filter (λ k. not (test k)) keys) key ≡ has_key keys key
kept-keys test [] key t = refl
kept-keys test (k ∷ keys) key t = kept-by (test k) (same_key k key) test k key keys (filter (λ k. not (test k)) keys) refl refl t (kept-keys test keys key t)

listed-some : (b : Bool) (g : Versioned Service) (service : Service) → b ≡ eqb g.version 0
    → option_map (λ (h : Versioned Service). h.object) (cond b None (Some g)) ≡ Some service
    → (Some g.object ≡ Some service) × (eqb g.version 0 ≡ false)
listed-some true g service b e = absurd (cc)
listed-some false g service b e = (e, sym b)

pub listed-from : (found : Option (Versioned Service)) (key : Key) (service : Service)
    → option_map (λ (h : Versioned Service). h.object) (seen_after service_resource key (Watched (ListEnd groups.Service)) found) ≡ Some service
    → (option_map (λ (h : Versioned Service). h.object) found ≡ Some service) × (eqb (version_of service_resource key found) 0 ≡ false)
listed-from None key service e = absurd (cc)
listed-from (Some g) key service e = listed-some (eqb g.version 0) g service refl e

pub ready-listed : (a b c : Bool) → (a && b && c) ≡ true → (a && c) ≡ true
ready-listed true true c e = e
ready-listed true false c e = absurd (cc)
ready-listed false b c e = absurd (cc)

module _ (s : State) (seen : (key : Key)
    → held_at key_cmp (listed s.held.services) key ≡ seen_after service_resource key (Watched (ListEnd groups.Service)) (held_at key_cmp s.held.services key))
    (o : s.out ≡ None) (quiet : IsQuiet s) where
  unlisted-same : (key : Key) → is_unlisted (listed s.held.services) key ≡ is_unlisted s.held.services key
  unlisted-same key = ap (λ (found : Option (Versioned Service)). eqb (version_of service_resource key found) 0) (seen key)
      ∙ ended-version key (held_at key_cmp s.held.services key)

  claim-stays : (b : Bool) (c : ClaimValue) → b ≡ is_unlisted s.held.services c.key → Contains s.claims c → have_claims s.held.services s.claims ≡ false
      → not (is_unlisted (listed s.held.services) c.key) ≡ true
  claim-stays true c b there none =
      absurd (true≢false (sym (any-contains (λ (x : ClaimValue). is_unlisted s.held.services x.key) s.claims c there (sym b)) ∙ none))
  claim-stays false c b there none = ap not (unlisted-same c.key ∙ sym b)

  listed-tighter : have_claims s.held.services s.claims ≡ false → (any : Key) (terms : Terms)
      → IsTighter any terms (holders s.claims) (holders (listed_claims (listed s.held.services) s.claims))
  listed-tighter none any terms =
      more-tighter any terms (holders s.claims) (holders (listed_claims (listed s.held.services) s.claims))
      (kept-more s.claims (listed_claims (listed s.held.services) s.claims) any
      (λ c there. filter-keeps (λ (x : ClaimValue). not (is_unlisted (listed s.held.services) x.key)) s.claims c there
      (claim-stays (is_unlisted s.held.services c.key) c refl there none)))

  listed-by : (was now : Bool) (key : Key) (service : Service) → was ≡ is_ready s.held → now ≡ true → has_key s.queue key ≡ false
      → has_key s.awaiting key ≡ false
      → object_at key_cmp (listed s.held.services) key ≡ Some service → service_of s.held key ≡ Some service
      → has_key (listed_and_free was now (have_claims s.held.services s.claims) s) key ≡ false
      → MeetsRow s.class (offer_in (with_services_listed s).held) (holders (with_services_listed s).claims) service
  listed-by was false key service w n q a found before out = absurd (cc)
  listed-by false true key service w n q a found before out = absurd (free-there s.queue s.awaiting (listed s.held.services) key service found q a out)
  listed-by true true key service w n q a found before out =
      let row = quiet key service (settled-from s key service (sym w) before q a) (no-out s key o) before in
      row-on s.class s.held (with_services_listed s).held (holders s.claims) (holders (listed_claims (listed s.held.services) s.claims)) service row (λ x. refl)
      (λ reason is. listed-tighter
      (not-lost (have_claims s.held.services s.claims) s.class no_key s.queue s.awaiting (listed s.held.services) key out
      (waits-queued s.class no_key s.queue s.awaiting (listed s.held.services) key service found refl q a
      (row-handled s.class s.held (holders s.claims) service row reason is) (row-empty s.class s.held (holders s.claims) service row reason is)))
      row.before.key (asker_of row.before).terms)

  pub listed-quiet : IsQuiet (with_services_listed s)
  listed-quiet key service is_set out found =
      let here =
      listed-from (held_at key_cmp s.held.services key) key service (ap (option_map (λ (h : Versioned Service). h.object)) (sym (seen key)) ∙ found) in
      let listed_here : is_unlisted (listed s.held.services) key ≡ false = unlisted-same key ∙ here.1 in
      let parts = settled-parts (with_services_listed s) key is_set in
      let now : (s.held.config_ended && is_some s.held.config) ≡ true = ready-listed s.held.config_ended true (is_some s.held.config) parts.0 in
      let both = or_parts _ _ (sym (has_key-append (listed_keys (listed s.held.services) s.queue)
      (listed_and_free (is_ready s.held) (s.held.config_ended && is_some s.held.config) (have_claims s.held.services s.claims) s) key) ∙ parts.1) in
      listed-by (is_ready s.held) (s.held.config_ended && is_some s.held.config) key service refl now
      (sym (kept-keys (is_unlisted (listed s.held.services)) s.queue key listed_here) ∙ both.0)
      (sym (kept-keys (is_unlisted (listed s.held.services)) s.awaiting key listed_here) ∙ parts.2)
      found here.0 both.1

-- ---- the configuration, and namespaces
kept-config : (b : Bool) (r : Result ConfigValue ConfigFault) (c : Option ConfigValue) → is_accepted (cond b (note_in r) QuietNote) ≡ false
    → cond b (in_force c r) c ≡ c
kept-config true (Ok config) c e = absurd (cc)
kept-config true (Err fault) c e = refl
kept-config false r c e = refl

config-kept : (event : Event) (s : Cached) → effect_of event ≡ Configures → is_accepted (applied s event).note ≡ false
    → (cached_after (Watched event) s).config ≡ s.config
config-kept (Changed version (objects.Service service)) s c e = absurd (cc)
config-kept (Changed version (objects.Pool pool)) s c e =
    kept-config _ (compiled (objects_after (Watched (Changed version (objects.Pool pool))) s.objects)) s.config e
config-kept (Changed version (objects.L2 adv)) s c e =
    kept-config _ (compiled (objects_after (Watched (Changed version (objects.L2 adv))) s.objects)) s.config e
config-kept (Changed version (objects.Bgp adv)) s c e =
    kept-config _ (compiled (objects_after (Watched (Changed version (objects.Bgp adv))) s.objects)) s.config e
config-kept (Changed version (objects.Peer peer)) s c e =
    kept-config _ (compiled (objects_after (Watched (Changed version (objects.Peer peer))) s.objects)) s.config e
config-kept (Changed version (objects.Community community)) s c e =
    kept-config _ (compiled (objects_after (Watched (Changed version (objects.Community community))) s.objects)) s.config e
config-kept (Changed version (objects.Namespace namespace)) s c e = refl
config-kept (Changed version (objects.Node node)) s c e = absurd (cc)
config-kept (Changed version (objects.Slice slice)) s c e = absurd (cc)
config-kept (Deleted kinds.Service key) s c e = absurd (cc)
config-kept (Deleted kinds.Pool key) s c e = kept-config _ (compiled (objects_after (Watched (Deleted kinds.Pool key)) s.objects)) s.config e
config-kept (Deleted kinds.L2 key) s c e = kept-config _ (compiled (objects_after (Watched (Deleted kinds.L2 key)) s.objects)) s.config e
config-kept (Deleted kinds.Bgp key) s c e = kept-config _ (compiled (objects_after (Watched (Deleted kinds.Bgp key)) s.objects)) s.config e
config-kept (Deleted kinds.Peer key) s c e = kept-config _ (compiled (objects_after (Watched (Deleted kinds.Peer key)) s.objects)) s.config e
config-kept (Deleted kinds.Community key) s c e = kept-config _ (compiled (objects_after (Watched (Deleted kinds.Community key)) s.objects)) s.config e
config-kept (Deleted kinds.Namespace key) s c e = refl
config-kept (Deleted kinds.Node key) s c e = absurd (cc)
config-kept (Deleted kinds.Slice key) s c e = absurd (cc)
config-kept (ListEnd groups.Service) s c e = absurd (cc)
config-kept (ListEnd groups.Config) s c e = kept-config true (compiled (objects_after (Watched (ListEnd groups.Config)) s.objects)) s.config e
config-kept (ListEnd groups.Endpoint) s c e = absurd (cc)
config-kept Expired s c e = absurd (cc)
config-kept (Members names) s c e = absurd (cc)
config-kept (Frame interface bytes) s c e = absurd (cc)
config-kept Ignored s c e = absurd (cc)

abbrev Namespaces : Type 0
Namespaces = List (List ℕ × Versioned Namespace)

kept-shown : (old : Bool) (es : Namespaces) (v : Versioned Namespace) (name : List ℕ) → not old ≡ false → cond old es (insert_entry name_cmp es name v) ≡ es
kept-shown true es v name e = refl
kept-shown false es v name e = absurd (cc)

namespaces-kept : (event : Event) (s : Cached) → effect_of event ≡ Configures → listed s.namespaces ≡ s.namespaces → (applied s event).namespace_changed ≡ false
    → (cached_after (Watched event) s).namespaces ≡ s.namespaces
namespaces-kept (Changed version (objects.Service service)) s c l e = absurd (cc)
namespaces-kept (Changed version (objects.Pool pool)) s c l e = refl
namespaces-kept (Changed version (objects.L2 adv)) s c l e = refl
namespaces-kept (Changed version (objects.Bgp adv)) s c l e = refl
namespaces-kept (Changed version (objects.Peer peer)) s c l e = refl
namespaces-kept (Changed version (objects.Community community)) s c l e = refl
namespaces-kept (Changed version (objects.Namespace namespace)) s c l e =
    kept-shown (leb version (version_at name_cmp s.namespaces namespace.name)) s.namespaces (record { version = version; object = namespace }) namespace.name e
namespaces-kept (Changed version (objects.Node node)) s c l e = absurd (cc)
namespaces-kept (Changed version (objects.Slice slice)) s c l e = absurd (cc)
namespaces-kept (Deleted kinds.Service key) s c l e = absurd (cc)
namespaces-kept (Deleted kinds.Pool key) s c l e = refl
namespaces-kept (Deleted kinds.L2 key) s c l e = refl
namespaces-kept (Deleted kinds.Bgp key) s c l e = refl
namespaces-kept (Deleted kinds.Peer key) s c l e = refl
namespaces-kept (Deleted kinds.Community key) s c l e = refl
namespaces-kept (Deleted kinds.Namespace key) s c l e = absurd (cc)
namespaces-kept (Deleted kinds.Node key) s c l e = absurd (cc)
namespaces-kept (Deleted kinds.Slice key) s c l e = absurd (cc)
namespaces-kept (ListEnd groups.Service) s c l e = absurd (cc)
namespaces-kept (ListEnd groups.Config) s c l e = l
namespaces-kept (ListEnd groups.Endpoint) s c l e = absurd (cc)
namespaces-kept Expired s c l e = absurd (cc)
namespaces-kept (Members names) s c l e = absurd (cc)
namespaces-kept (Frame interface bytes) s c l e = absurd (cc)
namespaces-kept Ignored s c l e = absurd (cc)

-- ready before, and neither accepted nor a namespace, where nothing wakes
not-woken : (after before accepted namespace : Bool) → after ≡ true → (after && ((not before || accepted) || namespace)) ≡ false
    → (before ≡ true) × (accepted ≡ false) × (namespace ≡ false)
not-woken true true false false r e = (refl, refl, refl)
not-woken true true true namespace r e = absurd (cc)
not-woken true true false true r e = absurd (cc)
not-woken true false accepted namespace r e = absurd (cc)
not-woken false before accepted namespace r e = absurd (cc)

ended-by : (a b c : Bool) → (a && b && c) ≡ true → a ≡ true
ended-by true b c e = refl
ended-by false b c e = absurd (cc)

offer-same : (held held' : Cached) → held.config ≡ held'.config → held.namespaces ≡ held'.namespaces → (x : Service) → offer_in held x ≡ offer_in held' x
offer-same held held' c n x =
    ap (λ (config : Option ConfigValue). offer_in (record held { config = config }) x) c
    ∙ ap (λ (namespaces : Namespaces). offer_in (record held { config = held'.config; namespaces = namespaces }) x) n

woken-by : (b : Bool) (s : State) (event : Event) (key : Key) (service : Service)
    → b ≡ wakes s.held (applied s.held event) (cached_after (Watched event) s.held) → effect_of event ≡ Configures
    → (s.held.config_ended ≡ true → listed s.held.namespaces ≡ s.held.namespaces) → s.out ≡ None → IsQuiet s
    → is_ready (cached_after (Watched event) s.held) ≡ true → has_key (cond b (s.queue ++ all_free s.queue s.awaiting s.held.services) s.queue) key ≡ false
    → has_key s.awaiting key ≡ false
    → service_of s.held key ≡ Some service
    → MeetsRow s.class (offer_in (cached_after (Watched event) s.held)) (holders s.claims) service
woken-by true s event key service b c fresh o quiet ready q a found =
    let both = or_parts _ _ (sym (has_key-append s.queue (all_free s.queue s.awaiting s.held.services) key) ∙ q) in
    absurd (free-there s.queue s.awaiting s.held.services key service found both.0 a both.1)
woken-by false s event key service b c fresh o quiet ready q a found =
    let rest = not-woken (is_ready (cached_after (Watched event) s.held)) (is_ready s.held) (is_accepted (applied s.held event).note)
    (applied s.held event).namespace_changed ready (sym b) in
    let ended : s.held.config_ended ≡ true = ended-by s.held.config_ended s.held.services_ended (is_some s.held.config) rest.0 in
    let row = quiet key service (settled-from s key service rest.0 found q a) (no-out s key o) found in
    row-on s.class s.held (cached_after (Watched event) s.held) (holders s.claims) (holders s.claims) service row
    (offer-same s.held (cached_after (Watched event) s.held) (sym (config-kept event s.held c rest.1))
    (sym (namespaces-kept event s.held c (fresh ended) rest.2)))
    (λ reason is at left. left)

pub configured-quiet : (s : State) (event : Event) → effect_of event ≡ Configures → (s.held.config_ended ≡ true → listed s.held.namespaces ≡ s.held.namespaces)
    → s.out ≡ None → IsQuiet s → IsQuiet (configured s event)
configured-quiet s event c fresh o quiet key service is_set out found =
    let parts = settled-parts (configured s event) key is_set in
    woken-by (wakes s.held (applied s.held event) (cached_after (Watched event) s.held)) s event key service refl c fresh o quiet parts.0 parts.1 parts.2
    (ap (λ (es : List (Key × Versioned Service)). object_at key_cmp es key) (sym (config-services event s.held c)) ∙ found)

-- ---- while the list has ended no namespace is at version 0
listed-all-by : (b : Bool) (e : List ℕ × Versioned Namespace) (es : Namespaces) → (b && list_all is_listed es) ≡ true
    → (list_all is_listed es ≡ true → listed es ≡ es) → cond b (e ∷ listed es) (listed es) ≡ e ∷ es
listed-all-by true e es all ih = ap (λ (xs : Namespaces). e ∷ xs) (ih all)
listed-all-by false e es all ih = absurd (cc)

listed-all : (es : Namespaces) → list_all is_listed es ≡ true → listed es ≡ es
listed-all [] all = refl
listed-all (e ∷ es) all = listed-all-by (is_listed e) e es all (listed-all es)

all-listed-by : (b : Bool) (e : List ℕ × Versioned Namespace) (es : Namespaces) → b ≡ is_listed e → list_all is_listed es ≡ true
    → list_all is_listed (cond b (e ∷ es) es) ≡ true
all-listed-by true e es b ih = rw (← b) ih
all-listed-by false e es b ih = ih

all-listed : (es : Namespaces) → list_all is_listed (listed es) ≡ true
all-listed [] = refl
all-listed (e ∷ es) = all-listed-by (is_listed e) e (listed es) refl (all-listed es)

all-inserted-by : (r : Ordering) (e : List ℕ × Versioned Namespace) (es more : Namespaces) (k : List ℕ) (v : Versioned Namespace) → not (eqb v.version 0) ≡ true
    → is_listed e ≡ true → list_all is_listed es ≡ true → list_all is_listed more ≡ true
    → list_all is_listed (match_ordering r ((k, v) ∷ e ∷ es) ((e.0, v) ∷ es) (e ∷ more)) ≡ true
all-inserted-by Less e es more k v new first rest ih = and_from (not (eqb v.version 0)) _ new (and_from (is_listed e) (list_all is_listed es) first rest)
all-inserted-by Equal e es more k v new first rest ih = and_from (not (eqb v.version 0)) (list_all is_listed es) new rest
all-inserted-by Greater e es more k v new first rest ih = and_from (is_listed e) (list_all is_listed more) first ih

all-inserted : (es : Namespaces) (k : List ℕ) (v : Versioned Namespace) → not (eqb v.version 0) ≡ true → list_all is_listed es ≡ true
    → list_all is_listed (insert_entry name_cmp es k v) ≡ true
all-inserted [] k v new all = and_from (not (eqb v.version 0)) true new refl
all-inserted (e ∷ es) k v new all =
    let parts = and_parts (is_listed e) (list_all is_listed es) all in
    all-inserted-by (name_cmp k e.0) e es (insert_entry name_cmp es k v) k v new parts.0 parts.1 (all-inserted es k v new parts.1)

all-removed-by : (b : Bool) (e : List ℕ × Versioned Namespace) (es less : Namespaces) → is_listed e ≡ true → list_all is_listed es ≡ true
    → list_all is_listed less ≡ true → list_all is_listed (cond b es (e ∷ less)) ≡ true
all-removed-by true e es less first rest ih = rest
all-removed-by false e es less first rest ih = and_from (is_listed e) (list_all is_listed less) first ih

all-removed : (test : List ℕ → Bool) (es : Namespaces) → list_all is_listed es ≡ true → list_all is_listed (remove_entry test es) ≡ true
all-removed test [] all = refl
all-removed test (e ∷ es) all =
    let parts = and_parts (is_listed e) (list_all is_listed es) all in
    all-removed-by (test e.0) e es (remove_entry test es) parts.0 parts.1 (all-removed test es parts.1)

newer-positive : (version held : ℕ) → leb version held ≡ false → not (eqb version 0) ≡ true
newer-positive version held e = grind (arith, nat_tests)

all-shown : (old : Bool) (es : Namespaces) (version : ℕ) (namespace : Namespace) → old ≡ leb version (version_at name_cmp es namespace.name)
    → list_all is_listed es ≡ true
    → list_all is_listed (cond old es (insert_entry name_cmp es namespace.name (record { version = version; object = namespace }))) ≡ true
all-shown true es version namespace old all = all
all-shown false es version namespace old all =
    all-inserted es namespace.name (record { version = version; object = namespace }) (newer-positive version (version_at name_cmp es namespace.name) (sym old))
    all

fresh-after : (h : Observation) (es : Namespaces) (ended : Bool) → (ended ≡ true → list_all is_listed es ≡ true) → ended_after groups.Config h ended ≡ true
    → list_all is_listed (held_after namespace_resource h es) ≡ true
fresh-after (Watched (Changed version (objects.Service service))) es ended f e = f e
fresh-after (Watched (Changed version (objects.Pool pool))) es ended f e = f e
fresh-after (Watched (Changed version (objects.L2 adv))) es ended f e = f e
fresh-after (Watched (Changed version (objects.Bgp adv))) es ended f e = f e
fresh-after (Watched (Changed version (objects.Peer peer))) es ended f e = f e
fresh-after (Watched (Changed version (objects.Community community))) es ended f e = f e
fresh-after (Watched (Changed version (objects.Namespace namespace))) es ended f e =
    all-shown (leb version (version_at name_cmp es namespace.name)) es version namespace refl (f e)
fresh-after (Watched (Changed version (objects.Node node))) es ended f e = f e
fresh-after (Watched (Changed version (objects.Slice slice))) es ended f e = f e
fresh-after (Watched (Deleted kinds.Service key)) es ended f e = f e
fresh-after (Watched (Deleted kinds.Pool key)) es ended f e = f e
fresh-after (Watched (Deleted kinds.L2 key)) es ended f e = f e
fresh-after (Watched (Deleted kinds.Bgp key)) es ended f e = f e
fresh-after (Watched (Deleted kinds.Peer key)) es ended f e = f e
fresh-after (Watched (Deleted kinds.Community key)) es ended f e = f e
fresh-after (Watched (Deleted kinds.Namespace key)) es ended f e = all-removed (is_at (name_cmp key.name)) es (f e)
fresh-after (Watched (Deleted kinds.Node key)) es ended f e = f e
fresh-after (Watched (Deleted kinds.Slice key)) es ended f e = f e
fresh-after (Watched (ListEnd groups.Service)) es ended f e = f e
fresh-after (Watched (ListEnd groups.Config)) es ended f e = all-listed es
fresh-after (Watched (ListEnd groups.Endpoint)) es ended f e = f e
fresh-after (Watched Expired) es ended f e = absurd (cc)
fresh-after (Watched (Members names)) es ended f e = f e
fresh-after (Watched (Frame interface bytes)) es ended f e = f e
fresh-after (Watched Ignored) es ended f e = f e
fresh-after (WatchExpired groups.Config) es ended f e = absurd (cc)
fresh-after (WatchExpired groups.Service) es ended f e = f e
fresh-after (WatchExpired groups.Endpoint) es ended f e = f e
fresh-after (Written key version holding) es ended f e = f e

all-fresh : (observations : List Observation) → (cached observations).config_ended ≡ true → list_all is_listed (cached observations).namespaces ≡ true
all-fresh [] e = absurd (cc)
all-fresh (h ∷ earlier) e = fresh-after h (cached earlier).namespaces (cached earlier).config_ended (all-fresh earlier) e

pub fresh : (observations : List Observation) → (cached observations).config_ended ≡ true
    → listed (cached observations).namespaces ≡ (cached observations).namespaces
fresh observations e = listed-all (cached observations).namespaces (all-fresh observations e)
