-- What an event leaves as it was.
use Rattle.std.proofs.Common.{◌≡◌, ℕ, Bool, true, false, cond, leb, eqb, not, ◌&&◌, List, [], ◌∷◌, Option, Some}
use Rattle.std.proofs.Common.{None, option_map, Ordering, Less, Equal, Greater, is_eq, filter, map, refl, sym, ap, ◌∙◌}
use Rattle.std.specs.List.{list_any}
use Rattle.std.specs.List.Sorted.{IsStrictlySortedBy}
use Rattle.std.specs.Ordering.{match_ordering}
use Rattle.std.specs.Map.{remove_entry, keys_of}
use Rattle.std.specs.BTreeMap.{insert_entry, is_at}
use Rattle.std.specs.Cmp.{Equal-is, tied_itself, tied_back}
use Rattle.std.proofs.lemmas.Map.Entries.{option_filter}
use Rattle.std.proofs.lemmas.Bool.{or_right, or_parts}
use Rattle.kube_model.specs.declared.event.Event.{Event}
use Rattle.kube_model.specs.declared.event.Event.TheVariants.{Changed, Deleted, ListEnd, Expired, Members, Frame, Ignored}
use Rattle.kube_model.specs.declared.event.ListGroup.TheVariants as groups
use Rattle.kube_model.specs.declared.key.Key.{Key}
use Rattle.kube_model.specs.declared.object.Kind.TheVariants as kinds
use Rattle.kube_model.specs.declared.object.Object.TheVariants as objects
use Rattle.kube_model.specs.declared.service.Service.{Service}
use Rattle.versioned_map.specs.declared.map.Versioned.{Versioned}
use Rattle.versioned_map.specs.Objects.{held_at, object_at, version_at, at_version, expired, listed, unlisted_keys}
use Rattle.versioned_map.proofs.HeldLaws.{held_at-shown, held_at-removed, held_at-expired, held_at-listed}
use Rattle.object_history.specs.Cache.{Cached, cached, held_after_event}
use Rattle.kube_model.specs.Keys.{key_cmp}
use Rattle.object_history.specs.Kinds.{service_resource}
use Rattle.kube_model.proofs.KeyLaws.{key_cmp-total}
use Rattle.object_history.proofs.Force.{all_is_as_shown}
use Rattle.object_cache.specs.Stays.{changes_service, passing, NeverPasses, OthersPassAsBefore, OtherServicesStay}

abbrev Entries : Type 0
Entries = List (Key × Versioned Service)

-- the key of an entry that passes, before those of the others
first_key : (b : Bool) (d e : Key × Versioned Service) (xs ys : Entries) → d.0 ≡ e.0
    → map (λ (x : Key × Versioned Service). x.0) xs ≡ map (λ (x : Key × Versioned Service). x.0) ys
    → map (λ (x : Key × Versioned Service). x.0) (cond b (d ∷ xs) xs) ≡ map (λ (x : Key × Versioned Service). x.0) (cond b (e ∷ ys) ys)
first_key true d e xs ys same rest = cc
first_key false d e xs ys same rest = rest

module _ (test : Key → Service → Bool) where
  -- the test fails at the key
  abbrev FailsAt : Key → Type 0
  FailsAt k = (key : Key) (service : Service) → is_eq (key_cmp k key) ≡ true → test key service ≡ false

  inserted_by : (r : Ordering) (e : Key × Versioned Service) (es : Entries) (k : Key) (v : Versioned Service) → key_cmp k e.0 ≡ r → FailsAt k
      → passing test (insert_entry key_cmp es k v) ≡ passing test es
      → passing test (match_ordering r ((k, v) ∷ e ∷ es) ((e.0, v) ∷ es) (e ∷ insert_entry key_cmp es k v)) ≡ passing test (e ∷ es)
  inserted_by Less e es k v p fails ih =
      let own : test k v.object ≡ false = fails k v.object (ap is_eq (tied_itself key_cmp-total k)) in
      rw own refl
  inserted_by Equal e es k v p fails ih =
      let new : test e.0 v.object ≡ false = fails e.0 v.object (ap is_eq p) in
      let old : test e.0 e.1.object ≡ false = fails e.0 e.1.object (ap is_eq p) in
      rw (new, old) refl
  inserted_by Greater e es k v p fails ih = first_key (test e.0 e.1.object) e e _ _ refl ih

  passing-inserted : (es : Entries) (k : Key) (v : Versioned Service) → FailsAt k → passing test (insert_entry key_cmp es k v) ≡ passing test es
  passing-inserted [] k v fails =
      let own : test k v.object ≡ false = fails k v.object (ap is_eq (tied_itself key_cmp-total k)) in
      rw own refl
  passing-inserted (e ∷ es) k v fails = inserted_by (key_cmp k e.0) e es k v refl fails (passing-inserted es k v fails)

  removed_by : (b : Bool) (e : Key × Versioned Service) (es less : Entries) (k : Key) → b ≡ is_eq (key_cmp k e.0) → FailsAt k
      → passing test less ≡ passing test es
      → passing test (cond b es (e ∷ less)) ≡ passing test (e ∷ es)
  removed_by true e es less k p fails ih =
      let old : test e.0 e.1.object ≡ false = fails e.0 e.1.object (sym p) in
      rw old refl
  removed_by false e es less k p fails ih = first_key (test e.0 e.1.object) e e _ _ refl ih

  passing-removed : (es : Entries) (k : Key) → FailsAt k → passing test (remove_entry (is_at (key_cmp k)) es) ≡ passing test es
  passing-removed [] k fails = refl
  passing-removed (e ∷ es) k fails = removed_by (is_eq (key_cmp k e.0)) e es (remove_entry (is_at (key_cmp k)) es) k refl fails (passing-removed es k fails)

  passing-expired : (es : Entries) → passing test (expired es) ≡ passing test es
  passing-expired [] = refl
  passing-expired (e ∷ es) = first_key (test e.0 e.1.object) (e.0, at_version 0 e.1) e _ _ refl (passing-expired es)

  abbrev FailsAtEach : List Key → Type 0
  FailsAtEach keys = (key : Key) (service : Service) → list_any (λ k. is_eq (key_cmp k key)) keys ≡ true → test key service ≡ false

  listed_by : (unlisted : Bool) (e : Key × Versioned Service) (es : Entries)
      → FailsAtEach (map (λ (x : Key × Versioned Service). x.0)
      (cond unlisted (e ∷ filter (λ (x : Key × Versioned Service). eqb x.1.version 0) es) (filter (λ (x : Key × Versioned Service). eqb x.1.version 0) es)))
      → (FailsAtEach (unlisted_keys es) → passing test (listed es) ≡ passing test es)
      → passing test (cond (not unlisted) (e ∷ listed es) (listed es)) ≡ passing test (e ∷ es)
  listed_by true e es fails ih =
      let own : test e.0 e.1.object ≡ false = fails e.0 e.1.object (rw (tied_itself key_cmp-total e.0) refl) in
      rw own (ih (λ key service found. fails key service (or_right (is_eq (key_cmp e.0 key)) _ found)))
  listed_by false e es fails ih = first_key (test e.0 e.1.object) e e _ _ refl (ih fails)

  passing-listed : (es : Entries) → FailsAtEach (unlisted_keys es) → passing test (listed es) ≡ passing test es
  passing-listed [] fails = refl
  passing-listed (e ∷ es) fails = listed_by (eqb e.1.version 0) e es fails (passing-listed es)

  shown_by : (old : Bool) (es : Entries) (service : Service) (version : ℕ)
      → ((key : Key) (s : Service) → (not old && is_eq (key_cmp service.key key)) ≡ true → test key s ≡ false)
      → passing test (cond old es (insert_entry key_cmp es service.key (record { version = version; object = service }))) ≡ passing test es
  shown_by true es service version never = refl
  shown_by false es service version never = passing-inserted es service.key (record { version = version; object = service }) never

  held_after_event-passing : (s : Cached) (event : Event) → NeverPasses test s event
      → passing test (held_after_event service_resource event s.services) ≡ passing test s.services
  held_after_event-passing s (Changed version (objects.Service service)) never =
      shown_by (leb version (version_at key_cmp s.services service.key)) s.services service version never
  held_after_event-passing s (Changed version (objects.Pool pool)) never = refl
  held_after_event-passing s (Changed version (objects.L2 adv)) never = refl
  held_after_event-passing s (Changed version (objects.Bgp adv)) never = refl
  held_after_event-passing s (Changed version (objects.Peer peer)) never = refl
  held_after_event-passing s (Changed version (objects.Community community)) never = refl
  held_after_event-passing s (Changed version (objects.Namespace namespace)) never = refl
  held_after_event-passing s (Changed version (objects.Node node)) never = refl
  held_after_event-passing s (Changed version (objects.Slice slice)) never = refl
  held_after_event-passing s (Deleted kinds.Service key) never = passing-removed s.services key never
  held_after_event-passing s (Deleted kinds.Pool key) never = refl
  held_after_event-passing s (Deleted kinds.L2 key) never = refl
  held_after_event-passing s (Deleted kinds.Bgp key) never = refl
  held_after_event-passing s (Deleted kinds.Peer key) never = refl
  held_after_event-passing s (Deleted kinds.Community key) never = refl
  held_after_event-passing s (Deleted kinds.Namespace key) never = refl
  held_after_event-passing s (Deleted kinds.Node key) never = refl
  held_after_event-passing s (Deleted kinds.Slice key) never = refl
  held_after_event-passing s (ListEnd groups.Service) never = passing-listed s.services never
  held_after_event-passing s (ListEnd groups.Config) never = refl
  held_after_event-passing s (ListEnd groups.Endpoint) never = refl
  held_after_event-passing s Expired never = passing-expired s.services
  held_after_event-passing s (Members names) never = refl
  held_after_event-passing s (Frame interface bytes) never = refl
  held_after_event-passing s Ignored never = refl

pub others_pass_as_before : OthersPassAsBefore
others_pass_as_before observations event test never = held_after_event-passing test (cached observations) event never

-- ---- each service by itself
unlike : (b : Bool) (k key : Key) → b ≡ is_eq (key_cmp key k) → is_eq (key_cmp k key) ≡ false → is_eq (key_cmp key k) ≡ false
unlike true k key p apart =
    let back : is_eq (key_cmp k key) ≡ true = ap is_eq (tied_back key_cmp-total key k ((Equal-is (key_cmp key k)).0 (sym p))) in
    absurd (cc)
unlike false k key p apart = sym p

same_object : (found : Option (Versioned Service))
    → option_map (λ (h : Versioned Service). h.object) (option_map (at_version 0) found) ≡ option_map (λ (h : Versioned Service). h.object) found
same_object None = refl
same_object (Some h) = refl

object_shown : (old : Bool) (es : Entries) (service : Service) (version : ℕ) (key : Key)
    → (not old && is_eq (key_cmp service.key key)) ≡ false
    → option_map (λ (h : Versioned Service). h.object) (cond old (held_at key_cmp es key)
    (cond (is_eq (key_cmp key service.key)) (Some (record { version = version; object = service })) (held_at key_cmp es key)))
    ≡ object_at key_cmp es key
object_shown true es service version key apart = refl
object_shown false es service version key apart =
    let other : is_eq (key_cmp key service.key) ≡ false = unlike (is_eq (key_cmp key service.key)) service.key key refl apart in
    rw other refl

object_removed : (es : Entries) (gone key : Key) → IsStrictlySortedBy key_cmp (keys_of es) → is_eq (key_cmp gone key) ≡ false
    → object_at key_cmp (remove_entry (is_at (key_cmp gone)) es) key ≡ object_at key_cmp es key
object_removed es gone key s apart = rw (held_at-removed key_cmp-total es gone key s, apart) refl

-- what is held at version 0 is among the keys that weren't listed
unlisted_by : (unlisted same : Bool) (e : Key × Versioned Service) (es : Entries) (key : Key) (h : Versioned Service) → unlisted ≡ eqb e.1.version 0
    → same ≡ is_eq (key_cmp key e.0)
    → (held_at key_cmp es key ≡ Some h → list_any (λ k. is_eq (key_cmp k key)) (unlisted_keys es) ≡ false → eqb h.version 0 ≡ false)
    → cond same (Some e.1) (held_at key_cmp es key) ≡ Some h
    → list_any (λ k. is_eq (key_cmp k key)) (map (λ (x : Key × Versioned Service). x.0) (cond unlisted
    (e ∷ filter (λ (x : Key × Versioned Service). eqb x.1.version 0) es) (filter (λ (x : Key × Versioned Service). eqb x.1.version 0) es))) ≡ false
    → eqb h.version 0 ≡ false
unlisted_by true true e es key h u s ih found none =
    let back : is_eq (key_cmp e.0 key) ≡ true = ap is_eq (tied_back key_cmp-total key e.0 ((Equal-is (key_cmp key e.0)).0 (sym s))) in
    let parts = or_parts (is_eq (key_cmp e.0 key)) _ none in
    let apart : is_eq (key_cmp e.0 key) ≡ false = parts.0 in
    absurd (cc)
unlisted_by true false e es key h u s ih found none = ih found (or_parts (is_eq (key_cmp e.0 key)) _ none).1
unlisted_by false true e es key h u s ih found none =
    let is : e.1 ≡ h = cc in
    ap (λ (x : Versioned Service). eqb x.version 0) (sym is) ∙ sym u
unlisted_by false false e es key h u s ih found none = ih found none

unlisted-none : (es : Entries) (key : Key) (h : Versioned Service) → held_at key_cmp es key ≡ Some h
    → list_any (λ k. is_eq (key_cmp k key)) (unlisted_keys es) ≡ false → eqb h.version 0 ≡ false
unlisted-none [] key h found none = absurd (cc)
unlisted-none (e ∷ es) key h found none = unlisted_by (eqb e.1.version 0) (is_eq (key_cmp key e.0)) e es key h refl refl (unlisted-none es key h) found none

listed_stays : (found : Option (Versioned Service)) → ((h : Versioned Service) → found ≡ Some h → eqb h.version 0 ≡ false)
    → option_map (λ (h : Versioned Service). h.object) (option_filter (λ (h : Versioned Service). not (eqb h.version 0)) found)
    ≡ option_map (λ (h : Versioned Service). h.object) found
listed_stays None later = refl
listed_stays (Some h) later = rw (later h refl) refl

object_listed : (es : Entries) (key : Key) → IsStrictlySortedBy key_cmp (keys_of es) → list_any (λ k. is_eq (key_cmp k key)) (unlisted_keys es) ≡ false
    → object_at key_cmp (listed es) key ≡ object_at key_cmp es key
object_listed es key s none =
    rw (held_at-listed key_cmp-total es key s) (listed_stays (held_at key_cmp es key) (λ h found. unlisted-none es key h found none))

object_told : (s : Cached) (event : Event) (key : Key) → IsStrictlySortedBy key_cmp (keys_of s.services) → changes_service s event key ≡ false
    → object_at key_cmp (held_after_event service_resource event s.services) key ≡ object_at key_cmp s.services key
object_told s (Changed version (objects.Service service)) key a apart =
    rw (held_at-shown key_cmp-total s.services service.key key version service)
    (object_shown (leb version (version_at key_cmp s.services service.key)) s.services service version key apart)
object_told s (Changed version (objects.Pool pool)) key a apart = refl
object_told s (Changed version (objects.L2 adv)) key a apart = refl
object_told s (Changed version (objects.Bgp adv)) key a apart = refl
object_told s (Changed version (objects.Peer peer)) key a apart = refl
object_told s (Changed version (objects.Community community)) key a apart = refl
object_told s (Changed version (objects.Namespace namespace)) key a apart = refl
object_told s (Changed version (objects.Node node)) key a apart = refl
object_told s (Changed version (objects.Slice slice)) key a apart = refl
object_told s (Deleted kinds.Service gone) key a apart = object_removed s.services gone key a apart
object_told s (Deleted kinds.Pool gone) key a apart = refl
object_told s (Deleted kinds.L2 gone) key a apart = refl
object_told s (Deleted kinds.Bgp gone) key a apart = refl
object_told s (Deleted kinds.Peer gone) key a apart = refl
object_told s (Deleted kinds.Community gone) key a apart = refl
object_told s (Deleted kinds.Namespace gone) key a apart = refl
object_told s (Deleted kinds.Node gone) key a apart = refl
object_told s (Deleted kinds.Slice gone) key a apart = refl
object_told s (ListEnd groups.Service) key a apart = object_listed s.services key a apart
object_told s (ListEnd groups.Config) key a apart = refl
object_told s (ListEnd groups.Endpoint) key a apart = refl
object_told s Expired key a apart = rw (held_at-expired key_cmp s.services key) (same_object (held_at key_cmp s.services key))
object_told s (Members names) key a apart = refl
object_told s (Frame interface bytes) key a apart = refl
object_told s Ignored key a apart = refl

pub other_services_stay : OtherServicesStay
other_services_stay observations event key apart = object_told (cached observations) event key (all_is_as_shown observations).services.ascend apart
