-- Edits and puts keep a good store.
use Rattle.std.proofs.Common.{◌≡◌, ◌≢◌, ◌⊎◌, inl, inr, ⊎_elim, ℕ, ◌+◌, ◌≤◌, Bool, true, false, cond, List, []}
use Rattle.std.proofs.Common.{◌∷◌, Option, Some, None, is_some, is_eq, refl, sym, ap, subst, ◌∙◌, arith}
use Rattle.std.proofs.lemmas.Bool.{true≢false, and_parts}
use Rattle.std.specs.List.{AllByRecursion, Contains}
use Rattle.std.specs.List.Sorted.{IsStrictlySortedBy}
use Rattle.mlb_base.proofs.Among.{contains-none}
use Rattle.ip_ranges.specs.Values.{AddressValue}
use Rattle.kube_model.specs.declared.key.Key.{Key}
use Rattle.kube_model.specs.declared.object.Kind.{Kind}
use Rattle.kube_model.specs.declared.object.Kind.TheVariants as kinds
use Rattle.kube_model.specs.declared.object.Object.{Object}
use Rattle.kube_model.specs.declared.object.Object.TheVariants as objects
use Rattle.kube_model.specs.declared.put.Put.{Put}
use Rattle.kube_model.specs.declared.record.Record.{Record}
use Rattle.kube_model.specs.declared.service.Service.{Service}
use Rattle.kube_model.specs.Keys.{same_key}
use Rattle.kube_model.specs.Records.{is_assigned}
use Rattle.kube_model.proofs.KeyLaws.{same_key-is, same_key-flip, is_eq-key_cmp}
use Rattle.sharing_terms.specs.Marked.{AreTerms}
use Rattle.sharing_terms.proofs.SharingLaws.{may_share-turned}
use Rattle.core_laws.proofs.Keyed.{terms-kept}
use Rattle.core_laws.proofs.Shared.{assigned_by}
use Rattle.status_store.specs.declared.change.Edit.TheVariants.{Set, Delete}
use Rattle.status_store.specs.declared.change.Outcome.{Outcome}
use Rattle.status_store.specs.declared.stored.Stored.{Stored}
use Rattle.status_store.specs.Places.{Place, place_of, place_cmp, service_at}
use Rattle.status_store.specs.Objects.{is_of, stored_at, with_stored, without_stored}
use Rattle.status_store.specs.Changes.{StoreValue, IsWellFormed, record_of, with_record, kept_record, edited}
use Rattle.status_store.specs.Changes.{empty_store, recorded, arrives, is_at_version, is_made, with_put, after_put}
use Rattle.status_store.proofs.ChangeLaws.{place_of-with_record, kept-with_stored}
use Rattle.status_store.proofs.ListLaws.{stored_at-with_stored, stored_at-without_stored, ascending-without_stored}
use Rattle.status_store.proofs.ListLaws.{counted-less, counted-without_stored, all-with_stored, all-without_stored}
use Rattle.status_store.proofs.StoredLaws.{is_of-is, found-stored, stored-found}
use Rattle.world_rules.specs.Safe.{IsRecorded, IsSafe, ShareByMarks, HasTerms}
use Rattle.world_rules.specs.Moves.{stored_with}
use Rattle.world_rules.specs.World.{store_of}
use Rattle.world_rules.specs.Good.{IsGoodStore}

-- ---- a store is safe by the record that stands at each key
abbrev pub record_at : StoreValue → Key → Record
record_at store key = kept_record (stored_at store.objects (service_at key))

abbrev pub AreSafe : (Key → Record) → Type 0
AreSafe f = (key other : Key) → key ≢ other → (a : AddressValue) → Contains (f key).addresses a → Contains (f other).addresses a
    → ShareByMarks (f key) (f other)

recorded_as : (store : StoreValue) (key : Key) (found : Option Stored) → stored_at store.objects (service_at key) ≡ found → (a : AddressValue)
    → Contains (kept_record found).addresses a → IsRecorded store key (kept_record found)
recorded_as store key None e a there = absurd (contains-none a there)
recorded_as store key (Some held) e a there = (held, found-stored store.objects (service_at key) held e, refl)

pub are-safe : (store : StoreValue) → IsSafe store → AreSafe (record_at store)
are-safe store safe key other apart a there there' =
    safe key other apart (record_at store key) (record_at store other) (recorded_as store key (stored_at store.objects (service_at key)) refl a there)
    (recorded_as store other (stored_at store.objects (service_at other)) refl a there') a there there'

pub record-at : (store : StoreValue) → IsWellFormed store → (key : Key) (r : Record) → IsRecorded store key r → record_at store key ≡ r
record-at store kept key r is = ap kept_record (stored-found store.objects (service_at key) is.0 kept.ascending is.1) ∙ is.2

recorded_at_by : (found : Option Stored) (store : StoreValue) (key : Key) (r : Record) → stored_at store.objects (service_at key) ≡ found
    → kept_record found ≡ r → is_assigned r ≡ true → IsRecorded store key r
recorded_at_by None store key r is e has = absurd (true≢false (sym has ∙ ap is_assigned (sym e)))
recorded_at_by (Some held) store key r is e has = (held, found-stored store.objects (service_at key) held is, e)

-- a record with an address that stands at the key is recorded
pub recorded-at : (store : StoreValue) (key : Key) (r : Record) → record_at store key ≡ r → is_assigned r ≡ true → IsRecorded store key r
recorded-at store key r e has = recorded_at_by (stored_at store.objects (service_at key)) store key r refl e has

-- what two records share, two that are the same share
shared-by : (r q r' q' : Record) (a : AddressValue) → r' ≡ r → q' ≡ q → (Contains r'.addresses a → Contains q'.addresses a → ShareByMarks r' q')
    → Contains r.addresses a → Contains q.addresses a → ShareByMarks r q
shared-by r q r' q' a e d shares there there' =
    subst (λ (x : Record). ShareByMarks x q) e
    (subst (λ (x : Record). ShareByMarks r' x) d
    (shares (subst (λ (x : Record). Contains x.addresses a) (sym e) there) (subst (λ (x : Record). Contains x.addresses a) (sym d) there')))

pub is-safe : (store : StoreValue) → IsWellFormed store → AreSafe (record_at store) → IsSafe store
is-safe store kept safe key other apart r q is is' a there there' =
    shared-by r q (record_at store key) (record_at store other) a (record-at store kept key r is) (record-at store kept other q is')
    (safe key other apart a) there there'

none-in : (r : Record) (a : AddressValue) → is_assigned r ≡ false → Contains r.addresses a → ⊥
none-in r a e there = true≢false (sym (assigned_by r.addresses a there) ∙ e)

turned : (r q : Record) → ShareByMarks r q → ShareByMarks q r
turned r q shares t u m n = may_share-turned u t (shares u t n m)

-- where some records go, the rest stays safe
pub safe-less : (f g : Key → Record) → ((key : Key) → (f key ≡ g key) ⊎ (is_assigned (g key) ≡ false)) → AreSafe f → AreSafe g
safe-less f g less safe key other apart a there there' =
    ⊎_elim
    (λ same. ⊎_elim
    (λ same'. shared-by (g key) (g other) (f key) (f other) a same same' (safe key other apart a) there there')
    (λ gone'. absurd (none-in (g other) a gone' there'))
    (less other))
    (λ gone. absurd (none-in (g key) a gone there))
    (less key)

-- the record may stand beside those of other keys
abbrev pub StandsBeside : (Key → Record) → Key → Record → Type 0
StandsBeside f own r = (other : Key) → other ≢ own → (a : AddressValue) → Contains r.addresses a → Contains (f other).addresses a → ShareByMarks r (f other)

-- a key has a record that may stand beside the others
pub safe-put : (f g : Key → Record) (own : Key) (r : Record) → ((key : Key) → g key ≡ cond (same_key own key) r (f key)) → StandsBeside f own r → AreSafe f
    → AreSafe g
safe-put f g own r is beside safe key other apart a there there' =
    shared-by (g key) (g other) (cond (same_key own key) r (f key)) (cond (same_key own other) r (f other)) a (sym (is key)) (sym (is other))
    (by_keys (same_key own key) (same_key own other) refl refl) there there'
  where
    by_keys : (b c : Bool) → same_key own key ≡ b → same_key own other ≡ c → Contains (cond b r (f key)).addresses a → Contains (cond c r (f other)).addresses a
        → ShareByMarks (cond b r (f key)) (cond c r (f other))
    by_keys true true d e in_key in_other = absurd (apart (sym (same_key-is own key d) ∙ same_key-is own other e))
    by_keys true false d e in_key in_other = beside other (λ same. apart (sym (same_key-is own key d) ∙ sym same)) a in_key in_other
    by_keys false true d e in_key in_other = turned r (f key) (beside key (λ same. apart (same ∙ same_key-is own other e)) a in_other in_key)
    by_keys false false d e in_key in_other = safe key other apart a in_key in_other

-- ---- services among the objects
other-kind : (kind : Kind) (k key : Key) → kind ≢ kinds.Service → (let one : Place = (kind, k) in one ≡ service_at key) → ⊥
other-kind kind k key apart e = apart (ap (λ (p : Place). p.0) e)

-- what stands at a service's place is that service
pub service-at : (object : Object) (key : Key) → place_of object ≡ service_at key
    → (service : Service) × (object ≡ objects.Service service) × (service.key ≡ key)
service-at (objects.Service service) key e = (service, refl, ap (λ (p : Place). p.1) e)
service-at (objects.Pool pool) key e = absurd (other-kind kinds.Pool _ key (λ same. absurd (cc)) e)
service-at (objects.L2 adv) key e = absurd (other-kind kinds.L2 _ key (λ same. absurd (cc)) e)
service-at (objects.Bgp adv) key e = absurd (other-kind kinds.Bgp _ key (λ same. absurd (cc)) e)
service-at (objects.Peer peer) key e = absurd (other-kind kinds.Peer _ key (λ same. absurd (cc)) e)
service-at (objects.Community community) key e = absurd (other-kind kinds.Community _ key (λ same. absurd (cc)) e)
service-at (objects.Namespace namespace) key e = absurd (other-kind kinds.Namespace _ key (λ same. absurd (cc)) e)
service-at (objects.Node node) key e = absurd (other-kind kinds.Node _ key (λ same. absurd (cc)) e)
service-at (objects.Slice slice) key e = absurd (other-kind kinds.Slice _ key (λ same. absurd (cc)) e)

-- a service has the record that it is given
pub given-record : (holding : Record) (object : Object) (key : Key) → place_of object ≡ service_at key → record_of (with_record holding object) ≡ holding
given-record holding object key e =
    let is = service-at object key e in
    ap (λ (x : Object). record_of (with_record holding x)) is.1

-- a record doesn't change the terms
pub typed-record : (holding : Record) (object : Object) → HasTerms object → HasTerms (with_record holding object)
typed-record holding (objects.Service service) t = subst AreTerms (sym (terms-kept service holding)) t
typed-record holding (objects.Pool pool) t = tt
typed-record holding (objects.L2 adv) t = tt
typed-record holding (objects.Bgp adv) t = tt
typed-record holding (objects.Peer peer) t = tt
typed-record holding (objects.Community community) t = tt
typed-record holding (objects.Namespace namespace) t = tt
typed-record holding (objects.Node node) t = tt
typed-record holding (objects.Slice slice) t = tt

-- ---- lists whose objects have terms
abbrev pub AreTyped : List Stored → Type 0
AreTyped held = AllByRecursion (λ (x : Stored). HasTerms x.object) held

pub typed-with_stored : (held : List Stored) (added : Stored) → HasTerms added.object → AreTyped held → AreTyped (with_stored added held)
typed-with_stored = all-with_stored (λ (x : Stored). HasTerms x.object)

pub typed-without_stored : (held : List Stored) (place : Place) → AreTyped held → AreTyped (without_stored place held)
typed-without_stored = all-without_stored (λ (x : Stored). HasTerms x.object)

-- ---- edits
set_on : (c : Bool) (object : Object) (holding : Record) (store : StoreValue) (key : Key) → is_assigned holding ≡ c
    → record_of (with_record holding object) ≡ holding
    → (is_assigned holding ≡ true → holding ≡ record_at store key) → (record_at store key ≡ record_of (with_record holding object))
    ⊎ (is_assigned (record_of (with_record holding object)) ≡ false)
set_on true object holding store key e own keeps = inl (sym (own ∙ keeps e))
set_on false object holding store key e own keeps = inr (ap is_assigned own ∙ e)

set_by : (b : Bool) (object : Object) (holding : Record) (store : StoreValue) (key : Key) → is_of (service_at key) (stored_with store object holding) ≡ b
    → (is_assigned holding ≡ true → holding ≡ kept_record (stored_at store.objects (place_of object)))
    → (record_at store key ≡ kept_record (cond b (Some (stored_with store object holding)) (stored_at store.objects (service_at key))))
    ⊎ (is_assigned (kept_record (cond b (Some (stored_with store object holding)) (stored_at store.objects (service_at key)))) ≡ false)
set_by true object holding store key e keeps =
    let own : place_of object ≡ service_at key = sym (place_of-with_record holding object) ∙ is_of-is (service_at key) (stored_with store object holding) e in
    set_on (is_assigned holding) object holding store key refl (given-record holding object key own)
    (λ has. keeps has ∙ ap (λ (p : Place). kept_record (stored_at store.objects p)) own)
set_by false object holding store key e keeps = inl refl

-- the store after an object was set with a record
abbrev pub set_store : Object → Record → StoreValue → StoreValue
set_store object holding store = record { objects = with_stored (stored_with store object holding) store.objects; counter = store.counter + 1 }

-- an object that is set leaves each record, or takes its address
pub set-records : (object : Object) (holding : Record) (store : StoreValue)
    → (is_assigned holding ≡ true → holding ≡ kept_record (stored_at store.objects (place_of object)))
    → (key : Key) → (record_at store key ≡ record_at (set_store object holding store) key)
    ⊎ (is_assigned (record_at (set_store object holding store) key) ≡ false)
set-records object holding store keeps key =
    subst (λ (x : Option Stored). (record_at store key ≡ kept_record x) ⊎ (is_assigned (kept_record x) ≡ false))
    (sym (stored_at-with_stored store.objects (stored_with store object holding) (service_at key)))
    (set_by (is_of (service_at key) (stored_with store object holding)) object holding store key refl keeps)

pub good-set_store : (object : Object) (holding : Record) (store : StoreValue)
    → (is_assigned holding ≡ true → holding ≡ kept_record (stored_at store.objects (place_of object)))
    → IsGoodStore store → IsGoodStore (set_store object holding store)
good-set_store object holding store keeps good =
    let kept : IsWellFormed (set_store object holding store) = kept-with_stored store (stored_with store object holding) refl good.kept in
    record {
      safe = is-safe (set_store object holding store) kept
          (safe-less (record_at store) (record_at (set_store object holding store)) (set-records object holding store keeps) (are-safe store good.safe));
      kept = kept;
    }

gone_by : (b : Bool) (found : Option Stored) → (kept_record found ≡ kept_record (cond b None found)) ⊎ (is_assigned (kept_record (cond b None found)) ≡ false)
gone_by true found = inr refl
gone_by false found = inl refl

more-by : (b : Bool) (n : ℕ) → n ≤ cond b (n + 1) n
more-by true n = omega arith
more-by false n = omega arith

-- a deletion leaves each record, or drops it
pub delete-records : (kind : Kind) (gone : Key) (store : StoreValue) → IsWellFormed store
    → (key : Key) → (record_at store key ≡ record_at (edited (Delete kind gone) store) key)
    ⊎ (is_assigned (record_at (edited (Delete kind gone) store) key) ≡ false)
delete-records kind gone store kept key =
    let place : Place = (kind, gone) in
    subst (λ (x : Option Stored). (record_at store key ≡ kept_record x) ⊎ (is_assigned (kept_record x) ≡ false))
    (sym (stored_at-without_stored store.objects place (service_at key) kept.ascending))
    (gone_by (is_eq (place_cmp place (service_at key))) (stored_at store.objects (service_at key)))

pub good-delete : (kind : Kind) (key : Key) (store : StoreValue) → IsGoodStore store → IsGoodStore (edited (Delete kind key) store)
good-delete kind key store good =
    let place : Place = (kind, key) in
    let b = is_some (stored_at store.objects place) in
    let kept : IsWellFormed (edited (Delete kind key) store) = record {
      ascending = ascending-without_stored store.objects place good.kept.ascending;
      counted =
          counted-without_stored (cond b (store.counter + 1) store.counter) store.objects place
          (counted-less store.counter (cond b (store.counter + 1) store.counter) store.objects (more-by b store.counter) good.kept.counted);
    } in
    record {
      safe = is-safe (edited (Delete kind key) store) kept
          (safe-less (record_at store) (record_at (edited (Delete kind key) store))
          (delete-records kind key store good.kept)
          (are-safe store good.safe));
      kept = kept;
    }

good-empty : IsGoodStore empty_store
unfolding IsStrictlySortedBy
good-empty = record {
  safe = λ key other apart r q is is' a there there'. absurd (contains-none is.0 is.1.0);
  kept = record { ascending = tt; counted = tt };
}

more-stored : (held : List Object) (store : StoreValue) → IsGoodStore store → IsGoodStore (store_of held store)
more-stored [] store good = good
more-stored (object ∷ more) store good =
    more-stored more (edited (Set object) store) (good-set_store object (kept_record (stored_at store.objects (place_of object))) store (λ has. refl) good)

-- a store of objects is good
pub good-store_of : (held : List Object) → IsGoodStore (store_of held empty_store)
good-store_of held = more-stored held empty_store good-empty

-- ---- puts
here-key : (held : Stored) (own key : Key) (r : Record) (version : ℕ) → place_of held.object ≡ service_at own
    → is_of (service_at key) (recorded version r held) ≡ same_key own key
here-key held own key r version e =
    ap (λ (p : Place). is_eq (place_cmp (service_at key) p)) (place_of-with_record r held.object ∙ e) ∙ is_eq-key_cmp key own ∙ same_key-flip key own

-- what is stored of a service after the record was put
pub stored_at-recorded : (objects : List Stored) (held : Stored) (own key : Key) (r : Record) (version : ℕ) → stored_at objects (service_at own) ≡ Some held
    → stored_at (with_stored (recorded version r held) objects) (service_at key)
    ≡ cond (same_key own key) (Some (recorded version r held)) (stored_at objects (service_at key))
stored_at-recorded objects held own key r version found =
    stored_at-with_stored objects (recorded version r held) (service_at key)
    ∙ ap (λ (b : Bool). cond b (Some (recorded version r held)) (stored_at objects (service_at key)))
    (here-key held own key r version (found-stored objects (service_at own) held found).1)

put_by : (b : Bool) (version : ℕ) (r : Record) (held : Stored) (found : Option Stored) → record_of (with_record r held.object) ≡ r
    → kept_record (cond b (Some (recorded version r held)) found) ≡ cond b r (kept_record found)
put_by true version r held found e = e
put_by false version r held found e = refl

made_by : (b : Bool) (put : Put) (found : Option Stored) (store : StoreValue) → stored_at store.objects (service_at put.key) ≡ found → IsGoodStore store
    → (b ≡ true → is_some found ≡ true) → StandsBeside (record_at store) put.key put.holding
    → (let after : StoreValue =
    record { objects = cond b (with_put (store.counter + 1) put found store.objects) store.objects; counter = cond b (store.counter + 1) store.counter } in
    IsGoodStore after)
made_by false put found store is good there beside = good
made_by true put None store is good there beside = absurd (true≢false (sym (there refl)))
made_by true put (Some held) store is good there beside =
    let n = store.counter + 1 in
    let r = put.holding in
    let place : place_of held.object ≡ service_at put.key = (found-stored store.objects (service_at put.key) held is).1 in
    let after : StoreValue = record { objects = with_stored (recorded n r held) store.objects; counter = n } in
    let kept : IsWellFormed after = kept-with_stored store (recorded n r held) refl good.kept in
    let at : (key : Key) → record_at after key ≡ cond (same_key put.key key) r (record_at store key) = λ key.
    ap kept_record (stored_at-recorded store.objects held put.key key r n is)
    ∙ put_by (same_key put.key key) n r held (stored_at store.objects (service_at key)) (given-record r held.object put.key place) in
    record {
      safe = is-safe after kept (safe-put (record_at store) (record_at after) put.key r at beside (are-safe store good.safe));
      kept = kept;
    }

there_by : (found : Option Stored) (version : ℕ) → is_at_version version found ≡ true → is_some found ≡ true
there_by None version e = absurd (true≢false (sym e))
there_by (Some held) version e = refl

pub made-there : (put : Put) (outcome : Outcome) (held : List Stored) → is_made put outcome held ≡ true → is_some (stored_at held (service_at put.key)) ≡ true
made-there put outcome held e =
    there_by (stored_at held (service_at put.key)) put.version
    (and_parts (arrives outcome) (is_at_version put.version (stored_at held (service_at put.key))) e).1

pub good-put : (put : Put) (outcome : Outcome) (store : StoreValue) → IsGoodStore store → StandsBeside (record_at store) put.key put.holding
    → IsGoodStore (after_put put outcome store)
good-put put outcome store good beside =
    made_by (is_made put outcome store.objects) put (stored_at store.objects (service_at put.key)) store refl good (made-there put outcome store.objects) beside

one-of : (b : Bool) (r q : Record) → (cond b r q ≡ q) ⊎ (cond b r q ≡ r)
one-of true r q = inr refl
one-of false r q = inl refl

put_record_by : (b : Bool) (put : Put) (found : Option Stored) (store : StoreValue) → stored_at store.objects (service_at put.key) ≡ found
    → (b ≡ true → is_some found ≡ true) → (key : Key)
    → (let after : StoreValue =
    record { objects = cond b (with_put (store.counter + 1) put found store.objects) store.objects; counter = cond b (store.counter + 1) store.counter } in
    (record_at after key ≡ record_at store key) ⊎ (record_at after key ≡ put.holding))
put_record_by false put found store is there key = inl refl
put_record_by true put None store is there key = absurd (true≢false (sym (there refl)))
put_record_by true put (Some held) store is there key =
    let n = store.counter + 1 in
    let r = put.holding in
    let place : place_of held.object ≡ service_at put.key = (found-stored store.objects (service_at put.key) held is).1 in
    let after : StoreValue = record { objects = with_stored (recorded n r held) store.objects; counter = n } in
    let at : record_at after key ≡ cond (same_key put.key key) r (record_at store key) =
    ap kept_record (stored_at-recorded store.objects held put.key key r n is)
    ∙ put_by (same_key put.key key) n r held (stored_at store.objects (service_at key)) (given-record r held.object put.key place) in
    ⊎_elim (λ same. inl (at ∙ same)) (λ new. inr (at ∙ new)) (one-of (same_key put.key key) r (record_at store key))

-- a put leaves each record, or replaces it by its own
pub put-record : (put : Put) (outcome : Outcome) (store : StoreValue) (key : Key) → (record_at (after_put put outcome store) key ≡ record_at store key)
    ⊎ (record_at (after_put put outcome store) key ≡ put.holding)
put-record put outcome store key =
    put_record_by (is_made put outcome store.objects) put (stored_at store.objects (service_at put.key)) store refl (made-there put outcome store.objects) key
