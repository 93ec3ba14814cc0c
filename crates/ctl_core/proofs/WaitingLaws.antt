-- The keys that wait, as a set and as a list: which they are, and that they stand in the same order.
use Rattle.std.proofs.Common.{◌≡◌, ℕ, Bool, true, false, cond, eqb, not, ◌&&◌, List, Option, Some, None, option_map, refl, sym, ap, ◌∙◌}
use Rattle.std.proofs.lemmas.Bool.{true≢false, false_from_ne_true}
use Rattle.std.proofs.lemmas.List.Kept.{IsStrictlySortedBy-filter}
use Rattle.std.proofs.lemmas.Map.Entries.{option_filter}
use Rattle.std.proofs.lemmas.Map.Lookups.{btree_set_from_contains}
use Rattle.std.specs.BTreeSet.{BTreeSet, IsOrdered}
use Rattle.std.specs.List.Sorted.{IsStrictlySortedBy}
use Rattle.std.specs.Map.{keys_of}
use Rattle.std.specs.Option.{option_map_or}
use Rattle.mlb_base.proofs.Entries.{ascending-filter}
use Rattle.kube_model.specs.declared.key.Key.{Key}
use Rattle.kube_model.specs.declared.service.Service.{Service}
use Rattle.kube_model.specs.Service.{is_handled}
use Rattle.kube_model.specs.Keys.{key_cmp, same_key, has_key, without}
use Rattle.kube_model.specs.Records.{empty_record, same_record}
use Rattle.kube_model.proofs.KeyLaws.{key_cmp-total, key_cmp-exact}
use Rattle.versioned_map.specs.declared.map.Versioned.{Versioned}
use Rattle.versioned_map.specs.Objects.{held_at, listed, object_at}
use Rattle.versioned_map.proofs.HeldLaws.{ascending-listed, held_at-listed}
use Rattle.object_history.specs.Cache.{Cached}
use Rattle.object_cache.specs.Stays.{passing}
use Rattle.core_rules.specs.Core.{is_ready, service_of, waits, waiting}
use Rattle.core_rules.specs.Take.{no_key, is_unlisted, listed_keys}
use Rattle.core_laws.proofs.Awaiting.{has_key-kept, has_key-without}
use Rattle.core_laws.proofs.QueueOnce.{passing-found}
use Rattle.core_laws.proofs.Rows.{passing-has}
use Rattle.core_keys.specs.Picked.{others_where}
use Rattle.core_keys.proofs.KeyLists.{has-at}
use Rattle.ctl_core.specs.Waiting.{AreWaiting, waits_at}

-- ---- keys in order are told apart by their members
pub ascending-same : (xs ys : List Key) → IsStrictlySortedBy key_cmp xs → IsStrictlySortedBy key_cmp ys → ((key : Key) → has_key xs key ≡ has_key ys key)
    → xs ≡ ys
ascending-same xs ys x y same =
    btree_set_from_contains key_cmp-total (record { keys = xs }) (record { keys = ys }) x y (λ key. has-at xs key ∙ same key ∙ sym (has-at ys key))
    key_cmp-exact

-- ---- the keys of the services that pass
-- the service that was found passes
abbrev pub passes_at : (Key → Service → Bool) → Key → Option Service → Bool
passes_at test key None = false
passes_at test key (Some service) = test key service

-- the key of a service that passes is among them
pub passing-finds : (test : Key → Service → Bool) (es : List (Key × Versioned Service)) (key : Key) (service : Service)
    → object_at key_cmp es key ≡ Some service → test key service ≡ true → has_key (passing test es) key ≡ true
passing-finds test es key service found passes = passing-has test es key service found passes

finds-at : (found : Option Service) (test : Key → Service → Bool) (es : List (Key × Versioned Service)) (key : Key) → object_at key_cmp es key ≡ found
    → passes_at test key found ≡ true
    → has_key (passing test es) key ≡ true
finds-at None test es key is passes = absurd (cc)
finds-at (Some service) test es key is passes = passing-finds test es key service is passes

passing-by : (b : Bool) (test : Key → Service → Bool) (es : List (Key × Versioned Service)) → IsStrictlySortedBy key_cmp (keys_of es) → (key : Key)
    → has_key (passing test es) key ≡ b
    → b ≡ passes_at test key (object_at key_cmp es key)
passing-by true test es sorted key is = let found = passing-found test es sorted key is in sym (ap (passes_at test key) found.1 ∙ found.2)
passing-by false test es sorted key is =
    sym (false_from_ne_true (passes_at test key (object_at key_cmp es key))
    (λ passes. true≢false (sym (finds-at (object_at key_cmp es key) test es key refl passes) ∙ is)))

-- a key is among them where its service is held and passes
pub has-passing : (test : Key → Service → Bool) (es : List (Key × Versioned Service)) → IsStrictlySortedBy key_cmp (keys_of es) → (key : Key)
    → has_key (passing test es) key ≡ passes_at test key (object_at key_cmp es key)
has-passing test es sorted key = passing-by (has_key (passing test es) key) test es sorted key refl

-- they ascend
pub ascending-passing : (test : Key → Service → Bool) (es : List (Key × Versioned Service)) → IsStrictlySortedBy key_cmp (keys_of es)
    → IsStrictlySortedBy key_cmp (passing test es)
ascending-passing test es sorted = ascending-filter key_cmp (λ (e : Key × Versioned Service). test e.0 e.1.object) es sorted

-- ---- a service that waits
-- whether it waits hangs on its key's place in the queue and on its awaiting alone
pub waits_at-same : (class : Option (List ℕ)) (queue queue' awaiting awaiting' : List Key) (key : Key) (found : Option Service)
    → has_key queue key ≡ has_key queue' key → has_key awaiting key ≡ has_key awaiting' key
    → waits_at class queue awaiting key found ≡ waits_at class queue' awaiting' key found
waits_at-same class queue queue' awaiting awaiting' key None q a = refl
waits_at-same class queue queue' awaiting awaiting' key (Some service) q a =
    ap (λ b. (not b && not (has_key awaiting key)) && (is_handled class service && same_record service.holding empty_record)) q
    ∙ ap (λ b. (not (has_key queue' key) && not b) && (is_handled class service && same_record service.holding empty_record)) a

-- it is the test of those that wait, with no key told
pub waits_at-passes : (class : Option (List ℕ)) (queue awaiting : List Key) (key : Key) (found : Option Service)
    → waits_at class queue awaiting key found ≡ passes_at (waits class no_key queue awaiting) key found
waits_at-passes class queue awaiting key None = refl
waits_at-passes class queue awaiting key (Some service) = refl

module _ (class : Option (List ℕ)) (held : Cached) (queue awaiting : List Key) (set : BTreeSet Key) where
  -- while the core is ready, the set has the keys of those that wait
  pub waits-has : AreWaiting class held queue awaiting set → is_ready held ≡ true → (key : Key)
      → has_key set.keys key ≡ passes_at (waits class no_key queue awaiting) key (service_of held key)
  waits-has are ready key =
      sym (has-at set.keys key) ∙ are key ∙ ap (λ b. b && waits_at class queue awaiting key (service_of held key)) ready
      ∙ waits_at-passes class queue awaiting key (service_of held key)

-- ---- the set's keys in order are those that the services tell
others-at : (told : Bool) (class : Option (List ℕ)) (own : Key) (queue awaiting : List Key) (key : Key) (found : Option Service) → told ≡ same_key own key
    → cond told false (passes_at (waits class no_key queue awaiting) key found) ≡ passes_at (waits class (same_key own) queue awaiting) key found
others-at true class own queue awaiting key None t = refl
others-at false class own queue awaiting key None t = refl
others-at true class own queue awaiting key (Some service) t = rw (← t) refl
others-at false class own queue awaiting key (Some service) t = rw (← t) refl

listed-at : (test : Key → Service → Bool) (key : Key) (found : Option (Versioned Service))
    → cond (eqb (option_map_or (λ (h : Versioned Service). h.version) found 0) 0) false
    (passes_at test key (option_map (λ (h : Versioned Service). h.object) found))
    ≡ passes_at test key (option_map (λ (h : Versioned Service). h.object) (option_filter (λ (h : Versioned Service). not (eqb h.version 0)) found))
listed-at test key None = refl
listed-at test key (Some h) = by (eqb h.version 0)
  where
    by : (b : Bool) → cond b false (test key h.object) ≡ passes_at test key (option_map (λ (h : Versioned Service). h.object) (cond (not b) (Some h) None))
    by true = refl
    by false = refl

module _ (class : Option (List ℕ)) (held : Cached) (queue awaiting : List Key) (set : BTreeSet Key)
    (are : AreWaiting class held queue awaiting set) (ordered : IsOrdered key_cmp set) (sorted : IsStrictlySortedBy key_cmp (keys_of held.services))
    (ready : is_ready held ≡ true) where
  others-passing : (own : Key) → without own set.keys ≡ passing (waits class (same_key own) queue awaiting) held.services
  others-passing own =
      ascending-same (without own set.keys) (passing (waits class (same_key own) queue awaiting) held.services)
      (IsStrictlySortedBy-filter key_cmp (λ k. not (same_key k own)) set.keys ordered)
      (ascending-passing (waits class (same_key own) queue awaiting) held.services sorted)
      (λ key.
      has_key-without own set.keys key ∙ ap (cond (same_key own key) false) (waits-has class held queue awaiting set are ready key)
      ∙ others-at (same_key own key) class own queue awaiting key (service_of held key) refl
      ∙ sym (has-passing (waits class (same_key own) queue awaiting) held.services sorted key))

  -- the keys but one's own are the others that wait
  pub others-waiting : (lost : Bool) (own : Key) → others_where lost own set.keys ≡ waiting lost class (same_key own) queue awaiting held.services
  others-waiting true own = others-passing own
  others-waiting false own = refl

  -- those that were listed are those that wait of the listed services
  pub listed-waiting : listed_keys held.services set.keys ≡ passing (waits class no_key queue awaiting) (listed held.services)
  listed-waiting =
      let test = waits class no_key queue awaiting in
      ascending-same (listed_keys held.services set.keys) (passing test (listed held.services))
      (IsStrictlySortedBy-filter key_cmp (λ k. not (is_unlisted held.services k)) set.keys ordered)
      (ascending-passing test (listed held.services) (ascending-listed key_cmp held.services sorted))
      (λ key.
      has_key-kept (is_unlisted held.services) set.keys key
      ∙ ap (cond (is_unlisted held.services key) false) (waits-has class held queue awaiting set are ready key)
      ∙ listed-at test key (held_at key_cmp held.services key)
      ∙ ap (λ (found : Option (Versioned Service)). passes_at test key (option_map (λ (h : Versioned Service). h.object) found))
      (sym (held_at-listed key_cmp-total held.services key sorted))
      ∙ sym (has-passing test (listed held.services) (ascending-listed key_cmp held.services sorted) key))
