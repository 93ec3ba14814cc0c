-- How many services, keys, news and claims there are after a change.
use Rattle.std.proofs.Common.{◌≡◌, ℕ, suc, ◌+◌, ◌*◌, ◌≤◌, Bool, true, false, cond, not, leb, ◌||◌, is_some, is_eq, List, [], ◌∷◌, ◌++◌, length, filter}
use Rattle.std.proofs.Common.{Option, Some, None, Ordering, Less, Equal, Greater, option_map, refl, sym, ap, ◌∙◌, arith, append-nil}
use Rattle.std.proofs.lemmas.Bool.{true≢false, or_right}
use Rattle.std.specs.List.{list_any}
use Rattle.std.specs.Map.{keys_of}
use Rattle.std.specs.Ordering.{match_ordering}
use Rattle.std.specs.BTreeMap.{insert_entry, is_at}
use Rattle.std.proofs.lemmas.List.{length-map}
use Rattle.kube_model.specs.declared.event.Event.{Event}
use Rattle.kube_model.specs.declared.event.ListGroup.TheVariants as groups
use Rattle.kube_model.specs.declared.key.Key.{Key}
use Rattle.kube_model.specs.declared.service.Service.{Service}
use Rattle.kube_model.specs.Keys.{key_cmp, same_key, has_key, without}
use Rattle.kube_model.proofs.KeyLaws.{same_key-is, same_key-itself, same_key-flip, is_eq-key_cmp}
use Rattle.versioned_map.specs.declared.map.Versioned.{Versioned}
use Rattle.versioned_map.specs.Objects.{version_at, held_at}
use Rattle.versioned_map.proofs.Lengths.{length-remove_entry, length-listed, length-expired}
use Rattle.object_history.specs.LookBack.{event_ends_list}
use Rattle.claim_index.specs.Claims.{ClaimValue, has_claims, others}
use Rattle.status_store.specs.Changes.{StoreValue}
use Rattle.core_rules.specs.Core.{State}
use Rattle.core_rules.specs.Take.{Effect, Shows, Drops, EndsServices, Configures, Expires, Nothing, effect_of, core_by, core_take}
use Rattle.core_rules.proofs.Effects.{by_effect, config-services}
use Rattle.core_laws.specs.Queue.{AreApart, IsOrderlyQueue}
use Rattle.core_laws.proofs.Awaiting.{has_key-without}
use Rattle.settling_laws.specs.Clear.{is_current}
use Rattle.settling_laws.specs.Settling.{behind_end}
use Rattle.settling_laws.proofs.Left.{are_news, news_among, late_among, up_to_last, turns_for}

-- ---- keys that are distinct are no more than those that they are among
without-fewer : (k : Key) (keys : List Key) → length (without k keys) ≤ length keys
without-fewer k [] = omega arith
without-fewer k (x ∷ keys) = kept_by (not (same_key x k)) (without-fewer k keys)
  where
    kept_by : (b : Bool) → length (without k keys) ≤ length keys → length (cond b (x ∷ without k keys) (without k keys)) ≤ length (x ∷ keys)
    kept_by true ih = omega (arith, ih)
    kept_by false ih = omega (arith, ih)

without-one : (k : Key) (keys : List Key) → has_key keys k ≡ true → length (without k keys) + 1 ≤ length keys
without-one k [] there = absurd (true≢false (sym there))
without-one k (x ∷ keys) there = kept_by (same_key x k) there (without-one k keys)
  where
    kept_by : (b : Bool) → (b || has_key keys k) ≡ true → (has_key keys k ≡ true → length (without k keys) + 1 ≤ length keys)
        → length (cond (not b) (x ∷ without k keys) (without k keys)) + 1 ≤ length (x ∷ keys)
    kept_by true here ih = let a = without-fewer k keys in omega (arith, a)
    kept_by false here ih = let a = ih here in omega (arith, a)

other_by : (b : Bool) (keys others : List Key) (k key : Key) → same_key k key ≡ b → has_key keys k ≡ false → has_key keys key ≡ true
    → has_key others key ≡ true → cond b false (has_key others key) ≡ true
other_by true keys others k key same none there among =
    absurd (true≢false (sym there ∙ ap (has_key keys) (sym (same_key-is k key same)) ∙ none))
other_by false keys others k key same none there among = among

apart-few : (keys others : List Key) → AreApart keys → ((key : Key) → has_key keys key ≡ true → has_key others key ≡ true) → length keys ≤ length others
apart-few [] others apart among = omega arith
apart-few (k ∷ keys) others apart among =
    let here : has_key others k ≡ true = among k (ap (λ (b : Bool). b || has_key keys k) (same_key-itself k)) in
    let ih = apart-few keys (without k others) apart.1 (λ key there.
    has_key-without k others key
    ∙ other_by (same_key k key) keys others k key refl apart.0 there (among key (or_right (same_key k key) (has_key keys key) there))) in
    let one = without-one k others here in
    omega (arith, ih, one)

-- ---- keys that are held
held_by : (b : Bool) (e : Key × Versioned Service) (rest : Option (Versioned Service)) (keys : List Key) (key : Key) → same_key e.0 key ≡ b
    → (is_some rest ≡ true → has_key keys key ≡ true) → is_some (cond b (Some e.1) rest) ≡ true → (b || has_key keys key) ≡ true
held_by true e rest keys key at ih some = refl
held_by false e rest keys key at ih some = ih some

held-among : (es : List (Key × Versioned Service)) (key : Key) → is_some (held_at key_cmp es key) ≡ true → has_key (keys_of es) key ≡ true
held-among [] key some = absurd (true≢false (sym some))
held-among (e ∷ es) key some =
    let at : is_eq (key_cmp key e.0) ≡ same_key e.0 key = is_eq-key_cmp key e.0 ∙ same_key-flip key e.0 in
    held_by (same_key e.0 key) e (held_at key_cmp es key) (keys_of es) key refl (held-among es key)
    (ap (λ (b : Bool). is_some (cond b (Some e.1) (held_at key_cmp es key))) (sym at) ∙ some)

object-held : (o : Option (Versioned Service)) → is_some (option_map (λ (v : Versioned Service). v.object) o) ≡ true → is_some o ≡ true
object-held None e = e
object-held (Some v) e = refl

-- no more keys are queued than services held
pub queue-few : (s : State) → IsOrderlyQueue s → length s.queue ≤ length s.held.services
queue-few s orderly =
    let few = apart-few s.queue (keys_of s.held.services) orderly.once (λ key there.
    held-among s.held.services key (object-held (held_at key_cmp s.held.services key) (orderly.held key there))) in
    let as_many = length-map s.held.services (λ (e : Key × Versioned Service). e.0) in
    omega (arith, few, as_many)

-- ---- turns that may be made
pub up-few : (test : Key → Bool) (keys : List Key) → up_to_last test keys ≤ length keys
up-few test [] = omega arith
up-few test (key ∷ keys) = by_test (test key || list_any test keys) (up-few test keys)
  where
    by_test : (b : Bool) → up_to_last test keys ≤ length keys → cond b (suc (up_to_last test keys)) 0 ≤ length (key ∷ keys)
    by_test true ih = omega (arith, ih)
    by_test false ih = omega arith

pub turns-few : (held : ℕ) (test : Key → Bool) (queue : List Key) → length queue ≤ held → turns_for held test queue ≤ 2 * held
turns-few held test queue few = by_test (list_any test queue)
  where
    by_test : (b : Bool) → cond b (up_to_last test queue + held) (length queue) ≤ 2 * held
    by_test true = let a = up-few test queue in omega (arith, a, few)
    by_test false = omega (arith, few)

-- After a turn there is one turn less, whatever is queued after the others, if none of it has a record: where a claim may have been taken away, the
-- service had a record, or others that have one are queued yet.
pub turns-fewer : (held : ℕ) (test test' : Key → Bool) (k : Key) (rest woken : List Key) → length (rest ++ woken) ≤ held
    → list_any test' (rest ++ woken) ≡ list_any test rest → up_to_last test' (rest ++ woken) ≡ up_to_last test rest
    → (test k ≡ false → list_any test rest ≡ false → woken ≡ [])
    → turns_for held test' (rest ++ woken) + 1 ≤ turns_for held test (k ∷ rest)
turns-fewer held test test' k rest woken few any up none = by_rest (list_any test rest) refl
  where
    by_key : (b : Bool) → test k ≡ b → list_any test rest ≡ false
        → length (rest ++ woken) + 1 ≤ cond (b || false) (cond (b || false) (suc (up_to_last test rest)) 0 + held) (length (k ∷ rest))
    by_key true e r = omega (arith, few)
    by_key false e r = let same : rest ++ woken ≡ rest = ap (λ (ks : List Key). rest ++ ks) (none e r) ∙ append-nil rest in
        let as_many : length (rest ++ woken) ≡ length rest = ap length same in
        omega (arith, as_many)

    some_by : (b : Bool) → up_to_last test rest + held + 1 ≤ cond (b || true) (cond (b || true) (suc (up_to_last test rest)) 0 + held) (length (k ∷ rest))
    some_by true = omega arith
    some_by false = omega arith

    by_rest : (b : Bool) → list_any test rest ≡ b → turns_for held test' (rest ++ woken) + 1 ≤ turns_for held test (k ∷ rest)
    by_rest true e = rw (any, up, e) (some_by (test k))
    by_rest false e = rw (any, up, e) (by_key (test k) refl e)

-- what is queued after changes nothing of that, where none of it passes
pub up-kept : (test test' : Key → Bool) (keys more : List Key) → ((key : Key) → has_key keys key ≡ true → test' key ≡ test key)
    → ((key : Key) → has_key more key ≡ true → test' key ≡ false)
    → (list_any test' (keys ++ more) ≡ list_any test keys) × (up_to_last test' (keys ++ more) ≡ up_to_last test keys)
up-kept test test' [] more same none = none-up more none
  where
    none-up : (more : List Key) → ((key : Key) → has_key more key ≡ true → test' key ≡ false)
        → (list_any test' more ≡ false) × (up_to_last test' more ≡ 0)
    none-up [] none = (refl, refl)
    none-up (k ∷ more) none =
        let ih = none-up more (λ key there. none key (or_right (same_key k key) (has_key more key) there)) in
        let here : test' k ≡ false = none k (ap (λ (b : Bool). b || has_key more k) (same_key-itself k)) in
        (rw (here, ih.0) refl, rw (here, ih.0) refl)
up-kept test test' (k ∷ keys) more same none =
    let ih = up-kept test test' keys more (λ key there. same key (or_right (same_key k key) (has_key keys key) there)) none in
    let here : test' k ≡ test k = same k (ap (λ (b : Bool). b || has_key keys k) (same_key-itself k)) in
    (rw (here, ih.0) refl, rw (here, ih.0, ih.1) refl)

-- ---- services held after an event
inserted_by : {K X : Type 0} (r : Ordering) (k : K) (v : X) (e : K × X) (es less : List (K × X)) → length less ≤ length es + 1
    → length (match_ordering r ((k, v) ∷ e ∷ es) ((e.0, v) ∷ es) (e ∷ less)) ≤ length (e ∷ es) + 1
inserted_by Less k v e es less ih = omega arith
inserted_by Equal k v e es less ih = omega arith
inserted_by Greater k v e es less ih = omega (arith, ih)

one-more : {K X : Type 0} (cmp : K → K → Ordering) (es : List (K × X)) (k : K) (v : X) → length (insert_entry cmp es k v) ≤ length es + 1
one-more cmp [] k v = omega arith
one-more cmp (e ∷ es) k v = inserted_by (cmp k e.0) k v e es (insert_entry cmp es k v) (one-more cmp es k v)

either : {X : Type 0} (b : Bool) (xs ys : List X) (n : ℕ) → length xs ≤ n → length ys ≤ n → length (cond b xs ys) ≤ n
either true xs ys n a b = a
either false xs ys n a b = b

pub took-services : (s : State) (event : Event) → length (core_take s event).held.services ≤ length s.held.services + 1
took-services s = by_effect (λ event c. length (core_by c s event).held.services ≤ length s.held.services + 1)
    (λ version service.
    let es = s.held.services in
    let new : Versioned Service = record { version = version; object = service } in
    either (leb version (version_at key_cmp es service.key)) es (insert_entry key_cmp es service.key new) (length es + 1) (omega arith)
    (one-more key_cmp es service.key new))
    (λ key. let a = length-remove_entry (is_at (key_cmp key)) s.held.services in omega (arith, a))
    (let a = length-listed s.held.services in omega (arith, a))
    (λ event c. let a = ap length (config-services event s.held c) in omega (arith, a))
    (let a = length-expired s.held.services in omega (arith, a))
    (λ event. omega arith)

-- ---- news
one_few : (b : Bool) → cond b 1 0 ≤ 1
one_few true = omega arith
one_few false = omega arith

module _ (store store' : StoreValue) (s t : State) (stay : (key : Key) → is_current store s key ≡ true → is_current store' t key ≡ true) where
  less_by : (old new : Bool) (n : ℕ) → (old ≡ true → new ≡ true) → cond (not new) n 0 ≤ cond (not old) n 0
  less_by true true n stays = omega arith
  less_by true false n stays = absurd (true≢false (sym (stays refl)))
  less_by false true n stays = omega arith
  less_by false false n stays = omega arith

  same_by : (b : Bool) (n : ℕ) → cond b n 0 ≤ cond b n 0
  same_by b n = omega arith

  event-less : (e : Effect) (n : ℕ) → cond (are_news store' t e) n 0 ≤ cond (are_news store s e) n 0
  event-less (Shows version service) n = less_by (is_current store s service.key) (is_current store' t service.key) n (stay service.key)
  event-less (Drops key) n = omega arith
  event-less EndsServices n = omega arith
  event-less Configures n = omega arith
  event-less Expires n = omega arith
  event-less Nothing n = omega arith

  -- where what is current stays so, nothing becomes news
  pub news-less : (lane : List Event) → news_among store' t lane ≤ news_among store s lane
  news-less [] = omega arith
  news-less (event ∷ more) =
      let a = event-less (effect_of event) 1 in
      let b = news-less more in
      omega (arith, a, b)

  pub late-less : (lane : List Event) → late_among store' t lane ≤ late_among store s lane
  late-less [] = omega arith
  late-less (event ∷ more) =
      let a = event-less (effect_of event) (cond (list_any (event_ends_list groups.Service) more) 0 1) in
      let b = late-less more in
      omega (arith, a, b)

pub news-append : (store : StoreValue) (s : State) (xs ys : List Event) → news_among store s (xs ++ ys) ≡ news_among store s xs + news_among store s ys
news-append store s [] ys = omega arith
news-append store s (x ∷ xs) ys = let ih = news-append store s xs ys in omega (arith, ih)

any-none : {X : Type 0} (test : X → Bool) (xs ys : List X) → list_any test ys ≡ false → list_any test (xs ++ ys) ≡ list_any test xs
any-none test [] ys none = none
any-none test (x ∷ xs) ys none = ap (λ (b : Bool). test x || b) (any-none test xs ys none)

same_late : (b ends ends' : Bool) → ends ≡ ends' → cond b (cond ends 0 1) 0 ≤ cond b (cond ends' 0 1) 0
same_late true true true e = omega arith
same_late true true false e = omega arith
same_late true false true e = absurd (true≢false (sym e))
same_late true false false e = omega arith
same_late false ends ends' e = omega arith

-- after the end of the list no end comes
pub late-append : (store : StoreValue) (s : State) (xs ys : List Event) → list_any (event_ends_list groups.Service) ys ≡ false
    → late_among store s (xs ++ ys) ≤ late_among store s xs + late_among store s ys
late-append store s [] ys none = omega arith
late-append store s (x ∷ xs) ys none =
    let ih = late-append store s xs ys none in
    let same = any-none (event_ends_list groups.Service) xs ys none in
    let here = same_late (are_news store s (effect_of x)) (list_any (event_ends_list groups.Service) (xs ++ ys)) (list_any (event_ends_list groups.Service) xs) same in
    omega (arith, ih, here)

-- there are no more of them than events
pub news-few : (store : StoreValue) (s : State) (lane : List Event) → news_among store s lane ≤ length lane
news-few store s [] = omega arith
news-few store s (event ∷ more) =
    let a = one_few (are_news store s (effect_of event)) in
    let b = news-few store s more in
    omega (arith, a, b)

some_few : (b : Bool) (n : ℕ) → cond b n 0 ≤ n
some_few true n = omega arith
some_few false n = omega arith

pub late-few : (store : StoreValue) (s : State) (lane : List Event) → late_among store s lane ≤ behind_end groups.Service lane
late-few store s [] = omega arith
late-few store s (event ∷ more) =
    let a = some_few (are_news store s (effect_of event)) (cond (list_any (event_ends_list groups.Service) more) 0 1) in
    let b = late-few store s more in
    omega (arith, a, b)

-- ---- claims of services that pass
module _ (test test' : Key → Bool) where
  abbrev passing-claims : List ClaimValue → List ClaimValue
  passing-claims claims = filter (λ (c : ClaimValue). test c.key) claims

  abbrev passing-claims' : List ClaimValue → List ClaimValue
  passing-claims' claims = filter (λ (c : ClaimValue). test' c.key) claims

  kept_by : (p b b' : Bool) (c : ClaimValue) (kept less all : List ClaimValue) → (p ≡ true → b' ≡ true → b ≡ true)
      → length less ≤ length all → passing-claims' kept ≡ less
      → test' c.key ≡ b' → length (passing-claims' (cond p (c ∷ kept) kept)) ≤ length (cond b (c ∷ all) all)
  kept_by true true true c kept less all more ih is at = rw (at, is) (omega (arith, ih))
  kept_by true true false c kept less all more ih is at = rw (at, is) (omega (arith, ih))
  kept_by true false true c kept less all more ih is at = absurd (true≢false (sym (more refl refl)))
  kept_by true false false c kept less all more ih is at = rw (at, is) ih
  kept_by false true b' c kept less all more ih is at = rw is (omega (arith, ih))
  kept_by false false b' c kept less all more ih is at = rw is ih

  -- no more of those that are kept
  pub claims-fewer : (keep : ClaimValue → Bool) (claims : List ClaimValue) → ((c : ClaimValue) → keep c ≡ true → test' c.key ≡ true → test c.key ≡ true)
      → length (passing-claims' (filter keep claims)) ≤ length (passing-claims claims)
  claims-fewer keep [] more = omega arith
  claims-fewer keep (c ∷ claims) more =
      kept_by (keep c) (test c.key) (test' c.key) c (filter keep claims) (passing-claims' (filter keep claims)) (passing-claims claims) (more c)
      (claims-fewer keep claims more) refl refl

  more_by : (b b' : Bool) (c : ClaimValue) (less all : List ClaimValue) → (b' ≡ true → b ≡ true) → length less ≤ length all
      → length (cond b' (c ∷ less) less) ≤ length (cond b (c ∷ all) all)
  more_by true true c less all more ih = omega (arith, ih)
  more_by true false c less all more ih = omega (arith, ih)
  more_by false true c less all more ih = absurd (true≢false (sym (more refl)))
  more_by false false c less all more ih = ih

  pub claims-less : (claims : List ClaimValue) → ((c : ClaimValue) → test' c.key ≡ true → test c.key ≡ true)
      → length (passing-claims' claims) ≤ length (passing-claims claims)
  claims-less [] more = omega arith
  claims-less (c ∷ claims) more =
      more_by (test c.key) (test' c.key) c (passing-claims' claims) (passing-claims claims) (more c) (claims-less claims more)

  -- without those of a service that passed there are fewer
  module _ (k : Key) (passes : test k ≡ true)
      (more : (c : ClaimValue) → not (same_key c.key k) ≡ true → test' c.key ≡ true → test c.key ≡ true)
    where
      fewer_by : (same b b' : Bool) (c : ClaimValue) (claims : List ClaimValue) → same_key c.key k ≡ same → test c.key ≡ b → test' c.key ≡ b'
          → (same || has_claims k claims) ≡ true
          → (has_claims k claims ≡ true → length (passing-claims' (others k claims)) + 1 ≤ length (passing-claims claims))
          → length (passing-claims' (cond (not same) (c ∷ others k claims) (others k claims))) + 1 ≤ length (cond b (c ∷ passing-claims claims) (passing-claims claims))
      fewer_by true true b' c claims same is is' there ih =
          let a = claims-fewer (λ (x : ClaimValue). not (same_key x.key k)) claims more in omega (arith, a)
      fewer_by true false b' c claims same is is' there ih =
          absurd (true≢false (sym passes ∙ ap test (sym (same_key-is c.key k same)) ∙ is))
      fewer_by false true true c claims same is is' there ih = let a = ih there in rw is' (omega (arith, a))
      fewer_by false true false c claims same is is' there ih = let a = ih there in rw is' (omega (arith, a))
      fewer_by false false true c claims same is is' there ih =
          absurd (true≢false (sym (more c (ap not same) is') ∙ is))
      fewer_by false false false c claims same is is' there ih = rw is' (ih there)

      pub others-fewer : (claims : List ClaimValue) → has_claims k claims ≡ true
          → length (passing-claims' (others k claims)) + 1 ≤ length (passing-claims claims)
      others-fewer [] there = absurd (true≢false (sym there))
      others-fewer (c ∷ claims) there =
          fewer_by (same_key c.key k) (test c.key) (test' c.key) c claims refl refl refl there (others-fewer claims)
