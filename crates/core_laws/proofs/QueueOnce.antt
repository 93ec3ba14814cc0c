-- The queue has each key once, and none that awaits a newer event or is being written.
use Rattle.std.proofs.Common.{◌≡◌, ℕ, Bool, true, false, cond, not, ◌&&◌, ◌||◌, List, [], ◌∷◌, ◌++◌, filter}
use Rattle.std.proofs.Common.{Option, Some, Less, Equal, is_eq, option_map, ⊎_elim, refl, sym, ap, subst, ◌∙◌}
use Rattle.std.proofs.lemmas.Bool.{true≢false, or_cases, or_from, or_right, false_from_ne_true}
use Rattle.std.specs.Cmp.{Equal-is, tied_itself}
use Rattle.std.specs.List.{AllByRecursion}
use Rattle.std.specs.List.Sorted.{IsStrictlySortedBy}
use Rattle.std.specs.Map.{keys_of}
use Rattle.kube_model.specs.declared.key.Key.{Key}
use Rattle.kube_model.specs.declared.service.Service.{Service}
use Rattle.kube_model.specs.Service.{is_handled}
use Rattle.versioned_map.specs.declared.map.Versioned.{Versioned}
use Rattle.versioned_map.specs.Objects.{held_at, object_at}
use Rattle.kube_model.specs.Keys.{key_cmp, same_key, has_key}
use Rattle.kube_model.proofs.KeyLaws.{key_cmp-total, key_cmp-exact, same_key-is, same_key-itself, same_key-flip}
use Rattle.object_cache.specs.Stays.{passing}
use Rattle.kube_model.specs.Records.{empty_record, same_record}
use Rattle.core_rules.specs.Core.{waits, waiting}
use Rattle.core_laws.specs.Queue.{AreApart, NoneAmong}
use Rattle.core_laws.proofs.Awaiting.{has_key-kept}
use Rattle.core_laws.proofs.QuietReplies.{apart}
use Rattle.core_laws.proofs.Rows.{has_key-append, passing-cons}

pub among-append : (xs ys others : List Key) → NoneAmong xs others → NoneAmong ys others → NoneAmong (xs ++ ys) others
among-append xs ys others x y key there =
    ⊎_elim (λ here. x key here) (λ here. y key here) (or_cases (has_key xs key) (has_key ys key) (sym (has_key-append xs ys key) ∙ there))

apart-by : (xs ys : List Key) (k : Key) → has_key xs k ≡ false → has_key ys k ≡ false → has_key (xs ++ ys) k ≡ false
apart-by xs ys k x y = has_key-append xs ys k ∙ or_from (has_key xs k) (has_key ys k) x y

head-false : (xs ys : List Key) (k : Key) → NoneAmong ys (k ∷ xs) → has_key ys k ≡ false
head-false xs ys k none =
    false_from_ne_true (has_key ys k) (λ there. true≢false (sym (ap (λ b. b || has_key xs k) (same_key-itself k)) ∙ none k there))

tail-none : (xs ys : List Key) (k : Key) → NoneAmong ys (k ∷ xs) → NoneAmong ys xs
tail-none xs ys k none key there =
    false_from_ne_true (has_key xs key) (λ here. true≢false (sym (or_right (same_key k key) (has_key xs key) here) ∙ none key there))

pub apart-append : (xs ys : List Key) → AreApart xs → AreApart ys → NoneAmong ys xs → AreApart (xs ++ ys)
apart-append [] ys x y none = y
apart-append (k ∷ xs) ys x y none = (apart-by xs ys k x.0 (head-false xs ys k none), apart-append xs ys x.1 y (tail-none xs ys k none))

-- fewer keys
fewer-by : (b : Bool) (test : Key → Bool) (k : Key) (keys less : List Key) → has_key less k ≡ false → AreApart less → AreApart (cond b (k ∷ less) less)
fewer-by true test k keys less x y = (x, y)
fewer-by false test k keys less x y = y

pub cond-false : (b : Bool) (x : Bool) → x ≡ false → cond b false x ≡ false
cond-false true x e = refl
cond-false false x e = e

pub cond-true : (b : Bool) (x : Bool) → cond b false x ≡ true → x ≡ true
cond-true true x e = absurd (cc)
cond-true false x e = e

pub apart-kept : (test : Key → Bool) (keys : List Key) → AreApart keys → AreApart (filter (λ k. not (test k)) keys)
apart-kept test [] a = a
apart-kept test (k ∷ keys) a =
    fewer-by (not (test k)) test k keys (filter (λ x. not (test x)) keys) (has_key-kept test keys k ∙ cond-false (test k) (has_key keys k) a.0)
    (apart-kept test keys a.1)

pub kept-among : (test : Key → Bool) (keys others : List Key) → NoneAmong keys others → NoneAmong (filter (λ k. not (test k)) keys) others
kept-among test keys others none key there = none key (cond-true (test key) (has_key keys key) (sym (has_key-kept test keys key) ∙ there))

pub among-kept : (test : Key → Bool) (keys others : List Key) → NoneAmong keys others → NoneAmong keys (filter (λ k. not (test k)) others)
among-kept test keys others none key there = has_key-kept test others key ∙ cond-false (test key) (has_key others key) (none key there)

-- ---- the keys that pass
less-by : (b : Bool) (k y : Key) → b ≡ same_key y k → key_cmp k y ≡ Less → b ≡ false
less-by true k y b l =
    let is : y ≡ k = same_key-is y k (sym b) in
    let own : key_cmp k k ≡ Equal = tied_itself key_cmp-total k in
    let less : key_cmp k k ≡ Less = subst (λ x. key_cmp k x ≡ Less) is l in
    absurd (cc)
less-by false k y b l = refl

below-by : (b : Bool) (e : Key × Versioned Service) (rest : List Key) (k : Key) → same_key e.0 k ≡ false → has_key rest k ≡ false
    → has_key (cond b (e.0 ∷ rest) rest) k ≡ false
below-by true e rest k x y = or_from (same_key e.0 k) (has_key rest k) x y
below-by false e rest k x y = y

module _ (test : Key → Service → Bool) where
  passing-of : (e : Key × Versioned Service) (es : List (Key × Versioned Service))
      → passing test (e ∷ es) ≡ cond (test e.0 e.1.object) (e.0 ∷ passing test es) (passing test es)
  passing-of e es = passing-cons (test e.0 e.1.object) e (filter (λ (x : Key × Versioned Service). test x.0 x.1.object) es)

  below : (es : List (Key × Versioned Service)) (k : Key) → AllByRecursion (λ y. key_cmp k y ≡ Less) (keys_of es) → has_key (passing test es) k ≡ false
  below [] k all = refl
  below (e ∷ es) k all =
      ap (λ (ks : List Key). has_key ks k) (passing-of e es)
      ∙ below-by (test e.0 e.1.object) e (passing test es) k (less-by (same_key e.0 k) k e.0 refl all.0) (below es k all.1)

  apart-cons : (b : Bool) (k : Key) (rest : List Key) → has_key rest k ≡ false → AreApart rest → AreApart (cond b (k ∷ rest) rest)
  apart-cons true k rest x y = (x, y)
  apart-cons false k rest x y = y

  pub passing-apart : (es : List (Key × Versioned Service)) → IsStrictlySortedBy key_cmp (keys_of es) → AreApart (passing test es)
  unfolding IsStrictlySortedBy
  passing-apart [] s = tt
  passing-apart (e ∷ es) s =
      subst AreApart (sym (passing-of e es)) (apart-cons (test e.0 e.1.object) e.0 (passing test es) (below es e.0 s.0) (passing-apart es s.1))

  -- a key that passes
  found-here : (b here : Bool) (e : Key × Versioned Service) (rest : List Key) (key : Key) (found : Option Service) → b ≡ test e.0 e.1.object
      → here ≡ same_key e.0 key
      → (here ≡ true → has_key rest key ≡ false)
      → (has_key rest key ≡ true → (service : Service) × (found ≡ Some service) × (test key service ≡ true))
      → has_key (cond b (e.0 ∷ rest) rest) key ≡ true
      → (service : Service) × (cond here (Some e.1.object) found ≡ Some service) × (test key service ≡ true)
  found-here true true e rest key found b h none ih there =
      (e.1.object, refl, subst (λ k. test k e.1.object ≡ true) (same_key-is e.0 key (sym h)) (sym b))
  found-here false true e rest key found b h none ih there = absurd (true≢false (sym there ∙ none refl))
  found-here true false e rest key found b h none ih there = ih (ap (λ x. x || has_key rest key) h ∙ there)
  found-here false false e rest key found b h none ih there = ih there

-- keys are tied where they are one
pub eq-by : (b : Bool) (k key : Key) → b ≡ is_eq (key_cmp key k) → b ≡ same_key k key
eq-by true k key b =
    let is : key ≡ k = key_cmp-exact key k ((Equal-is (key_cmp key k)).0 (sym b)) in
    sym (subst (λ x. same_key k x ≡ true) (sym is) (same_key-itself k))
eq-by false k key b = sym (apart key k (sym b)) ∙ same_key-flip key k

map-cond : (b : Bool) (v : Versioned Service) (found : Option (Versioned Service))
    → option_map (λ (h : Versioned Service). h.object) (cond b (Some v) found) ≡ cond b (Some v.object) (option_map (λ (h : Versioned Service). h.object) found)
map-cond true v found = refl
map-cond false v found = refl

-- a key that passes is held, and its service passes
pub passing-found : (test : Key → Service → Bool) (es : List (Key × Versioned Service)) → IsStrictlySortedBy key_cmp (keys_of es) → (key : Key)
    → has_key (passing test es) key ≡ true
    → (service : Service) × (object_at key_cmp es key ≡ Some service) × (test key service ≡ true)
unfolding IsStrictlySortedBy
passing-found test [] s key there = absurd (cc)
passing-found test (e ∷ es) s key there =
    let found = found-here test (test e.0 e.1.object) (is_eq (key_cmp key e.0)) e (passing test es) key (object_at key_cmp es key) refl
    (eq-by (is_eq (key_cmp key e.0)) e.0 key refl)
    (λ here. subst (λ k. has_key (passing test es) k ≡ false) (sym (key_cmp-exact key e.0 ((Equal-is (key_cmp key e.0)).0 here))) (below test es e.0 s.0))
    (passing-found test es s.1 key)
    (ap (λ (ks : List Key). has_key ks key) (sym (passing-of test e es)) ∙ there) in
    (found.0, map-cond (is_eq (key_cmp key e.0)) e.1 (held_at key_cmp es key) ∙ found.1, found.2)

pub free-parts : (q a : Bool) → (not q && not a) ≡ true → (q ≡ false) × (a ≡ false)
free-parts false false e = (refl, refl)
free-parts false true e = absurd (cc)
free-parts true a e = absurd (cc)

-- ---- those that wait, and all that are free
-- A list of keys, each once, that aren't told, queued or awaiting.
pub record AreNew (keys queue awaiting : List Key) (told : Key → Bool) : Type 0 where
  pub once : AreApart keys
  pub unqueued : NoneAmong keys queue
  pub unawaited : NoneAmong keys awaiting
  pub untold : (key : Key) → has_key keys key ≡ true → told key ≡ false

pub none-new : (queue awaiting : List Key) (told : Key → Bool) → AreNew [] queue awaiting told
none-new queue awaiting told =
    record { once = tt; unqueued = λ key there. absurd (cc); unawaited = λ key there. absurd (cc); untold = λ key there. absurd (cc) }

waits-parts : (told q a h s : Bool) → (not told && ((not q && not a) && (h && s))) ≡ true → (told ≡ false) × (q ≡ false) × (a ≡ false)
waits-parts false false false h s e = (refl, refl, refl)
waits-parts true q a h s e = absurd (cc)
waits-parts false true a h s e = absurd (cc)
waits-parts false false true h s e = absurd (cc)

passing-new : (class : Option (List ℕ)) (told : Key → Bool) (queue awaiting : List Key) (es : List (Key × Versioned Service))
    → IsStrictlySortedBy key_cmp (keys_of es) → AreNew (passing (waits class told queue awaiting) es) queue awaiting told
passing-new class told queue awaiting es s =
    let of = λ (key : Key) (there : has_key (passing (waits class told queue awaiting) es) key ≡ true).
    (let found = passing-found (waits class told queue awaiting) es s key there in
    waits-parts (told key) (has_key queue key) (has_key awaiting key) (is_handled class found.0) (same_record found.0.holding empty_record) found.2) in
    record {
      once = passing-apart (waits class told queue awaiting) es s;
      unqueued = λ key there. (of key there).1;
      unawaited = λ key there. (of key there).2;
      untold = λ key there. (of key there).0;
    }

pub waiting-new : (lost : Bool) (class : Option (List ℕ)) (told : Key → Bool) (queue awaiting : List Key) (es : List (Key × Versioned Service))
    → IsStrictlySortedBy key_cmp (keys_of es) → AreNew (waiting lost class told queue awaiting es) queue awaiting told
waiting-new true class told queue awaiting es s = passing-new class told queue awaiting es s
waiting-new false class told queue awaiting es s = none-new queue awaiting told
