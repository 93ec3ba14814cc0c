-- What answers show to be gone.
use Rattle.std.proofs.Common.{◌≡◌, ℕ, zero, suc, ◌+◌, ◌<◌, ◌≤◌, Bool, true, false, eqb, ltb, ltb-true, List, [], ◌∷◌, ◌++◌, map, inl, inr, Option, Some, None, option_map, below_more}
use Rattle.std.proofs.Common.{⊎_elim, refl, sym, ap, subst, ◌∙◌, arith}
use Rattle.std.proofs.lemmas.Bool.{true≢false, eqb-true, and_parts}
use Rattle.std.proofs.lemmas.List.Elements.{Contains-append_left, Contains-push, Contains-push_cases}
use Rattle.std.specs.List.{list_any}
use Rattle.std.specs.List.{Contains, slice_get}
use Rattle.mlb_base.proofs.Among.{any-contains, any-found, contains-cons, contains-first, contains-later, contains-none}
use Rattle.kube_model.specs.declared.key.Key.{Key}
use Rattle.kube_model.specs.declared.put.Put.{Put}
use Rattle.kube_model.specs.Keys.{same_key}
use Rattle.kube_model.proofs.KeyLaws.{same_key-by, same_key-is}
use Rattle.status_store.specs.declared.stored.Stored.{Stored}
use Rattle.status_store.specs.Places.{service_at}
use Rattle.status_store.specs.Objects.{stored_at}
use Rattle.status_store.specs.Changes.{StoreValue, is_at_version}
use Rattle.status_store.proofs.ChangeLaws.{version-other}
use Rattle.world_rules.specs.Good.{stored_as}
use Rattle.world_rules.specs.Tracked.{version_at}
use Rattle.world_rules.proofs.Lanes.{counted-at}
use Rattle.fence_rules.specs.Cluster.{AreCovered, AreGone, IsGone, name_of}
use Rattle.put_fence.specs.declared.lease.ServiceVersion.{ServiceVersion}
use Rattle.put_fence.specs.declared.known.Known.{Known}
use Rattle.put_fence.specs.Fences.{but_first, first_last, is_named, is_of, is_owed, is_put, named_by, owed_and}
use Rattle.fence_laws.specs.Follows.{AreGoneBefore, WasAt, WasAbsent, name_at, names_of}
use Rattle.fence_laws.specs.Runs.{AreEarlier}

-- ---- lists of names

pub contains-mapped : {A B : Type 0} (f : A → B) (xs : List A) (x : A) → Contains xs x → Contains (map f xs) (f x)
contains-mapped f [] x found = absurd (contains-none x found)
contains-mapped f (y ∷ ys) x found =
    ⊎_elim (λ (e : y ≡ x). subst (λ z. Contains (f y ∷ map f ys) z) (ap f e) (contains-first (f y) (map f ys)))
    (λ later. contains-later (f y) (map f ys) (f x) (contains-mapped f ys x later)) (contains-cons y ys x found)

pub found-mapped : {A B : Type 0} (f : A → B) (xs : List A) (y : B) → Contains (map f xs) y → (x : A) × Contains xs x × (f x ≡ y)
found-mapped f [] y found = absurd (contains-none y found)
found-mapped f (x ∷ xs) y found =
    ⊎_elim (λ (e : f x ≡ y). (x, contains-first x xs, e))
    (λ later. let more = found-mapped f xs y later in (more.0, contains-later x xs more.0 more.1, more.2)) (contains-cons (f x) (map f xs) y found)

put-is : (put : Put) (n : ServiceVersion) → is_put put n ≡ true → name_at n ≡ name_of put
put-is put n e =
    let parts = and_parts (same_key n.key put.key) (eqb n.version put.version) e in
    let keys : n.key ≡ put.key = same_key-is n.key put.key parts.0 in
    let versions : n.version ≡ put.version = eqb-true n.version put.version parts.1 in
    ap (λ (key : Key). (key, n.version)) keys ∙ ap (λ (version : ℕ). (put.key, version)) versions

-- a put that is named is among the names
pub named-contains : (put : Put) (named : List ServiceVersion) → is_named put named ≡ true → Contains (names_of named) (name_of put)
named-contains put named e =
    let found = any-found (is_put put) named e in
    subst (Contains (names_of named)) (put-is put found.0 found.2) (contains-mapped name_at named found.0 found.1)

-- once each name up to the end is gone, all are
pub all-gone : (named : List ServiceVersion) (next : ℕ) (store : StoreValue) → slice_get named next ≡ None → AreGoneBefore next store named
    → AreGone store (names_of named)
all-gone [] next store end before = tt
all-gone (n ∷ named) zero store end before = let e : Some n ≡ None = end in absurd (cc)
all-gone (n ∷ named) (suc next) store end before =
    (before 0 (omega arith) n refl, all-gone named next store end (λ place lt m at. before (suc place) (omega (arith, lt)) m at))

-- one more is gone
pub gone-more : (named : List ServiceVersion) (next : ℕ) (store : StoreValue) (n : ServiceVersion) → slice_get named next ≡ Some n
    → IsGone store (name_at n) → AreGoneBefore next store named → AreGoneBefore (next + 1) store named
gone-more named next store n at gone before =
    let P : ℕ → Type 0 = λ place. (m : ServiceVersion) → slice_get named place ≡ Some m → IsGone store (name_at m) in
    below_more P next before
    (λ m other. (let e : Some n ≡ Some m = sym at ∙ other in let same : n ≡ m = cc in subst (λ (x : ServiceVersion). IsGone store (name_at x)) same gone))

-- ---- what is owed

-- what is among these is among those
abbrev AreAmong : List ServiceVersion → List ServiceVersion → Type 0
AreAmong xs ys = (n : ServiceVersion) → Contains xs n → Contains ys n

covered-more : (xs ys : List ServiceVersion) → AreAmong xs ys → (store : StoreValue) (late : List Put) → AreCovered store (names_of xs) late
    → AreCovered store (names_of ys) late
covered-more xs ys among store late covered put has =
    ⊎_elim (λ (g : IsGone store (name_of put)). inl g)
    (λ (named : Contains (names_of xs) (name_of put)).
    (let found = found-mapped name_at xs (name_of put) named in
    inr (subst (Contains (names_of ys)) found.2 (contains-mapped name_at ys found.0 (among found.0 found.1))))) (covered put has)

-- what is owed stays named beside a put, and so does the put
pub covered-and : (put : Put) (k : Known) (store : StoreValue) (late : List Put) → AreCovered store (names_of k.owed) late
    → AreCovered store (names_of (owed_and put k)) late
covered-and put k store late covered =
    covered-more k.owed (owed_and put k) (λ n has. Contains-append_left k.owed (named_by put ∷ []) n has) store late covered

pub named-and : (put : Put) (k : Known) → Contains (names_of (owed_and put k)) (name_of put)
named-and put k = contains-mapped name_at (owed_and put k) (named_by put) (Contains-push k.owed (named_by put))

last-first : (n : ServiceVersion) (more : List ServiceVersion) → AreAmong (n ∷ more) (more ++ n ∷ [])
last-first n more m has =
    ⊎_elim (λ (e : n ≡ m). subst (Contains (more ++ n ∷ [])) e (Contains-push more n))
    (λ later. Contains-append_left more (n ∷ []) m later) (contains-cons n more m has)

pub covered-round : (owed : List ServiceVersion) (store : StoreValue) (late : List Put) → AreCovered store (names_of owed) late
    → AreCovered store (names_of (first_last owed)) late
covered-round [] store late covered = covered
covered-round (n ∷ more) store late covered = covered-more (n ∷ more) (more ++ n ∷ []) (last-first n more) store late covered

pub covered-rest : (owed : List ServiceVersion) (n : ServiceVersion) (store : StoreValue) (late : List Put) → slice_get owed 0 ≡ Some n → IsGone store (name_at n)
    → AreCovered store (names_of owed) late → AreCovered store (names_of (but_first owed)) late
covered-rest [] n store late at gone covered put has = let e : None ≡ Some n = at in absurd (cc)
covered-rest (m ∷ more) n store late at gone covered put has =
    ⊎_elim (λ (g : IsGone store (name_of put)). inl g)
    (λ (named : Contains (name_at m ∷ names_of more) (name_of put)).
    ⊎_elim (λ (e : name_at m ≡ name_of put). inl (subst (IsGone store) (first e) gone)) (λ later. inr later)
    (contains-cons (name_at m) (names_of more) (name_of put) named)) (covered put has)
  where
    first : name_at m ≡ name_of put → name_at n ≡ name_of put
    first e = let same : Some m ≡ Some n = at in let is : n ≡ m = cc in ap name_at is ∙ e

-- ---- none of a service is owed

false-by : (b : Bool) → (b ≡ true → ⊥) → b ≡ false
false-by true never = absurd (never refl)
false-by false never = refl

abbrev any_of : Put → List ServiceVersion → Bool
any_of put owed = list_any (is_of put) owed

unowed-fewer : (put : Put) (xs ys : List ServiceVersion) → AreAmong ys xs → any_of put xs ≡ false → any_of put ys ≡ false
unowed-fewer put xs ys among none =
    false-by (any_of put ys)
    (λ some.
    (let found = any-found (is_of put) ys some in
    true≢false (sym (any-contains (is_of put) xs found.0 (among found.0 found.1) found.2) ∙ none)))

first-last : (n : ServiceVersion) (more : List ServiceVersion) → AreAmong (more ++ n ∷ []) (n ∷ more)
first-last n more m has =
    ⊎_elim (λ later. contains-later n more m later) (λ (e : n ≡ m). subst (Contains (n ∷ more)) e (contains-first n more)) (Contains-push_cases more n m has)

pub unowed-round : (put : Put) (owed : List ServiceVersion) → any_of put owed ≡ false → any_of put (first_last owed) ≡ false
unowed-round put [] none = none
unowed-round put (n ∷ more) none = unowed-fewer put (n ∷ more) (more ++ n ∷ []) (first-last n more) none

pub unowed-rest : (put : Put) (owed : List ServiceVersion) → any_of put owed ≡ false → any_of put (but_first owed) ≡ false
unowed-rest put [] none = none
unowed-rest put (n ∷ more) none = unowed-fewer put (n ∷ more) more (λ m has. contains-later n more m has) none

-- so each that was given up of it is gone
pub unowed-gone : (put : Put) (k : Known) (store : StoreValue) (late : List Put) → AreCovered store (names_of k.owed) late → is_owed put k ≡ false
    → (other : Put) → Contains late other → other.key ≡ put.key → IsGone store (name_of other)
unowed-gone put k store late covered none other has same =
    ⊎_elim (λ (g : IsGone store (name_of other)). g)
    (λ (named : Contains (names_of k.owed) (name_of other)).
    (let found = found-mapped name_at k.owed (name_of other) named in
    let key : found.0.key ≡ other.key = ap (λ (n : Key × ℕ). n.0) found.2 in
    absurd (true≢false
    (sym (any-contains (is_of put) k.owed found.0 found.1 (same_key-by found.0.key put.key (key ∙ same))) ∙ none))))
    (covered other has)

-- ---- what was seen at an earlier moment

other-version : (found : Option Stored) (old version counter : ℕ) → is_at_version version found ≡ true → version_at (option_map stored_as found) ≤ counter
    → old < version → (old ≤ counter) × (is_at_version old found ≡ false)
other-version None old version counter at le lt = absurd (true≢false (sym at))
other-version (Some held) old version counter at le lt =
    let e : held.version ≡ version = eqb-true held.version version at in
    let within : held.version ≤ counter = le in
    (omega (arith, e, within, lt), version-other held.version old (λ same. omega (arith, same, e, lt)))

pub gone-at : (past : List StoreValue) (store : StoreValue) (n : ServiceVersion) (version : ℕ) → AreEarlier past store → WasAt past n.key version
    → ltb n.version version ≡ true → IsGone store (name_at n)
gone-at past store n version earlier was later =
    let old = earlier was.store was.moment in
    old.1 (name_at n)
    (other-version (stored_at was.store.objects (service_at n.key)) n.version version was.store.counter was.at
    (counted-at was.store.counter was.store.objects (service_at n.key) old.0.counted).0 (ltb-true n.version version later))

pub gone-absent : (past : List StoreValue) (store : StoreValue) (n : ServiceVersion) → AreEarlier past store → WasAbsent past n.key n.version
    → IsGone store (name_at n)
gone-absent past store n earlier was =
    (earlier was.store was.moment).1 (name_at n) (was.given, ap (is_at_version n.version) was.absent)
