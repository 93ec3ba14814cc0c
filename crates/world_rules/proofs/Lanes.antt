-- What is pending: what it is for each service, and whose list it is of.
use Rattle.std.proofs.Common.{◌≡◌, ℕ, ◌≤◌, Bool, true, false, cond, List, [], ◌∷◌, ◌++◌, map, filter, reverse, Option, Some, None}
use Rattle.std.proofs.Common.{option_map, is_eq, Less, ◌⊎◌, inl, inr, refl, sym, ap, subst, ◌∙◌, append-nil, append_assoc, arith}
use Rattle.std.proofs.lemmas.Grind.{reverse_onto}
use Rattle.std.specs.List.{AllByRecursion}
use Rattle.std.specs.List.Sorted.{IsStrictlySortedBy}
use Rattle.mlb_base.proofs.Lists.{all-append}
use Rattle.kube_model.specs.declared.event.Event.{Event}
use Rattle.kube_model.specs.declared.event.Event.TheVariants.{ListEnd}
use Rattle.kube_model.specs.declared.event.ListGroup.{ListGroup}
use Rattle.kube_model.specs.declared.event.ListGroup.TheVariants as groups
use Rattle.kube_model.specs.declared.key.Key.{Key}
use Rattle.kube_model.specs.declared.object.Object.{Object}
use Rattle.kube_model.specs.declared.object.Object.TheVariants as objects
use Rattle.kube_model.specs.declared.record.Record.{Record}
use Rattle.kube_model.specs.declared.service.Service.{Service}
use Rattle.kube_model.specs.Keys.{key_cmp, same_key}
use Rattle.kube_model.specs.Kinds.{kind_of, group_of}
use Rattle.kube_model.proofs.KeyLaws.{same_key-is, same_key-flip, is_eq-key_cmp}
use Rattle.object_history.specs.Observations.{same_group}
use Rattle.object_history.proofs.Cached.{same_group-is}
use Rattle.status_store.specs.declared.stored.Stored.{Stored}
use Rattle.status_store.specs.Places.{Place, place_of, place_cmp, service_at}
use Rattle.status_store.specs.Objects.{IsAscending, AreCounted, places_of, is_of, stored_at}
use Rattle.status_store.specs.Changes.{StoreValue}
use Rattle.world_rules.specs.Tracked.{Shown, Notice, Shows, End, IsBehind, IsTracked, version_at}
use Rattle.world_rules.specs.Safe.{HasTerms}
use Rattle.world_rules.specs.Moves.{InAnyOrder, IsListOf}
use Rattle.world_rules.specs.declared.step.ListOrder.{ListOrder}
use Rattle.world_rules.specs.declared.step.ListOrder.TheVariants.{Ascending, Descending}
use Rattle.world_rules.specs.World.{as_shown, is_of_group, in_order, listing, to_lane}
use Rattle.world_rules.specs.Good.{stored_as, stored_of, notices_of, notices_in, IsOfGroup, ShowsTerms}
use Rattle.world_rules.proofs.Tracking.{listed_notices}

-- one list or the other
pub all-either : {X : Type 0} (b : Bool) (P : X → Type 0) (xs ys : List X) → AllByRecursion P xs → AllByRecursion P ys → AllByRecursion P (cond b xs ys)
all-either true P xs ys all others = all
all-either false P xs ys all others = others

-- ---- what is pending of a service
pub notices_in-append : (key : Key) (xs ys : List Event) → notices_in key (xs ++ ys) ≡ notices_in key xs ++ notices_in key ys
notices_in-append key [] ys = refl
notices_in-append key (x ∷ xs) ys =
    ap (λ (ns : List Notice). notices_of key x ++ ns) (notices_in-append key xs ys)
    ∙ sym (append_assoc (notices_of key x) (notices_in key xs) (notices_in key ys))

-- one event more
pub notices_in-push : (key : Key) (xs : List Event) (x : Event) → notices_in key (xs ++ x ∷ []) ≡ notices_in key xs ++ notices_of key x
notices_in-push key xs x = notices_in-append key xs (x ∷ []) ∙ ap (λ (ns : List Notice). notices_in key xs ++ ns) (append-nil (notices_of key x))

-- one that is followed is followed in other words
pub tracked-as : {n : ℕ} {ended : Bool} {s h : Option Shown} {claims : List Record} {notices : List Notice} (s' h' : Option Shown) (claims' : List Record)
    (notices' : List Notice)
    → s' ≡ s → h' ≡ h → claims' ≡ claims → notices' ≡ notices → IsTracked n ended s h claims notices → IsTracked n ended s' h' claims' notices'
tracked-as {n} {ended} {s} {h} {claims} {notices} s' h' claims' notices' a b c d t =
    subst (λ (x : Option Shown). IsTracked n ended x h' claims' notices') (sym a)
    (subst (λ (x : Option Shown). IsTracked n ended s x claims' notices') (sym b)
    (subst (λ (x : List Record). IsTracked n ended s h x notices') (sym c)
    (subst (λ (x : List Notice). IsTracked n ended s h claims x) (sym d) t)))

-- ---- what is stored of a service, and what its list shows
counted_by : (b : Bool) (n : ℕ) (held : Stored) (rest : Option Stored) → (1 ≤ held.version) × (held.version ≤ n)
    → (version_at (option_map stored_as rest) ≤ n) × IsBehind (option_map stored_as rest) 0
    → (version_at (option_map stored_as (cond b (Some held) rest)) ≤ n) × IsBehind (option_map stored_as (cond b (Some held) rest)) 0
counted_by true n held rest here later = (here.1, here.0)
counted_by false n held rest here later = later

-- a stored version is from 1 to the counter
pub counted-at : (n : ℕ) (objects : List Stored) (place : Place) → AreCounted n objects
    → (version_at (option_map stored_as (stored_at objects place)) ≤ n) × IsBehind (option_map stored_as (stored_at objects place)) 0
counted-at n [] place all = (omega arith, tt)
counted-at n (held ∷ more) place all = counted_by (is_of place held) n held (stored_at more place) all.0 (counted-at n more place all.1)

-- nothing stands at a place that is below each
none-later : (more : List Stored) (place : Place) → AllByRecursion (λ other. place_cmp place other ≡ Less) (places_of more) → stored_at more place ≡ None
none-later [] place all = refl
none-later (held ∷ more) place all =
    let other : is_of place held ≡ false = ap is_eq all.0 in
    ap (λ (b : Bool). cond b (Some held) (stored_at more place)) other ∙ none-later more place all.1

abbrev one_notice : Option Stored → List Notice
one_notice None = []
one_notice (Some held) = Shows (stored_as held) ∷ []

abbrev shows_each : List Stored → List Event
shows_each held = map as_shown (filter (is_of_group groups.Service) held)

-- the service itself, or another
listed_by : (b : Bool) (version : ℕ) (service : Service) (more : List Stored) (key : Key) → b ≡ same_key service.key key
    → (b ≡ true → stored_at more (service_at key) ≡ None) → notices_in key (shows_each more) ≡ one_notice (stored_at more (service_at key))
    → cond b (Shows (record { version = version; holding = service.holding }) ∷ []) [] ++ notices_in key (shows_each more)
    ≡ one_notice (cond b (Some (record { version = version; object = objects.Service service })) (stored_at more (service_at key)))
listed_by true version service more key e none ih =
    ap (λ (ns : List Notice). Shows (record { version = version; holding = service.holding }) ∷ ns) (ih ∙ ap one_notice (none refl))
listed_by false version service more key e none ih = ih

pub here-same : (key other : Key) → is_eq (key_cmp key other) ≡ same_key other key
here-same key other = is_eq-key_cmp key other ∙ same_key-flip key other

listed-object : (object : Object) (version : ℕ) (more : List Stored) (key : Key)
    → AllByRecursion (λ other. place_cmp (place_of object) other ≡ Less) (places_of more)
    → notices_in key (shows_each more) ≡ one_notice (stored_at more (service_at key))
    → (let held : Stored = record { version = version; object = object } in
    notices_in key (shows_each (held ∷ more)) ≡ one_notice (stored_at (held ∷ more) (service_at key)))
listed-object (objects.Service service) version more key below ih =
    let held : Stored = record { version = version; object = objects.Service service } in
    listed_by (same_key service.key key) version service more key refl
    (λ same. none-later more (service_at key)
    (subst (λ k. AllByRecursion (λ other. place_cmp (service_at k) other ≡ Less) (places_of more)) (same_key-is service.key key same) below)) ih
    ∙ ap (λ (b : Bool). one_notice (cond b (Some held) (stored_at more (service_at key)))) (sym (here-same key service.key))
listed-object (objects.Pool pool) version more key below ih = ih
listed-object (objects.L2 adv) version more key below ih = ih
listed-object (objects.Bgp adv) version more key below ih = ih
listed-object (objects.Peer peer) version more key below ih = ih
listed-object (objects.Community community) version more key below ih = ih
listed-object (objects.Namespace namespace) version more key below ih = ih
listed-object (objects.Node node) version more key below ih = ih
listed-object (objects.Slice slice) version more key below ih = ih

notices-shown : (held : List Stored) (key : Key) → IsAscending held → notices_in key (shows_each held) ≡ one_notice (stored_at held (service_at key))
unfolding IsStrictlySortedBy
notices-shown [] key s = refl
notices-shown (held ∷ more) key s = listed-object held.object held.version more key s.0 (notices-shown more key s.1)

ended_list : (found : Option Stored) → one_notice found ++ End ∷ [] ≡ listed_notices (option_map stored_as found)
ended_list None = refl
ended_list (Some held) = refl

-- ---- lists in any order
all-beside : {X : Type 0} (P : X → Type 0) (xs ys : List X) (x : X) → P x → AllByRecursion P (xs ++ ys) → AllByRecursion P (xs ++ x ∷ ys)
all-beside P [] ys x px all = (px, all)
all-beside P (z ∷ xs) ys x px all = (all.0, all-beside P xs ys x px all.1)

pub all-any : (P : Event → Type 0) (events lane : List Event) → InAnyOrder events lane → AllByRecursion P events → AllByRecursion P lane
all-any P [] lane is all = subst (AllByRecursion P) (sym is) tt
all-any P (event ∷ more) lane is all =
    subst (AllByRecursion P) (sym is.2) (all-beside P is.0 is.1 event all.0 (all-any P more (is.0 ++ is.1) is.3 all.1))

-- the orders of a list are such
same-order : (events : List Event) → InAnyOrder events events
same-order [] = refl
same-order (event ∷ more) = ([], more, refl, same-order more)

back-order : (events : List Event) → InAnyOrder events (reverse events)
back-order [] = refl
back-order (event ∷ more) = (reverse more, [], reverse_onto more event [], subst (InAnyOrder more) (sym (append-nil (reverse more))) (back-order more))

any-ordered : (order : ListOrder) (events : List Event) → InAnyOrder events (in_order order events)
any-ordered Ascending events = same-order events
any-ordered Descending events = back-order events

pub all-ordered : (P : Event → Type 0) (order : ListOrder) (events : List Event) → AllByRecursion P events → AllByRecursion P (in_order order events)
all-ordered P order events all = all-any P events (in_order order events) (any-ordered order events) all

-- ---- whose list it is of
of_by : (b : Bool) (group : ListGroup) (held : Stored) (rest : List Stored) → b ≡ is_of_group group held
    → AllByRecursion (IsOfGroup group) (map as_shown rest) → AllByRecursion (IsOfGroup group) (map as_shown (cond b (held ∷ rest) rest))
of_by true group held rest e all = (same_group-is (group_of (kind_of held.object)) group (sym e), all)
of_by false group held rest e all = all

of-each : (group : ListGroup) (held : List Stored) → AllByRecursion (IsOfGroup group) (map as_shown (filter (is_of_group group) held))
of-each group [] = tt
of-each group (held ∷ more) = of_by (is_of_group group held) group held (filter (is_of_group group) more) refl (of-each group more)

pub of-listing : (order : ListOrder) (group : ListGroup) (store : StoreValue) → AllByRecursion (IsOfGroup group) (listing order group store)
of-listing order group store =
    let shown = map as_shown (filter (is_of_group group) store.objects) in
    all-append (IsOfGroup group) (in_order order shown) (ListEnd group ∷ []) (all-ordered (IsOfGroup group) order shown (of-each group store.objects))
    (refl, tt)

typed_by : (b : Bool) (held : Stored) (rest : List Stored) → HasTerms held.object
    → AllByRecursion ShowsTerms (map as_shown rest) → AllByRecursion ShowsTerms (map as_shown (cond b (held ∷ rest) rest))
typed_by true held rest t all = (t, all)
typed_by false held rest t all = all

typed-each : (group : ListGroup) (held : List Stored) → AllByRecursion (λ (x : Stored). HasTerms x.object) held
    → AllByRecursion ShowsTerms (map as_shown (filter (is_of_group group) held))
typed-each group [] all = tt
typed-each group (held ∷ more) all = typed_by (is_of_group group held) held (filter (is_of_group group) more) all.0 (typed-each group more all.1)

pub typed-listing : (order : ListOrder) (group : ListGroup) (store : StoreValue) → AllByRecursion (λ (x : Stored). HasTerms x.object) store.objects
    → AllByRecursion ShowsTerms (listing order group store)
typed-listing order group store all =
    let shown = map as_shown (filter (is_of_group group) store.objects) in
    all-append ShowsTerms (in_order order shown) (ListEnd group ∷ []) (all-ordered ShowsTerms order shown (typed-each group store.objects all)) (tt, tt)

to_by : (b : Bool) (lane group : ListGroup) (events : List Event) → (b ≡ true → group ≡ lane) → AllByRecursion (IsOfGroup group) events
    → AllByRecursion (IsOfGroup lane) (cond b events [])
to_by true lane group events same all = subst (λ g. AllByRecursion (IsOfGroup g) events) (same refl) all
to_by false lane group events same all = tt

-- what goes to a lane is of its group
pub of-lane : (lane group : ListGroup) (events : List Event) → AllByRecursion (IsOfGroup group) events
    → AllByRecursion (IsOfGroup lane) (to_lane lane group events)
of-lane lane group events all = to_by (same_group group lane) lane group events (same_group-is group lane) all

pub all-lane : (P : Event → Type 0) (lane group : ListGroup) (events : List Event) → AllByRecursion P events → AllByRecursion P (to_lane lane group events)
all-lane P lane group events all = all-either (same_group group lane) P events [] all tt

-- ---- the notices of a list in any order
-- at most one notice
abbrev AtMostOne : List Notice → Type 0
AtMostOne ns = (ns ≡ []) ⊎ ((n : Notice) × (ns ≡ n ∷ []))

none-after : (n : Notice) (ns more : List Notice) → AtMostOne ((n ∷ ns) ++ more) → (ns ≡ []) × (more ≡ [])
none-after n [] more (inl none) = absurd (cc)
none-after n [] more (inr one) = (refl, (let e : n ∷ more ≡ one.0 ∷ [] = one.1 in cc))
none-after n (m ∷ ns) more (inl none) = absurd (cc)
none-after n (m ∷ ns) more (inr one) = let e : n ∷ m ∷ (ns ++ more) ≡ one.0 ∷ [] = one.1 in absurd (cc)

-- one notice stands anywhere among none
among : (here more xs ys : List Notice) → AtMostOne (here ++ more) → xs ++ ys ≡ more → xs ++ (here ++ ys) ≡ here ++ more
among [] more xs ys one is = is
among (n ∷ ns) more [] ys one is = ap (λ (z : List Notice). n ∷ (ns ++ z)) is
among (n ∷ ns) more (x ∷ xs) ys one is =
    let none : x ∷ (xs ++ ys) ≡ [] = is ∙ (none-after n ns more one).1 in
    absurd (cc)

later-one : (here more : List Notice) → AtMostOne (here ++ more) → AtMostOne more
later-one [] more one = one
later-one (n ∷ ns) more one = inl (none-after n ns more one).1

notices-any : (key : Key) (events lane : List Event) → InAnyOrder events lane → AtMostOne (notices_in key events) → notices_in key lane ≡ notices_in key events
notices-any key [] lane is one = ap (notices_in key) is
notices-any key (event ∷ more) lane is one =
    ap (notices_in key) is.2
    ∙ notices_in-append key is.0 (event ∷ is.1)
    ∙ among (notices_of key event) (notices_in key more) (notices_in key is.0) (notices_in key is.1) one
    (sym (notices_in-append key is.0 is.1) ∙ notices-any key more (is.0 ++ is.1) is.3 (later-one (notices_of key event) (notices_in key more) one))

one-at-most : (found : Option Stored) → AtMostOne (one_notice found)
one-at-most None = inl refl
one-at-most (Some held) = inr (Shows (stored_as held), refl)

-- a list of the services shows each as it is stored, and ends
pub notices-list : (store : StoreValue) (list : List Event) (key : Key) → IsAscending store.objects → IsListOf store list
    → notices_in key list ≡ listed_notices (stored_of store key)
notices-list store list key s listed =
    ap (notices_in key) listed.1
    ∙ notices_in-push key listed.0 (ListEnd groups.Service)
    ∙ ap (λ (ns : List Notice). ns ++ End ∷ [])
    (notices-any key (shows_each store.objects) listed.0 listed.2
    (subst AtMostOne (sym (notices-shown store.objects key s)) (one-at-most (stored_at store.objects (service_at key))))
    ∙ notices-shown store.objects key s)
    ∙ ended_list (stored_at store.objects (service_at key))

pub of-list : (store : StoreValue) (list : List Event) → IsListOf store list → AllByRecursion (IsOfGroup groups.Service) list
of-list store list listed =
    subst (AllByRecursion (IsOfGroup groups.Service)) (sym listed.1)
    (all-append (IsOfGroup groups.Service) listed.0 (ListEnd groups.Service ∷ [])
    (all-any (IsOfGroup groups.Service) (shows_each store.objects) listed.0 listed.2 (of-each groups.Service store.objects)) (refl, tt))

-- and so each list that `World` gives is one
pub listing-list : (order : ListOrder) (store : StoreValue) → IsListOf store (listing order groups.Service store)
listing-list order store = (in_order order (shows_each store.objects), refl, any-ordered order (shows_each store.objects))
