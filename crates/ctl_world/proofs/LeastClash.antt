-- Where no pair is found no two services clash, and the pair that is found is the least that do.
use Rattle.std.proofs.Common.{◌≡◌, ◌≢◌, ⊎_elim, Bool, true, false, ◌&&◌, not, cond, List, [], ◌∷◌, ◌++◌, Option, Some}
use Rattle.std.proofs.Common.{None, Ordering, Less, Equal, Greater, refl, sym, ap, subst, ◌∙◌, flat_map, ◌⊎◌, inl, inr}
use Rattle.std.proofs.lemmas.Bool.{and_parts, and_from, not-true, true≢false}
use Rattle.std.proofs.lemmas.List.Elements.{Contains-append_cases, Contains-append_left, Contains-append_right}
use Rattle.std.specs.Cmp.{tied_itself}
use Rattle.std.specs.List.{AllByRecursion, Contains, list_any}
use Rattle.std.specs.Ordering.{ordering_reverse, ordering_then}
use Rattle.ip_ranges.specs.Values.{AddressValue, has_address}
use Rattle.ip_ranges.proofs.AddressLaws.{has_address-is, has_address-from}
use Rattle.mlb_base.proofs.Among.{contains-none, contains-cons, contains-first, contains-later, any-contains, any-found}
use Rattle.kube_model.specs.declared.key.Key.{Key}
use Rattle.kube_model.specs.declared.object.Kind.TheVariants as kinds
use Rattle.kube_model.specs.declared.object.Object.{Object}
use Rattle.kube_model.specs.declared.object.Object.TheVariants as objects
use Rattle.kube_model.specs.declared.record.Record.{Record}
use Rattle.kube_model.specs.declared.service.Service.{Service}
use Rattle.kube_model.specs.Keys.{key_cmp, same_key}
use Rattle.kube_model.proofs.KeyLaws.{same_key-is, same_key-by, key_cmp-total}
use Rattle.sharing_terms.specs.declared.terms.Terms.{Terms}
use Rattle.sharing_terms.specs.Marked.{IsMarkOf}
use Rattle.sharing_terms.specs.Sharing.{MayShare, may_share}
use Rattle.sharing_terms.specs.Spelled.{recorded_terms}
use Rattle.sharing_terms.proofs.ReadBack.{recorded-exact}
use Rattle.sharing_terms.proofs.SharingLaws.{may_share-is, may_share-from}
use Rattle.status_store.specs.declared.stored.Stored.{Stored}
use Rattle.status_store.specs.Changes.{StoreValue, record_of}
use Rattle.status_store.specs.Objects.{IsAscending}
use Rattle.status_store.specs.Places.{Place, place_of, service_at}
use Rattle.status_store.proofs.ServicesByKey.{GivesOne, IsBelow as StandAbove, AreByKey as StandByKey, by_key as services-by_key}
use Rattle.world_rules.specs.Clash.{Clash, IsLeastClash}
use Rattle.world_rules.specs.Safe.{IsSafe, IsRecorded}
use Rattle.world_rules.proofs.Clash.{safe_without_clash}
use Rattle.ctl_world.specs.declared.clashes.Marked.{Marked}
use Rattle.ctl_world.specs.Clashes.{under, marked_of, marked_in, clash, partner, paired, first_pair, clash_in}

-- ---- two that clash

-- They are two, have an address in common, and may not share it.
record Clashing (a b : Marked) : Type 0 where
  apart : a.key ≢ b.key
  address : AddressValue
  there : Contains a.addresses address
  there_too : Contains b.addresses address
  unshared : ¬ (MayShare a.terms b.terms)

clashing : (a b : Marked) → clash a b ≡ true → Clashing a b
unfolding clash
clashing a b e =
    let two = and_parts (not (same_key a.key b.key) && list_any (has_address b.addresses) a.addresses) (not (may_share a.terms b.terms)) e in
    let one = and_parts (not (same_key a.key b.key)) (list_any (has_address b.addresses) a.addresses) two.0 in
    let found = any-found (has_address b.addresses) a.addresses one.1 in
    record {
      apart = λ same. true≢false (sym (same_key-by a.key b.key same) ∙ not-true (same_key a.key b.key) one.0);
      address = found.0;
      there = found.1;
      there_too = has_address-is b.addresses found.0 found.2;
      unshared = λ shares. true≢false (sym (may_share-from a.terms b.terms shares) ∙ not-true (may_share a.terms b.terms) two.1);
    }

not_by : (b : Bool) → (b ≡ true → ⊥) → not b ≡ true
not_by true none = absurd (none refl)
not_by false none = refl

clash-by : (a b : Marked) → Clashing a b → clash a b ≡ true
unfolding clash
clash-by a b c =
    and_from (not (same_key a.key b.key) && list_any (has_address b.addresses) a.addresses) (not (may_share a.terms b.terms))
    (and_from (not (same_key a.key b.key)) (list_any (has_address b.addresses) a.addresses)
    (not_by (same_key a.key b.key) (λ e. c.apart (same_key-is a.key b.key e)))
    (any-contains (has_address b.addresses) a.addresses c.address c.there (has_address-from b.addresses c.address c.there_too)))
    (not_by (may_share a.terms b.terms) (λ e. c.unshared (may_share-is a.terms b.terms e)))

-- ---- marked services

-- The object is the service that is marked so.
record IsMarkedBy (object : Object) (a : Marked) : Type 0 where
  service : Service
  is : object ≡ objects.Service service
  key : service.key ≡ a.key
  addresses : service.holding.addresses ≡ a.addresses
  terms : recorded_terms service.holding.mark ≡ Some a.terms

under-is : (service : Service) (found : Option Terms) (a : Marked) → recorded_terms service.holding.mark ≡ found → Contains (under service found) a
    → IsMarkedBy (objects.Service service) a
under-is service None a e there = absurd (contains-none a there)
under-is service (Some terms) a e there =
    ⊎_elim
    (λ same. record {
      service = service;
      is = refl;
      key = ap (λ (m : Marked). m.key) same;
      addresses = ap (λ (m : Marked). m.addresses) same;
      terms = e ∙ ap (λ (m : Marked). Some m.terms) same;
    })
    (λ none. absurd (contains-none a none))
    (contains-cons _ [] a there)

marked-is : (object : Object) (a : Marked) → Contains (marked_of object) a → IsMarkedBy object a
marked-is (objects.Service service) a there = under-is service (recorded_terms service.holding.mark) a refl there
marked-is (objects.Pool pool) a there = absurd (contains-none a there)
marked-is (objects.L2 adv) a there = absurd (contains-none a there)
marked-is (objects.Bgp adv) a there = absurd (contains-none a there)
marked-is (objects.Peer peer) a there = absurd (contains-none a there)
marked-is (objects.Community community) a there = absurd (contains-none a there)
marked-is (objects.Namespace namespace) a there = absurd (contains-none a there)
marked-is (objects.Node node) a there = absurd (contains-none a there)
marked-is (objects.Slice slice) a there = absurd (contains-none a there)

from-marked : (stored : List Stored) (a : Marked) → Contains (marked_in stored) a → (held : Stored) × Contains stored held × IsMarkedBy held.object a
from-marked [] a there = absurd (contains-none a there)
from-marked (held ∷ more) a there =
    ⊎_elim
    (λ here. (held, contains-first held more, marked-is held.object a here))
    (λ later. let rest = from-marked more a later in (rest.0, contains-later held more rest.0 rest.1, rest.2))
    (Contains-append_cases (marked_of held.object) (marked_in more) a there)

to-marked : (stored : List Stored) (held : Stored) (a : Marked) → Contains stored held → Contains (marked_of held.object) a → Contains (marked_in stored) a
to-marked [] held a there of = absurd (contains-none held there)
to-marked (first ∷ more) held a there of =
    ⊎_elim
    (λ same. Contains-append_left (marked_of first.object) (marked_in more) a (subst (λ (h : Stored). Contains (marked_of h.object) a) (sym same) of))
    (λ later. Contains-append_right (marked_of first.object) (marked_in more) a (to-marked more held a later of))
    (contains-cons first more held there)

-- the service under these terms
as_marked : Service → Terms → Marked
as_marked service terms = record { key = service.key; addresses = service.holding.addresses; terms = terms }

under-there : (service : Service) (found : Option Terms) (terms : Terms) → found ≡ Some terms → Contains (under service found) (as_marked service terms)
unfolding as_marked
under-there service None terms e = absurd (cc)
under-there service (Some given) terms e =
    subst (λ (found : Option Terms). Contains (under service found) (as_marked service terms)) (sym e) (contains-first (as_marked service terms) [])

-- the service is stored under this key and with this record
record IsServiceOf (object : Object) (key : Key) (r : Record) : Type 0 where
  service : Service
  is : object ≡ objects.Service service
  key_is : service.key ≡ key
  holds : service.holding ≡ r

is-service : (object : Object) (key : Key) (r : Record) → place_of object ≡ service_at key → record_of object ≡ r → IsServiceOf object key r
is-service (objects.Service service) key r place holds = record { service = service; is = refl; key_is = ap (λ (p : Place). p.1) place; holds = holds }
is-service (objects.Pool pool) key r place holds = let e : kinds.Pool ≡ kinds.Service = ap (λ (p : Place). p.0) place in absurd (cc)
is-service (objects.L2 adv) key r place holds = let e : kinds.L2 ≡ kinds.Service = ap (λ (p : Place). p.0) place in absurd (cc)
is-service (objects.Bgp adv) key r place holds = let e : kinds.Bgp ≡ kinds.Service = ap (λ (p : Place). p.0) place in absurd (cc)
is-service (objects.Peer peer) key r place holds = let e : kinds.Peer ≡ kinds.Service = ap (λ (p : Place). p.0) place in absurd (cc)
is-service (objects.Community community) key r place holds = let e : kinds.Community ≡ kinds.Service = ap (λ (p : Place). p.0) place in absurd (cc)
is-service (objects.Namespace namespace) key r place holds = let e : kinds.Namespace ≡ kinds.Service = ap (λ (p : Place). p.0) place in absurd (cc)
is-service (objects.Node node) key r place holds = let e : kinds.Node ≡ kinds.Service = ap (λ (p : Place). p.0) place in absurd (cc)
is-service (objects.Slice slice) key r place holds = let e : kinds.Slice ≡ kinds.Service = ap (λ (p : Place). p.0) place in absurd (cc)

marked-there : (service : Service) (terms : Terms) → recorded_terms service.holding.mark ≡ Some terms
    → Contains (marked_of (objects.Service service)) (as_marked service terms)
marked-there service terms e = under-there service (recorded_terms service.holding.mark) terms e

-- Among the marked services there is one of this key, with the addresses of the record and these terms.
record IsAmong (stored : List Stored) (key : Key) (r : Record) (terms : Terms) : Type 0 where
  marked : Marked
  there : Contains (marked_in stored) marked
  key_is : marked.key ≡ key
  addresses : marked.addresses ≡ r.addresses
  terms_are : marked.terms ≡ terms

among : (store : StoreValue) (key : Key) (r : Record) (terms : Terms) → IsRecorded store key r → IsMarkOf terms r.mark → IsAmong store.objects key r terms
unfolding as_marked
among store key r terms recorded marked =
    let of = is-service recorded.0.object key r recorded.1.1 recorded.2 in
    let mark : recorded_terms of.service.holding.mark ≡ Some terms =
    ap (λ (x : Record). recorded_terms x.mark) of.holds ∙ (recorded-exact r.mark terms).1 marked in
    record {
      marked = as_marked of.service terms;
      there = to-marked store.objects recorded.0 (as_marked of.service terms) recorded.1.0
          (subst (λ (o : Object). Contains (marked_of o) (as_marked of.service terms)) (sym of.is) (marked-there of.service terms mark));
      key_is = of.key_is;
      addresses = ap (λ (x : Record). x.addresses) of.holds;
      terms_are = refl;
    }

-- ---- services that clash, and marked services that do

-- Two of the marked services clash, and these are their keys.
record ArePair (stored : List Stored) (first second : Key) : Type 0 where
  a : Marked
  b : Marked
  there : Contains (marked_in stored) a
  there_too : Contains (marked_in stored) b
  clashes : clash a b ≡ true
  first_is : a.key ≡ first
  second_is : b.key ≡ second

found : (store : StoreValue) (first second : Key) → Clash store first second → ArePair store.objects first second
found store first second c =
    let x = among store first c.r c.terms c.recorded c.marked in
    let y = among store second c.q c.others c.recorded_too c.marked_too in
    record {
      a = x.marked;
      b = y.marked;
      there = x.there;
      there_too = y.there;
      clashes = clash-by x.marked y.marked (record {
        apart = λ same. c.apart (sym x.key_is ∙ same ∙ y.key_is);
        address = c.address;
        there = subst (λ (xs : List AddressValue). Contains xs c.address) (sym x.addresses) c.there;
        there_too = subst (λ (xs : List AddressValue). Contains xs c.address) (sym y.addresses) c.there_too;
        unshared =
            λ shares. c.unshared (subst (λ (t : Terms). MayShare t c.others) x.terms_are (subst (λ (u : Terms). MayShare x.marked.terms u) y.terms_are shares));
      });
      first_is = x.key_is;
      second_is = y.key_is;
    }

recorded : (store : StoreValue) (a : Marked) (held : Stored) → Contains store.objects held → (of : IsMarkedBy held.object a)
    → IsRecorded store a.key of.service.holding
recorded store a held there of = (held, (there, ap place_of of.is ∙ ap service_at of.key), ap record_of of.is)

clash-from : (store : StoreValue) (a b : Marked) → Contains (marked_in store.objects) a → Contains (marked_in store.objects) b → clash a b ≡ true
    → Clash store a.key b.key
clash-from store a b there there_too e =
    let c = clashing a b e in
    let x = from-marked store.objects a there in
    let y = from-marked store.objects b there_too in
    record {
      apart = c.apart;
      r = x.2.service.holding;
      q = y.2.service.holding;
      recorded = recorded store a x.0 x.1 x.2;
      recorded_too = recorded store b y.0 y.1 y.2;
      address = c.address;
      there = subst (λ (xs : List AddressValue). Contains xs c.address) (sym x.2.addresses) c.there;
      there_too = subst (λ (xs : List AddressValue). Contains xs c.address) (sym y.2.addresses) c.there_too;
      terms = a.terms;
      others = b.terms;
      marked = (recorded-exact x.2.service.holding.mark a.terms).0 x.2.terms;
      marked_too = (recorded-exact y.2.service.holding.mark b.terms).0 y.2.terms;
      unshared = c.unshared;
    }

-- ---- marked services stand by key

abbrev IsBelow : Key → List Marked → Type 0
IsBelow = StandAbove (λ (m : Marked). m.key)

abbrev AreByKey : List Marked → Type 0
AreByKey = StandByKey (λ (m : Marked). m.key)

one-under : (service : Service) (found : Option Terms)
    → (under service found ≡ []) ⊎ ((m : Marked) × (under service found ≡ m ∷ []) × (place_of (objects.Service service) ≡ service_at m.key))
one-under service None = inl refl
one-under service (Some terms) = inr (record { key = service.key; addresses = service.holding.addresses; terms = terms }, refl, refl)

one-marked : GivesOne (λ (m : Marked). m.key) marked_of
one-marked (objects.Service service) = one-under service (recorded_terms service.holding.mark)
one-marked (objects.Pool pool) = inl refl
one-marked (objects.L2 adv) = inl refl
one-marked (objects.Bgp adv) = inl refl
one-marked (objects.Peer peer) = inl refl
one-marked (objects.Community community) = inl refl
one-marked (objects.Namespace namespace) = inl refl
one-marked (objects.Node node) = inl refl
one-marked (objects.Slice slice) = inl refl

all-marked : (stored : List Stored) → flat_map (λ (held : Stored). marked_of held.object) stored ≡ marked_in stored
all-marked [] = refl
all-marked (held ∷ more) = ap (λ (services : List Marked). marked_of held.object ++ services) (all-marked more)

by_key : (stored : List Stored) → IsAscending stored → AreByKey (marked_in stored)
by_key stored s = subst AreByKey (all-marked stored) (services-by_key (λ (m : Marked). m.key) marked_of one-marked stored s)

-- what holds of each holds of one of them
at_member : (P : Marked → Type 0) (services : List Marked) (a : Marked) → AllByRecursion P services → Contains services a → P a
at_member P [] a all there = absurd (contains-none a there)
at_member P (first ∷ more) a all there =
    ⊎_elim (λ same. subst P same all.0) (λ later. at_member P more a all.1 later) (contains-cons first more a there)

flipped : (a b : Key) → key_cmp a b ≡ Less → key_cmp b a ≡ Greater
flipped a b e = key_cmp-total.antisymm b a ∙ ap ordering_reverse e

-- ---- the first that clashes with one

-- it is the key of one of them that clashes
abbrev IsPartner : Marked → List Marked → Key → Type 0
IsPartner a services key = (b : Marked) × Contains services b × (clash a b ≡ true) × (b.key ≡ key)

later-partner : (a first : Marked) (more : List Marked) (key : Key) → IsPartner a more key → IsPartner a (first ∷ more) key
later-partner a first more key is = (is.0, contains-later first more is.0 is.1, is.2, is.3)

partner_by : (r : Bool) (a first : Marked) (more : List Marked) (key : Key) → clash a first ≡ r → (partner a more ≡ Some key → IsPartner a more key)
    → cond r (Some first.key) (partner a more) ≡ Some key → IsPartner a (first ∷ more) key
partner_by true a first more key is ih e = (first, contains-first first more, is, cc)
partner_by false a first more key is ih e = later-partner a first more key (ih e)

is-partner : (a : Marked) (services : List Marked) (key : Key) → partner a services ≡ Some key → IsPartner a services key
is-partner a [] key e = absurd (cc)
is-partner a (first ∷ more) key e = partner_by (clash a first) a first more key refl (is-partner a more key) e

-- with none of them it clashes
abbrev HasNone : Marked → List Marked → Type 0
HasNone a services = (b : Marked) → Contains services b → clash a b ≡ true → ⊥

none_by : (r : Bool) (a first : Marked) (more : List Marked) → clash a first ≡ r → (partner a more ≡ None → HasNone a more)
    → cond r (Some first.key) (partner a more) ≡ None → HasNone a (first ∷ more)
none_by true a first more is ih e b there clashes = absurd (cc)
none_by false a first more is ih e b there clashes =
    ⊎_elim (λ same. true≢false (sym clashes ∙ ap (λ (x : Marked). clash a x) (sym same) ∙ is)) (λ later. ih e b later clashes)
    (contains-cons first more b there)

no-partner : (a : Marked) (services : List Marked) → partner a services ≡ None → HasNone a services
no-partner a [] e b there clashes = contains-none b there
no-partner a (first ∷ more) e b there clashes = none_by (clash a first) a first more refl (no-partner a more) e b there clashes

-- the key of none that clashes is less
abbrev IsLeast : Marked → List Marked → Key → Type 0
IsLeast a services key = (b : Marked) → Contains services b → clash a b ≡ true → key_cmp b.key key ≡ Less → ⊥

not-itself : (key : Key) → key_cmp key key ≡ Less → ⊥
not-itself key e = let tied : key_cmp key key ≡ Equal = tied_itself key_cmp-total key in absurd (cc)

not-above : (a b : Key) → key_cmp a b ≡ Less → key_cmp b a ≡ Less → ⊥
not-above a b e less = let more : key_cmp b a ≡ Greater = flipped a b e in absurd (cc)

least_by : (r : Bool) (a first : Marked) (more : List Marked) (key : Key) → clash a first ≡ r → IsBelow first.key more
    → (partner a more ≡ Some key → IsLeast a more key)
    → cond r (Some first.key) (partner a more) ≡ Some key → IsLeast a (first ∷ more) key
least_by true a first more key is low ih e b there clashes less =
    let same : first.key ≡ key = cc in
    let less' : key_cmp b.key first.key ≡ Less = ap (λ (k : Key). key_cmp b.key k) same ∙ less in
    ⊎_elim
    (λ here. not-itself first.key (ap (λ (x : Marked). key_cmp x.key first.key) here ∙ less'))
    (λ later. not-above first.key b.key (at_member (λ x. key_cmp first.key x.key ≡ Less) more b low later) less')
    (contains-cons first more b there)
least_by false a first more key is low ih e b there clashes less =
    ⊎_elim (λ same. true≢false (sym clashes ∙ ap (λ (x : Marked). clash a x) (sym same) ∙ is)) (λ later. ih e b later clashes less)
    (contains-cons first more b there)

least-partner : (a : Marked) (services : List Marked) (key : Key) → AreByKey services → partner a services ≡ Some key → IsLeast a services key
least-partner a [] key sorted e b there clashes less = contains-none b there
least-partner a (first ∷ more) key sorted e b there clashes less =
    least_by (clash a first) a first more key refl sorted.0 (least-partner a more key sorted.1) e b there clashes less

-- ---- the first pair

-- these are the keys of two that clash, one of these and one of all
abbrev IsPair : List Marked → List Marked → Key × Key → Type 0
IsPair services all pair = (a : Marked) × Contains services a × (a.key ≡ pair.0) × IsPartner a all pair.1

pair_by : (other : Option Key) (a : Marked) (more all : List Marked) (pair : Key × Key) → partner a all ≡ other
    → (first_pair more all ≡ Some pair → IsPair more all pair)
    → paired a.key other (first_pair more all) ≡ Some pair → IsPair (a ∷ more) all pair
pair_by None a more all pair is ih e = let rest = ih e in (rest.0, contains-later a more rest.0 rest.1, rest.2, rest.3)
pair_by (Some key) a more all pair is ih e =
    let same : (a.key, key) ≡ pair = cc in (
      a,
      contains-first a more,
      ap (λ (p : Key × Key). p.0) same,
      subst (λ (k : Key). IsPartner a all k) (ap (λ (p : Key × Key). p.1) same) (is-partner a all key is),
    )

is-pair : (services all : List Marked) (pair : Key × Key) → first_pair services all ≡ Some pair → IsPair services all pair
is-pair [] all pair e = absurd (cc)
is-pair (a ∷ more) all pair e = pair_by (partner a all) a more all pair refl (is-pair more all pair) e

-- none of these clashes with one of all
abbrev HaveNone : List Marked → List Marked → Type 0
HaveNone services all = (a : Marked) → Contains services a → HasNone a all

nothing_by : (other : Option Key) (a : Marked) (more all : List Marked) → partner a all ≡ other → (first_pair more all ≡ None → HaveNone more all)
    → paired a.key other (first_pair more all) ≡ None → HaveNone (a ∷ more) all
nothing_by None a more all is ih e b there =
    ⊎_elim (λ same. subst (λ (x : Marked). HasNone x all) same (no-partner a all is)) (λ later. ih e b later) (contains-cons a more b there)
nothing_by (Some key) a more all is ih e b there = absurd (cc)

no-pair : (services all : List Marked) → first_pair services all ≡ None → HaveNone services all
no-pair [] all e a there = absurd (contains-none a there)
no-pair (a ∷ more) all e b there = nothing_by (partner a all) a more all refl (no-pair more all) e b there

-- no two that clash stand before the pair
abbrev IsFirst : List Marked → List Marked → Key × Key → Type 0
IsFirst services all pair =
    (a b : Marked) → Contains services a → Contains all b → clash a b ≡ true → ordering_then (key_cmp a.key pair.0) (key_cmp b.key pair.1) ≡ Less → ⊥

then-tied : (o r : Ordering) → o ≡ Equal → ordering_then o r ≡ Less → r ≡ Less
then-tied Less r tied e = absurd (cc)
then-tied Equal r tied e = e
then-tied Greater r tied e = absurd (cc)

then-above : (o r : Ordering) → o ≡ Greater → ordering_then o r ≡ Less → ⊥
then-above Less r above e = absurd (cc)
then-above Equal r above e = absurd (cc)
then-above Greater r above e = absurd (cc)

tied-first : (key other : Key) (r : Ordering) → key ≡ other → ordering_then (key_cmp key other) r ≡ Less → r ≡ Less
tied-first key other r same e =
    then-tied (key_cmp key other) r (ap (λ (k : Key). key_cmp key k) (sym same) ∙ tied_itself key_cmp-total key) e

above-first : (key other : Key) (r : Ordering) → key_cmp other key ≡ Less → ordering_then (key_cmp key other) r ≡ Less → ⊥
above-first key other r low e = then-above (key_cmp key other) r (flipped other key low) e

first_by : (other : Option Key) (a : Marked) (more all : List Marked) (pair : Key × Key) → partner a all ≡ other → IsBelow a.key more → AreByKey all
    → (first_pair more all ≡ Some pair → IsFirst more all pair) → paired a.key other (first_pair more all) ≡ Some pair → IsFirst (a ∷ more) all pair
first_by None a more all pair is low sorted ih e x b there there' clashes less =
    ⊎_elim (λ same. subst (λ (y : Marked). HasNone y all) same (no-partner a all is) b there' clashes) (λ later. ih e x b later there' clashes less)
    (contains-cons a more x there)
first_by (Some key) a more all pair is low sorted ih e x b there there' clashes less =
    let same : (a.key, key) ≡ pair = cc in
    let first : a.key ≡ pair.0 = ap (λ (p : Key × Key). p.0) same in
    let second : key ≡ pair.1 = ap (λ (p : Key × Key). p.1) same in
    ⊎_elim
    (λ here. least-partner a all key sorted is b there' (ap (λ (y : Marked). clash y b) here ∙ clashes)
    (ap (λ (k : Key). key_cmp b.key k) second ∙ tied-first x.key pair.0 (key_cmp b.key pair.1) (sym (ap (λ (y : Marked). y.key) here) ∙ first) less))
    (λ later. above-first x.key pair.0 (key_cmp b.key pair.1)
    (ap (λ (k : Key). key_cmp k x.key) (sym first) ∙ at_member (λ y. key_cmp a.key y.key ≡ Less) more x low later) less)
    (contains-cons a more x there)

is-first : (services all : List Marked) (pair : Key × Key) → AreByKey services → AreByKey all → first_pair services all ≡ Some pair → IsFirst services all pair
is-first [] all pair sorted sorted' e a b there there' clashes less = contains-none a there
is-first (c ∷ more) all pair sorted sorted' e a b there there' clashes less =
    first_by (partner c all) c more all pair refl sorted.0 sorted' (is-first more all pair sorted.1 sorted') e a b there there' clashes less

-- ---- stores

pub safe-found : (store : StoreValue) → clash_in store.objects ≡ None → IsSafe store
safe-found store e =
    (safe_without_clash store).1
    (λ first second c. let f = found store first second c in
    no-pair (marked_in store.objects) (marked_in store.objects) e f.a f.there f.b f.there_too f.clashes)

pub least-found : (store : StoreValue) (first second : Key) → IsAscending store.objects → clash_in store.objects ≡ Some (first, second)
    → IsLeastClash store first second
least-found store first second ascending e =
    let services = marked_in store.objects in
    let pair = is-pair services services (first, second) e in
    let sorted : AreByKey services = by_key store.objects ascending in
    record {
      clash = subst (λ (k : Key). Clash store first k) pair.3.3
          (subst (λ (k : Key). Clash store k pair.3.0.key) pair.2 (clash-from store pair.0 pair.3.0 pair.1 pair.3.1 pair.3.2));
      least = λ a b c less.
          let f = found store a b c in
          is-first services services (first, second) sorted sorted e f.a f.b f.there f.there_too f.clashes
          (ap (λ (k : Key). ordering_then (key_cmp k first) (key_cmp f.b.key second)) f.first_is
          ∙ ap (λ (k : Key). ordering_then (key_cmp a first) (key_cmp k second)) f.second_is ∙ less);
    }
