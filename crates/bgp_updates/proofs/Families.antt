-- The routes of a family.
use Rattle.std.proofs.Common.{◌≡◌, ℕ, zero, suc, ◌≤◌, Bool, true, false, cond, List, [], ◌∷◌, length, get_or, take, drop, filter, All, refl, ap, arith}
use Rattle.std.proofs.lemmas.List.{append-nil}
use Rattle.std.proofs.lemmas.List.Elements.{All-filter, All-tail}
use Rattle.std.specs.List.{list_all, AllByRecursion}
use Rattle.std.specs.List.Sorted.{IsPartitionPoint, IsPartitionedBy}
use Rattle.std.specs.Map.{keys_of}
use Rattle.std.proofs.lemmas.Bool.{and_parts}
use Rattle.ip_ranges.specs.declared.family.Family.{Family}
use Rattle.ip_ranges.specs.declared.family.Family.TheVariants.{V4, V6}
use Rattle.ip_ranges.specs.Values.{PrefixValue, IsPrefix, same_family}
use Rattle.bgp_updates.specs.declared.route.Terms.{Terms}
use Rattle.bgp_updates.specs.declared.route.Peering.{Peering}
use Rattle.bgp_updates.specs.Between.{messages_between, messages_for}
use Rattle.bgp_updates.specs.Laws.{HopsAreOfRoutes}
use Rattle.bgp_updates.specs.Message.{in_messages}
use Rattle.bgp_updates.specs.Tables.{AreV4, Ascend, HasFew, IsTable, before, families_before, numbers_before, of_family}
use Rattle.bgp_updates.proofs.Halves.{before-at}

-- ---- the routes of a family are a table
kept-prefixes : (keep : PrefixValue × Terms → Bool) (routes : List (PrefixValue × Terms)) → AllByRecursion IsPrefix (keys_of routes)
    → AllByRecursion IsPrefix (keys_of (filter keep routes))
kept-prefixes keep [] are = tt
kept-prefixes keep (route ∷ routes) are =
    elim (keep route) as (λ v. AllByRecursion IsPrefix (keys_of (cond v (route ∷ filter keep routes) (filter keep routes)))) [
      | true ↦ (are.0, kept-prefixes keep routes are.1)
      | false ↦ kept-prefixes keep routes are.1
    ]

kept-all : (p : PrefixValue) (keep : PrefixValue × Terms → Bool) (routes : List (PrefixValue × Terms)) → list_all (before p) (keys_of routes) ≡ true
    → list_all (before p) (keys_of (filter keep routes)) ≡ true
kept-all p keep [] all = refl
kept-all p keep (route ∷ routes) all =
    let parts = and_parts (before p route.0) (list_all (before p) (keys_of routes)) all in
    elim (keep route) as (λ v. list_all (before p) (keys_of (cond v (route ∷ filter keep routes) (filter keep routes))) ≡ true) [
      | true ↦ rw parts.0 (kept-all p keep routes parts.1)
      | false ↦ kept-all p keep routes parts.1
    ]

pub kept-ascend : (keep : PrefixValue × Terms → Bool) (routes : List (PrefixValue × Terms)) → Ascend (keys_of routes) → Ascend (keys_of (filter keep routes))
kept-ascend keep [] ascend = tt
kept-ascend keep (route ∷ routes) ascend =
    elim (keep route) as (λ v. Ascend (keys_of (cond v (route ∷ filter keep routes) (filter keep routes)))) [
      | true ↦ (kept-all route.0 keep routes ascend.0, kept-ascend keep routes ascend.1)
      | false ↦ kept-ascend keep routes ascend.1
    ]

pub family-table : (family : Family) (routes : List (PrefixValue × Terms)) → IsTable routes → IsTable (of_family family routes)
family-table family routes table =
    let keep : PrefixValue × Terms → Bool = λ route. same_family route.0.family family in
    (kept-prefixes keep routes table.0, kept-ascend keep routes table.1)

pub family-few : (family : Family) (routes : List (PrefixValue × Terms)) → All HasFew routes → All HasFew (of_family family routes)
family-few family routes few = All-filter (λ (route : PrefixValue × Terms). same_family route.0.family family) HasFew routes few

-- ---- IPv4 comes first
abbrev pub is_first : PrefixValue × Terms → Bool
is_first route = same_family route.0.family V4

first-before : (f g : Family) (b : Bool) → families_before f g b ≡ true → same_family g V4 ≡ true → same_family f V4 ≡ true
first-before V4 g b e is = refl
first-before V6 V4 b e is = absurd (let h : false ≡ true = e in cc)
first-before V6 V6 b e is = absurd (let h : false ≡ true = is in cc)

pub families-apart : (table : List (PrefixValue × Terms)) → Ascend (keys_of table) → IsPartitionedBy is_first table
families-apart [] ascend i j d le lt first = absurd (omega arith)
families-apart (route ∷ table) ascend zero zero d le lt first = first
families-apart (route ∷ table) ascend zero (suc j) d le lt first =
    let p = route.0 in
    let q = (get_or table j d).0 in
    first-before p.family q.family (numbers_before p.number q.number p.length q.length) (before-at p table j d ascend.0 (omega arith)) first
families-apart (route ∷ table) ascend (suc i) zero d le lt first = absurd (omega arith)
families-apart (route ∷ table) ascend (suc i) (suc j) d le lt first = families-apart table ascend.1 i j d (omega arith) (omega arith) first

-- the halves of a table meet where IPv6 begins
abbrev pub MeetAt : List (PrefixValue × Terms) → ℕ → Type 0
MeetAt table at = IsPartitionPoint (λ route. is_first route ≡ true) (λ route. is_first route ≡ false) table at

meet-tail : (route : PrefixValue × Terms) (table : List (PrefixValue × Terms)) (at : ℕ) → MeetAt (route ∷ table) (suc at) → MeetAt table at
meet-tail route table at meet =
    (λ k d low high. meet.0 (suc k) d (omega arith) (omega arith), λ k d low high. meet.1 (suc k) d (omega arith) (omega arith))

meet-end : (route : PrefixValue × Terms) (table : List (PrefixValue × Terms)) → MeetAt (route ∷ table) zero → MeetAt table zero
meet-end route table meet = (λ k d low high. absurd (omega arith), λ k d low high. meet.1 (suc k) d (omega arith) (omega arith))

other-family : (f : Family) → same_family f V4 ≡ false → same_family f V6 ≡ true
other-family V4 e = absurd (let h : true ≡ false = e in cc)
other-family V6 e = refl

pub not-other : (f : Family) → same_family f V4 ≡ true → same_family f V6 ≡ false
not-other V4 e = refl
not-other V6 e = absurd (let h : false ≡ true = e in cc)

pub first-half : (table : List (PrefixValue × Terms)) (at : ℕ) → at ≤ length table → MeetAt table at → take at table ≡ of_family V4 table
first-half [] zero le meet = refl
first-half [] (suc at) le meet = absurd (omega arith)
first-half (route ∷ table) zero le meet =
    let own : is_first route ≡ false = meet.1 zero route (omega arith) (omega arith) in
    rw own (first-half table zero (omega arith) (meet-end route table meet))
first-half (route ∷ table) (suc at) le meet =
    let own : is_first route ≡ true = meet.0 zero route (omega arith) (omega arith) in
    rw own (ap (λ rest. route ∷ rest) (first-half table at (omega arith) (meet-tail route table at meet)))

pub second-half : (table : List (PrefixValue × Terms)) (at : ℕ) → at ≤ length table → MeetAt table at → drop at table ≡ of_family V6 table
second-half [] zero le meet = refl
second-half [] (suc at) le meet = absurd (omega arith)
second-half (route ∷ table) zero le meet =
    let own : is_first route ≡ false = meet.1 zero route (omega arith) (omega arith) in
    rw (other-family route.0.family own) (ap (λ rest. route ∷ rest) (second-half table zero (omega arith) (meet-end route table meet)))
second-half (route ∷ table) (suc at) le meet =
    let own : is_first route ≡ true = meet.0 zero route (omega arith) (omega arith) in
    rw (not-other route.0.family own) (second-half table at (omega arith) (meet-tail route table at meet))

-- ---- where all routes are of IPv4
all-first : (routes : List (PrefixValue × Terms)) → AreV4 routes → of_family V4 routes ≡ routes
all-first [] are = refl
all-first (route ∷ routes) are =
    let own : same_family route.0.family V4 ≡ true = ap (λ f. same_family f V4) (are 0 route (omega arith)) in
    rw own (ap (λ rest. route ∷ rest) (all-first routes (All-tail (λ (route : PrefixValue × Terms). route.0.family ≡ V4) route routes are)))

none-second : (routes : List (PrefixValue × Terms)) → AreV4 routes → of_family V6 routes ≡ []
none-second [] are = refl
none-second (route ∷ routes) are =
    let own : same_family route.0.family V6 ≡ false = ap (λ f. same_family f V6) (are 0 route (omega arith)) in
    rw own (none-second routes (All-tail (λ (route : PrefixValue × Terms). route.0.family ≡ V4) route routes are))

pub one-family : (peering : Peering) (old new : List (PrefixValue × Terms)) → AreV4 old → AreV4 new
    → messages_between peering old new ≡ messages_for V4 peering old new
unfolding in_messages
one-family peering old new old_are new_are =
    rw (all-first old old_are, all-first new new_are, none-second old old_are, none-second new new_are) (append-nil (messages_for V4 peering old new))

-- ---- where no new one is of IPv6
pub hops-told : HopsAreOfRoutes
hops-told peering hop old new are = rw (none-second new are) refl
