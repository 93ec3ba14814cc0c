-- Where the halves of a table meet, there the prefix's route stands, if it has one.
use Rattle.std.proofs.Common.{◌≡◌, ℕ, zero, suc, ◌<◌, Bool, true, false, cond, List, [], ◌∷◌, length, get_or, Option, Some, None, refl, sym, ap, ◌∙◌, arith}
use Rattle.std.specs.List.{list_all, slice_get}
use Rattle.std.specs.List.Sorted.{IsPartitionPoint, IsPartitionedBy}
use Rattle.std.specs.Map.{keys_of}
use Rattle.std.specs.Option.{option_and_then}
use Rattle.std.proofs.lemmas.Bool.Decides.{nat_tests}
use Rattle.std.proofs.lemmas.Bool.{and_parts, false_from_ne_true, and_from}
use Rattle.ip_ranges.specs.Values.{PrefixValue}
use Rattle.bgp_updates.specs.declared.route.Terms.{Terms}
use Rattle.bgp_updates.specs.Received.{same_prefix, terms_at}
use Rattle.ip_ranges.specs.declared.family.Family.{Family}
use Rattle.ip_ranges.specs.declared.family.Family.TheVariants.{V4, V6}
use Rattle.bgp_updates.specs.Tables.{Ascend, before, families_before, numbers_before}
use Rattle.bgp_updates.proofs.ReceivedLaws.{before-other, none-same, same_prefix-is, lookup-absent}

-- whether the route's prefix comes before this one
abbrev pub is_below : PrefixValue → PrefixValue × Terms → Bool
is_below p route = before route.0 p

-- the halves of a table meet here
abbrev pub AreHalves : PrefixValue → List (PrefixValue × Terms) → ℕ → Type 0
AreHalves p table at = IsPartitionPoint (λ route. is_below p route ≡ true) (λ route. is_below p route ≡ false) table at

-- the route's terms, where it is the prefix's
abbrev pub terms_for : PrefixValue → PrefixValue × Terms → Option Terms
terms_for p route = cond (same_prefix p route.0) (Some route.1) None

numbers-before-before : (a b c l m n : ℕ) → numbers_before a b l m ≡ true → numbers_before b c m n ≡ true → numbers_before a c l n ≡ true
numbers-before-before a b c l m n first second = grind (arith, nat_tests)

numbers-not_before : (a b c l m n : ℕ) → numbers_before a b l m ≡ true → numbers_before a c l n ≡ false → numbers_before c b n m ≡ true
numbers-not_before a b c l m n first other = grind (arith, nat_tests)

families-before-before : (f g h : Family) (x y z : Bool) → (x ≡ true → y ≡ true → z ≡ true) → families_before f g x ≡ true → families_before g h y ≡ true
    → families_before f h z ≡ true
families-before-before V4 V4 V4 x y z by first second = by first second
families-before-before V4 V4 V6 x y z by first second = refl
families-before-before V4 V6 V4 x y z by first second = absurd (let h : false ≡ true = second in cc)
families-before-before V4 V6 V6 x y z by first second = refl
families-before-before V6 V4 h x y z by first second = absurd (let h : false ≡ true = first in cc)
families-before-before V6 V6 V4 x y z by first second = absurd (let h : false ≡ true = second in cc)
families-before-before V6 V6 V6 x y z by first second = by first second

families-not_before : (f g h : Family) (x y z : Bool) → (x ≡ true → y ≡ false → z ≡ true) → families_before f g x ≡ true → families_before f h y ≡ false
    → families_before h g z ≡ true
families-not_before V4 V4 V4 x y z by first other = by first other
families-not_before V4 V4 V6 x y z by first other = absurd (let h : true ≡ false = other in cc)
families-not_before V4 V6 V4 x y z by first other = refl
families-not_before V4 V6 V6 x y z by first other = absurd (let h : true ≡ false = other in cc)
families-not_before V6 V4 h x y z by first other = absurd (let h : false ≡ true = first in cc)
families-not_before V6 V6 V4 x y z by first other = refl
families-not_before V6 V6 V6 x y z by first other = by first other

pub before-before : (p q r : PrefixValue) → before p q ≡ true → before q r ≡ true → before p r ≡ true
before-before p q r first second =
    families-before-before p.family q.family r.family (numbers_before p.number q.number p.length q.length) (numbers_before q.number r.number q.length r.length)
    (numbers_before p.number r.number p.length r.length)
    (numbers-before-before p.number q.number r.number p.length q.length r.length) first second

not_before : (p q r : PrefixValue) → before p q ≡ true → before p r ≡ false → before r q ≡ true
not_before p q r first other =
    families-not_before p.family q.family r.family (numbers_before p.number q.number p.length q.length) (numbers_before p.number r.number p.length r.length)
    (numbers_before r.number q.number r.length q.length)
    (numbers-not_before p.number q.number r.number p.length q.length r.length) first other

-- what stands before the first of prefixes that ascend stands before all of them
pub before-rest : (p q : PrefixValue) (prefixes : List PrefixValue) → before p q ≡ true → list_all (before q) prefixes ≡ true
    → list_all (before p) prefixes ≡ true
before-rest p q [] first all = refl
before-rest p q (r ∷ prefixes) first all =
    let parts = and_parts (before q r) (list_all (before q) prefixes) all in
    and_from (before p r) (list_all (before p) prefixes) (before-before p q r first parts.0) (before-rest p q prefixes first parts.1)

before-each : (p r : PrefixValue) (prefixes : List PrefixValue) → before p r ≡ false → list_all (before p) prefixes ≡ true → list_all (before r) prefixes ≡ true
before-each p r [] other all = refl
before-each p r (q ∷ prefixes) other all =
    let parts = and_parts (before p q) (list_all (before p) prefixes) all in
    rw (not_before p q r parts.0 other) (before-each p r prefixes other parts.1)

pub before-at : (p : PrefixValue) (table : List (PrefixValue × Terms)) (at : ℕ) (d : PrefixValue × Terms) → list_all (before p) (keys_of table) ≡ true
    → at < length table → before p (get_or table at d).0 ≡ true
before-at p [] at d all lt = absurd (omega arith)
before-at p (route ∷ table) zero d all lt = (and_parts (before p route.0) (list_all (before p) (keys_of table)) all).0
before-at p (route ∷ table) (suc at) d all lt = before-at p table at d (and_parts (before p route.0) (list_all (before p) (keys_of table)) all).1 (omega arith)

pub has-halves : (p : PrefixValue) (table : List (PrefixValue × Terms)) → Ascend (keys_of table) → IsPartitionedBy (is_below p) table
has-halves p [] ascend i j d le lt below = absurd (omega arith)
has-halves p (route ∷ table) ascend zero zero d le lt below = below
has-halves p (route ∷ table) ascend zero (suc j) d le lt below =
    before-before route.0 (get_or table j d).0 p (before-at route.0 table j d ascend.0 (omega arith)) below
has-halves p (route ∷ table) ascend (suc i) zero d le lt below = absurd (omega arith)
has-halves p (route ∷ table) ascend (suc i) (suc j) d le lt below = has-halves p table ascend.1 i j d (omega arith) (omega arith) below

halves-tail : (p : PrefixValue) (route : PrefixValue × Terms) (table : List (PrefixValue × Terms)) (at : ℕ) → AreHalves p (route ∷ table) (suc at)
    → AreHalves p table at
halves-tail p route table at halves =
    (λ k d low high. halves.0 (suc k) d (omega arith) (omega arith), λ k d low high. halves.1 (suc k) d (omega arith) (omega arith))

below-other : (p : PrefixValue) (route : PrefixValue × Terms) → is_below p route ≡ true → same_prefix p route.0 ≡ false
below-other p route below =
    false_from_ne_true (same_prefix p route.0) (λ same.
    let is = same_prefix-is p route.0 same in
    before-other route.0 p below (ap (λ q. same_prefix q p) (sym is) ∙ ap (same_prefix p) is ∙ same))

pub terms_at-halves : (p : PrefixValue) (table : List (PrefixValue × Terms)) (at : ℕ) → Ascend (keys_of table) → AreHalves p table at
    → terms_at table p ≡ option_and_then (terms_for p) (slice_get table at)
terms_at-halves p [] at ascend halves = refl
terms_at-halves p (route ∷ table) zero ascend halves =
    let all = before-each route.0 p (keys_of table) (halves.1 zero route (omega arith) (omega arith)) ascend.0 in
    ap (cond (same_prefix p route.0) (Some route.1)) (lookup-absent p table (none-same p (keys_of table) all))
terms_at-halves p (route ∷ table) (suc at) ascend halves =
    rw (below-other p route (halves.0 zero route (omega arith) (omega arith))) (terms_at-halves p table at ascend.1 (halves-tail p route table at halves))

-- Where they meet, the prefix's route stands, if it has one.
pub terms_at-there : (p : PrefixValue) (table : List (PrefixValue × Terms)) (at : ℕ) (there : PrefixValue × Terms) (own : Bool) → Ascend (keys_of table)
    → AreHalves p table at
    → slice_get table at ≡ Some there → same_prefix p there.0 ≡ own → terms_at table p ≡ cond own (Some there.1) None
terms_at-there p table at there own ascend halves is same =
    terms_at-halves p table at ascend halves ∙ ap (option_and_then (terms_for p)) is ∙ ap (λ v. cond v (Some there.1) None) same

-- Where they meet at the end, it has none.
pub terms_at-past : (p : PrefixValue) (table : List (PrefixValue × Terms)) (at : ℕ) → Ascend (keys_of table) → AreHalves p table at → slice_get table at ≡ None
    → terms_at table p ≡ None
terms_at-past p table at ascend halves past = terms_at-halves p table at ascend halves ∙ ap (option_and_then (terms_for p)) past
