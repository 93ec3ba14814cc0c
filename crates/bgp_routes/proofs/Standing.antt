-- Which addresses stand with which aggregates.
use Rattle.std.proofs.Common.{◌≡◌, ℕ, Bool, true, false, cond, not, ◌&&◌, ◌||◌, is_some, List, [], ◌∷◌}
use Rattle.std.proofs.Common.{Option, Some, None, Result, Ok, Err, Ordering, is_eq, refl, sym, ap, subst, ◌∙◌}
use Rattle.std.proofs.lemmas.Bool.{false≢true, or_left}
use Rattle.std.proofs.lemmas.Map.Lookups.{CmpEqualImpliesEq, exact_unsigned}
use Rattle.std.specs.BTreeMap.{is_at}
use Rattle.std.specs.BTreeSet.{BTreeSet}
use Rattle.std.specs.Cmp.{IsTotalOrder, Equal-is, nat_cmp_total, on_total, then_total, tied_itself}
use Rattle.std.specs.List.{list_any}
use Rattle.std.specs.Map.{keys_of, lookup}
use Rattle.std.specs.Ordering.{nat_cmp}
use Rattle.std.specs.Result.{OnOk}
use Rattle.grouped_keys.specs.Grouped.{in_group, is_in}
use Rattle.ip_ranges.specs.contracts.address.AddressOrd.TheImpl as derived
use Rattle.ip_ranges.specs.declared.family.Family.{Family}
use Rattle.ip_ranges.specs.declared.family.Family.TheVariants.{V4, V6}
use Rattle.ip_ranges.specs.Values.{AddressValue}
use Rattle.mlb_base.specs.Items.{IsIn}
use Rattle.mlb_base.proofs.Orders.{both_equal}
use Rattle.mlb_base.proofs.Bools.{or-cond, and_not-cond}
use Rattle.speaker_view.specs.Addresses.{address_cmp}
use Rattle.speaker_view.proofs.AddressOrder.{address_cmp-is, address_total, same-at}
use Rattle.bgp_routes.specs.contracts.contributors.AggregateOrd.TheImpl as derived_aggregates
use Rattle.bgp_routes.specs.declared.contributors.Aggregate.{Aggregate}
use Rattle.bgp_routes.specs.Contributors.{Entries, IsPutAt, aggregate_cmp, first_of, has, one_of}
use Rattle.bgp_routes.specs.Placed.{place_cmp, place_of}
use Rattle.bgp_routes.proofs.Placed.{place_cmp-exact, place_cmp-total}
use Rattle.bgp_routes.proofs.Stays.{in-any}

-- ---- the order of aggregates
pub aggregate_cmp-total : IsTotalOrder aggregate_cmp
aggregate_cmp-total = then_total (on_total (λ (g : Aggregate). g.place) place_cmp-total) (on_total (λ (g : Aggregate). g.advertisement) nat_cmp_total)

pub aggregate_cmp-exact : CmpEqualImpliesEq aggregate_cmp
aggregate_cmp-exact g h e =
    let both = both_equal (place_cmp g.place h.place) (nat_cmp g.advertisement h.advertisement) e in
    let places : g.place ≡ h.place = place_cmp-exact g.place h.place both.0 in
    let numbers : g.advertisement ≡ h.advertisement = exact_unsigned g.advertisement h.advertisement both.1 in
    λ i. record { place = places i; advertisement = numbers i }

-- it is the one by which the code compares
by_families : (f g : Family) (m n k l x y : ℕ)
    → derived_aggregates.cmp-value.it (record { place = place_of (record { family = f; number = m; length = k }); advertisement = x })
    (record { place = place_of (record { family = g; number = n; length = l }); advertisement = y })
    ≡ aggregate_cmp (record { place = place_of (record { family = f; number = m; length = k }); advertisement = x })
    (record { place = place_of (record { family = g; number = n; length = l }); advertisement = y })
by_families V4 V4 m n k l x y = refl
by_families V4 V6 m n k l x y = refl
by_families V6 V4 m n k l x y = refl
by_families V6 V6 m n k l x y = refl

aggregate_cmp-is : derived_aggregates.cmp-value.it ≡ aggregate_cmp
aggregate_cmp-is = λ i g h. by_families g.place.first.family h.place.first.family g.place.first.number h.place.first.number g.place.length h.place.length
    g.advertisement h.advertisement i

-- what is said by the orders of the code is said by these
by-orders : (P : (Aggregate → Aggregate → Ordering) → (AddressValue → AddressValue → Ordering) → Type 0)
    → P derived_aggregates.cmp-value.it derived.cmp-value.it → P aggregate_cmp address_cmp
by-orders P is =
    subst (λ (R : AddressValue → AddressValue → Ordering). P aggregate_cmp R) address_cmp-is
    (subst (λ (Q : Aggregate → Aggregate → Ordering). P Q derived.cmp-value.it) aggregate_cmp-is is)

-- a test by an exact order passes at equals alone
pub at-same : {K : Type 0} (R : K → K → Ordering) → CmpEqualImpliesEq R → (k l : K) → is_at (R k) l ≡ true → k ≡ l
at-same R exact k l e = exact k l ((Equal-is (R k l)).0 e)

pub at-itself : {K : Type 0} (R : K → K → Ordering) → IsTotalOrder R → (k : K) → is_at (R k) k ≡ true
at-itself R total k = ap is_eq (tied_itself total k)

-- ---- an address was put in, or taken out
module _ (old new : Entries) (g : Aggregate) (a : AddressValue) where
  abbrev IsIn-by : (Aggregate → Aggregate → Ordering) → (AddressValue → AddressValue → Ordering) → Type 0
  IsIn-by Q R = in_group Q R new ≡ (λ h b. is_at (Q g) h && is_at (R a) b || in_group Q R old h b)

  abbrev IsOut-by : (Aggregate → Aggregate → Ordering) → (AddressValue → AddressValue → Ordering) → Type 0
  IsOut-by Q R = in_group Q R new ≡ (λ h b. not (is_at (Q g) h && is_at (R a) b) && in_group Q R old h b)

  pub put-in : IsIn-by derived_aggregates.cmp-value.it derived.cmp-value.it → IsPutAt g a true old new
  put-in is h b =
      ap (λ f. f h b) (by-orders IsIn-by is) ∙ or-cond (is_at (aggregate_cmp g) h && is_at (address_cmp a) b) (has old h b)
      ∙ ap (λ t. cond (is_at (aggregate_cmp g) h && t) true (has old h b)) (same-at a b)

  pub put-out : IsOut-by derived_aggregates.cmp-value.it derived.cmp-value.it → IsPutAt g a false old new
  put-out is h b =
      ap (λ f. f h b) (by-orders IsOut-by is) ∙ and_not-cond (is_at (aggregate_cmp g) h && is_at (address_cmp a) b) (has old h b)
      ∙ ap (λ t. cond (is_at (aggregate_cmp g) h && t) false (has old h b)) (same-at a b)

  pub put-in_ok : {A E : Type 0} (r : Result A E) → OnOk r (IsIn-by derived_aggregates.cmp-value.it derived.cmp-value.it) → OnOk r (IsPutAt g a true old new)
  put-in_ok (Ok x) is = put-in is
  put-in_ok (Err e) is = tt

-- what follows of what an answer says
pub ok-then : {A E P Q : Type 0} (r : Result A E) → OnOk r P → (P → Q) → OnOk r Q
ok-then (Ok x) h then = then h
ok-then (Err e) h then = tt

-- nothing stands anywhere
pub none-stands : (entries : Entries) → in_group derived_aggregates.cmp-value.it derived.cmp-value.it entries ≡ (λ g a. false) → has entries ≡ (λ g a. false)
none-stands entries is = by-orders (λ Q R. in_group Q R entries ≡ (λ g a. false)) is

-- ---- one that stands
first-stands : (found : Option (BTreeSet AddressValue)) (a : AddressValue) → first_of found ≡ Some a → is_in address_cmp found a ≡ true
first-stands None a e = absurd (let wrong : None ≡ Some a = e in cc)
first-stands (Some addresses) a e = by-keys addresses.keys e where
  by-keys : (keys : List AddressValue) → first_of (Some (record { keys = keys })) ≡ Some a → list_any (is_at (address_cmp a)) keys ≡ true
  by-keys [] e = absurd (let wrong : None ≡ Some a = e in cc)
  by-keys (k ∷ keys) e =
      let same : k ≡ a = let own : Some k ≡ Some a = e in cc in
      or_left (is_at (address_cmp a) k) (list_any (is_at (address_cmp a)) keys)
      (subst (λ b. is_at (address_cmp a) b ≡ true) (sym same) (at-itself address_cmp address_total a))

stands-first : (found : Option (BTreeSet AddressValue)) (a : AddressValue) → is_in address_cmp found a ≡ true → is_some (first_of found) ≡ true
stands-first None a e = absurd (false≢true e)
stands-first (Some addresses) a e = by-keys addresses.keys e where
  by-keys : (keys : List AddressValue) → list_any (is_at (address_cmp a)) keys ≡ true → is_some (first_of (Some (record { keys = keys }))) ≡ true
  by-keys [] e = absurd (false≢true e)
  by-keys (k ∷ keys) e = refl

pub one-stands : (entries : Entries) (g : Aggregate) (a : AddressValue) → one_of entries g ≡ Some a → has entries g a ≡ true
one-stands entries g a e = first-stands (lookup (is_at (aggregate_cmp g)) entries) a e

pub stands-one : (entries : Entries) (g : Aggregate) (a : AddressValue) → has entries g a ≡ true → is_some (one_of entries g) ≡ true
stands-one entries g a e = stands-first (lookup (is_at (aggregate_cmp g)) entries) a e

pub there-is : {X : Type 0} (o : Option X) → is_some o ≡ true → (x : X) × (o ≡ Some x)
there-is None e = absurd (false≢true e)
there-is (Some x) e = (x, refl)

-- an aggregate with which one stands is among the keys
key-by : (b more : Bool) (here there : Option (BTreeSet AddressValue)) (a : AddressValue) → is_in address_cmp (cond b here there) a ≡ true
    → (is_in address_cmp there a ≡ true → more ≡ true) → (b || more) ≡ true
key-by true more here there a stands later = refl
key-by false more here there a stands later = later stands

stands-key : (entries : Entries) (g : Aggregate) (a : AddressValue) → has entries g a ≡ true → list_any (is_at (aggregate_cmp g)) (keys_of entries) ≡ true
stands-key [] g a e = absurd (false≢true e)
stands-key (d ∷ entries) g a e =
    key-by (is_at (aggregate_cmp g) d.0) (list_any (is_at (aggregate_cmp g)) (keys_of entries)) (Some d.1) (lookup (is_at (aggregate_cmp g)) entries) a e
    (stands-key entries g a)

pub stands-among : (entries : Entries) (g : Aggregate) (a : AddressValue) → has entries g a ≡ true → IsIn (keys_of entries) g
stands-among entries g a e =
    let found = in-any (is_at (aggregate_cmp g)) (keys_of entries) (stands-key entries g a e) in
    subst (IsIn (keys_of entries)) (sym (at-same aggregate_cmp aggregate_cmp-exact g found.0 found.2)) found.1
