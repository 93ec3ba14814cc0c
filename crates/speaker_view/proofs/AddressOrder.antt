-- The order of addresses, and sets of them as lists that ascend.
use Rattle.std.proofs.Common.{◌≡◌, ℕ, Bool, true, cond, List, [], Ordering, is_eq, refl, sym, ap, ◌∙◌, subst, Decides, inl, inr}
use Rattle.std.specs.declared.cmp.Ordering.TheVariants.{Equal}
use Rattle.std.specs.Ordering.{nat_cmp}
use Rattle.std.specs.Cmp.{IsTotalOrder, Equal-is, tied_itself, then_total, on_total, nat_cmp_total}
use Rattle.std.specs.List.{list_any}
use Rattle.std.specs.List.Sorted.{IsStrictlySortedBy}
use Rattle.std.specs.BTreeMap.{is_at}
use Rattle.std.proofs.lemmas.Bool.Decides.{same_from_decides}
use Rattle.std.proofs.lemmas.Map.Lookups.{CmpEqualImpliesEq, exact_unsigned, btree_set_from_contains}
use Rattle.ip_ranges.specs.declared.family.Family.{Family}
use Rattle.ip_ranges.specs.declared.family.Family.TheVariants.{V4, V6}
use Rattle.ip_ranges.specs.Values.{AddressValue, same_address, has_address}
use Rattle.ip_ranges.specs.contracts.address.AddressOrd.TheImpl as derived
use Rattle.ip_ranges.proofs.AddressLaws.{same_address-is, same_address-itself, same_address-flip}
use Rattle.mlb_base.specs.Items.{IsIn}
use Rattle.mlb_base.proofs.Lists.{Decides-has}
use Rattle.mlb_base.proofs.Orders.{both_equal}
use Rattle.pool_config.specs.KeySets.{keys_with}
use Rattle.pool_config.proofs.KeySets.{ascending-keys_with, in_keys, keys_in}
use Rattle.speaker_view.specs.Addresses.{family_cmp, address_cmp}

-- ---- the order of addresses
abbrev rank : Family → ℕ
rank V4 = 0
rank V6 = 1

by_rank : (f g : Family) → nat_cmp (rank f) (rank g) ≡ family_cmp f g
by_rank V4 V4 = refl
by_rank V4 V6 = refl
by_rank V6 V4 = refl
by_rank V6 V6 = refl

family_total : IsTotalOrder family_cmp
family_total = subst (λ (R : Family → Family → Ordering). IsTotalOrder R) (λ i f g. by_rank f g i) (on_total rank nat_cmp_total)

family_exact : (f g : Family) → family_cmp f g ≡ Equal → f ≡ g
family_exact V4 V4 e = refl
family_exact V4 V6 e = absurd (cc)
family_exact V6 V4 e = absurd (cc)
family_exact V6 V6 e = refl

pub address_total : IsTotalOrder address_cmp
address_total = then_total (on_total (λ (a : AddressValue). a.family) family_total) (on_total (λ (a : AddressValue). a.number) nat_cmp_total)

pub address_exact : CmpEqualImpliesEq address_cmp
address_exact a b e =
    let both = both_equal (family_cmp a.family b.family) (nat_cmp a.number b.number) e in
    let families : a.family ≡ b.family = family_exact a.family b.family both.0 in
    let numbers : a.number ≡ b.number = exact_unsigned a.number b.number both.1 in
    λ i. record { family = families i; number = numbers i }

-- it is the one by which the code compares
by_families : (f g : Family) (m n : ℕ)
    → derived.cmp-value.it (record { family = f; number = m }) (record { family = g; number = n })
    ≡ address_cmp (record { family = f; number = m }) (record { family = g; number = n })
by_families V4 V4 m n = refl
by_families V4 V6 m n = refl
by_families V6 V4 m n = refl
by_families V6 V6 m n = refl

pub address_cmp-is : derived.cmp-value.it ≡ address_cmp
address_cmp-is = λ i a b. by_families a.family b.family a.number b.number i

-- ---- the addresses of a set
pub same-at : (a b : AddressValue) → is_at (address_cmp a) b ≡ same_address a b
same-at a b =
    same_from_decides {P = a ≡ b} (is_at (address_cmp a) b) (same_address a b) (
      λ e. address_exact a b ((Equal-is (address_cmp a b)).0 e),
      λ is. subst (λ (x : AddressValue). is_at (address_cmp a) x ≡ true) is (ap is_eq (tied_itself address_total a)),
    )
    (λ e. same_address-is a b e, λ is. subst (λ (x : AddressValue). same_address a x ≡ true) is (same_address-itself a))

-- a look-up finds an address where the list has it
pub found-has : (addresses : List AddressValue) (a : AddressValue) → list_any (is_at (address_cmp a)) addresses ≡ has_address addresses a
found-has addresses a = λ i. list_any (λ b. same-at a b i) addresses

-- an order finds the addresses that were held, where one was put in, or taken out
abbrev pub Finds : (AddressValue → AddressValue → Ordering) → List AddressValue → List AddressValue → Bool → AddressValue → Type 0
Finds R old new b address = (a : AddressValue) → list_any (is_at (R a)) new ≡ cond (is_at (R address) a) b (list_any (is_at (R a)) old)

-- the lists have them
pub has-updated : (old new : List AddressValue) (b : Bool) (address : AddressValue) → Finds derived.cmp-value.it old new b address
    → (a : AddressValue) → has_address new a ≡ cond (same_address a address) b (has_address old a)
has-updated old new b address finds a =
    let updates : Finds address_cmp old new b address =
    subst (λ (R : AddressValue → AddressValue → Ordering). Finds R old new b address) address_cmp-is finds in
    sym (found-has new a) ∙ updates a ∙ (λ i. cond ((same-at address a ∙ same_address-flip address a) i) b (found-has old a i))

-- two lists that ascend are the same where they have the same addresses
pub ascending-same : (xs ys : List AddressValue) → IsStrictlySortedBy address_cmp xs → IsStrictlySortedBy address_cmp ys
    → ((a : AddressValue) → has_address xs a ≡ has_address ys a) → xs ≡ ys
ascending-same xs ys s t same =
    btree_set_from_contains address_total (record { keys = xs }) (record { keys = ys }) s t (λ a. found-has xs a ∙ same a ∙ sym (found-has ys a)) address_exact

-- ---- addresses, each once
in-Decides : (addresses : List AddressValue) (a : AddressValue) → Decides (has_address addresses a) (IsIn addresses a)
in-Decides addresses a =
    Decides-has (same_address a) (λ k. k ≡ a)
    (λ k. (λ e. sym (same_address-is a k e), λ is. subst (λ (x : AddressValue). same_address x k ≡ true) is (same_address-itself k))) addresses

pub has-distinct : (addresses : List AddressValue) (a : AddressValue) → has_address (keys_with address_cmp [] addresses) a ≡ has_address addresses a
has-distinct addresses a =
    let all = keys_with address_cmp [] addresses in
    let found = in-Decides all a in
    same_from_decides (has_address all a) (has_address addresses a) (
      λ e. elim (in_keys address_total address_exact [] addresses a (found.0 e)) [ inl none ↦ absurd none | inr there ↦ there ],
      λ there. found.1 (keys_in address_total address_exact [] addresses a (inr there)),
    )
    (in-Decides addresses a)

pub nothing_ascends : IsStrictlySortedBy address_cmp []
unfolding IsStrictlySortedBy
nothing_ascends = tt

pub ascending-distinct : (addresses : List AddressValue) → IsStrictlySortedBy address_cmp (keys_with address_cmp [] addresses)
ascending-distinct addresses = ascending-keys_with address_total address_exact [] addresses nothing_ascends
