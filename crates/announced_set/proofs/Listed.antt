-- The listed addresses are those that the node announces.
use Rattle.std.proofs.Common.{◌≡◌, ℕ, Bool, true, List, [], ◌∷◌, sym, subst, Contains, inl, inr, ◌⊎◌, Decides}
use Rattle.std.specs.List.Sorted.{IsStrictlySortedBy}
use Rattle.std.proofs.lemmas.Bool.Decides.{same_from_decides}
use Rattle.mlb_base.specs.Items.{IsIn}
use Rattle.mlb_base.proofs.Among.{contains-cons, contains-none}
use Rattle.mlb_base.proofs.Lists.{in-contains, contains-in, filter-contains, filter-keeps}
use Rattle.ip_ranges.specs.Values.{AddressValue, has_address}
use Rattle.ip_ranges.proofs.AddressLaws.{has_address-is, has_address-from}
use Rattle.kube_model.specs.declared.service.Service.{Service}
use Rattle.pool_config.specs.KeySets.{keys_with}
use Rattle.pool_config.proofs.KeySets.{in_keys, keys_in, ascending-keys_with}
use Rattle.speaker_view.specs.Held.{objects_of}
use Rattle.speaker_view.specs.ViewValue.{ViewValue}
use Rattle.l2_elect.specs.Election.{IsAnnouncer, announces_of}
use Rattle.l2_elect.proofs.Least.{announces-announcer, announcer-announces}
use Rattle.announced_set.specs.Announced.{address_cmp, announced_of, announced_with, announced_by, AllAreAnnounced}
use Rattle.speaker_view.proofs.AddressOrder.{address_total, address_exact}

-- ---- those that the node announces
pub nothing_ascends : IsStrictlySortedBy address_cmp []
unfolding IsStrictlySortedBy
nothing_ascends = tt

module _ (v : ViewValue) (node : List ℕ) where
  abbrev passes : AddressValue → Bool
  passes a = announces_of v node a

  listed-passes : (services : List Service) (found : List AddressValue) (a : AddressValue) → IsIn (announced_with v node found services) a
      → IsIn found a ⊎ (announces_of v node a ≡ true)
  listed-passes [] found a there = inl there
  listed-passes (s ∷ services) found a there =
      let more = announced_of v node s.holding.addresses in
      elim (listed-passes services (keys_with address_cmp found more) a there) [
        | inl before ↦
            elim (in_keys address_total address_exact found more a before) [
              | inl old ↦ inl old
              | inr new ↦ inr (filter-contains passes s.holding.addresses a (in-contains more a new)).1
            ]
        | inr e ↦ inr e
      ]

  listed-keeps : (services : List Service) (found : List AddressValue) (a : AddressValue) → IsIn found a → IsIn (announced_with v node found services) a
  listed-keeps [] found a there = there
  listed-keeps (s ∷ services) found a there =
      let more = announced_of v node s.holding.addresses in
      listed-keeps services (keys_with address_cmp found more) a (keys_in address_total address_exact found more a (inl there))

  listed-has : (services : List Service) (found : List AddressValue) (service : Service) (a : AddressValue) → Contains services service
      → Contains service.holding.addresses a → announces_of v node a ≡ true
      → IsIn (announced_with v node found services) a
  listed-has [] found service a there recorded e = absurd (contains-none service there)
  listed-has (s ∷ services) found service a there recorded e =
      let more = announced_of v node s.holding.addresses in
      elim (contains-cons s services service there) [
        | inl here ↦
            let of_it : Contains s.holding.addresses a = subst (λ (x : Service). Contains x.holding.addresses a) (sym here) recorded in
            let new : IsIn more a = contains-in more a (filter-keeps passes s.holding.addresses a of_it e) in
            listed-keeps services (keys_with address_cmp found more) a (keys_in address_total address_exact found more a (inr new))
        | inr later ↦ listed-has services (keys_with address_cmp found more) service a later recorded e
      ]

  listed-ascend : (services : List Service) (found : List AddressValue) → IsStrictlySortedBy address_cmp found
      → IsStrictlySortedBy address_cmp (announced_with v node found services)
  listed-ascend [] found s = s
  listed-ascend (service ∷ services) found s =
      let more = announced_of v node service.holding.addresses in
      listed-ascend services (keys_with address_cmp found more) (ascending-keys_with address_total address_exact found more s)

  by_test : (a : AddressValue) → IsIn [] a ⊎ (announces_of v node a ≡ true) → IsAnnouncer v a node
  by_test a (inl none) = absurd none
  by_test a (inr e) = announces-announcer v a node e

  listed-announcer : (a : AddressValue) → Contains (announced_by v node) a → IsAnnouncer v a node
  listed-announcer a there = by_test a (listed-passes (objects_of v.held.services) [] a (contains-in (announced_by v node) a there))

  announcer-listed : (a : AddressValue) → IsAnnouncer v a node → Contains (announced_by v node) a
  announcer-listed a announcer =
      let by = announcer.eligible.recorded in
      in-contains (announced_by v node) a (listed-has (objects_of v.held.services) [] by.service a by.held by.recorded (announcer-announces v a node announcer))

pub all_are_announced : AllAreAnnounced
all_are_announced v node = record {
  ascend = listed-ascend v node (objects_of v.held.services) [] nothing_ascends;
  each = λ a. (listed-announcer v node a, announcer-listed v node a);
}

listed-Decides : (v : ViewValue) (node : List ℕ) (a : AddressValue) → Decides (has_address (announced_by v node) a) (IsAnnouncer v a node)
listed-Decides v node a = (
  λ e. listed-announcer v node a (has_address-is (announced_by v node) a e),
  λ announcer. has_address-from (announced_by v node) a (announcer-listed v node a announcer),
)

-- an address is listed where the test says that the node announces it
pub has-announced : (v : ViewValue) (node : List ℕ) (a : AddressValue) → has_address (announced_by v node) a ≡ announces_of v node a
has-announced v node a =
    same_from_decides (has_address (announced_by v node) a) (announces_of v node a) (listed-Decides v node a)
    (announces-announcer v a node, announcer-announces v a node)
