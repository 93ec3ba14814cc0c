-- The slots that a claim leaves, and the index without it.
use Rattle.std.proofs.Common.{◌≡◌, ℕ, ◌≤◌, ◌==◌, Bool, true, false, cond, not, ◌||◌, List, Option, Some, arith, refl, sym, ap, subst, ◌∙◌, ⊎_elim}
use Rattle.std.proofs.lemmas.Bool.{or_right, cases_Bool}
use Rattle.std.specs.BTreeMap.{is_at}
use Rattle.std.specs.List.Sorted.{IsStrictlySortedBy}
use Rattle.std.specs.Map.{lookup, keys_of}
use Rattle.std.specs.Ordering.{nat_cmp}
use Rattle.ip_ranges.specs.Values.{AddressValue, has_address}
use Rattle.kube_model.specs.declared.key.Key.{Key}
use Rattle.kube_model.specs.declared.port.Port.{Port}
use Rattle.kube_model.specs.Keys.{key_cmp}
use Rattle.numbered_items.specs.Index.{IndexValue, numbers_under}
use Rattle.address_holders.specs.declared.slot.NumberedSlot.{NumberedSlot}
use Rattle.claim_index.specs.Claims.{ClaimValue}
use Rattle.address_holders.specs.Holders.{AddressHoldersValue, in_slot, claims_at, claims_having}
use Rattle.claim_index.specs.ListedClaims.{AreFewer}
use Rattle.claim_index.specs.Index.{IsIndexed}
use Rattle.claim_index.specs.Removal.{all_but, left_at}
use Rattle.claim_index.specs.GroupNumbers.{GroupsValue, AreNumbered, number_for}
use Rattle.address_holders.specs.NumberedSlots.{same_slot}
use Rattle.claim_index.specs.GroupSlots.{is_slot_by, slots_by}
use Rattle.claim_index.proofs.GrowthLaws.{among, occupied, or-none}
use Rattle.claim_index.proofs.NumberLaws.{fewer-in, left-in, left-unused}
use Rattle.address_holders.proofs.SlotLaws.{same_slot-is, same_slot-itself}
use Rattle.claim_index.proofs.IndexRemoval.{filter-once, without, removed-assigned, removed-groups, removed-keys, removed-holders}

-- ---- the slots that a claim leaves
module _ (n : ℕ) (xs : List AddressValue) where
  -- taken out twice at the addresses is taken out once
  left-twice : (numbers : AddressValue → List ℕ) → left_at n xs (left_at n xs numbers) ≡ left_at n xs numbers
  left-twice numbers = λ i a. by (has_address xs a) (numbers a) i
    where
      by : (here : Bool) (ns : List ℕ) → cond here (all_but n (cond here (all_but n ns) ns)) (cond here (all_but n ns) ns) ≡ cond here (all_but n ns) ns
      by true ns = filter-once (λ m. not (m == n)) ns
      by false ns = refl

  -- the number is taken out in these slots at the addresses
  abbrev pub left_in : (NumberedSlot → Bool) → (NumberedSlot → AddressValue → List ℕ) → NumberedSlot → AddressValue → List ℕ
  left_in slots numbers slot = cond (slots slot) (left_at n xs (numbers slot)) (numbers slot)

  -- in one slot more
  pub left-slot : (start : NumberedSlot → AddressValue → List ℕ) (before after : AddressHoldersValue) (slots grown : NumberedSlot → Bool) (x : NumberedSlot)
      (shown : List AddressValue)
      → ((s : NumberedSlot) → grown s ≡ (slots s || same_slot x s)) → shown ≡ xs
      → claims_having after x ≡ left_at n shown (claims_having before x)
      → ((s : NumberedSlot) → same_slot x s ≡ false → in_slot after s ≡ in_slot before s)
      → ((s : NumberedSlot) → claims_having before s ≡ left_in slots start s)
      → (s : NumberedSlot) → claims_having after s ≡ left_in grown start s
  left-slot start before after slots grown x shown grows is here others so_far s =
      ⊎_elim
      (λ same. subst (λ (t : NumberedSlot). claims_having after t ≡ left_in grown start t) (same_slot-is x s same) at-slot)
      (λ apart. (λ j a. claims_at (others s apart j a.family) a.number) ∙ so_far s
      ∙ ap (kept s) (sym (grows s ∙ ap (λ b. slots s || b) apart ∙ or-none (slots s))))
      (cases_Bool (same_slot x s))
    where
      kept : NumberedSlot → Bool → AddressValue → List ℕ
      kept t b = cond b (left_at n xs (start t)) (start t)

      again : (b : Bool) → left_at n xs (kept x b) ≡ left_at n xs (start x)
      again true = left-twice (start x)
      again false = refl

      at-slot : claims_having after x ≡ left_in grown start x
      at-slot =
          here
          ∙ ap (λ (l : List AddressValue). left_at n l (claims_having before x)) is
          ∙ ap (left_at n xs) (so_far x)
          ∙ again (slots x)
          ∙ ap (kept x) (sym (grows x ∙ or_right (slots x) (same_slot x x) (same_slot-itself x)))

-- and in all of those of the claim
pub left-all : (start : NumberedSlot → AddressValue → List ℕ) (after : AddressHoldersValue) (n : ℕ) (xs : List AddressValue) (group : Option ℕ)
    (ports : List Port) (slots : List NumberedSlot)
    → slots ≡ slots_by group ports → ((slot : NumberedSlot) → claims_having after slot ≡ left_in n xs (among slots) start slot)
    → (slot : NumberedSlot) → claims_having after slot ≡ left_in n xs (is_slot_by group ports) start slot
left-all start after n xs group ports slots is each slot =
    each slot ∙ ap (λ (ys : List NumberedSlot). left_in n xs (among ys) start slot) is
    ∙ ap (λ b. cond b (left_at n xs (start slot)) (start slot)) (occupied group ports slot)

-- ---- the index without a claim
pub indexed-left : (n : ℕ) (items less : List (ℕ × ClaimValue)) (c : ClaimValue) (key : Key) (by_key by_key_after : IndexValue Key)
    (groups fewer : GroupsValue) (h removed : AddressHoldersValue) (group : Option ℕ)
    → less ≡ without n items → IsStrictlySortedBy nat_cmp (keys_of items) → Some c ≡ lookup (λ m. m == n) items → key ≡ c.key
    → IsIndexed items by_key groups h → AreNumbered groups → group ≡ number_for groups c.terms
    → numbers_under key_cmp by_key_after ≡ (λ k. cond (is_at (key_cmp key) k) (all_but n (numbers_under key_cmp by_key k)) (numbers_under key_cmp by_key k))
    → ((slot : NumberedSlot)
    → claims_having removed slot ≡ cond (is_slot_by group c.terms.ports slot) (left_at n c.holding.addresses (claims_having h slot)) (claims_having h slot))
    → AreFewer removed groups fewer → fewer.next ≡ groups.next
    → IsIndexed less by_key_after fewer removed
indexed-left n items less c key by_key by_key_after groups fewer h removed group is sorted found key_is indexed are group_is keys numbers gone next =
    let removes : (slot : NumberedSlot)
    → claims_having removed slot
    ≡ cond (is_slot_by (number_for groups c.terms) c.terms.ports slot) (left_at n c.holding.addresses (claims_having h slot)) (claims_having h slot) =
    λ slot. numbers slot
    ∙ ap (λ (g : Option ℕ). cond (is_slot_by g c.terms.ports slot) (left_at n c.holding.addresses (claims_having h slot)) (claims_having h slot)) group_is in
    record {
      assigned = removed-assigned n items less is sorted indexed.assigned;
      keys = removed-keys n items less is sorted c found key by_key by_key_after key_is indexed.keys keys;
      holders = fewer-in groups fewer removed less gone
          (removed-holders n items less is sorted c found groups h removed indexed.holders (left-in groups are h removed c n removes));
      unused = λ m from. let old : groups.next ≤ m = omega (arith, from, next) in
          left-unused groups are h removed c n removes m old (indexed.unused m old);
      groups = removed-groups n items less is sorted indexed.groups;
    }
