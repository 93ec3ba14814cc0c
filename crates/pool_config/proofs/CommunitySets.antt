-- The numbers and the large communities of an advertisement are exactly those that its texts stand for.
use Rattle.std.proofs.Common.{◌≡◌, ℕ, Bool, true, false, cond, List, [], ◌∷◌, ◌++◌, ◌⊎◌, ◌↔◌, inl, inr}
use Rattle.std.proofs.Common.{Ordering, IsTrue, codes, Option, Some, None, decimal, refl, sym, ap, ◌∙◌}
use Rattle.std.proofs.lemmas.Bool.{false≢true, cases_Bool}
use Rattle.std.proofs.lemmas.Map.Lookups.{CmpEqualImpliesEq, exact_pairs, exact_unsigned}
use Rattle.std.specs.Cmp.{IsTotalOrder, nat_cmp_total, on_total, then_total}
use Rattle.std.specs.List.{filter_map}
use Rattle.std.specs.List.Sorted.{IsStrictlySortedBy}
use Rattle.std.specs.Option.{option_and_then}
use Rattle.std.specs.Ordering.{nat_cmp, ordering_then}
use Rattle.std.proofs.Math.Bool.{or-true}
use Rattle.kube_model.specs.declared.community.CommunityList.{CommunityList}
use Rattle.mlb_base.specs.Items.{Has, IsIn}
use Rattle.large_numbers.specs.declared.numbers.LargeCommunity.{LargeCommunity}
use Rattle.pool_config.specs.KeySets.{keys_with}
use Rattle.large_numbers.specs.Large.{large_cmp}
use Rattle.pool_config.specs.Large.{IsLargeText, large_of}
use Rattle.pool_config.specs.Laws.{AreLargesOf, AreNumbersOf}
use Rattle.pool_config.specs.Lists.{named_value, number_in, numbers_in, large_in, larges_in}
use Rattle.pool_config.specs.Numbers.{IsNumberText, number_of, has_colon, is_colon}
use Rattle.pool_config.proofs.ItemLaws.{has_map, in_filter_map, filter_map_in}
use Rattle.pool_config.proofs.KeySets.{in_keys, keys_in, ascending-keys_with}
use Rattle.pool_config.proofs.LargeTexts.{large_texts_are_read}
use Rattle.pool_config.proofs.NumberTexts.{numbers_are_read}

colon_within : (xs ys : List ℕ) → has_colon (xs ++ 58 ∷ ys) ≡ true
colon_within [] ys = refl
colon_within (x ∷ xs) ys = rw (colon_within xs ys) (or-true (is_colon x))

number_colon : (text : List ℕ) (n : ℕ) → IsNumberText text n → has_colon text ≡ true
number_colon text n (a, b, fits, fits', is, sum) = rw is (colon_within (decimal a) (decimal b))

large_colon : (text : List ℕ) (c : LargeCommunity) → IsLargeText text c → has_colon text ≡ true
large_colon text c is = ap has_colon is.spelled ∙ colon_within (codes "large") (decimal c.global ++ 58 ∷ (decimal c.first ++ 58 ∷ decimal c.second))

-- what is read of the texts, whatever it is
module _ {K : Type 0} {R : K → K → Ordering} (total : IsTotalOrder R) (tells : CmpEqualImpliesEq R) (read : List ℕ → Option K) (IsText : List ℕ → K → Type 0)
    (are_read : (text : List ℕ) (k : K) → (read text ≡ Some k) ↔ IsText text k) (colon : (text : List ℕ) (k : K) → IsText text k → has_colon text ≡ true) where
  abbrev found_in : List (List ℕ × CommunityList) → List ℕ → Option K
  found_in communities text = cond (has_colon text) (read text) (option_and_then read (named_value communities text))

  abbrev Stands : List (List ℕ × CommunityList) → List ℕ → K → Type 0
  Stands communities text k = IsText text k ⊎ ((¬ IsTrue (has_colon text)) × ((value : List ℕ) × (named_value communities text ≡ Some value) × IsText value k))

  stands_for : (communities : List (List ℕ × CommunityList)) (text : List ℕ) (k : K) → found_in communities text ≡ Some k → Stands communities text k
  stands_for communities text k e = go (has_colon text) refl e
    where
      named : (o : Option (List ℕ)) → named_value communities text ≡ o → option_and_then read o ≡ Some k
          → (value : List ℕ) × (named_value communities text ≡ Some value) × IsText value k
      named None is found = absurd (let h : None ≡ Some k = found in cc)
      named (Some value) is found = (value, is, (are_read value k).0 found)

      go : (b : Bool) → has_colon text ≡ b → cond b (read text) (option_and_then read (named_value communities text)) ≡ Some k → Stands communities text k
      go true colon found = inl ((are_read text k).0 found)
      go false plain found = inr ((λ colon. false≢true (sym plain ∙ colon)), named (named_value communities text) refl found)

  found_stands : (communities : List (List ℕ × CommunityList)) (text : List ℕ) (k : K) → Stands communities text k → found_in communities text ≡ Some k
  found_stands communities text k (inl one) = rw (colon text k one) ((are_read text k).1 one)
  found_stands communities text k (inr (plain, (value, is, one))) = elim (cases_Bool (has_colon text)) [
    | inl colon ↦ absurd (plain colon)
    | inr none ↦ rw (none, is) ((are_read value k).1 one)
  ]

  exactly : (communities : List (List ℕ × CommunityList)) (texts : List (List ℕ)) (k : K)
      → IsIn (keys_with R [] (filter_map (found_in communities) texts)) k ↔ Has (λ text. Stands communities text k) texts
  exactly communities texts k = (to, from)
    where
      found : List K
      found = filter_map (found_in communities) texts

      to : IsIn (keys_with R [] found) k → Has (λ text. Stands communities text k) texts
      to h = elim (in_keys total tells [] found k h) [
        | inl none ↦ absurd none
        | inr among ↦ has_map (λ text. found_in communities text ≡ Some k) (λ text. Stands communities text k) (λ text e. stands_for communities text k e) texts
            (in_filter_map (found_in communities) texts k among)
      ]

      from : Has (λ text. Stands communities text k) texts → IsIn (keys_with R [] found) k
      from h = keys_in total tells [] found k (inr (filter_map_in (found_in communities) texts k
          (has_map (λ text. Stands communities text k) (λ text. found_in communities text ≡ Some k) (λ text e. found_stands communities text k e) texts h)))

pub no_keys : {K : Type 0} (R : K → K → Ordering) → IsStrictlySortedBy R []
unfolding IsStrictlySortedBy
no_keys R = tt

pub communities_are_read : (communities : List (List ℕ × CommunityList)) (texts : List (List ℕ)) → AreNumbersOf communities texts (numbers_in communities texts)
communities_are_read communities texts = record {
  ascending = ascending-keys_with nat_cmp_total exact_unsigned [] (filter_map (number_in communities) texts) (no_keys nat_cmp);
  exact = exactly nat_cmp_total exact_unsigned number_of IsNumberText numbers_are_read number_colon communities texts;
}

-- ---- the order of large communities
pub large_cmp-total : IsTotalOrder large_cmp
large_cmp-total = then_total (on_total (λ (c : LargeCommunity). c.global) nat_cmp_total)
    (then_total (on_total (λ (c : LargeCommunity). c.first) nat_cmp_total) (on_total (λ (c : LargeCommunity). c.second) nat_cmp_total))

pub large_cmp-exact : CmpEqualImpliesEq large_cmp
large_cmp-exact a b e =
    let at : ℕ × (ℕ × ℕ) → LargeCommunity = λ p. record { global = p.0; first = p.1.0; second = p.1.1 } in
    let Local : ℕ × ℕ → ℕ × ℕ → Ordering = λ x y. ordering_then (nat_cmp x.0 y.0) (nat_cmp x.1 y.1) in
    ap at (exact_pairs nat_cmp Local exact_unsigned (exact_pairs nat_cmp nat_cmp exact_unsigned exact_unsigned) (a.global, (a.first, a.second)) (
      b.global,
      (b.first, b.second),
    ) e)

pub larges_are_read : (communities : List (List ℕ × CommunityList)) (texts : List (List ℕ)) → AreLargesOf communities texts (larges_in communities texts)
larges_are_read communities texts = record {
  ascending = ascending-keys_with large_cmp-total large_cmp-exact [] (filter_map (large_in communities) texts) (no_keys large_cmp);
  exact = exactly large_cmp-total large_cmp-exact large_of IsLargeText large_texts_are_read large_colon communities texts;
}
