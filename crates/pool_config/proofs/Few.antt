-- What is compiled has few communities, since its advertisements have few distinct texts for them.
use Rattle.std.proofs.Common.{◌≡◌, ℕ, zero, suc, ◌<◌, ◌≤◌, Bool, true, false, ◌&&◌, ◌||◌, cond, inl, inr, Ordering}
use Rattle.std.proofs.Common.{List, [], ◌∷◌, length, map, Option, Some, None, Ok, refl, sym, ap, ◌∙◌, subst, arith}
use Rattle.std.proofs.lemmas.Bool.{cases_lt, or_left, or_right}
use Rattle.std.proofs.lemmas.List.Elements.{All-from_recursion}
use Rattle.std.proofs.lemmas.Map.Lookups.{CmpEqualImpliesEq, exact_unsigned}
use Rattle.std.specs.Cmp.{IsTotalOrder, nat_cmp_total}
use Rattle.std.specs.List.{AllByRecursion, after_first, filter_map, list_any}
use Rattle.std.specs.List.Sorted.{IsStrictlySortedBy}
use Rattle.std.specs.Map.{lookup}
use Rattle.std.specs.Option.{option_and_then, option_or}
use Rattle.std.specs.Ordering.{nat_cmp}
use Rattle.std.specs.Str.{bytes_eq}
use Rattle.kube_model.specs.declared.bgp.BgpAdv.{BgpAdv}
use Rattle.kube_model.specs.declared.community.CommunityList.{CommunityList}
use Rattle.large_numbers.specs.declared.numbers.LargeCommunity.{LargeCommunity}
use Rattle.large_numbers.specs.Large.{large_cmp}
use Rattle.mlb_base.specs.Items.{Has, IsIn, ItemAt}
use Rattle.pool_config.specs.declared.compiled.CompiledBgp.{CompiledBgp}
use Rattle.pool_config.specs.declared.object_set.ObjectSet.{ObjectSet}
use Rattle.pool_config.specs.Compile.{compiled}
use Rattle.pool_config.specs.ConfigValue.{ConfigValue, HasValue, HasAtMost, HasFewCommunities}
use Rattle.pool_config.specs.Faults.{ManyTexts, ManyLarge, Differ, HasText, HaveMore, FaultyItem, HasNoFault}
use Rattle.pool_config.specs.Faults.{key_of, is_large_name, counts_as_large, with_large, all_with_large}
use Rattle.pool_config.specs.KeySets.{keys_with}
use Rattle.pool_config.specs.Large.{begins_large, large_of, words_of}
use Rattle.pool_config.specs.Lists.{named_value, number_in, large_in, compiled_bgp, lists_of}
use Rattle.pool_config.specs.Numbers.{is_colon, has_colon}
use Rattle.pool_config.specs.Objects.{Objects, objects_of}
use Rattle.pool_config.proofs.CommunitySets.{large_cmp-total, large_cmp-exact, no_keys}
use Rattle.pool_config.proofs.FirstFault.{accepted_is}
use Rattle.pool_config.proofs.ItemLaws.{in_filter, in_filter_map, item_bound}
use Rattle.pool_config.proofs.KeySets.{in_keys, not_among, ascending-keys_with}

has-one : {A : Type 0} (P : A → Type 0) (xs : List A) → Has P xs → (x : A) × IsIn xs x × P x
has-one P [] none = absurd none
has-one P (x ∷ xs) (inl here) = (x, inl refl, here)
has-one P (x ∷ xs) (inr later) = let (y, among, holds) = has-one P xs later in (y, inr among, holds)

-- the last of a list
last-of : {A : Type 0} (x : A) (xs : List A) → (y : A) × ItemAt (x ∷ xs) (length xs) y
last-of x [] = (x, refl)
last-of x (y ∷ xs) = last-of y xs

-- an advertisement has the text where another at its place is counted
abbrev IsCounted : {K : Type 0} → (List ℕ → Option K) → List (List ℕ × BgpAdv) → ℕ → List ℕ × BgpAdv → Type 0
IsCounted {K} read counted place adv =
    (other : List ℕ × BgpAdv) × ItemAt counted place other
    × ((text : List ℕ) (k : K) → IsIn adv.1.communities text → read text ≡ Some k → IsIn other.1.communities text)

-- the values that are read of texts, whatever they are, where the texts of counted advertisements are at most so many
module _ {K : Type 0}
    {R : K → K → Ordering} (total : IsTotalOrder R) (tells : CmpEqualImpliesEq R) (o : Objects) (read : List ℕ → Option K) (values : CompiledBgp → List K)
    (made : (adv : List ℕ × BgpAdv) → values (compiled_bgp o.communities adv) ≡ keys_with R [] (filter_map read adv.1.communities))
    (counted : List (List ℕ × BgpAdv)) (are_counted : (place : ℕ) (adv : List ℕ × BgpAdv) → ItemAt o.bgps place adv → IsCounted read counted place adv)
    (limit : ℕ) (none : (i j : ℕ) (name : List ℕ) → ¬ FaultyItem key_of (λ _. HaveMore limit counted (suc i)) counted i j name) where
  -- A counted text that stands for the value.
  record TextOf (k : K) : Type 0 where
    place : ℕ
    adv : List ℕ × BgpAdv
    there : ItemAt counted place adv
    text : List ℕ
    among : IsIn adv.1.communities text
    stands : read text ≡ Some k

  -- a value of an advertisement has a text
  of-texts : (k : K) (texts : List (List ℕ)) → IsIn (keys_with R [] (filter_map read texts)) k → (text : List ℕ) × IsIn texts text × (read text ≡ Some k)
  of-texts k texts h = elim (in_keys total tells [] (filter_map read texts) k h) [
    | inl none ↦ absurd none
    | inr among ↦ has-one (λ text. read text ≡ Some k) texts (in_filter_map read texts k among)
  ]

  -- an advertisement of the compiled ones that has the value
  in-compiled : (k : K) (bgps : List (List ℕ × BgpAdv)) → Has (λ (adv : CompiledBgp). IsIn (values adv) k) (map (compiled_bgp o.communities) bgps)
      → (place : ℕ) × (adv : List ℕ × BgpAdv) × ItemAt bgps place adv × IsIn (values (compiled_bgp o.communities adv)) k
  in-compiled k [] none = absurd none
  in-compiled k (adv ∷ bgps) (inl here) = (0, adv, refl, here)
  in-compiled k (adv ∷ bgps) (inr later) = let (place, found, there, has) = in-compiled k bgps later in (suc place, found, there, has)

  text-of : (k : K) → HasValue values (lists_of o) k → TextOf k
  text-of k h =
      let (place, adv, there, has) = in-compiled k o.bgps h in
      let (text, among, stands) = of-texts k adv.1.communities (subst (λ (ks : List K). IsIn ks k) (made adv) has) in
      let (other, beside, keeps) = are_counted place adv there in
      record { place = place; adv = other; there = beside; text = text; among = keeps text k among stands; stands = stands }

  -- a text for each value
  texts-of : (ks : List K) → AllByRecursion (HasValue values (lists_of o)) ks → List (List ℕ)
  texts-of [] all = []
  texts-of (k ∷ ks) all = (text-of k all.0).text ∷ texts-of ks all.1

  as-many : (ks : List K) (all : AllByRecursion (HasValue values (lists_of o)) ks) → length (texts-of ks all) ≡ length ks
  unfolding texts-of
  as-many [] all = refl
  as-many (k ∷ ks) all = ap suc (as-many ks all.1)

  -- each stands for one of the values
  stands-among : (ks : List K) (all : AllByRecursion (HasValue values (lists_of o)) ks) (text : List ℕ) → IsIn (texts-of ks all) text
      → (k : K) × IsIn ks k × (read text ≡ Some k)
  unfolding texts-of
  stands-among [] all text none = absurd none
  stands-among (k ∷ ks) all text (inl here) = (k, inl refl, ap read (sym here) ∙ (text-of k all.0).stands)
  stands-among (k ∷ ks) all text (inr later) = let (m, among, stands) = stands-among ks all.1 text later in (m, inr among, stands)

  one-value : (text : List ℕ) (m k : K) → read text ≡ Some m → read text ≡ Some k → m ≡ k
  one-value text m k e f = let same : Some m ≡ Some k = sym e ∙ f in cc

  -- so they differ where the values do
  differ : (ks : List K) (all : AllByRecursion (HasValue values (lists_of o)) ks) → IsStrictlySortedBy R ks → Differ (texts-of ks all)
  unfolding IsStrictlySortedBy texts-of
  differ [] all sorted = tt
  differ (k ∷ ks) all sorted = (
    λ among.
        let (m, there, stands) = stands-among ks all.1 (text-of k all.0).text among in
        not_among total tells k ks sorted.0
        (subst (λ (x : K). IsIn ks x) (one-value (text-of k all.0).text m k stands (text-of k all.0).stands) there),
    differ ks all.1 sorted.1,
  )

  have-texts : (count : ℕ) → length counted ≡ count → (ks : List K) (all : AllByRecursion (HasValue values (lists_of o)) ks)
      → AllByRecursion (HasText counted count) (texts-of ks all)
  unfolding texts-of
  have-texts count is [] all = tt
  have-texts count is (k ∷ ks) all =
      let by = text-of k all.0 in
      let bound = item_bound counted by.place by.adv by.there in
      ((by.place, by.adv, omega arith, by.there, by.among), have-texts count is ks all.1)

  too-many : (bgps : List (List ℕ × BgpAdv)) → counted ≡ bgps → (texts : List (List ℕ)) → Differ texts → AllByRecursion (HasText counted (length bgps)) texts
      → limit < length texts → ⊥
  too-many [] is [] apart all large = absurd (omega arith)
  too-many [] is (text ∷ texts) apart all large = let (place, adv, below, there, among) = all.0 in absurd (omega arith)
  too-many (adv ∷ bgps) is texts apart all large =
      let (last, there) = last-of adv bgps in
      none (length bgps) (length bgps) (key_of last)
      (record {
        item = last;
        stands = subst (λ (xs : List (List ℕ × BgpAdv)). ItemAt xs (length bgps) last) (sym is) there;
        faulty = (texts, apart, All-from_recursion (HasText counted (suc (length bgps))) texts all, large);
        named = refl;
        alone = refl;
      })

  values-few : (ks : List K) → IsStrictlySortedBy R ks → AllByRecursion (HasValue values (lists_of o)) ks → length ks ≤ limit
  values-few ks sorted all = elim (cases_lt limit (length ks)) [
    | inl large ↦ absurd (too-many counted refl (texts-of ks all) (differ ks all sorted) (have-texts (length counted) refl ks all)
        (subst (λ (k : ℕ). limit < k) (sym (as-many ks all)) large))
    | inr small ↦ small
  ]

  -- those of each advertisement ascend
  compiled-ascend : (bgps : List (List ℕ × BgpAdv))
      → AllByRecursion (λ (adv : CompiledBgp). IsStrictlySortedBy R (values adv)) (map (compiled_bgp o.communities) bgps)
  compiled-ascend [] = tt
  compiled-ascend (adv ∷ bgps) =
      (subst (IsStrictlySortedBy R) (sym (made adv)) (ascending-keys_with total tells [] (filter_map read adv.1.communities) (no_keys R)), compiled-ascend bgps)

  lists-few : HasAtMost limit R values (lists_of o)
  lists-few = record { ascend = compiled-ascend o.bgps; few = values-few }

-- ---- the text of a large community is counted
large-begins : (text : List ℕ) (c : LargeCommunity) → large_of text ≡ Some c → begins_large text ≡ true
large-begins text c e = go (begins_large text) e
  where
    go : (b : Bool) → cond b (words_of (after_first is_colon text)) None ≡ Some c → b ≡ true
    go true found = refl
    go false found = absurd (let h : None ≡ Some c = found in cc)

values-large : (name value : List ℕ) → begins_large value ≡ true → (values : List (List ℕ × List ℕ)) → lookup (λ n. bytes_eq n name) values ≡ Some value
    → list_any (λ v. bytes_eq v.0 name && begins_large v.1) values ≡ true
values-large name value begins [] found = absurd (let h : None ≡ Some value = found in cc)
values-large name value begins (v ∷ values) found = go (bytes_eq v.0 name) (values-large name value begins values) found
  where
    go : (b : Bool) → (lookup (λ n. bytes_eq n name) values ≡ Some value → list_any (λ v. bytes_eq v.0 name && begins_large v.1) values ≡ true)
        → cond b (Some v.1) (lookup (λ n. bytes_eq n name) values) ≡ Some value
        → ((b && begins_large v.1) || list_any (λ v. bytes_eq v.0 name && begins_large v.1) values) ≡ true
    go true later here = let same : v.1 ≡ value = cc in or_left (begins_large v.1) _ (ap begins_large same ∙ begins)
    go false later there = later there

name-large : (text value : List ℕ) → begins_large value ≡ true → (communities : List (List ℕ × CommunityList)) → named_value communities text ≡ Some value
    → is_large_name communities text ≡ true
name-large text value begins [] found = absurd (let h : None ≡ Some value = found in cc)
name-large text value begins (c ∷ more) found = go (lookup (λ n. bytes_eq n text) c.1.values) refl (name-large text value begins more) found
  where
    go : (o : Option (List ℕ)) → lookup (λ n. bytes_eq n text) c.1.values ≡ o → (named_value more text ≡ Some value → is_large_name more text ≡ true)
        → option_or o (named_value more text) ≡ Some value
        → (list_any (λ v. bytes_eq v.0 text && begins_large v.1) c.1.values || is_large_name more text) ≡ true
    go (Some v) here later found = or_left _ (is_large_name more text) (values-large text value begins c.1.values (here ∙ found))
    go None here later found = or_right _ (is_large_name more text) (later found)

text-large : (communities : List (List ℕ × CommunityList)) (text : List ℕ) (c : LargeCommunity) → large_in communities text ≡ Some c
    → counts_as_large communities text ≡ true
text-large communities text c e = go (has_colon text) (named_value communities text) refl e
  where
    go : (b : Bool) (o : Option (List ℕ)) → named_value communities text ≡ o → cond b (large_of text) (option_and_then large_of o) ≡ Some c
        → counts_as_large communities text ≡ true
    go true o is found = or_left (begins_large text) (is_large_name communities text) (large-begins text c found)
    go false None is found = absurd (let h : None ≡ Some c = found in cc)
    go false (Some value) is found =
        or_right (begins_large text) (is_large_name communities text) (name-large text value (large-begins value c found) communities is)

large-counted : (communities : List (List ℕ × CommunityList)) (bgps : List (List ℕ × BgpAdv)) (place : ℕ) (adv : List ℕ × BgpAdv) → ItemAt bgps place adv
    → IsCounted (large_in communities) (map (with_large communities) bgps) place adv
large-counted communities [] place adv none = absurd none
large-counted communities (first ∷ bgps) zero adv here = (
  with_large communities first,
  refl,
  λ text c among found. in_filter (counts_as_large communities) first.1.communities text
      (subst (λ (a : List ℕ × BgpAdv). IsIn a.1.communities text) (sym here) among) (text-large communities text c found),
)
large-counted communities (first ∷ bgps) (suc place) adv there = large-counted communities bgps place adv there

-- ---- both
all-few : (o : Objects) → HasNoFault o → HasFewCommunities (lists_of o)
all-few o none = record {
  numbers = lists-few nat_cmp_total exact_unsigned o (number_in o.communities) (λ adv. adv.communities) (λ adv. refl) o.bgps
      (λ place adv there. (adv, there, λ text n among found. among)) 512 (none ManyTexts);
  large = lists-few large_cmp-total large_cmp-exact o (large_in o.communities) (λ adv. adv.large) (λ adv. refl) (all_with_large o)
      (large-counted o.communities o.bgps) 128 (none ManyLarge);
}

pub compiled-few : (s : ObjectSet) (c : ConfigValue) → compiled s ≡ Ok c → HasFewCommunities c
compiled-few s c e =
    let (none, is) = (accepted_is s c).0 e in
    subst HasFewCommunities (sym is) (all-few (objects_of s) none)

-- without advertisements there is none
none-few : {K : Type 0} (limit : ℕ) (R : K → K → Ordering) (values : CompiledBgp → List K) (c : ConfigValue) → c.bgp ≡ [] → HasAtMost limit R values c
none-few {K} limit R values c none = record { ascend = rw none tt; few = few }
  where
    few : (ks : List K) → IsStrictlySortedBy R ks → AllByRecursion (HasValue values c) ks → length ks ≤ limit
    few [] sorted all = omega arith
    few (k ∷ ks) sorted all = absurd (rw none at all.0)

pub no-few : (c : ConfigValue) → c.bgp ≡ [] → HasFewCommunities c
no-few c none = record { numbers = none-few 512 nat_cmp (λ adv. adv.communities) c none; large = none-few 128 large_cmp (λ adv. adv.large) c none }
