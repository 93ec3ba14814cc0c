-- Where there is no fault, everything is read: every entry, every selector and every community.
use Rattle.std.proofs.Common.{◌≡◌, ℕ, Bool, true, false, cond, List, [], ◌∷◌, ◌++◌, ◌⊎◌, inl, inr, map, Option}
use Rattle.std.proofs.Common.{Some, None, Result, Ok, Err, is_err, is_some, IsErr, IsOk, refl, sym, ◌∙◌, ap, subst}
use Rattle.std.proofs.lemmas.Bool.{false≢true}
use Rattle.std.proofs.lemmas.Bool.Decides.{not_from_Decides}
use Rattle.std.specs.List.{AllByRecursion, filter_map, cons_option}
use Rattle.std.specs.Map.{lookup}
use Rattle.std.specs.Option.{option_or, option_and_then}
use Rattle.std.specs.Result.{result_ok}
use Rattle.std.specs.Str.{bytes_eq}
use Rattle.ip_ranges.specs.EntryText.{entry_of}
use Rattle.kube_labels.specs.Selectors.{selector_of}
use Rattle.kube_model.specs.declared.bgp.BgpAdv.{BgpAdv}
use Rattle.kube_model.specs.declared.community.CommunityList.{CommunityList}
use Rattle.kube_model.specs.declared.selector.SelectorText.{SelectorText}
use Rattle.pool_config.specs.Faults.{HasNoFault, BadEntry, PoolSelector, L2Selector, BgpSelector, PeerSelector, UnknownCommunity}
use Rattle.pool_config.specs.Faults.{BadValue, BadText, IsBadSelector, IsCommunityName, IsNoCommunity, IsUnknownText, IsBadText}
use Rattle.pool_config.specs.Laws.{AreRead, IsReadText, IsReadWhole}
use Rattle.pool_config.specs.Lists.{number_in, large_in, named_value}
use Rattle.large_numbers.specs.declared.numbers.LargeCommunity.{LargeCommunity}
use Rattle.pool_config.specs.Large.{large_of}
use Rattle.pool_config.specs.Numbers.{has_colon, number_of}
use Rattle.pool_config.specs.Objects.{Objects}
use Rattle.mlb_base.specs.Items.{ItemAt, Has}
use Rattle.kube_labels.proofs.FaultLaws.{selector_of_ok}
use Rattle.pool_config.proofs.ItemLaws.{has_left, has_right, has_map, in_list, at_has}
use Rattle.pool_config.proofs.LargeTexts.{no_large}
use Rattle.pool_config.proofs.NumberTexts.{no_number}
use Rattle.pool_config.proofs.Rows.{name_known}

all_ok : {X Y E : Type 0} (f : X → Result Y E) (xs : List X) → ¬ Has (λ x. IsErr (f x)) xs → map f xs ≡ map Ok (filter_map (λ x. result_ok (f x)) xs)
all_ok f [] none = refl
all_ok {X} {Y} {E} f (x ∷ xs) none = go (f x) refl (all_ok f xs (λ later. none (inr later)))
  where
    go : (r : Result Y E) → f x ≡ r → map f xs ≡ map Ok (filter_map (λ y. result_ok (f y)) xs)
        → r ∷ map f xs ≡ map Ok (cons_option (result_ok r) (filter_map (λ y. result_ok (f y)) xs))
    go (Ok y) e rest = ap (λ (l : List (Result Y E)). Ok y ∷ l) rest
    go (Err z) e rest = absurd (none (inl (ap is_err e)))

not_both : {A E : Type 0} (r : Result A E) → IsErr r → IsOk r → ⊥
not_both (Ok x) err ok = false≢true err
not_both (Err e) err ok = false≢true ok

-- a selector that is refused has an expression that isn't well formed
refused : (t : SelectorText) → IsErr (selector_of t.labels t.expressions) → IsBadSelector t
refused t err = λ all. not_both _ err ((selector_of_ok t.labels t.expressions _ refl).1 all)

selectors_read : (texts : List SelectorText) → ¬ Has IsBadSelector texts → AreRead texts
selectors_read texts none =
    all_ok (λ (t : SelectorText). selector_of t.labels t.expressions) texts
    (λ h. none (has_map (λ t. IsErr (selector_of t.labels t.expressions)) IsBadSelector refused texts h))

both_read : (first second : List SelectorText) → ¬ Has IsBadSelector (first ++ second) → AreRead first × AreRead second
both_read first second none = (
  selectors_read first (λ h. none (has_left IsBadSelector first second h)),
  selectors_read second (λ h. none (has_right IsBadSelector first second h)),
)

-- the value of a known name is one of the values
abbrev HasBadValue : List (List ℕ × CommunityList) → Type 0
HasBadValue communities = Has (λ c. Has (λ v. IsNoCommunity v.1) c.1.values) communities

bad_in : (values : List (List ℕ × List ℕ)) (t v : List ℕ) → lookup (λ n. bytes_eq n t) values ≡ Some v → IsNoCommunity v → Has (λ w. IsNoCommunity w.1) values
bad_in [] t v e bad = absurd (let h : None ≡ Some v = e in cc)
bad_in (w ∷ ws) t v e bad = go (bytes_eq w.0 t) e (bad_in ws t v)
  where
    go : (b : Bool) → cond b (Some w.1) (lookup (λ n. bytes_eq n t) ws) ≡ Some v
        → (lookup (λ n. bytes_eq n t) ws ≡ Some v → IsNoCommunity v → Has (λ u. IsNoCommunity u.1) ws)
        → Has (λ u. IsNoCommunity u.1) (w ∷ ws)
    go true found rest = let same : w.1 ≡ v = cc in let P : List ℕ → Type 0 = IsNoCommunity in inl (subst P (sym same) bad)
    go false found rest = inr (rest found bad)

bad_named : (communities : List (List ℕ × CommunityList)) (t v : List ℕ) → named_value communities t ≡ Some v → IsNoCommunity v → HasBadValue communities
bad_named [] t v e bad = absurd (let h : None ≡ Some v = e in cc)
bad_named (c ∷ cs) t v e bad = go (lookup (λ n. bytes_eq n t) c.1.values) refl e (bad_named cs t v)
  where
    go : (o : Option (List ℕ)) → lookup (λ n. bytes_eq n t) c.1.values ≡ o → option_or o (named_value cs t) ≡ Some v
        → (named_value cs t ≡ Some v → IsNoCommunity v → HasBadValue cs) → HasBadValue (c ∷ cs)
    go None is found rest = inr (rest found bad)
    go (Some w) is found rest = inl (bad_in c.1.values t v (is ∙ found) bad)

-- a name that isn't one has no value
none_named : (communities : List (List ℕ × CommunityList)) (t : List ℕ) → named_value communities t ≡ None → ¬ IsCommunityName communities t
none_named communities t e = not_from_Decides (is_some (named_value communities t)) (name_known communities t) (ap is_some e)

abbrev IsBadNumber : List (List ℕ × CommunityList) → List ℕ → Type 0
IsBadNumber communities t =
    IsUnknownText communities t ⊎ (IsBadText t ⊎ HasBadValue communities)

bad_number : (communities : List (List ℕ × CommunityList)) (t : List ℕ) → number_in communities t ≡ None → large_in communities t ≡ None
    → IsBadNumber communities t
bad_number communities t e f = go (has_colon t) refl e f
  where
    from : (o : Option (List ℕ)) → named_value communities t ≡ o → has_colon t ≡ false → option_and_then number_of o ≡ None → option_and_then large_of o ≡ None
        → IsBadNumber communities t
    from None is plain none nor = inl (λ colon. false≢true (sym plain ∙ colon), none_named communities t is)
    from (Some v) is plain none nor = inr (inr (bad_named communities t v is (no_number v none, no_large v nor)))

    go : (b : Bool) → has_colon t ≡ b → cond b (number_of t) (option_and_then number_of (named_value communities t)) ≡ None
        → cond b (large_of t) (option_and_then large_of (named_value communities t)) ≡ None
        → IsBadNumber communities t
    go true colon none nor = inr (inl (colon, (no_number t none, no_large t nor)))
    go false plain none nor = from (named_value communities t) refl plain none nor

-- the text stands for neither
abbrev IsUnread : List (List ℕ × CommunityList) → List ℕ → Type 0
IsUnread communities t = (number_in communities t ≡ None) × (large_in communities t ≡ None)

all_read : (communities : List (List ℕ × CommunityList)) (texts : List (List ℕ)) → ¬ Has (IsUnread communities) texts
    → AllByRecursion (IsReadText communities) texts
all_read communities [] none = tt
all_read communities (t ∷ texts) none =
    (one (number_in communities t) refl (large_in communities t) refl, all_read communities texts (λ later. none (inr later)))
  where
    one : (x : Option ℕ) → number_in communities t ≡ x → (y : Option LargeCommunity) → large_in communities t ≡ y → IsReadText communities t
    one (Some n) e y f = inl (n, e)
    one None e (Some c) f = inr (c, f)
    one None e None f = absurd (none (inl (e, f)))

pub read_whole : (o : Objects) → HasNoFault o → IsReadWhole o
read_whole o none = record {
  entries =
      λ i e stands. all_ok entry_of e.1.entries (λ h. none BadEntry i i e.0 (record { item = e; stands = stands; faulty = h; named = refl; alone = refl }));
  allocations = λ i e stands a is.
      both_read a.namespace_selectors a.service_selectors
      (λ h. none PoolSelector i i e.0 (record { item = e; stands = stands; faulty = (rw is h); named = refl; alone = refl }));
  l2s = λ i e stands.
      both_read e.1.pool_selectors e.1.node_selectors
      (λ h. none L2Selector i i e.0 (record { item = e; stands = stands; faulty = h; named = refl; alone = refl }));
  bgps = λ i e stands.
      both_read e.1.pool_selectors e.1.node_selectors
      (λ h. none BgpSelector i i e.0 (record { item = e; stands = stands; faulty = h; named = refl; alone = refl }));
  peers = λ i e stands.
      selectors_read e.1.node_selectors (λ h. none PeerSelector i i e.0 (record { item = e; stands = stands; faulty = h; named = refl; alone = refl }));
  communities = λ i e stands. all_read o.communities e.1.communities (known i e stands);
}
  where
    known : (i : ℕ) (e : List ℕ × BgpAdv) → ItemAt o.bgps i e → ¬ Has (IsUnread o.communities) e.1.communities
    known i e stands h =
        let (k, t, at, bad) = in_list (IsUnread o.communities) e.1.communities h in
        elim (bad_number o.communities t bad.0 bad.1) [
          | inl unknown ↦ none UnknownCommunity i i e.0
              (record { item = e; stands = stands; faulty = at_has (IsUnknownText o.communities) e.1.communities k t at unknown; named = refl; alone = refl })
          | inr (inl text) ↦
              none BadText i i e.0 (record { item = e; stands = stands; faulty = at_has IsBadText e.1.communities k t at text; named = refl; alone = refl })
          | inr (inr value) ↦
              let (j, c, there, has) = in_list (λ (d : List ℕ × CommunityList). Has (λ v. IsNoCommunity v.1) d.1.values) o.communities value in
              none BadValue j j c.0 (record { item = c; stands = there; faulty = has; named = refl; alone = refl })
        ]
