-- Each condition, and what is found for it.
use Rattle.std.proofs.Common.{◌≡◌, ℕ, ◌<◌, ◌==◌, Bool, true, false, ◌&&◌, List, [], ◌∷◌, ◌++◌, ◌⊎◌, inl, inr}
use Rattle.std.proofs.Common.{map, cond, length, Option, Some, None, is_some, is_none, refl, arith, Decides}
use Rattle.std.proofs.lemmas.Bool.{false≢true}
use Rattle.std.proofs.lemmas.Bool.Decides.{Decides-and, Decides-not, Decides-at, Decides-ltb, Decides-eqb}
use Rattle.std.proofs.lemmas.Map.Made.{is_some-lookup}
use Rattle.std.proofs.lemmas.Slice.Eq.{bytes_eq-Decides}
use Rattle.std.specs.List.{list_any}
use Rattle.std.specs.Map.{lookup, keys_of}
use Rattle.std.specs.Option.{option_or}
use Rattle.std.specs.BTreeMap.{is_at}
use Rattle.std.specs.Str.{bytes_eq}
use Rattle.ip_ranges.specs.Cover.{least_length_of}
use Rattle.kube_model.specs.declared.pool.Pool.{Pool}
use Rattle.kube_model.specs.declared.selector.SelectorText.{SelectorText}
use Rattle.kube_model.specs.declared.peer.BgpPeer.{BgpPeer}
use Rattle.kube_model.specs.declared.community.CommunityList.{CommunityList}
use Rattle.pool_config.specs.declared.compiled.CompiledPool.{CompiledPool}
use Rattle.pool_config.specs.declared.compiled.CompiledBgp.{CompiledBgp}
use Rattle.pool_config.specs.Faults.{Row, ManyPools, ManyEntries, ManyTexts, ManyLarge, BadEntry, NoEntry, Overlap, PoolSelector, L2Selector}
use Rattle.pool_config.specs.Faults.{BgpSelector, PeerSelector, Aggregation, PrefClash, UnknownCommunity, BadValue, BadText, TwiceNamed, UnknownPeer}
use Rattle.pool_config.specs.Faults.{key_of, FaultAt, IsBadEntry, IsBadSelector, allocation_selectors, AggregatesTooFar, Clash, ChoosesPool}
use Rattle.pool_config.specs.Faults.{length_for, IsTooShort, HaveEqualLength, IsCommunityName, IsNoCommunity, IsUnknownText, IsBadText, all_with_large}
use Rattle.pool_config.specs.Lists.{lists_of, named_value}
use Rattle.pool_config.specs.Large.{large_of}
use Rattle.pool_config.specs.Numbers.{has_colon, number_of}
use Rattle.pool_config.specs.Objects.{Objects}
use Rattle.kube_labels.specs.Names.{name_cmp}
use Rattle.mlb_base.specs.Items.{Has, IsIn}
use Rattle.mlb_base.proofs.Lists.{Decides-has}
use Rattle.mlb_base.proofs.Bools.{Decides-itself}
use Rattle.pool_config.specs.Search.{found_at, clash, aggregates_too_far, has_many_entries, has_bad_entry, has_no_entry, has_bad_selector}
use Rattle.pool_config.specs.Search.{has_bad_allocation, has_bad_in_l2, has_bad_in_bgp, has_bad_in_peer, is_bad_selector, is_bad_entry, is_unknown}
use Rattle.pool_config.specs.Search.{is_no_community, has_bad_value, is_bad_text, is_unknown_peer, is_too_short, chooses_pool, has_equal_length}
use Rattle.pool_config.proofs.Firsts.{Finds, finds_item, finds_named, finds_pair}
use Rattle.pool_config.proofs.Limits.{finds_at, finds_past}
use Rattle.pool_config.proofs.LargeTexts.{no_large-Decides}
use Rattle.pool_config.proofs.NumberTexts.{no_number-Decides}
use Rattle.pool_config.proofs.Repeats.{finds_repeat}
use Rattle.pool_config.proofs.Shared.{finds_overlap}
use Rattle.pool_config.proofs.Tests.{chooses-Decides}
use Rattle.pool_config.proofs.KeySets.{held-Decides}
use Rattle.kube_labels.proofs.FaultLaws.{well_formed-Decides}
use Rattle.kube_labels.proofs.NameLaws.{name_cmp-total, name_cmp-exact}

Decides-empty : {A : Type 0} (xs : List A) → Decides (length xs == 0) (xs ≡ [])
Decides-empty [] = (λ e. refl, λ e. refl)
Decides-empty (x ∷ xs) = (λ e. let h = (Decides-eqb (length (x ∷ xs)) 0).0 e in absurd (omega arith), λ e. cc)

Decides-none : {A : Type 0} {P : Type 0} (o : Option A) → Decides (is_some o) P → Decides (is_none o) (¬ P)
Decides-none None d = (λ e p. false≢true (d.1 p), λ e. refl)
Decides-none (Some x) d = (λ e. absurd (false≢true e), λ n. absurd (n (d.0 refl)))

bad_entry : (pool : Pool) → Decides (has_bad_entry pool) (Has IsBadEntry pool.entries)
bad_entry pool = Decides-has is_bad_entry IsBadEntry (λ e. Decides-itself (is_bad_entry e)) pool.entries

bad_selector : (texts : List SelectorText) → Decides (has_bad_selector texts) (Has IsBadSelector texts)
bad_selector texts = Decides-has is_bad_selector IsBadSelector (λ t. Decides-not _ (well_formed-Decides t.expressions)) texts

chosen : (adv : CompiledBgp) (pool : CompiledPool) → Decides (chooses_pool adv pool) (ChoosesPool adv pool)
chosen adv pool = chooses-Decides adv.pools adv.pool_selectors pool.name pool.labels

too_far : (pools : List CompiledPool) (adv : CompiledBgp) → Decides (aggregates_too_far pools adv) (AggregatesTooFar pools adv)
too_far pools adv =
    Decides-has (λ pool. chooses_pool adv pool && list_any (is_too_short adv) pool.spans) (λ pool. ChoosesPool adv pool × Has (IsTooShort adv) pool.spans)
    (λ pool. Decides-and _ _ (chosen adv pool)
    (Decides-has (is_too_short adv) (IsTooShort adv) (λ span. Decides-ltb (length_for adv span.family) (least_length_of span)) pool.spans)) pools

clashes : (pools : List CompiledPool) (a b : CompiledBgp) → Decides (clash pools a b) (Clash pools a b)
clashes pools a b =
    Decides-and _ _ (Decides-not _ (Decides-eqb a.local_pref b.local_pref))
    (Decides-has (λ pool. (chooses_pool a pool && chooses_pool b pool) && list_any (has_equal_length a b) pool.spans)
    (λ pool. (ChoosesPool a pool × ChoosesPool b pool) × Has (HaveEqualLength a b) pool.spans)
    (λ pool. Decides-and _ _ (Decides-and _ _ (chosen a pool) (chosen b pool))
    (Decides-has (has_equal_length a b) (HaveEqualLength a b) (λ span. Decides-eqb (length_for a span.family) (length_for b span.family)) pool.spans)) pools)

value_known : (values : List (List ℕ × List ℕ)) (t : List ℕ) → Decides (is_some (lookup (λ n. bytes_eq n t) values)) (Has (λ v. v.0 ≡ t) values)
value_known [] t = (λ e. false≢true e, λ h. absurd h)
value_known (v ∷ vs) t = go (bytes_eq v.0 t) (bytes_eq-Decides v.0 t) (value_known vs t)
  where
    go : (b : Bool) → Decides b (v.0 ≡ t) → Decides (is_some (lookup (λ n. bytes_eq n t) vs)) (Has (λ w. w.0 ≡ t) vs)
        → Decides (is_some (cond b (Some v.1) (lookup (λ n. bytes_eq n t) vs))) ((v.0 ≡ t) ⊎ Has (λ w. w.0 ≡ t) vs)
    go true here rest = (λ e. inl (here.0 refl), λ h. refl)
    go false here rest = (λ e. inr (rest.0 e), λ h. elim h [ inl first ↦ absurd (false≢true (here.1 first)) | inr later ↦ rest.1 later ])

pub name_known : (communities : List (List ℕ × CommunityList)) (t : List ℕ) → Decides (is_some (named_value communities t)) (IsCommunityName communities t)
name_known [] t = (λ e. false≢true e, λ h. absurd h)
name_known (c ∷ cs) t = go (lookup (λ n. bytes_eq n t) c.1.values) (value_known c.1.values t) (name_known cs t)
  where
    go : (o : Option (List ℕ)) → Decides (is_some o) (Has (λ v. v.0 ≡ t) c.1.values) → Decides (is_some (named_value cs t)) (IsCommunityName cs t)
        → Decides (is_some (option_or o (named_value cs t))) (Has (λ v. v.0 ≡ t) c.1.values ⊎ IsCommunityName cs t)
    go None here rest = (λ e. inr (rest.0 e), λ h. elim h [ inl first ↦ absurd (false≢true (here.1 first)) | inr later ↦ rest.1 later ])
    go (Some x) here rest = (λ e. inl (here.0 refl), λ h. refl)

unknown : (communities : List (List ℕ × CommunityList)) (t : List ℕ) → Decides (is_unknown communities t) (IsUnknownText communities t)
unknown communities t = Decides-and _ _ (Decides-not _ (Decides-itself (has_colon t))) (Decides-none (named_value communities t) (name_known communities t))

unknown_peer : (peers : List (List ℕ × BgpPeer)) (t : List ℕ) → Decides (is_unknown_peer peers t) (¬ IsIn (map key_of peers) t)
unknown_peer peers t = Decides-none (lookup (is_at (name_cmp t)) peers)
    (Decides-at _ _ (is_some-lookup (is_at (name_cmp t)) peers) (held-Decides name_cmp-total name_cmp-exact (keys_of peers) t))

no_community : (text : List ℕ) → Decides (is_no_community text) (IsNoCommunity text)
no_community text = Decides-and (is_none (number_of text)) (is_none (large_of text)) (no_number-Decides text) (no_large-Decides text)

-- each condition's first fault is what is found for it
pub finds : (o : Objects) (row : Row) → Finds (FaultAt o row) (found_at o row)
finds o ManyPools = finds_at 1024 o.pools
finds o ManyEntries = finds_named has_many_entries (λ pool. 64 < length pool.entries) (λ pool. Decides-ltb 64 (length pool.entries)) o.pools
finds o ManyTexts = finds_past 512 o.bgps
finds o ManyLarge = finds_past 128 (all_with_large o)
finds o BadEntry = finds_named has_bad_entry (λ pool. Has IsBadEntry pool.entries) bad_entry o.pools
finds o NoEntry = finds_named has_no_entry (λ pool. pool.entries ≡ []) (λ pool. Decides-empty pool.entries) o.pools
finds o Overlap = finds_overlap o.pools
finds o PoolSelector = finds_named has_bad_allocation (λ pool. Has IsBadSelector (allocation_selectors pool.allocation)) (λ pool. bad_selector _) o.pools
finds o L2Selector = finds_named has_bad_in_l2 (λ adv. Has IsBadSelector (adv.pool_selectors ++ adv.node_selectors)) (λ adv. bad_selector _) o.l2s
finds o BgpSelector = finds_named has_bad_in_bgp (λ adv. Has IsBadSelector (adv.pool_selectors ++ adv.node_selectors)) (λ adv. bad_selector _) o.bgps
finds o PeerSelector = finds_named has_bad_in_peer (λ peer. Has IsBadSelector peer.node_selectors) (λ peer. bad_selector _) o.peers
finds o Aggregation =
    finds_item (λ adv. adv.name) (aggregates_too_far (lists_of o).pools) (AggregatesTooFar (lists_of o).pools) (too_far (lists_of o).pools) (lists_of o).bgp
finds o PrefClash = finds_pair (λ adv. adv.name) (clash (lists_of o).pools) (Clash (lists_of o).pools) (clashes (lists_of o).pools) (lists_of o).bgp
finds o UnknownCommunity =
    finds_named (λ adv. list_any (is_unknown o.communities) adv.communities) (λ adv. Has (IsUnknownText o.communities) adv.communities)
    (λ adv. Decides-has (is_unknown o.communities) (IsUnknownText o.communities) (unknown o.communities) adv.communities) o.bgps
finds o BadValue =
    finds_named has_bad_value (λ c. Has (λ v. IsNoCommunity v.1) c.values)
    (λ c. Decides-has (λ v. is_no_community v.1) (λ v. IsNoCommunity v.1) (λ v. no_community v.1) c.values) o.communities
finds o BadText =
    finds_named (λ adv. list_any is_bad_text adv.communities) (λ adv. Has IsBadText adv.communities)
    (λ adv. Decides-has is_bad_text IsBadText (λ text. Decides-and _ _ (Decides-itself (has_colon text)) (no_community text)) adv.communities) o.bgps
finds o TwiceNamed = finds_repeat o.communities
finds o UnknownPeer =
    finds_named (λ adv. list_any (is_unknown_peer o.peers) adv.peers) (λ adv. Has (λ peer. ¬ IsIn (map key_of o.peers) peer) adv.peers)
    (λ adv. Decides-has (is_unknown_peer o.peers) (λ peer. ¬ IsIn (map key_of o.peers) peer) (unknown_peer o.peers) adv.peers) o.bgps
