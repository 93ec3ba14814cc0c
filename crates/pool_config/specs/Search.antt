-- The first fault, as it is found.
use Rattle.std.specs.Prelude.{◌≡◌, ℕ, ◌-◌, Bool, false, ◌&&◌, ◌||◌, not, List, [], ◌∷◌, ◌++◌, length, map}
use Rattle.std.specs.Prelude.{find, Option, Some, None, is_err, is_none, if◌then◌else◌, ◌==◌, nat_lt}
use Rattle.std.specs.List.{list_any}
use Rattle.std.specs.Option.{option_map, option_or}
use Rattle.std.specs.Map.{lookup}
use Rattle.std.specs.BTreeMap.{is_at}
use Rattle.std.specs.BTreeSet.{insert_key}
use Rattle.ip_ranges.specs.Values.{SpanValue, overlaps}
use Rattle.ip_ranges.specs.EntryText.{entry_of}
use Rattle.ip_ranges.specs.Cover.{least_length_of}
use Rattle.kube_labels.specs.Expressions.{first_fault as first_bad}
use Rattle.kube_model.specs.declared.pool.Pool.{Pool}
use Rattle.kube_model.specs.declared.l2.L2Adv.{L2Adv}
use Rattle.kube_model.specs.declared.bgp.BgpAdv.{BgpAdv}
use Rattle.kube_model.specs.declared.peer.BgpPeer.{BgpPeer}
use Rattle.kube_model.specs.declared.community.CommunityList.{CommunityList}
use Rattle.kube_model.specs.declared.selector.SelectorText.{SelectorText}
use Rattle.kube_model.specs.declared.config_fault.ConfigFault.{ConfigFault}
use Rattle.pool_config.specs.declared.compiled.CompiledPool.{CompiledPool}
use Rattle.pool_config.specs.declared.compiled.CompiledBgp.{CompiledBgp}
use Rattle.pool_config.specs.Choice.{chooses}
pub use Rattle.pool_config.specs.Faults.{Row, ManyPools, ManyEntries, ManyTexts, ManyLarge, BadEntry, NoEntry, Overlap, PoolSelector}
pub use Rattle.pool_config.specs.Faults.{L2Selector, BgpSelector, PeerSelector, Aggregation, PrefClash, UnknownCommunity, BadValue, BadText}
pub use Rattle.pool_config.specs.Faults.{TwiceNamed, UnknownPeer, rows, fault_at, allocation_selectors, length_for, key_of, all_with_large}
use Rattle.pool_config.specs.ConfigValue.{placed_spans}
use Rattle.pool_config.specs.Lists.{lists_of, named_value}
use Rattle.pool_config.specs.Large.{large_of}
use Rattle.pool_config.specs.Numbers.{has_colon, number_of}
use Rattle.pool_config.specs.Objects.{Objects}
use Rattle.kube_labels.specs.Names.{name_cmp}
use Rattle.pool_config.specs.KeySets.{keys_with}

-- the name of the first item that passes
abbrev pub first_name : {T : Type 0} → (T → Bool) → List (List ℕ × T) → Option (List ℕ)
first_name p [] = None
first_name p (e ∷ more) = if p e.1 then Some e.0 else first_name p more

-- the name that was found is that of the first item of which the calls of a test answer `true`
abbrev pub FindsFirst : {T : Type 0} → (T → Bool → Type 0) → List (List ℕ × T) → Option (List ℕ) → Type 0
FindsFirst {T} Answers items found = (p : T → Bool) → ((x : T) (r : Bool) → Answers x r → r ≡ p x) → found ≡ first_name p items

-- it was told whether the calls of a test answer `true` of any item
abbrev pub TellsAny : {T : Type 0} → (T → Bool → Type 0) → List T → Bool → Type 0
TellsAny {T} Answers items any = (p : T → Bool) → ((x : T) (r : Bool) → Answers x r → r ≡ p x) → any ≡ list_any p items

-- the name of the item at the place
abbrev pub name_at : {T : Type 0} → ℕ → List (List ℕ × T) → Option (List ℕ)
name_at i [] = None
name_at i (e ∷ more) = if i == 0 then Some e.0 else name_at (i - 1) more

-- the first advertisement with which there are more than so many texts
abbrev pub first_past : ℕ → List (List ℕ) → List (List ℕ × BgpAdv) → Option (List ℕ)
first_past limit held [] = None
first_past limit held (e ∷ more) =
    let with_these = keys_with name_cmp held e.1.communities in
    if nat_lt limit (length with_these) then Some e.0 else first_past limit with_these more

abbrev pub is_bad_entry : List ℕ → Bool
is_bad_entry entry = is_err (entry_of entry)

abbrev pub is_bad_selector : SelectorText → Bool
is_bad_selector text = not (is_none (first_bad text.expressions))

abbrev pub has_bad_selector : List SelectorText → Bool
has_bad_selector texts = list_any is_bad_selector texts

abbrev pub has_bad_allocation : Pool → Bool
has_bad_allocation pool = has_bad_selector (allocation_selectors pool.allocation)

abbrev pub has_bad_in_l2 : L2Adv → Bool
has_bad_in_l2 adv = has_bad_selector (adv.pool_selectors ++ adv.node_selectors)

abbrev pub has_bad_in_bgp : BgpAdv → Bool
has_bad_in_bgp adv = has_bad_selector (adv.pool_selectors ++ adv.node_selectors)

abbrev pub has_bad_in_peer : BgpPeer → Bool
has_bad_in_peer peer = has_bad_selector peer.node_selectors

abbrev pub has_many_entries : Pool → Bool
has_many_entries pool = nat_lt 64 (length pool.entries)

abbrev pub has_bad_entry : Pool → Bool
has_bad_entry pool = list_any is_bad_entry pool.entries

abbrev pub has_no_entry : Pool → Bool
has_no_entry pool = length pool.entries == 0

-- the later one of the first two items of which the test says so
abbrev pub first_pair : {A : Type 0} → (A → List ℕ) → (A → A → Bool) → List A → Option (List ℕ)
first_pair name_of r [] = None
first_pair name_of r (a ∷ more) = option_or (option_map name_of (find (r a) more)) (first_pair name_of r more)

abbrev pub meet : List ℕ × SpanValue → List ℕ × SpanValue → Bool
meet a b = overlaps a.1 b.1

abbrev pub is_too_short : CompiledBgp → SpanValue → Bool
is_too_short adv span = nat_lt (length_for adv span.family) (least_length_of span)

abbrev pub chooses_pool : CompiledBgp → CompiledPool → Bool
chooses_pool adv pool = chooses adv.pools adv.pool_selectors pool.name pool.labels

abbrev pub aggregates_too_far : List CompiledPool → CompiledBgp → Bool
aggregates_too_far pools adv = list_any (λ pool. chooses_pool adv pool && list_any (is_too_short adv) pool.spans) pools

abbrev pub has_equal_length : CompiledBgp → CompiledBgp → SpanValue → Bool
has_equal_length a b span = length_for a span.family == length_for b span.family

abbrev pub clash : List CompiledPool → CompiledBgp → CompiledBgp → Bool
clash pools a b =
    not (a.local_pref == b.local_pref)
    && list_any (λ pool. (chooses_pool a pool && chooses_pool b pool) && list_any (has_equal_length a b) pool.spans) pools

abbrev pub is_unknown : List (List ℕ × CommunityList) → List ℕ → Bool
is_unknown communities text = not (has_colon text) && is_none (named_value communities text)

-- neither a number nor a large community
abbrev pub is_no_community : List ℕ → Bool
is_no_community text = is_none (number_of text) && is_none (large_of text)

abbrev pub has_bad_value : CommunityList → Bool
has_bad_value c = list_any (λ v. is_no_community v.1) c.values

abbrev pub is_bad_text : List ℕ → Bool
is_bad_text text = has_colon text && is_no_community text

-- whether a name of the pairs is held, or stands twice among them
abbrev pub repeats : List (List ℕ) → List (List ℕ × List ℕ) → Bool
repeats held [] = false
repeats held (v ∷ more) = list_any (is_at (name_cmp v.0)) held || repeats (insert_key name_cmp held v.0) more

-- the names of the pairs, each put in its place among those held, once
abbrev pub names_with : List (List ℕ) → List (List ℕ × List ℕ) → List (List ℕ)
names_with held values = keys_with name_cmp held (map (λ v. v.0) values)

-- the first list of communities with a name that stood before
abbrev pub first_repeat : List (List ℕ) → List (List ℕ × CommunityList) → Option (List ℕ)
first_repeat held [] = None
first_repeat held (c ∷ more) = if repeats held c.1.values then Some c.0 else first_repeat (names_with held c.1.values) more

abbrev pub is_unknown_peer : List (List ℕ × BgpPeer) → List ℕ → Bool
is_unknown_peer peers name = is_none (lookup (is_at (name_cmp name)) peers)

-- the rows, stage by stage: the pools by themselves, their entries, selectors, advertisements, names
abbrev pub pool_rows : List Row
pool_rows = ManyPools ∷ ManyEntries ∷ ManyTexts ∷ ManyLarge ∷ BadEntry ∷ NoEntry ∷ []

abbrev pub overlap_rows : List Row
overlap_rows = Overlap ∷ []

abbrev pub selector_rows : List Row
selector_rows = PoolSelector ∷ L2Selector ∷ BgpSelector ∷ PeerSelector ∷ []

abbrev pub advertised_rows : List Row
advertised_rows = Aggregation ∷ PrefClash ∷ []

abbrev pub name_rows : List Row
name_rows = UnknownCommunity ∷ BadValue ∷ BadText ∷ TwiceNamed ∷ UnknownPeer ∷ []

-- what is wrong beside the pools by themselves
abbrev pub later_rows : List Row
later_rows = overlap_rows ++ (selector_rows ++ (advertised_rows ++ name_rows))

-- the name of the object that is at fault first by the row
abbrev pub found_at : Objects → Row → Option (List ℕ)
found_at o ManyPools = name_at 1024 o.pools
found_at o ManyEntries = first_name has_many_entries o.pools
found_at o ManyTexts = first_past 512 [] o.bgps
found_at o ManyLarge = first_past 128 [] (all_with_large o)
found_at o BadEntry = first_name has_bad_entry o.pools
found_at o NoEntry = first_name has_no_entry o.pools
found_at o Overlap = first_pair key_of meet (placed_spans (lists_of o).pools)
found_at o PoolSelector = first_name has_bad_allocation o.pools
found_at o L2Selector = first_name has_bad_in_l2 o.l2s
found_at o BgpSelector = first_name has_bad_in_bgp o.bgps
found_at o PeerSelector = first_name has_bad_in_peer o.peers
found_at o Aggregation = option_map (λ adv. adv.name) (find (aggregates_too_far (lists_of o).pools) (lists_of o).bgp)
found_at o PrefClash = first_pair (λ adv. adv.name) (clash (lists_of o).pools) (lists_of o).bgp
found_at o UnknownCommunity = first_name (λ adv. list_any (is_unknown o.communities) adv.communities) o.bgps
found_at o BadValue = first_name has_bad_value o.communities
found_at o BadText = first_name (λ adv. list_any is_bad_text adv.communities) o.bgps
found_at o TwiceNamed = first_repeat [] o.communities
found_at o UnknownPeer = first_name (λ adv. list_any (is_unknown_peer o.peers) adv.peers) o.bgps

-- the first fault of the rows
abbrev pub found_among : Objects → List Row → Option ConfigFault
found_among o [] = None
found_among o (row ∷ more) = option_or (option_map (fault_at row) (found_at o row)) (found_among o more)

-- the first fault
unfoldable pub first_fault : Objects → Option ConfigFault
first_fault o = found_among o rows
