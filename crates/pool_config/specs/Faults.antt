-- What is wrong with the objects of a configuration, and which fault comes first.
use Rattle.std.specs.Prelude.{◌≡◌, ◌≢◌, ℕ, suc, ◌<◌, Bool, ◌&&◌, ◌||◌, ◌⊎◌, List, [], ◌∷◌, ◌++◌, length, map, filter, Option, Some, None, All, IsTrue, IsErr}
use Rattle.std.specs.List.{flat_map, list_any}
use Rattle.std.specs.Str.{bytes_eq}
use Rattle.ip_ranges.specs.declared.family.Family.{Family}
use Rattle.ip_ranges.specs.declared.family.Family.TheVariants.{V4, V6}
use Rattle.ip_ranges.specs.Values.{SpanValue}
use Rattle.ip_ranges.specs.EntryText.{entry_of}
use Rattle.ip_ranges.specs.Cover.{least_length_of}
use Rattle.kube_labels.specs.Expressions.{IsWellFormed}
use Rattle.kube_model.specs.declared.pool.Allocation.{Allocation}
use Rattle.kube_model.specs.declared.bgp.BgpAdv.{BgpAdv}
use Rattle.kube_model.specs.declared.community.CommunityList.{CommunityList}
use Rattle.kube_model.specs.declared.selector.SelectorText.{SelectorText}
use Rattle.kube_model.specs.declared.object.Kind.{Kind}
use Rattle.kube_model.specs.declared.object.Kind.TheVariants as kinds
use Rattle.kube_model.specs.declared.config_fault.Cause.{Cause}
use Rattle.kube_model.specs.declared.config_fault.Cause.TheVariants as causes
use Rattle.kube_model.specs.declared.config_fault.ConfigFault.{ConfigFault}
use Rattle.pool_config.specs.declared.compiled.CompiledPool.{CompiledPool}
use Rattle.pool_config.specs.declared.compiled.CompiledBgp.{CompiledBgp}
use Rattle.pool_config.specs.Choice.{Chooses}
use Rattle.pool_config.specs.ConfigValue.{placed_spans, Overlaps}
use Rattle.pool_config.specs.Lists.{lists_of}
use Rattle.large_numbers.specs.declared.numbers.LargeCommunity.{LargeCommunity}
use Rattle.pool_config.specs.Large.{IsLargeText, begins_large}
use Rattle.pool_config.specs.Numbers.{IsNumberText, has_colon}
use Rattle.pool_config.specs.Objects.{Objects}
use Rattle.mlb_base.specs.Items.{ItemAt, Has, IsIn}

-- the conditions, each of which is tested over all objects before the next one
pub data Row : Type 0 where
  ManyPools : Row  -- there are more than 1024 pools
  ManyEntries : Row  -- a pool has more than 64 entries
  ManyTexts : Row  -- the advertisements have more than 512 distinct community texts
  ManyLarge : Row  -- they have more than 128 distinct texts of large communities
  BadEntry : Row  -- an entry can't be read
  NoEntry : Row  -- a pool has no entry
  Overlap : Row  -- two entries, of one pool or of two, overlap
  PoolSelector : Row  -- a selector can't be read: of a pool,
  L2Selector : Row  -- of an L2Advertisement,
  BgpSelector : Row  -- of a BGPAdvertisement,
  PeerSelector : Row  -- of a BGPPeer
  Aggregation : Row  -- an advertisement chooses a pool with an entry whose least length is greater than the advertisement's
  PrefClash : Row  -- two advertisements give one route two preferences
  UnknownCommunity : Row  -- a community text without a colon is no name of a community
  BadValue : Row  -- a community's value is neither `A:B` nor `large:A:B:C`
  BadText : Row  -- a community text with a colon is neither
  TwiceNamed : Row  -- two communities have one name
  UnknownPeer : Row  -- an advertisement names a peer that isn't there

-- in this order
abbrev pub rows : List Row
rows =
    ManyPools ∷ ManyEntries ∷ ManyTexts ∷ ManyLarge ∷ BadEntry ∷ NoEntry ∷ Overlap ∷ PoolSelector ∷ L2Selector ∷ BgpSelector ∷ PeerSelector
    ∷ Aggregation ∷ PrefClash ∷ UnknownCommunity ∷ BadValue ∷ BadText ∷ TwiceNamed ∷ UnknownPeer ∷ []

abbrev pub cause_of : Row → Cause
cause_of ManyPools = causes.Limit
cause_of ManyEntries = causes.Limit
cause_of ManyTexts = causes.Limit
cause_of ManyLarge = causes.Limit
cause_of BadEntry = causes.EntryUnreadable
cause_of NoEntry = causes.EmptyPool
cause_of Overlap = causes.Overlap
cause_of PoolSelector = causes.SelectorUnreadable
cause_of L2Selector = causes.SelectorUnreadable
cause_of BgpSelector = causes.SelectorUnreadable
cause_of PeerSelector = causes.SelectorUnreadable
cause_of Aggregation = causes.Aggregation
cause_of PrefClash = causes.LocalPrefClash
cause_of UnknownCommunity = causes.CommunityUnknown
cause_of BadValue = causes.CommunityUnreadable
cause_of BadText = causes.CommunityUnreadable
cause_of TwiceNamed = causes.CommunityTwice
cause_of UnknownPeer = causes.PeerUnknown

-- the kind of the object that is named
abbrev pub kind_of : Row → Kind
kind_of ManyPools = kinds.Pool
kind_of ManyEntries = kinds.Pool
kind_of ManyTexts = kinds.Bgp
kind_of ManyLarge = kinds.Bgp
kind_of BadEntry = kinds.Pool
kind_of NoEntry = kinds.Pool
kind_of Overlap = kinds.Pool
kind_of PoolSelector = kinds.Pool
kind_of L2Selector = kinds.L2
kind_of BgpSelector = kinds.Bgp
kind_of PeerSelector = kinds.Peer
kind_of Aggregation = kinds.Bgp
kind_of PrefClash = kinds.Bgp
kind_of UnknownCommunity = kinds.Bgp
kind_of BadValue = kinds.Community
kind_of BadText = kinds.Bgp
kind_of TwiceNamed = kinds.Community
kind_of UnknownPeer = kinds.Bgp

abbrev pub fault_at : Row → List ℕ → ConfigFault
fault_at row name = record { cause = cause_of row; kind = kind_of row; name = name }

-- the item at the first place is at fault. It is its own pair
pub record FaultyItem {A : Type 0} (name_of : A → List ℕ) (P : A → Type 0) (items : List A) (i j : ℕ) (name : List ℕ) : Type 0 where
  pub item : A
  pub stands : ItemAt items i item
  pub faulty : P item
  pub named : name ≡ name_of item
  pub alone : j ≡ i

-- two items are at fault with one another, and the later one is named
pub record FaultyPair {A : Type 0} (name_of : A → List ℕ) (R : A → A → Type 0) (items : List A) (i j : ℕ) (name : List ℕ) : Type 0 where
  pub one : A
  pub other : A
  pub ordered : i < j
  pub one_stands : ItemAt items i one
  pub other_stands : ItemAt items j other
  pub faulty : R one other
  pub named : name ≡ name_of other

abbrev pub key_of : {T : Type 0} → List ℕ × T → List ℕ
key_of e = e.0

-- the entry is neither a range nor a prefix
abbrev pub IsBadEntry : List ℕ → Type 0
IsBadEntry entry = IsErr (entry_of entry)

-- an expression of the selector isn't well formed
abbrev pub IsBadSelector : SelectorText → Type 0
IsBadSelector text = ¬ All IsWellFormed text.expressions

-- a pool's selectors, those of namespaces before those of services
abbrev pub allocation_selectors : Option Allocation → List SelectorText
allocation_selectors None = []
allocation_selectors (Some a) = a.namespace_selectors ++ a.service_selectors

-- the texts differ, each from those before it
abbrev pub Differ : List (List ℕ) → Type 0
Differ [] = Unit {0}
Differ (t ∷ ts) = (¬ IsIn ts t) × Differ ts

-- one of the first so many advertisements has the text
abbrev pub HasText : List (List ℕ × BgpAdv) → ℕ → List ℕ → Type 0
HasText bgps count text = (i : ℕ) × (adv : List ℕ × BgpAdv) × (i < count) × ItemAt bgps i adv × IsIn adv.1.communities text

-- the first so many advertisements have more than so many distinct texts
abbrev pub HaveMore : ℕ → List (List ℕ × BgpAdv) → ℕ → Type 0
HaveMore limit bgps count = (texts : List (List ℕ)) × Differ texts × All (HasText bgps count) texts × (limit < length texts)

-- the text is a name that has, in some list, a value which begins as a large community
abbrev pub is_large_name : List (List ℕ × CommunityList) → List ℕ → Bool
is_large_name communities text = list_any (λ c. list_any (λ v. bytes_eq v.0 text && begins_large v.1) c.1.values) communities

-- the text begins so, or is such a name
abbrev pub counts_as_large : List (List ℕ × CommunityList) → List ℕ → Bool
counts_as_large communities text = begins_large text || is_large_name communities text

-- the advertisement with those of its texts alone that are of large communities
abbrev pub with_large : List (List ℕ × CommunityList) → List ℕ × BgpAdv → List ℕ × BgpAdv
with_large communities e = (e.0, record e.1 { communities = filter (counts_as_large communities) e.1.communities })

abbrev pub all_with_large : Objects → List (List ℕ × BgpAdv)
all_with_large o = map (with_large o.communities) o.bgps

-- the length that the advertisement has for a family
abbrev pub length_for : CompiledBgp → Family → ℕ
length_for adv V4 = adv.length
length_for adv V6 = adv.length_v6

abbrev pub ChoosesPool : CompiledBgp → CompiledPool → Type 0
ChoosesPool adv pool = Chooses adv.pools adv.pool_selectors pool.name pool.labels

-- the span's least length is greater than the advertisement's of that family
abbrev pub IsTooShort : CompiledBgp → SpanValue → Type 0
IsTooShort adv span = length_for adv span.family < least_length_of span

-- the advertisement chooses a pool with an entry for which its length is too short
abbrev pub AggregatesTooFar : List CompiledPool → CompiledBgp → Type 0
AggregatesTooFar pools adv = Has (λ pool. ChoosesPool adv pool × Has (IsTooShort adv) pool.spans) pools

-- the advertisements have equal lengths of the span's family
abbrev pub HaveEqualLength : CompiledBgp → CompiledBgp → SpanValue → Type 0
HaveEqualLength a b span = length_for a span.family ≡ length_for b span.family

-- the advertisements choose a common pool, have different preferences, and have equal lengths of a
-- family of which the pool has an entry
abbrev pub Clash : List CompiledPool → CompiledBgp → CompiledBgp → Type 0
Clash pools a b =
    (a.local_pref ≢ b.local_pref)
    × Has (λ pool. (ChoosesPool a pool × ChoosesPool b pool) × Has (HaveEqualLength a b) pool.spans) pools

-- all entries of the lists of communities, in order, each with the name of its list
abbrev pub community_aliases : List (List ℕ × CommunityList) → List (List ℕ × List ℕ)
community_aliases communities = flat_map (λ c. map (λ v. (c.0, v.0)) c.1.values) communities

abbrev pub IsCommunityName : List (List ℕ × CommunityList) → List ℕ → Type 0
IsCommunityName communities text = Has (λ c. Has (λ v. v.0 ≡ text) c.1.values) communities

-- the text isn't `A:B`
abbrev pub IsNoNumber : List ℕ → Type 0
IsNoNumber text = (n : ℕ) → ¬ IsNumberText text n

-- the text isn't `large:A:B:C`
abbrev pub IsNoLarge : List ℕ → Type 0
IsNoLarge text = (c : LargeCommunity) → ¬ IsLargeText text c

-- the text is neither
abbrev pub IsNoCommunity : List ℕ → Type 0
IsNoCommunity text = IsNoNumber text × IsNoLarge text

-- the text has no colon and is no community's name
abbrev pub IsUnknownText : List (List ℕ × CommunityList) → List ℕ → Type 0
IsUnknownText communities text = (¬ IsTrue (has_colon text)) × ¬ IsCommunityName communities text

-- the text has a colon, and is neither `A:B` nor `large:A:B:C`
abbrev pub IsBadText : List ℕ → Type 0
IsBadText text = IsTrue (has_colon text) × IsNoCommunity text

-- an entry before the place has the name of this one
abbrev pub StoodBefore : List (List ℕ × List ℕ) → ℕ → List ℕ × List ℕ → Type 0
StoodBefore entries place v =
    (k : ℕ) × (w : List ℕ × List ℕ) × (k < place) × ItemAt entries k w × (w.1 ≡ v.1)

-- what holds of the objects at the places i and j, where they have the row's fault; the object of this
-- name is named for it
abbrev pub FaultAt : Objects → Row → ℕ → ℕ → List ℕ → Type 0
FaultAt o ManyPools i j name = FaultyItem key_of (λ _. i ≡ 1024) o.pools i j name
FaultAt o ManyEntries i j name = FaultyItem key_of (λ e. 64 < length e.1.entries) o.pools i j name
FaultAt o ManyTexts i j name = FaultyItem key_of (λ _. HaveMore 512 o.bgps (suc i)) o.bgps i j name
FaultAt o ManyLarge i j name = FaultyItem key_of (λ _. HaveMore 128 (all_with_large o) (suc i)) (all_with_large o) i j name
FaultAt o BadEntry i j name = FaultyItem key_of (λ e. Has IsBadEntry e.1.entries) o.pools i j name
FaultAt o NoEntry i j name = FaultyItem key_of (λ e. e.1.entries ≡ []) o.pools i j name
FaultAt o Overlap i j name =
    FaultyPair key_of (λ a b. Overlaps a.1 b.1) (placed_spans (lists_of o).pools) i j name
FaultAt o PoolSelector i j name =
    FaultyItem key_of (λ e. Has IsBadSelector (allocation_selectors e.1.allocation)) o.pools i j name
FaultAt o L2Selector i j name =
    FaultyItem key_of (λ e. Has IsBadSelector (e.1.pool_selectors ++ e.1.node_selectors)) o.l2s i j name
FaultAt o BgpSelector i j name =
    FaultyItem key_of (λ e. Has IsBadSelector (e.1.pool_selectors ++ e.1.node_selectors)) o.bgps i j name
FaultAt o PeerSelector i j name =
    FaultyItem key_of (λ e. Has IsBadSelector e.1.node_selectors) o.peers i j name
FaultAt o Aggregation i j name =
    FaultyItem (λ adv. adv.name) (AggregatesTooFar (lists_of o).pools) (lists_of o).bgp i j name
FaultAt o PrefClash i j name =
    FaultyPair (λ adv. adv.name) (Clash (lists_of o).pools) (lists_of o).bgp i j name
FaultAt o UnknownCommunity i j name =
    FaultyItem key_of (λ e. Has (IsUnknownText o.communities) e.1.communities) o.bgps i j name
FaultAt o BadValue i j name =
    FaultyItem key_of (λ c. Has (λ v. IsNoCommunity v.1) c.1.values) o.communities i j name
FaultAt o BadText i j name = FaultyItem key_of (λ e. Has IsBadText e.1.communities) o.bgps i j name
FaultAt o TwiceNamed i j name =
    let entries = community_aliases o.communities in
    FaultyItem key_of (StoodBefore entries i) entries i j name
FaultAt o UnknownPeer i j name =
    FaultyItem key_of (λ e. Has (λ peer. ¬ IsIn (map key_of o.peers) peer) e.1.peers) o.bgps i j name

-- the places before these: the first member counts first
abbrev pub IsBefore : ℕ → ℕ → ℕ → ℕ → Type 0
IsBefore first second first' second' = (first < first') ⊎ ((first ≡ first') × (second < second'))

-- the objects have no fault of the row
abbrev pub NoFaultAt : Objects → Row → Type 0
NoFaultAt o row = (first second : ℕ) (name : List ℕ) → ¬ FaultAt o row first second name

-- a fault, and there is none at places before
pub record IsFirstOf (Faulty : ℕ → ℕ → List ℕ → Type 0) (name : List ℕ) : Type 0 where
  pub first : ℕ
  pub second : ℕ
  pub here : Faulty first second name
  pub least : (first' second' : ℕ) (name' : List ℕ) → Faulty first' second' name' → ¬ IsBefore first' second' first second

-- the first fault: no row before has one, and its own has none at places before
pub record IsFirstFault (o : Objects) (fault : ConfigFault) : Type 0 where
  pub earlier : List Row
  pub row : Row
  pub later : List Row
  pub name : List ℕ
  pub order : rows ≡ earlier ++ row ∷ later
  pub none : All (NoFaultAt o) earlier
  pub here : IsFirstOf (FaultAt o row) name
  pub is : fault ≡ fault_at row name

abbrev pub HasNoFault : Objects → Type 0
HasNoFault o = (row : Row) → NoFaultAt o row
