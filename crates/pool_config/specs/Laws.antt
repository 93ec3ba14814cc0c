-- What holds of each set of objects.
use Rattle.std.specs.Prelude.{◌≡◌, ◌↔◌, ◌⊎◌, ℕ, List, map, IsTrue, Some, None, Ok, Err, if◌then◌else◌}
use Rattle.std.specs.List.Sorted.{IsStrictlySortedBy}
use Rattle.std.specs.Map.{keys_of}
use Rattle.std.specs.Ordering.{is_eq, nat_cmp}
use Rattle.std.specs.List.{AllByRecursion}
use Rattle.ip_ranges.specs.EntryText.{entry_of}
use Rattle.kube_labels.specs.Selectors.{selector_of}
use Rattle.kube_model.specs.declared.pool.Pool.{Pool}
use Rattle.kube_model.specs.declared.pool.Allocation.{Allocation}
use Rattle.kube_model.specs.declared.l2.L2Adv.{L2Adv}
use Rattle.kube_model.specs.declared.bgp.BgpAdv.{BgpAdv}
use Rattle.kube_model.specs.declared.peer.BgpPeer.{BgpPeer}
use Rattle.kube_model.specs.declared.selector.SelectorText.{SelectorText}
use Rattle.kube_model.specs.declared.object.Object.{Object}
use Rattle.kube_model.specs.declared.object.Object.TheVariants as objects
use Rattle.kube_model.specs.declared.object.Kind.{Kind}
use Rattle.kube_model.specs.declared.object.Kind.TheVariants as kinds
use Rattle.kube_model.specs.declared.community.CommunityList.{CommunityList}
use Rattle.versioned_map.specs.declared.map.Versioned.{Versioned}
use Rattle.versioned_map.specs.Objects.{object_at}
use Rattle.kube_model.specs.declared.config_fault.ConfigFault.{ConfigFault}
use Rattle.pool_config.specs.declared.object_set.ObjectSet.{ObjectSet}
use Rattle.pool_config.specs.Compile.{compiled}
use Rattle.pool_config.specs.ConfigValue.{ConfigValue, Ascend}
use Rattle.pool_config.specs.Faults.{HasNoFault, IsFirstFault}
use Rattle.large_numbers.specs.declared.numbers.LargeCommunity.{LargeCommunity}
use Rattle.large_numbers.specs.Large.{large_cmp}
use Rattle.pool_config.specs.Large.{IsLargeText, large_of}
use Rattle.pool_config.specs.Lists.{lists_of, spans_of, selectors_of, number_in, numbers_in, large_in, larges_in, named_value}
use Rattle.pool_config.specs.Numbers.{IsNumberText, number_of, has_colon}
use Rattle.pool_config.specs.Objects.{Objects, objects_of, no_objects, set_put, set_shown, set_without, set_expired, set_listed}
use Rattle.kube_labels.specs.Names.{name_cmp}
use Rattle.mlb_base.specs.Items.{ItemAt, Has, IsIn}

-- it is compiled to a fault exactly where that is its first one, and else to its lists
pub record IsCompiledRight (s : ObjectSet) : Type 0 where
  pub refused : (fault : ConfigFault) → (compiled s ≡ Err fault) ↔ IsFirstFault (objects_of s) fault
  pub accepted : (config : ConfigValue) → (compiled s ≡ Ok config) ↔ (HasNoFault (objects_of s) × (config ≡ lists_of (objects_of s)))

abbrev pub AllAreCompiledRight : Type 0
AllAreCompiledRight = (s : ObjectSet) → IsCompiledRight s

-- the object is held under the name, and every other name holds what it held
abbrev pub IsPut : {T : Type 0} → List (List ℕ × Versioned T) → List ℕ → T → List (List ℕ × Versioned T) → Type 0
IsPut old name object new =
    (other : List ℕ) → object_at name_cmp new other ≡ (if is_eq (name_cmp other name) then Some object else object_at name_cmp old other)

-- the object is put in place of the one of its kind and name, and every other object stays
abbrev pub IsSet : ObjectSet → Object → ObjectSet → Type 0
IsSet s (objects.Pool pool) t = IsPut s.pools pool.name pool t.pools × (t ≡ record s { pools = t.pools })
IsSet s (objects.L2 adv) t = IsPut s.l2s adv.name adv t.l2s × (t ≡ record s { l2s = t.l2s })
IsSet s (objects.Bgp adv) t = IsPut s.bgps adv.name adv t.bgps × (t ≡ record s { bgps = t.bgps })
IsSet s (objects.Peer peer) t = IsPut s.peers peer.name peer t.peers × (t ≡ record s { peers = t.peers })
IsSet s (objects.Community community) t = IsPut s.communities community.name community t.communities × (t ≡ record s { communities = t.communities })
IsSet s (objects.Service service) t = t ≡ s
IsSet s (objects.Namespace namespace) t = t ≡ s
IsSet s (objects.Node node) t = t ≡ s
IsSet s (objects.Slice slice) t = t ≡ s

abbrev pub SetsPutInPlace : Type 0
SetsPutInPlace = (s : ObjectSet) (object : Object) → IsSet s object (set_put s object)

-- nothing is held under the name, and every other name holds what it held
abbrev pub IsTakenOut : {T : Type 0} → List (List ℕ × Versioned T) → List ℕ → List (List ℕ × Versioned T) → Type 0
IsTakenOut old name new =
    (other : List ℕ) → object_at name_cmp new other
    ≡ (if is_eq (name_cmp other name) then None else object_at name_cmp old other)

-- the object of the kind and name is taken out, and every other object stays
abbrev pub IsRemoved : ObjectSet → Kind → List ℕ → ObjectSet → Type 0
IsRemoved s kinds.Pool name t = IsTakenOut s.pools name t.pools × (t ≡ record s { pools = t.pools })
IsRemoved s kinds.L2 name t = IsTakenOut s.l2s name t.l2s × (t ≡ record s { l2s = t.l2s })
IsRemoved s kinds.Bgp name t = IsTakenOut s.bgps name t.bgps × (t ≡ record s { bgps = t.bgps })
IsRemoved s kinds.Peer name t = IsTakenOut s.peers name t.peers × (t ≡ record s { peers = t.peers })
IsRemoved s kinds.Community name t =
    IsTakenOut s.communities name t.communities × (t ≡ record s { communities = t.communities })
IsRemoved s kinds.Service name t = t ≡ s
IsRemoved s kinds.Namespace name t = t ≡ s
IsRemoved s kinds.Node name t = t ≡ s
IsRemoved s kinds.Slice name t = t ≡ s

-- the names of each kind ascend, as the keys of every map do
abbrev pub IsOrdered : ObjectSet → Type 0
IsOrdered s =
    Ascend (keys_of s.pools) × Ascend (keys_of s.l2s) × Ascend (keys_of s.bgps)
    × Ascend (keys_of s.peers) × Ascend (keys_of s.communities)

abbrev pub RemovesTakeOut : Type 0
RemovesTakeOut = (s : ObjectSet) (kind : Kind) (name : List ℕ) → IsOrdered s → IsRemoved s kind name (set_without s kind name)

-- each object is held under its own name
abbrev pub AreNamed : {T : Type 0} → (T → List ℕ) → List (List ℕ × Versioned T) → Type 0
AreNamed name_of entries = AllByRecursion (λ e. name_of e.1.object ≡ e.0) entries

abbrev pub IsNamed : ObjectSet → Type 0
IsNamed s =
    AreNamed (λ pool. pool.name) s.pools × AreNamed (λ adv. adv.name) s.l2s
    × AreNamed (λ adv. adv.name) s.bgps × AreNamed (λ peer. peer.name) s.peers
    × AreNamed (λ community. community.name) s.communities

-- of the empty set, and of whatever any call makes of a set that is so
pub record NamesAreKept : Type 0 where
  pub empty : IsNamed no_objects
  pub set : (s : ObjectSet) (object : Object) → IsNamed s → IsNamed (set_put s object)
  pub shown : (s : ObjectSet) (version : ℕ) (object : Object) → IsNamed s → IsNamed (set_shown s version object)
  pub removed : (s : ObjectSet) (kind : Kind) (name : List ℕ) → IsNamed s → IsNamed (set_without s kind name)
  pub expired : (s : ObjectSet) → IsNamed s → IsNamed (set_expired s)
  pub listed : (s : ObjectSet) → IsNamed s → IsNamed (set_listed s)

-- each selector can be read, and is
abbrev pub AreRead : List SelectorText → Type 0
AreRead texts = map (λ t. selector_of t.labels t.expressions) texts ≡ map Ok (selectors_of texts)

-- the text stands for a number or for a large community
abbrev pub IsReadText : List (List ℕ × CommunityList) → List ℕ → Type 0
IsReadText communities text =
    ((n : ℕ) × (number_in communities text ≡ Some n)) ⊎ ((c : LargeCommunity) × (large_in communities text ≡ Some c))

-- nothing of the objects is left out of their lists: every entry, every selector and every community is read
pub record IsReadWhole (o : Objects) : Type 0 where
  pub entries : (i : ℕ) (e : List ℕ × Pool) → ItemAt o.pools i e → map entry_of e.1.entries ≡ map Ok (spans_of e.1.entries)
  pub allocations : (i : ℕ) (e : List ℕ × Pool) → ItemAt o.pools i e → (a : Allocation) → e.1.allocation ≡ Some a
      → AreRead a.namespace_selectors × AreRead a.service_selectors
  pub l2s : (i : ℕ) (e : List ℕ × L2Adv) → ItemAt o.l2s i e → AreRead e.1.pool_selectors × AreRead e.1.node_selectors
  pub bgps : (i : ℕ) (e : List ℕ × BgpAdv) → ItemAt o.bgps i e → AreRead e.1.pool_selectors × AreRead e.1.node_selectors
  pub peers : (i : ℕ) (e : List ℕ × BgpPeer) → ItemAt o.peers i e → AreRead e.1.node_selectors
  pub communities : (i : ℕ) (e : List ℕ × BgpAdv) → ItemAt o.bgps i e → AllByRecursion (IsReadText o.communities) e.1.communities

abbrev pub AcceptedAreReadWhole : Type 0
AcceptedAreReadWhole = (o : Objects) → HasNoFault o → IsReadWhole o

-- the texts that have a number are those of the form `A:B`
abbrev pub NumbersAreRead : Type 0
NumbersAreRead = (text : List ℕ) (n : ℕ) → (number_of text ≡ Some n) ↔ IsNumberText text n

-- the text is `A:B` and this is its number; or it has no colon, and this is the number of the value
-- that its name has
abbrev pub StandsFor : List (List ℕ × CommunityList) → List ℕ → ℕ → Type 0
StandsFor communities text n =
    IsNumberText text n
    ⊎ ((¬ IsTrue (has_colon text))
    × ((value : List ℕ) × (named_value communities text ≡ Some value) × IsNumberText value n))

-- the numbers ascend, so that each stands once, and are exactly those that the texts stand for
pub record AreNumbersOf (communities : List (List ℕ × CommunityList)) (texts : List (List ℕ)) (numbers : List ℕ) : Type 0 where
  pub ascending : IsStrictlySortedBy nat_cmp numbers
  pub exact : (n : ℕ) → IsIn numbers n ↔ Has (λ text. StandsFor communities text n) texts

-- the same of large communities
abbrev pub LargeTextsAreRead : Type 0
LargeTextsAreRead = (text : List ℕ) (c : LargeCommunity) → (large_of text ≡ Some c) ↔ IsLargeText text c

abbrev pub StandsForLarge : List (List ℕ × CommunityList) → List ℕ → LargeCommunity → Type 0
StandsForLarge communities text c =
    IsLargeText text c
    ⊎ ((¬ IsTrue (has_colon text))
    × ((value : List ℕ) × (named_value communities text ≡ Some value) × IsLargeText value c))

pub record AreLargesOf (communities : List (List ℕ × CommunityList)) (texts : List (List ℕ)) (larges : List LargeCommunity) : Type 0 where
  pub ascending : IsStrictlySortedBy large_cmp larges
  pub exact : (c : LargeCommunity) → IsIn larges c ↔ Has (λ text. StandsForLarge communities text c) texts

abbrev pub LargesAreRead : Type 0
LargesAreRead =
    (communities : List (List ℕ × CommunityList)) (texts : List (List ℕ))
    → AreLargesOf communities texts (larges_in communities texts)

abbrev pub CommunitiesAreRead : Type 0
CommunitiesAreRead =
    (communities : List (List ℕ × CommunityList)) (texts : List (List ℕ))
    → AreNumbersOf communities texts (numbers_in communities texts)
