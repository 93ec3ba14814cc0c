-- The nodes that an event changes are found event by event.
use Rattle.std.proofs.Common.{◌≡◌, ◌↔◌, ℕ, Bool, true, false, cond, ◌&&◌, not, eqb, leb, length, List, [], ◌∷◌, map, filter, Option, Some}
use Rattle.std.proofs.Common.{Contains, is_eq, inl, inr, ◌⊎◌, refl, sym, ap, ◌∙◌, subst}
use Rattle.std.proofs.lemmas.Bool.{true≢false, and_parts, false_from_ne_true}
use Rattle.std.proofs.lemmas.Map.Lookups.{exact_bytes}
use Rattle.std.proofs.lemmas.Map.Keys.{IsDistinct-from_sorted}
use Rattle.std.proofs.lemmas.Map.Views.{Contains-from_lookup, lookup-from_Contains, tells_apart}
use Rattle.std.specs.BTreeMap.{insert_entry, is_at}
use Rattle.std.specs.BTreeSet.{contains}
use Rattle.std.specs.Cmp.{eq_by_cmp_equiv}
use Rattle.std.specs.Cmp.Lexicographic.{pointwise, nat_list_cmp_total}
use Rattle.std.specs.List.{list_any}
use Rattle.std.specs.List.Sorted.{IsStrictlySortedBy}
use Rattle.std.specs.Map.{keys_of, remove_entry}
use Rattle.std.specs.Option.{option_map}
use Rattle.mlb_base.specs.Items.{IsIn}
use Rattle.mlb_base.proofs.Among.{contains-cons, contains-first, contains-later, contains-none}
use Rattle.mlb_base.proofs.Entries.{ascending-filter}
use Rattle.mlb_base.proofs.Lists.{contains-in, filter-contains, filter-keeps, in-contains}
use Rattle.kube_labels.specs.Names.{name_cmp}
use Rattle.kube_labels.specs.Pairs.{pair_eq}
use Rattle.kube_labels.proofs.PairLaws.{pairs_eq-Decides}
use Rattle.kube_model.specs.declared.event.Event.{Event}
use Rattle.kube_model.specs.declared.event.Event.TheVariants.{Changed, Deleted, ListEnd, Expired, Members, Frame, Ignored}
use Rattle.kube_model.specs.declared.event.ListGroup.TheVariants as groups
use Rattle.kube_model.specs.declared.node.Node.{Node}
use Rattle.kube_model.specs.declared.object.Kind.TheVariants as kinds
use Rattle.kube_model.specs.declared.object.Object.TheVariants as objects
use Rattle.pool_config.specs.KeySets.{keys_with}
use Rattle.pool_config.proofs.KeySets.{ascending-keys_with, held-Decides, in_keys, keys_in}
use Rattle.versioned_map.specs.declared.map.Versioned.{Versioned}
use Rattle.versioned_map.specs.Objects.{held_at, object_at, version_at}
use Rattle.versioned_map.proofs.HeldLaws.{ascending-listed}
use Rattle.speaker_view.specs.Endpoints.{labels_of, node_labels}
use Rattle.speaker_view.specs.Nodes.{AreChangedNodes, IsSameNode, changed_members, drops_labels, missing, names_of, nodes_by}
use Rattle.speaker_view.specs.View.{view_after}
use Rattle.speaker_view.specs.ViewValue.{ViewValue}
use Rattle.speaker_view.proofs.Labels.{Nodes, listed-labels, no_labels, removed-others, shown-others, unlisted-labels}
use Rattle.speaker_view.proofs.Objects.{object_at-expired}

abbrev Names : Type 0
Names = List (List ℕ)

none_ascend : IsStrictlySortedBy name_cmp []
unfolding IsStrictlySortedBy
none_ascend = tt

one_ascends : (name : List ℕ) → IsStrictlySortedBy name_cmp (name ∷ [])
unfolding IsStrictlySortedBy
one_ascends name = (tt, tt)

map-contains : {X Y : Type 0} (f : X → Y) (xs : List X) (y : Y) → Contains (map f xs) y → (x : X) × Contains xs x × (f x ≡ y)
map-contains f [] y there = absurd (contains-none y there)
map-contains f (x ∷ xs) y there = elim (contains-cons (f x) (map f xs) y there) [
  | inl here ↦ (x, contains-first x xs, here)
  | inr later ↦ (let rest = map-contains f xs y later in (rest.0, contains-later x xs rest.0 rest.1, rest.2))
]

pub contains-map : {X Y : Type 0} (f : X → Y) (xs : List X) (x : X) → Contains xs x → Contains (map f xs) (f x)
contains-map f [] x there = absurd (contains-none x there)
contains-map f (z ∷ xs) x there = elim (contains-cons z xs x there) [
  | inl here ↦ subst (λ u. Contains (f z ∷ map f xs) (f u)) here (contains-first (f z) (map f xs))
  | inr later ↦ contains-later (f z) (map f xs) (f x) (contains-map f xs x later)
]

pub none-changed : (v w : ViewValue) → ((node : List ℕ) → IsSameNode v w node) → AreChangedNodes v w []
none-changed v w same = record {
  ascend = none_ascend;
  changed = λ node there is. contains-none node there;
  others = λ node none. same node;
}

same-members : (v w : ViewValue) → w.members ≡ v.members → (node : List ℕ) → Contains w.members node ↔ Contains v.members node
same-members v w members node = (
  λ there. subst (λ (ms : Names). Contains ms node) members there,
  λ there. subst (λ (ms : Names). Contains ms node) (sym members) there,
)

-- ---- one node may have other labels, and all else is the same
module _ (v w : ViewValue) (name : List ℕ) (members : w.members ≡ v.members)
    (others : (node : List ℕ) → is_eq (name_cmp node name) ≡ false → node_labels w node ≡ node_labels v node) where
  named : (node : List ℕ) → Contains (name ∷ []) node → name ≡ node
  named node there = elim (contains-cons name [] node there) [ inl here ↦ here | inr none ↦ absurd (contains-none node none) ]

  labels-by : (node : List ℕ) (b : Bool) → is_eq (name_cmp node name) ≡ b → (node ≡ name → node_labels w node ≡ node_labels v node)
      → node_labels w node ≡ node_labels v node
  labels-by node true at own = own (tells_apart exact_bytes node name at)
  labels-by node false at own = others node at

  pub one-changed : (same : Bool) → pointwise pair_eq (node_labels v name) (node_labels w name) ≡ same
      → AreChangedNodes v w (cond (not same) (name ∷ []) [])
  one-changed true is =
      let labels : node_labels w name ≡ node_labels v name = sym ((pairs_eq-Decides (node_labels v name) (node_labels w name)).0 is) in
      none-changed v w (λ node. record {
        labels = labels-by node (is_eq (name_cmp node name)) refl (λ one. subst (λ (n : List ℕ). node_labels w n ≡ node_labels v n) (sym one) labels);
        member = same-members v w members node;
      })
  one-changed false is = record {
    ascend = one_ascends name;
    changed = λ node there same.
        let labels : node_labels w name ≡ node_labels v name =
        subst (λ (n : List ℕ). node_labels w n ≡ node_labels v n) (sym (named node there)) same.labels in
        true≢false (sym ((pairs_eq-Decides (node_labels v name) (node_labels w name)).1 (sym labels)) ∙ is);
    others = λ node none. record {
      labels = labels-by node (is_eq (name_cmp node name)) refl
          (λ one. absurd (none (subst (λ (n : List ℕ). Contains (name ∷ []) n) (sym one) (contains-first name []))));
      member = same-members v w members node;
    };
  }

-- ---- the members that were told
-- a name is found in a set of names where it is one of them
among-in : (names : Names) (name : List ℕ) → contains name_cmp (record { keys = names_of names }) name ≡ true → Contains names name
among-in names name e =
    elim (in_keys nat_list_cmp_total exact_bytes [] names name ((held-Decides nat_list_cmp_total exact_bytes (names_of names) name).0 e)) [
      | inl none ↦ absurd none
      | inr there ↦ in-contains names name there
    ]

in-among : (names : Names) (name : List ℕ) → Contains names name → contains name_cmp (record { keys = names_of names }) name ≡ true
in-among names name there =
    (held-Decides nat_list_cmp_total exact_bytes (names_of names) name).1
    (keys_in nat_list_cmp_total exact_bytes [] names name (inr (contains-in names name there)))

missing-from : (names others : Names) (name : List ℕ) → Contains (missing names others) name → Contains names name × ¬ (Contains others name)
missing-from names others name there =
    let passed = filter-contains (λ (n : List ℕ). not (contains name_cmp (record { keys = names_of others }) n)) names name there in
    (passed.0, λ other. true≢false (sym passed.1 ∙ ap not (in-among others name other)))

to-missing : (names others : Names) (name : List ℕ) → Contains names name → ¬ (Contains others name) → Contains (missing names others) name
to-missing names others name there none =
    filter-keeps (λ (n : List ℕ). not (contains name_cmp (record { keys = names_of others }) n)) names name there
    (ap not (false_from_ne_true (contains name_cmp (record { keys = names_of others }) name) (λ e. none (among-in others name e))))

-- what isn't in one list and not in the other is in both or in neither
still-in : (before after : Names) (name : List ℕ) → ¬ (Contains (missing after before) name) → Contains after name → Contains before name
still-in before after name none there = by (contains name_cmp (record { keys = names_of before }) name) refl where
  by : (b : Bool) → contains name_cmp (record { keys = names_of before }) name ≡ b → Contains before name
  by true e = among-in before name e
  by false e = absurd (none (to-missing after before name there (λ held. true≢false (sym (in-among before name held) ∙ e))))

from-changed : (before after : Names) (name : List ℕ) → Contains (changed_members before after) name
    → Contains (missing before after) name ⊎ Contains (missing after before) name
from-changed before after name there =
    elim (in_keys nat_list_cmp_total exact_bytes (names_of (missing before after)) (missing after before) name
    (contains-in (changed_members before after) name there)) [
      | inl first ↦ elim (in_keys nat_list_cmp_total exact_bytes [] (missing before after) name first) [
        | inl none ↦ absurd none
        | inr left ↦ inl (in-contains (missing before after) name left)
      ]
      | inr came ↦ inr (in-contains (missing after before) name came)
    ]

left-changed : (before after : Names) (name : List ℕ) → Contains (missing before after) name → Contains (changed_members before after) name
left-changed before after name there =
    in-contains (changed_members before after) name
    (keys_in nat_list_cmp_total exact_bytes (names_of (missing before after)) (missing after before) name
    (inl (keys_in nat_list_cmp_total exact_bytes [] (missing before after) name (inr (contains-in (missing before after) name there)))))

came-changed : (before after : Names) (name : List ℕ) → Contains (missing after before) name → Contains (changed_members before after) name
came-changed before after name there =
    in-contains (changed_members before after) name
    (keys_in nat_list_cmp_total exact_bytes (names_of (missing before after)) (missing after before) name
    (inr (contains-in (missing after before) name there)))

pub members-changed : (v w : ViewValue) → ((node : List ℕ) → node_labels w node ≡ node_labels v node)
    → AreChangedNodes v w (changed_members v.members w.members)
members-changed v w labels = record {
  ascend = ascending-keys_with nat_list_cmp_total exact_bytes (names_of (missing v.members w.members)) (missing w.members v.members)
      (ascending-keys_with nat_list_cmp_total exact_bytes [] (missing v.members w.members) none_ascend);
  changed = λ node there same. elim (from-changed v.members w.members node there) [
    | inl left ↦ (let was = missing-from v.members w.members node left in was.1 (same.member.1 was.0))
    | inr came ↦ (let is = missing-from w.members v.members node came in is.1 (same.member.0 is.0))
  ];
  others = λ node none. record {
    labels = labels node;
    member = (
      λ there. still-in v.members w.members node (λ came. none (came-changed v.members w.members node came)) there,
      λ there. still-in w.members v.members node (λ left. none (left-changed v.members w.members node left)) there,
    );
  };
}

-- ---- the nodes that are dropped at the end of their list
module _ (v : ViewValue) (ascend : IsStrictlySortedBy name_cmp (keys_of v.held.nodes)) where
  abbrev nodes : Nodes
  nodes = v.held.nodes

  abbrev w : ViewValue
  w = view_after (ListEnd groups.Config) v

  abbrev dropped : Names
  dropped = map (λ e. e.0) (filter drops_labels nodes)

  held : (name : List ℕ) (entry : Versioned Node) → Contains nodes (name, entry) → held_at name_cmp nodes name ≡ Some entry
  held name entry there =
      lookup-from_Contains (eq_by_cmp_equiv nat_list_cmp_total) name entry nodes (IsDistinct-from_sorted name_cmp (keys_of nodes) ascend) there

  there : (name : List ℕ) (entry : Versioned Node) → held_at name_cmp nodes name ≡ Some entry → Contains nodes (name, entry)
  there name entry at = Contains-from_lookup (tells_apart exact_bytes) name entry nodes at

  dropped-had : (node : List ℕ) (entry : Versioned Node) → held_at name_cmp nodes node ≡ Some entry → drops_labels (node, entry) ≡ true
      → node_labels w node ≡ node_labels v node → ⊥
  dropped-had node entry at drops same =
      let parts = and_parts (eqb entry.version 0) (not (eqb (length entry.object.labels) 0)) drops in
      let had : node_labels v node ≡ entry.object.labels =
      ap (λ (o : Option (Versioned Node)). labels_of (option_map (λ (h : Versioned Node). h.object) o)) at in
      let none : entry.object.labels ≡ [] = sym had ∙ sym same ∙ unlisted-labels nodes node entry ascend at parts.0 in
      let empty : not (eqb (length entry.object.labels) 0) ≡ false = ap (λ (pairs : List (List ℕ × List ℕ)). not (eqb (length pairs) 0)) none in
      true≢false (sym parts.1 ∙ empty)

  pub dropped-changed : AreChangedNodes v w dropped
  dropped-changed = record {
    ascend = ascending-filter name_cmp drops_labels nodes ascend;
    changed = λ node found same.
        let of = map-contains (λ (e : List ℕ × Versioned Node). e.0) (filter drops_labels nodes) node found in
        let e : List ℕ × Versioned Node = of.0 in
        let passed = filter-contains drops_labels nodes e of.1 in
        dropped-had e.0 e.1 (held e.0 e.1 passed.0) passed.1
        (subst (λ (n : List ℕ). node_labels w n ≡ node_labels v n) (sym of.2) same.labels);
    others = λ node none. record {
      labels = listed-labels nodes node ascend (λ entry at. false_from_ne_true (drops_labels (node, entry)) (λ drops.
          none (contains-map (λ (e : List ℕ × Versioned Node). e.0) (filter drops_labels nodes) (node, entry)
          (filter-keeps drops_labels nodes (node, entry) (there node entry at) drops))));
      member = same-members v w refl node;
    };
  }

-- ---- event by event
module _ (v : ViewValue) where
  same-view : (w : ViewValue) → ((node : List ℕ) → node_labels w node ≡ node_labels v node) → w.members ≡ v.members → AreChangedNodes v w []
  same-view w labels members = none-changed v w (λ node. record { labels = labels node; member = same-members v w members node })

  pub event-changes : (event : Event) → IsStrictlySortedBy name_cmp (keys_of v.held.nodes) → AreChangedNodes v (view_after event v) (nodes_by v event)
  event-changes (Changed version (objects.Node shown)) ascend =
      let event = Changed version (objects.Node shown) in
      let held : Versioned Node = record { version = version; object = shown } in
      one-changed v (view_after event v) shown.name refl
      (λ node apart. shown-others (leb version (version_at name_cmp v.held.nodes shown.name)) v.held.nodes shown.name node held apart)
      (pointwise pair_eq (node_labels v shown.name) (node_labels (view_after event v) shown.name)) refl
  event-changes (Changed version (objects.Service service)) ascend = same-view (view_after (Changed version (objects.Service service)) v) (λ node. refl) refl
  event-changes (Changed version (objects.Slice slice)) ascend = same-view (view_after (Changed version (objects.Slice slice)) v) (λ node. refl) refl
  event-changes (Changed version (objects.Pool pool)) ascend = same-view (view_after (Changed version (objects.Pool pool)) v) (λ node. refl) refl
  event-changes (Changed version (objects.L2 adv)) ascend = same-view (view_after (Changed version (objects.L2 adv)) v) (λ node. refl) refl
  event-changes (Changed version (objects.Bgp adv)) ascend = same-view (view_after (Changed version (objects.Bgp adv)) v) (λ node. refl) refl
  event-changes (Changed version (objects.Peer peer)) ascend = same-view (view_after (Changed version (objects.Peer peer)) v) (λ node. refl) refl
  event-changes (Changed version (objects.Community community)) ascend = same-view (view_after (Changed version (objects.Community community)) v) (λ node. refl) refl
  event-changes (Changed version (objects.Namespace namespace)) ascend = same-view (view_after (Changed version (objects.Namespace namespace)) v) (λ node. refl) refl
  event-changes (Deleted kinds.Node key) ascend =
      let event = Deleted kinds.Node key in
      one-changed v (view_after event v) key.name refl (λ node apart. removed-others v.held.nodes key.name node apart)
      (pointwise pair_eq (node_labels v key.name) (node_labels (view_after event v) key.name)) refl
  event-changes (Deleted kinds.Service key) ascend = same-view (view_after (Deleted kinds.Service key) v) (λ node. refl) refl
  event-changes (Deleted kinds.Slice key) ascend = same-view (view_after (Deleted kinds.Slice key) v) (λ node. refl) refl
  event-changes (Deleted kinds.Pool key) ascend = same-view (view_after (Deleted kinds.Pool key) v) (λ node. refl) refl
  event-changes (Deleted kinds.L2 key) ascend = same-view (view_after (Deleted kinds.L2 key) v) (λ node. refl) refl
  event-changes (Deleted kinds.Bgp key) ascend = same-view (view_after (Deleted kinds.Bgp key) v) (λ node. refl) refl
  event-changes (Deleted kinds.Peer key) ascend = same-view (view_after (Deleted kinds.Peer key) v) (λ node. refl) refl
  event-changes (Deleted kinds.Community key) ascend = same-view (view_after (Deleted kinds.Community key) v) (λ node. refl) refl
  event-changes (Deleted kinds.Namespace key) ascend = same-view (view_after (Deleted kinds.Namespace key) v) (λ node. refl) refl
  event-changes (ListEnd groups.Config) ascend = dropped-changed v ascend
  event-changes (ListEnd groups.Service) ascend = same-view (view_after (ListEnd groups.Service) v) (λ node. refl) refl
  event-changes (ListEnd groups.Endpoint) ascend = same-view (view_after (ListEnd groups.Endpoint) v) (λ node. refl) refl
  event-changes Expired ascend = same-view (view_after Expired v) (λ node. ap labels_of (object_at-expired name_cmp v.held.nodes node)) refl
  event-changes (Members names) ascend = members-changed v (view_after (Members names) v) (λ node. refl)
  event-changes (Frame interface bytes) ascend = same-view (view_after (Frame interface bytes) v) (λ node. refl) refl
  event-changes Ignored ascend = same-view (view_after Ignored v) (λ node. refl) refl
