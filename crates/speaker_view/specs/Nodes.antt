-- Which nodes an event changes.
use Rattle.std.specs.Prelude.{◌≡◌, ◌↔◌, ℕ, Bool, true, false, ◌&&◌, ◌==◌, not, if◌then◌else◌, length, List, [], ◌∷◌, filter, map, Contains}
use Rattle.std.specs.BTreeSet.{contains}
use Rattle.std.specs.Cmp.Lexicographic.{pointwise}
use Rattle.std.specs.List.Sorted.{IsStrictlySortedBy}
use Rattle.kube_labels.specs.Names.{name_cmp}
use Rattle.kube_labels.specs.Pairs.{pair_eq}
use Rattle.kube_model.specs.declared.event.Event.{Event}
use Rattle.kube_model.specs.declared.event.Event.TheVariants.{Changed, Deleted, ListEnd, Expired, Members, Frame, Ignored}
use Rattle.kube_model.specs.declared.event.ListGroup.{ListGroup}
use Rattle.kube_model.specs.declared.event.ListGroup.TheVariants as groups
use Rattle.kube_model.specs.declared.key.Key.{Key}
use Rattle.kube_model.specs.declared.node.Node.{Node}
use Rattle.kube_model.specs.declared.object.Kind.{Kind}
use Rattle.kube_model.specs.declared.object.Kind.TheVariants as kinds
use Rattle.kube_model.specs.declared.object.Object.{Object}
use Rattle.kube_model.specs.declared.object.Object.TheVariants as objects
use Rattle.versioned_map.specs.declared.map.Versioned.{Versioned}
use Rattle.pool_config.specs.KeySets.{keys_with}
use Rattle.speaker_view.specs.Endpoints.{node_labels}
use Rattle.speaker_view.specs.View.{view_after}
use Rattle.speaker_view.specs.ViewValue.{ViewValue}

-- The node has the same held labels in both views, and is a member in both or in neither.
pub record IsSameNode (v w : ViewValue) (node : List ℕ) : Type 0 where
  pub labels : node_labels w node ≡ node_labels v node
  pub member : Contains w.members node ↔ Contains v.members node

-- The names ascend, and are exactly those of the nodes that aren't the same in both views.
pub record AreChangedNodes (v w : ViewValue) (names : List (List ℕ)) : Type 0 where
  pub ascend : IsStrictlySortedBy name_cmp names
  pub changed : (node : List ℕ) → Contains names node → ¬ (IsSameNode v w node)
  pub others : (node : List ℕ) → ¬ (Contains names node) → IsSameNode v w node

-- ---- the same, found event by event
-- by the event the labels of the node of this name become others
abbrev pub is_relabelled : ViewValue → Event → List ℕ → Bool
is_relabelled v event name = not (pointwise pair_eq (node_labels v name) (node_labels (view_after event v) name))

-- the name alone where its labels do, or none
abbrev pub relabelled : ViewValue → Event → List ℕ → List (List ℕ)
relabelled v event name = if is_relabelled v event name then name ∷ [] else []

abbrev pub shown_nodes : ViewValue → ℕ → Object → List (List ℕ)
shown_nodes v version (objects.Node node) = relabelled v (Changed version (objects.Node node)) node.name
shown_nodes v version (objects.Service service) = []
shown_nodes v version (objects.Slice slice) = []
shown_nodes v version (objects.Pool pool) = []
shown_nodes v version (objects.L2 adv) = []
shown_nodes v version (objects.Bgp adv) = []
shown_nodes v version (objects.Peer peer) = []
shown_nodes v version (objects.Community community) = []
shown_nodes v version (objects.Namespace namespace) = []

abbrev pub deleted_nodes : ViewValue → Kind → Key → List (List ℕ)
deleted_nodes v kinds.Node key = relabelled v (Deleted kinds.Node key) key.name
deleted_nodes v kinds.Service key = []
deleted_nodes v kinds.Slice key = []
deleted_nodes v kinds.Pool key = []
deleted_nodes v kinds.L2 key = []
deleted_nodes v kinds.Bgp key = []
deleted_nodes v kinds.Peer key = []
deleted_nodes v kinds.Community key = []
deleted_nodes v kinds.Namespace key = []

-- the node wasn't listed, and has labels
abbrev pub drops_labels : List ℕ × Versioned Node → Bool
drops_labels e = (e.1.version == 0) && not (length e.1.object.labels == 0)

-- those that are dropped at the end of their list, where they have labels
abbrev pub unlisted_nodes : ViewValue → ListGroup → List (List ℕ)
unlisted_nodes v groups.Config = map (λ e. e.0) (filter drops_labels v.held.nodes)
unlisted_nodes v groups.Service = []
unlisted_nodes v groups.Endpoint = []

-- the names, each put in its place, once
abbrev pub names_of : List (List ℕ) → List (List ℕ)
names_of names = keys_with name_cmp [] names

-- those that aren't among the others
abbrev pub missing : List (List ℕ) → List (List ℕ) → List (List ℕ)
missing names others = filter (λ name. not (contains name_cmp (record { keys = names_of others }) name)) names

-- those that are among the one list and not among the other
abbrev pub changed_members : List (List ℕ) → List (List ℕ) → List (List ℕ)
changed_members before after = keys_with name_cmp (keys_with name_cmp [] (missing before after)) (missing after before)

abbrev pub nodes_by : ViewValue → Event → List (List ℕ)
nodes_by v (Changed version object) = shown_nodes v version object
nodes_by v (Deleted kind key) = deleted_nodes v kind key
nodes_by v (ListEnd group) = unlisted_nodes v group
nodes_by v Expired = []
nodes_by v (Members names) = changed_members v.members names
nodes_by v (Frame interface bytes) = []
nodes_by v Ignored = []
