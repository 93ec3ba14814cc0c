-- Which labels nodes have where one was shown or deleted.
use Rattle.std.proofs.Common.{arith, ◌≡◌, ℕ, Bool, true, false, cond, ◌&&◌, not, eqb, length, List, [], ◌∷◌, Option, Some, None, is_eq, refl, sym, ap, ◌∙◌}
use Rattle.std.proofs.lemmas.Bool.{true≢false}
use Rattle.std.proofs.lemmas.Cmp.{tied_itself}
use Rattle.std.proofs.lemmas.Map.Entries.{option_filter}
use Rattle.std.proofs.lemmas.Map.Lookups.{exact_bytes}
use Rattle.std.proofs.lemmas.Map.Views.{tells_apart}
use Rattle.std.proofs.lemmas.Slice.Eq.{bytes_eq-Decides, slice_eq-Decides}
use Rattle.std.specs.BTreeMap.{insert_entry, is_at}
use Rattle.std.specs.Cmp.Lexicographic.{pointwise, nat_list_cmp_total}
use Rattle.std.specs.List.Sorted.{IsStrictlySortedBy}
use Rattle.std.specs.Map.{keys_of, lookup, remove_entry}
use Rattle.std.specs.Option.{option_map}
use Rattle.std.specs.Str.{bytes_eq}
use Rattle.mlb_base.proofs.Entries.{lookup-insert_entry}
use Rattle.kube_labels.specs.Names.{name_cmp}
use Rattle.kube_labels.specs.Pairs.{pair_eq}
use Rattle.kube_labels.proofs.PairLaws.{pairs_eq-Decides}
use Rattle.kube_model.specs.declared.node.Node.{Node}
use Rattle.versioned_map.specs.declared.map.Versioned.{Versioned}
use Rattle.versioned_map.proofs.HeldLaws.{held_at-listed, held_at-removed}
use Rattle.versioned_map.specs.Objects.{held_at, listed, object_at}
use Rattle.speaker_view.specs.Endpoints.{labels_of}

abbrev pub Nodes : Type 0
Nodes = List (List ℕ × Versioned Node)

abbrev Pairs : Type 0
Pairs = List (List ℕ × List ℕ)

-- the labels that are held under the name
abbrev labels_at : Nodes → List ℕ → Pairs
labels_at nodes name = labels_of (object_at name_cmp nodes name)

abbrev object_in : Option (Versioned Node) → Pairs
object_in held = labels_of (option_map (λ h. h.object) held)

inserted-labels : (nodes : Nodes) (name : List ℕ) (held : Versioned Node) (node : List ℕ)
    → labels_at (insert_entry name_cmp nodes name held) node ≡ object_in (cond (is_eq (name_cmp node name)) (Some held) (lookup (is_at (name_cmp node)) nodes))
inserted-labels nodes name held node = ap object_in (lookup-insert_entry nat_list_cmp_total nodes name node held)

-- under other names than the one that was shown all stays
pub shown-others : (passed : Bool) (nodes : Nodes) (name node : List ℕ) (held : Versioned Node) → is_eq (name_cmp node name) ≡ false
    → labels_at (cond passed nodes (insert_entry name_cmp nodes name held)) node ≡ labels_at nodes node
shown-others true nodes name node held is = refl
shown-others false nodes name node held is = inserted-labels nodes name held node ∙ rw is refl

-- a node is shown whose labels become others: it is newer, and has others than those held
pub is_shown : (passed : Bool) (nodes : Nodes) (name : List ℕ) (held : Versioned Node)
    → (not passed && not (pointwise pair_eq (labels_at nodes name) held.object.labels))
    ≡ not (pointwise pair_eq (labels_at nodes name) (labels_at (cond passed nodes (insert_entry name_cmp nodes name held)) name))
is_shown true nodes name held =
    let itself : pointwise pair_eq (labels_at nodes name) (labels_at nodes name) ≡ true =
    (pairs_eq-Decides (labels_at nodes name) (labels_at nodes name)).1 refl in
    rw itself refl
is_shown false nodes name held =
    let held_now : labels_at (insert_entry name_cmp nodes name held) name ≡ held.object.labels =
    inserted-labels nodes name held name ∙ rw (tied_itself nat_list_cmp_total name) refl in
    rw held_now refl

-- under other names all stays where one is removed
removed_by : (at here : Bool) (held : Versioned Node) (nodes removed : Nodes) (node : List ℕ) → (at ≡ true → here ≡ true → ⊥)
    → lookup (is_at (name_cmp node)) removed ≡ lookup (is_at (name_cmp node)) nodes
    → (name : List ℕ) → is_eq (name_cmp node name) ≡ here
    → lookup (is_at (name_cmp node)) (cond at nodes ((name, held) ∷ removed)) ≡ cond here (Some held) (lookup (is_at (name_cmp node)) nodes)
removed_by true true held nodes removed node apart same name is = absurd (apart refl refl)
removed_by true false held nodes removed node apart same name is = refl
removed_by false here held nodes removed node apart same name is = rw (is, same) refl

apart_from : (gone node name : List ℕ) → is_eq (name_cmp node gone) ≡ false → is_eq (name_cmp gone name) ≡ true → is_eq (name_cmp node name) ≡ true → ⊥
apart_from gone node name apart at here =
    let one : gone ≡ name = tells_apart exact_bytes gone name at in
    let other : node ≡ name = tells_apart exact_bytes node name here in
    let same : is_eq (name_cmp node gone) ≡ is_eq (name_cmp name name) = λ i. is_eq (name_cmp (other i) (one i)) in
    true≢false (ap is_eq (sym (tied_itself nat_list_cmp_total name)) ∙ sym same ∙ apart)

removed-other : (nodes : Nodes) (gone node : List ℕ) → is_eq (name_cmp node gone) ≡ false
    → lookup (is_at (name_cmp node)) (remove_entry (is_at (name_cmp gone)) nodes) ≡ lookup (is_at (name_cmp node)) nodes
removed-other [] gone node apart = refl
removed-other (e ∷ nodes) gone node apart =
    removed_by (is_eq (name_cmp gone e.0)) (is_eq (name_cmp node e.0)) e.1 nodes (remove_entry (is_at (name_cmp gone)) nodes) node
    (apart_from gone node e.0 apart) (removed-other nodes gone node apart) e.0 refl

pub removed-others : (nodes : Nodes) (gone node : List ℕ) → is_eq (name_cmp node gone) ≡ false
    → labels_at (remove_entry (is_at (name_cmp gone)) nodes) node ≡ labels_at nodes node
removed-others nodes gone node is = ap object_in (removed-other nodes gone node is)

-- a node is deleted whose labels become others: it has some
none_left : (pairs : Pairs) → not (eqb (length pairs) 0) ≡ not (pointwise pair_eq pairs [])
none_left [] = refl
none_left (p ∷ pairs) = grind arith

-- one that isn't told to have some has none
pub no_labels : (pairs : Pairs) → not (eqb (length pairs) 0) ≡ false → pairs ≡ []
no_labels [] e = refl
no_labels (p ∷ pairs) e = absurd (true≢false (grind arith))

pub is_deleted : (nodes : Nodes) (gone : List ℕ) → IsStrictlySortedBy name_cmp (keys_of nodes)
    → not (eqb (length (labels_at nodes gone)) 0)
    ≡ not (pointwise pair_eq (labels_at nodes gone) (labels_at (remove_entry (is_at (name_cmp gone)) nodes) gone))
is_deleted nodes gone ascend =
    let left : labels_at (remove_entry (is_at (name_cmp gone)) nodes) gone ≡ [] =
    ap object_in (held_at-removed nat_list_cmp_total nodes gone gone ascend) ∙ rw (tied_itself nat_list_cmp_total gone) refl in
    none_left (labels_at nodes gone) ∙ rw left refl

-- where a list has ended, a node that was dropped has none
dropped_by : (unlisted : Bool) (held : Versioned Node) → (unlisted && not (eqb (length held.object.labels) 0)) ≡ false
    → object_in (cond (not unlisted) (Some held) None) ≡ held.object.labels
dropped_by true held none = sym (no_labels held.object.labels none)
dropped_by false held none = refl

listed_by : (o : Option (Versioned Node)) → ((held : Versioned Node) → o ≡ Some held
    → (eqb held.version 0 && not (eqb (length held.object.labels) 0)) ≡ false)
    → object_in (option_filter (λ held. not (eqb held.version 0)) o) ≡ object_in o
listed_by None none = refl
listed_by (Some held) none = dropped_by (eqb held.version 0) held (none held refl)

pub listed-labels : (nodes : Nodes) (node : List ℕ) → IsStrictlySortedBy name_cmp (keys_of nodes)
    → ((held : Versioned Node) → held_at name_cmp nodes node ≡ Some held → (eqb held.version 0 && not (eqb (length held.object.labels) 0)) ≡ false)
    → labels_at (listed nodes) node ≡ labels_at nodes node
listed-labels nodes node ascend none =
    ap object_in (held_at-listed nat_list_cmp_total nodes node ascend) ∙ listed_by (held_at name_cmp nodes node) none

-- one that wasn't listed has none
pub unlisted-labels : (nodes : Nodes) (node : List ℕ) (held : Versioned Node) → IsStrictlySortedBy name_cmp (keys_of nodes)
    → held_at name_cmp nodes node ≡ Some held → eqb held.version 0 ≡ true → labels_at (listed nodes) node ≡ []
unlisted-labels nodes node held ascend at unlisted =
    ap object_in (held_at-listed nat_list_cmp_total nodes node ascend ∙ ap (option_filter (λ (h : Versioned Node). not (eqb h.version 0))) at)
    ∙ rw unlisted refl
