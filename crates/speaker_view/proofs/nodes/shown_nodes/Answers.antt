use Rattle.std.proofs.Common.{◌≡◌, ◌∷◌, ◌∙◌, [], Bool, List, ℕ, cond, leb, subst}
use Rattle.std.specs.Prelude.{IfOk}
use Rattle.kube_labels.specs.Names.{name_cmp}
use Rattle.versioned_map.specs.Objects.{version_at}
use Rattle.speaker_view.proofs.Labels.{is_shown}
use Rattle.speaker_view.proofs.nodes.shown_nodes.Goals as goal

pub returns-in-Node : goal.returns-in-Node
returns-in-Node c =
    let nodes = c.args.view.now.held.nodes in
    let node = c.in-Node.node in
    rw c.in-Node.is (subst (λ (b : Bool). IfOk c.one_if.result (λ (names : List (List ℕ)). names ≡ cond b (node.name ∷ []) []))
    (c.is_relabelled.ensures
    ∙ is_shown (leb c.args.version (version_at name_cmp nodes node.name)) nodes node.name (record { version = c.args.version; object = node }))
    c.one_if.ensures)
