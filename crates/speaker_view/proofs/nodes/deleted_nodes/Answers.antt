use Rattle.std.proofs.Common.{◌≡◌, ◌∷◌, ◌∙◌, [], Bool, List, ℕ, cond, subst}
use Rattle.std.specs.Prelude.{IfOk}
use Rattle.std.specs.List.Sorted.{IsStrictlySortedBy}
use Rattle.std.specs.Map.{keys_of}
use Rattle.kube_labels.specs.Names.{name_cmp}
use Rattle.speaker_view.proofs.Labels.{Nodes, is_deleted}
use Rattle.speaker_view.proofs.nodes.deleted_nodes.Goals as goal

pub returns-in-Node : goal.returns-in-Node
returns-in-Node c =
    let name = c.args.key.now.name in
    let ascend = subst (λ (nodes : Nodes). IsStrictlySortedBy name_cmp (keys_of nodes)) c.nodes.ensures c.len-ascending.ensures.ascending in
    rw c.in-Node.is (subst (λ (b : Bool). IfOk c.one_if.result (λ (names : List (List ℕ)). names ≡ cond b (name ∷ []) []))
    (c.has_labels.ensures ∙ is_deleted c.args.view.now.held.nodes name ascend)
    c.one_if.ensures)
