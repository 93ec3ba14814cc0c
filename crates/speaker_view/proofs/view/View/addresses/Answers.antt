use Rattle.std.proofs.Common.{◌≡◌, List, subst, ◌∙◌}
use Rattle.std.specs.Prelude.{IfOk}
use Rattle.std.specs.List.Sorted.{IsStrictlySortedBy}
use Rattle.std.specs.Map.{keys_of}
use Rattle.ip_ranges.specs.Values.{AddressValue}
use Rattle.kube_model.specs.Keys.{key_cmp}
use Rattle.speaker_view.specs.Index.{Covers}
use Rattle.speaker_view.specs.ViewValue.{ViewValue}
use Rattle.speaker_view.proofs.Indexed.{all-recorded}
use Rattle.speaker_view.proofs.view.View.addresses.Goals as goal

pub returns : goal.returns
returns c =
    let covers = subst (λ (v : ViewValue). Covers c.self.inside.index v.held) c.self.view_is c.self.invariant.1 in
    let ascend = subst (λ (v : ViewValue). IsStrictlySortedBy key_cmp (keys_of v.held.services)) c.self.view_is
    (rw (← c.services.ensures) c.len-ascending.ensures.ascending) in
    let all = all-recorded c.self.inside.index c.args.self.now covers ascend c.addresses.result c.addresses.ensures in
    subst (λ (xs : List AddressValue). IfOk c.listed.result (λ addresses. addresses ≡ xs)) (c.in_ok-recorded.ensures ∙ all) c.listed.ensures
