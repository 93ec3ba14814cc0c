use Rattle.std.proofs.Common.{subst}
use Rattle.std.specs.List.Sorted.{IsStrictlySortedBy}
use Rattle.std.specs.Map.{keys_of}
use Rattle.kube_model.specs.Keys.{key_cmp}
use Rattle.speaker_view.specs.Index.{Covers}
use Rattle.speaker_view.specs.ViewValue.{ViewValue}
use Rattle.speaker_view.proofs.Indexed.{announces-none, announces-some}
use Rattle.speaker_view.proofs.view.View.is_announced_from.Goals as goal

pub returns-in-None : goal.returns-in-None
returns-in-None c =
    let covers = subst (λ (v : ViewValue). Covers c.self.inside.index v.held) c.self.view_is c.self.invariant.1 in
    let ascend = subst (λ (v : ViewValue). IsStrictlySortedBy key_cmp (keys_of v.held.services)) c.self.view_is
    (rw (← c.services.ensures) c.len-ascending.ensures.ascending) in
    let ascend_slices = subst (λ (v : ViewValue). IsStrictlySortedBy key_cmp (keys_of v.held.slices)) c.self.view_is
    (rw (← c.slices.ensures) c.len-ascend.ensures.ascending) in
    announces-none c.self.inside.index c.args.self.now covers ascend ascend_slices c.args.address.now c.args.node.now c.in-None.ensures

pub returns-in-Some : goal.returns-in-Some
returns-in-Some c =
    let covers = subst (λ (v : ViewValue). Covers c.self.inside.index v.held) c.self.view_is c.self.invariant.1 in
    let ascend = subst (λ (v : ViewValue). IsStrictlySortedBy key_cmp (keys_of v.held.services)) c.self.view_is
    (rw (← c.services.ensures) c.len-ascending.ensures.ascending) in
    let ascend_slices = subst (λ (v : ViewValue). IsStrictlySortedBy key_cmp (keys_of v.held.slices)) c.self.view_is
    (rw (← c.slices.ensures) c.len-ascend.ensures.ascending) in
    announces-some c.self.inside.index c.args.self.now covers ascend ascend_slices c.args.address.now c.args.node.now c.announces_one.result c.in-Some.keys.now
    c.announces_one.ensures c.in-Some.ensures
