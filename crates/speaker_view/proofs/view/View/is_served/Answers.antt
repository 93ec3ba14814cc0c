use Rattle.std.proofs.Common.{subst, sym, ◌∙◌}
use Rattle.std.specs.List.Sorted.{IsStrictlySortedBy}
use Rattle.std.specs.Map.{keys_of}
use Rattle.kube_model.specs.Keys.{key_cmp}
use Rattle.speaker_view.specs.Index.{Covers}
use Rattle.speaker_view.specs.ViewValue.{ViewValue}
use Rattle.speaker_view.proofs.Indexed.{served-none, served-some}
use Rattle.speaker_view.proofs.Served.{unserved-nowhere}
use Rattle.speaker_view.proofs.view.View.is_served.Goals as goal

pub returns-in-None-clause-value : goal.returns-in-None-clause-value
returns-in-None-clause-value c =
    let covers = subst (λ (v : ViewValue). Covers c.self.inside.index v.held) c.self.view_is c.self.invariant.1 in
    let ascend = subst (λ (v : ViewValue). IsStrictlySortedBy key_cmp (keys_of v.held.services)) c.self.view_is
    (rw (← c.services.ensures) c.len-ascending.ensures.ascending) in
    let ascend_slices = subst (λ (v : ViewValue). IsStrictlySortedBy key_cmp (keys_of v.held.slices)) c.self.view_is
    (rw (← c.slices.ensures) c.len-ascend.ensures.ascending) in
    served-none c.self.inside.index c.args.self.now covers ascend ascend_slices c.args.address.now c.in-None.ensures

pub returns-in-Some-clause-value : goal.returns-in-Some-clause-value
returns-in-Some-clause-value c =
    let covers = subst (λ (v : ViewValue). Covers c.self.inside.index v.held) c.self.view_is c.self.invariant.1 in
    let ascend = subst (λ (v : ViewValue). IsStrictlySortedBy key_cmp (keys_of v.held.services)) c.self.view_is
    (rw (← c.services.ensures) c.len-ascending.ensures.ascending) in
    let ascend_slices = subst (λ (v : ViewValue). IsStrictlySortedBy key_cmp (keys_of v.held.slices)) c.self.view_is
    (rw (← c.slices.ensures) c.len-ascend.ensures.ascending) in
    served-some c.self.inside.index c.args.self.now covers ascend ascend_slices c.args.address.now c.serves_one.result c.in-Some.keys.now c.serves_one.ensures
    c.in-Some.ensures

pub returns-in-None-clause-nowhere : goal.returns-in-None-clause-nowhere
returns-in-None-clause-nowhere c node e = unserved-nowhere c.args.self.now node c.args.address.now (sym (returns-in-None-clause-value c) ∙ e)

pub returns-in-Some-clause-nowhere : goal.returns-in-Some-clause-nowhere
returns-in-Some-clause-nowhere c node e = unserved-nowhere c.args.self.now node c.args.address.now (sym (returns-in-Some-clause-value c) ∙ e)
