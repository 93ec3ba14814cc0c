use Rattle.std.proofs.Common.{ap, subst}
use Rattle.std.specs.List.Sorted.{IsStrictlySortedBy}
use Rattle.std.specs.Map.{keys_of}
use Rattle.kube_model.specs.Keys.{key_cmp}
use Rattle.speaker_view.specs.Index.{Covers}
use Rattle.speaker_view.specs.ViewValue.{ViewValue}
use Rattle.speaker_view.proofs.Indexed.{recorded-none, recorded-some}
use Rattle.speaker_view.proofs.view.View.is_recorded.Goals as goal

pub returns-in-None : goal.returns-in-None
returns-in-None c =
    let covers = subst (λ (v : ViewValue). Covers c.self.inside.index v.held) c.self.view_is c.self.invariant.1 in
    let ascend = subst (λ (v : ViewValue). IsStrictlySortedBy key_cmp (keys_of v.held.services)) c.self.view_is
    (rw (← c.services.ensures) c.len-ascending.ensures.ascending) in
    recorded-none c.self.inside.index c.args.self.now covers ascend c.args.address.now c.in-None.ensures

pub returns-in-Some : goal.returns-in-Some
returns-in-Some c =
    let covers = subst (λ (v : ViewValue). Covers c.self.inside.index v.held) c.self.view_is c.self.invariant.1 in
    let ascend = subst (λ (v : ViewValue). IsStrictlySortedBy key_cmp (keys_of v.held.services)) c.self.view_is
    (rw (← c.services.ensures) c.len-ascending.ensures.ascending) in
    let cache = ap (λ (v : ViewValue). v.held) c.self.view_is in
    recorded-some c.self.inside.index c.args.self.now covers ascend c.args.address.now c.one_records.result c.in-Some.keys.now
    (rw (← cache) c.one_records.ensures) c.in-Some.ensures
