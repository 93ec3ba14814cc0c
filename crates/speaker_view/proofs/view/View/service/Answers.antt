use Rattle.std.proofs.Common.{subst, ap, ◌∙◌}
use Rattle.std.specs.List.Sorted.{IsStrictlySortedBy}
use Rattle.std.specs.Map.{keys_of}
use Rattle.kube_model.specs.Keys.{key_cmp}
use Rattle.speaker_view.specs.Change.{recorded_at}
use Rattle.speaker_view.specs.Index.{Covers}
use Rattle.speaker_view.specs.ViewValue.{ViewValue}
use Rattle.speaker_view.proofs.Owning.{served-own}
use Rattle.speaker_view.proofs.view.View.service.Goals as goal

pub returns-clause-served : goal.returns-clause-served
returns-clause-served c slice is =
    let covers = subst (λ (v : ViewValue). Covers c.self.inside.index v.held) c.self.view_is c.self.invariant.1 in
    let ascend = subst (λ (v : ViewValue). IsStrictlySortedBy key_cmp (keys_of v.held.services)) c.self.view_is
    (rw (← c.services.ensures) c.len-ascending.ensures.ascending) in
    served-own slice c.args.self.now.held.services ascend covers.own ∙ ap (recorded_at c.args.self.now) is
