use Rattle.std.proofs.Common.{subst}
use Rattle.std.specs.List.Sorted.{IsStrictlySortedBy}
use Rattle.std.specs.Map.{keys_of}
use Rattle.kube_model.specs.Keys.{key_cmp}
use Rattle.speaker_view.specs.Index.{Covers}
use Rattle.speaker_view.specs.ViewValue.{ViewValue}
use Rattle.speaker_view.proofs.Indexed.{known-recorded}
use Rattle.speaker_view.proofs.view.View.known_addresses.Goals as goal

pub returns : goal.returns
returns c =
    let covers = subst (λ (v : ViewValue). Covers c.self.inside.index v.held) c.self.view_is c.self.invariant.1 in
    let ascend = subst (λ (v : ViewValue). IsStrictlySortedBy key_cmp (keys_of v.held.services)) c.self.view_is
    (rw (← c.services.ensures) c.len-ascending.ensures.ascending) in
    known-recorded c.self.inside.index c.args.self.now covers ascend c.addresses.result c.addresses.ensures
