use Rattle.std.proofs.Common.{◌∙◌, ap}
use Rattle.std.specs.Int.{w128, to_be_bytes}
use Rattle.neigh_frames.specs.Advertisement.{to_all_nodes, unasked_ndp_of}
use Rattle.neigh_frames.proofs.ndp.unasked_ndp.Goals as goal

pub returns-clause-value : goal.returns-clause-value
unfolding unasked_ndp_of
returns-clause-value c =
    c.to_all_nodes.ensures.value ∙ ap (λ target. to_all_nodes c.args.mac.now target 0x20) (c.to_be_bytes.ensures ∙ ap (to_be_bytes w128) c.number_of.ensures)
