use Rattle.std.proofs.Common.{sym, ◌∙◌, ap}
use Rattle.std.proofs.lemmas.Result.{IfOk-weaker}
use Rattle.bgp_updates.specs.Message.{part_bytes}
use Rattle.bgp_updates.proofs.pack.part_octets.Goals as goal

pub returns-in-Reached : goal.returns-in-Reached
unfolding part_bytes
returns-in-Reached c =
    IfOk-weaker c.reached.result _ _ (λ m h. h ∙ rw (c.as_slice-in-Reached.ensures, c.as_slice-in-Reached-2.ensures)
    (ap (λ part. part_bytes part c.args.prefixes.now) (sym c.in-Reached.is))) c.reached.ensures
