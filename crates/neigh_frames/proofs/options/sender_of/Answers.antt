use Rattle.std.proofs.Common.{sym, ◌∙◌, arith, inl, inr}
use Rattle.neigh_frames.proofs.OptionWalk.{told-next, told-broken}
use Rattle.neigh_frames.proofs.options.sender_of.Goals.{then-size-eq0-via-then-size-eq0, then-size-eq0-via-else-size-eq0+then-body-size}
use Rattle.neigh_frames.proofs.options.sender_of.Goals as goal

pub returns-then-size-eq0 : goal.returns-then-size-eq0
returns-then-size-eq0 c =
    sym (told-broken c.loop-rest.sender c.loop-rest.rest.now (omega arith) (elim c.then-size-eq0.branch [
      | then-size-eq0-via-then-size-eq0 w ↦ inl (omega arith)
      | then-size-eq0-via-else-size-eq0+then-body-size w ↦ inr (omega arith)
    ])) ∙ c.loop-rest.invariant

pub loop-rest-preserved : goal.loop-rest-preserved
loop-rest-preserved c =
    rw c.with_option-sender.ensures (told-next c.loop-rest.sender c.loop-rest.rest.now (omega arith) (omega arith) (omega arith) ∙ c.loop-rest.invariant)
