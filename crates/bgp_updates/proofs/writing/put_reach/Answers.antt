use Rattle.std.proofs.Common.{◌++◌, ap, ◌∙◌, arith}
use Rattle.std.proofs.lemmas.Result.{on_ok_weaker}
use Rattle.bgp_updates.specs.Message.{attribute}
use Rattle.bgp_updates.proofs.writing.put_reach.Goals as goal

pub put_attribute-requires-clause-value : goal.put_attribute-requires-clause-value
put_attribute-requires-clause-value c = rw (c.as_slice.ensures.value, c.in_ok-value.ensures) (omega (arith, c.requires))

pub returns : goal.returns
returns c =
    on_ok_weaker c.put_attribute.result
    (λ e. e ∙ ap (λ value. c.args.out.now.items ++ attribute 0x80 14 value) (c.as_slice.ensures.value ∙ c.in_ok-value.ensures)) c.put_attribute.ensures
