use Rattle.fence_lines.proofs.Texts.{services_more, services_all}
use Rattle.fence_lines.proofs.output.named_value.Goals as goal

pub loop-n-preserved : goal.loop-n-preserved
loop-n-preserved c = services_more c.loop-n.services.items c.push.new.self.items c.in_ok-service.service c.args.named.now
    c.loop-n.n-index c.n-item.result c.in_ok-push.ensures.items c.loop-n-test.true c.n-item.is c.in_ok-service.ensures
    c.loop-n.invariant

pub returns : goal.returns
returns c = services_all c.loop-n.services c.args.named.now c.loop-n.n-index c.loop-n.invariant c.loop-n-test.false
