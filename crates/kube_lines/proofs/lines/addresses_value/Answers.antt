use Rattle.kube_lines.proofs.LineTexts.{strings_more, strings_all}
use Rattle.kube_lines.proofs.lines.addresses_value.Goals as goal

pub loop-address-preserved : goal.loop-address-preserved
loop-address-preserved c = strings_more c.loop-address.strings.items c.push.new.self.items c.in_ok-string.string c.args.addresses.now
    c.loop-address.address-index c.address-item.result c.in_ok-push.ensures.items c.loop-address-test.true c.address-item.is c.in_ok-string.ensures
    c.loop-address.invariant

pub returns : goal.returns
returns c = strings_all c.loop-address.strings c.args.addresses.now c.loop-address.address-index c.loop-address.invariant c.loop-address-test.false
