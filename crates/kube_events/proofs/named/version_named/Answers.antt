use Rattle.std.proofs.Common.{rules}
use Rattle.kube_events.proofs.Versions.{reads, refuses}
use Rattle.kube_events.proofs.named.version_named.Goals as goal

pub returns-in-Ok : goal.returns-in-Ok
returns-in-Ok c = reads c.args.text.now c.in-Ok.number c.parse.result c.in-Ok.is c.parse.ensures.value.0 (search rules) (search rules) (search rules)

pub returns-in-Err : goal.returns-in-Err
returns-in-Err c = refuses c.args.text.now c.in-Err.field-0 c.parse.result c.in-Err.is c.parse.ensures.value.0 (search rules) (search rules)
