use Rattle.std.proofs.Common.{◌∙◌, ap}
use Rattle.serde_json.specs.Written.{has_float}
use Rattle.put_fence.specs.declared.lease.ServiceVersion.{ServiceVersion}
use Rattle.fence_lines.proofs.Texts.{check_has_float}
use Rattle.fence_lines.proofs.output.check_line.Goals as goal

pub written-requires : goal.written-requires
written-requires c =
    let n : ServiceVersion = record { key = c.args.key.now; version = c.args.version } in
    ap has_float c.in_ok-value.ensures ∙ check_has_float c.args.op.now n
