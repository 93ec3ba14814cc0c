use Rattle.std.proofs.Common.{rules, sym}
use Rattle.serde_json.specs.View.{view}
use Rattle.serde_json.specs.Errors.{IsMemory}
use Rattle.json_fields.proofs.LineValues.{line_read, line_refused}
use Rattle.json_fields.proofs.line.read_value.Goals as goal

pub returns-in-Ok : goal.returns-in-Ok
returns-in-Ok c = sym (line_read c.args.line.now (view c.in-Ok.value) c.in-Ok.ensures.ok)

pub returns-in-Err-2 : goal.returns-in-Err-2
returns-in-Err-2 c =
    let no_memory : ¬ IsMemory c.in-Err.fault = search rules in
    sym (line_refused c.args.line.now (c.in-Err.ensures.err no_memory))
