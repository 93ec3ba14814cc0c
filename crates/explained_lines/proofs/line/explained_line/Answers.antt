use Rattle.std.proofs.Common.{◌∙◌, ap}
use Rattle.std.proofs.lemmas.Result.{IfOk-weaker}
use Rattle.serde_json.specs.Written.{has_float, compact_text}
use Rattle.explained_lines.specs.Lines.{explained_text}
use Rattle.explained_lines.proofs.Floats.{explained_has_float}
use Rattle.explained_lines.proofs.line.explained_line.Goals as goal

pub written-requires : goal.written-requires
written-requires c = ap has_float c.in_ok-value.ensures ∙ explained_has_float c.args.number c.args.explained.now

pub returns : goal.returns
unfolding explained_text
returns c = IfOk-weaker c.written.result _ _ (λ line is. is ∙ ap compact_text c.in_ok-value.ensures) c.written.ensures
