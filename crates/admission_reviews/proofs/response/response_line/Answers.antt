use Rattle.std.proofs.Common.{◌∙◌, ap}
use Rattle.std.proofs.lemmas.Result.{IfOk-weaker}
use Rattle.serde_json.specs.Written.{has_float, compact_text}
use Rattle.admission_reviews.proofs.ResponseTexts.{response_has_float, response_is}
use Rattle.admission_reviews.proofs.response.response_line.Goals as goal

pub written-requires : goal.written-requires
written-requires c = ap has_float c.in_ok-value.ensures ∙ response_has_float c.args.uid.now c.args.verdict.now

pub returns : goal.returns
returns c =
    IfOk-weaker c.written.result _ _ (λ line is. is ∙ ap compact_text c.in_ok-value.ensures ∙ response_is c.args.uid.now c.args.verdict.now) c.written.ensures
