use Rattle.std.proofs.Common.{◌∙◌, ap}
use Rattle.serde_json.specs.Data.{string}
use Rattle.explained_lines.proofs.Strings.{values_more, values_all}
use Rattle.explained_lines.proofs.line.texts_value.Goals as goal

pub loop-text-preserved : goal.loop-text-preserved
loop-text-preserved c = values_more string c.loop-text.strings.items c.push.new.self.items c.in_ok-string.string c.args.texts.now
    c.loop-text.text-index c.text-item.result c.in_ok-push.ensures.items c.loop-text-test.true c.text-item.is
    (c.in_ok-string.ensures ∙ ap string c.as_str.ensures)
    c.loop-text.invariant

pub returns : goal.returns
returns c = values_all string c.loop-text.strings c.args.texts.now c.loop-text.text-index c.loop-text.invariant c.loop-text-test.false
