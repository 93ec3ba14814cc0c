use Rattle.std.proofs.Common.{sym, ◌∙◌, ap}
use Rattle.ip_ranges.specs.EntryText.{is_padded}
use Rattle.ip_ranges.proofs.DecimalLemmas.{padded_none, parsed_octet}
use Rattle.ip_ranges.proofs.entry.read_decimal.Goals as goal

pub returns-then-is_padded : goal.returns-then-is_padded
returns-then-is_padded c =
    sym (padded_none c.args.text.now (ap is_padded (sym c.as_bytes.ensures.value) ∙ sym c.is_padded.ensures ∙ c.if-is_padded.true))

pub returns : goal.returns
returns c =
    let plain = ap is_padded (sym c.as_bytes.ensures.value) ∙ sym c.is_padded.ensures ∙ c.if-is_padded.false in
    c.ok.ensures.value ∙ parsed_octet c.args.text.now _ plain c.parse.ensures.value.0
