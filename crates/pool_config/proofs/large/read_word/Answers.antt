use Rattle.std.proofs.Common.{◌∙◌, sym, ap}
use Rattle.ip_ranges.specs.EntryText.{is_padded}
use Rattle.pool_config.proofs.Halves.{parsed_below}
use Rattle.pool_config.proofs.large.read_word.Goals as goal

pub returns : goal.returns
returns c =
    let plain = ap is_padded (sym c.as_bytes.ensures.value) ∙ sym c.is_padded.ensures ∙ c.if-is_padded.false in
    record { value = c.ok.ensures.value ∙ parsed_below 32 c.args.text.now _ plain c.parse.ensures.value.0 }
