use Rattle.std.proofs.Common.{◌∙◌, ap, ◌++◌, ◌∷◌, []}
use Rattle.std.proofs.lemmas.List.{take_rest}
use Rattle.std.specs.Net.Addr.{IsIpv6OfBits}
use Rattle.ip_ranges.proofs.WrittenLemmas.{compressed_short, compressed_long, then_colons}
use Rattle.ip_ranges.proofs.written.write_ipv6.Goals as goal

pub returns-then-len-lt2-clause-text : goal.returns-then-len-lt2-clause-text
unfolding IsIpv6OfBits
returns-then-len-lt2-clause-text c =
    c.put_groups.ensures.text
    ∙ compressed_short _ _ c.longest_zero_run-start.result (c.as_slice-groups.ensures ∙ c.segments-groups.ensures ∙ c.from_bits.ensures)
    c.longest_zero_run-start.ensures.value c.if-len-lt2.true

pub returns-clause-text : goal.returns-clause-text
unfolding IsIpv6OfBits
returns-clause-text c =
    let text = rw (take_rest c.as_slice-groups.result.now _) at c.put_groups-2.ensures.text in
    then_colons _ _ _ _ _ (c.put-at.ensures.text ∙ ap (λ t. t ++ 58 ∷ []) c.put_groups-at.ensures.text) c.put-at-2.ensures.text text
    ∙ compressed_long _ _ c.longest_zero_run-start.result (c.as_slice-groups.ensures ∙ c.segments-groups.ensures ∙ c.from_bits.ensures)
    c.longest_zero_run-start.ensures.value c.if-len-lt2.false
