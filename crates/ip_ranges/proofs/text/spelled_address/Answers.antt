use Rattle.std.proofs.Common.{sym, ◌∙◌}
use Rattle.std.specs.Net.Addr.{ipv4_bits, ipv6_bits}
use Rattle.ip_ranges.proofs.SpelledLemmas.{spelled_v4, spelled_v6, spelled_none, number_v4, number_v6}
use Rattle.ip_ranges.proofs.text.spelled_address.Goals as goal

pub returns-in-Ok-clause-value : goal.returns-in-Ok-clause-value
unfolding ipv4_bits
returns-in-Ok-clause-value c = number_v4 _ c.in-Ok.ip.octets _ (c.from.ensures ∙ c.to_bits.ensures) (spelled_v4 _ _ c.in-Ok.ensures)

pub returns-in-Ok-parse_ascii-clause-value : goal.returns-in-Ok-parse_ascii-clause-value
unfolding ipv6_bits
returns-in-Ok-parse_ascii-clause-value c =
    number_v6 _ c.in-Ok-parse_ascii.ip.segments _ c.to_bits-in-Ok-parse_ascii.ensures (spelled_v6 _ _ c.in-Ok-parse_ascii.ensures)

pub returns-clause-value : goal.returns-clause-value
returns-clause-value c =
    sym (spelled_none _ (λ octets h. c.in_default.ensures (record { octets = octets }) h)
    (λ groups h. c.in_default-parse_ascii.ensures (record { segments = groups }) h))
