use Rattle.std.proofs.Common.{refl}
use Rattle.std.specs.Net.Addr.{IsIpv4OfBits}
use Rattle.ip_ranges.proofs.written.write_ipv4.Goals as goal

pub returns-clause-text : goal.returns-clause-text
unfolding IsIpv4OfBits
returns-clause-text c =
    rw (
      c.put_decimal.ensures.text,
      c.put-at-3.ensures.text,
      c.put_decimal-at-3.ensures.text,
      c.put-at-2.ensures.text,
      c.put_decimal-at-2.ensures.text,
      c.put-at.ensures.text,
      c.put_decimal-at.ensures.text,
      c.octets.ensures,
      c.from_bits.ensures,
    ) refl
