use Rattle.std.proofs.Common.{ap, length, drop, arith, length-take, length-drop}
use Rattle.bgp_reading.specs.Places.{short_at}
use Rattle.bgp_reading.proofs.forms.read_announcement.Goals as goal

pub are_announced-requires-clause-communities : goal.are_announced-requires-clause-communities
are_announced-requires-clause-communities c =
    omega (
      arith,
      c.in_ok-terms.ensures.communities,
      ap length c.attributes_in-attributes.ensures,
      length-take (short_at 21 c.args.bytes.now) (drop 23 c.args.bytes.now),
      length-drop 23 c.args.bytes.now,
      c.requires,
    )

pub are_announced-requires-clause-large : goal.are_announced-requires-clause-large
are_announced-requires-clause-large c =
    omega (
      arith,
      c.in_ok-terms.ensures.large,
      ap length c.attributes_in-attributes.ensures,
      length-take (short_at 21 c.args.bytes.now) (drop 23 c.args.bytes.now),
      length-drop 23 c.args.bytes.now,
      c.requires,
    )
