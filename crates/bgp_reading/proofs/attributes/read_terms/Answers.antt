use Rattle.bgp_reading.proofs.Numbers.{few-communities, few-large}
use Rattle.bgp_reading.proofs.attributes.read_terms.Goals as goal

pub returns-clause-communities : goal.returns-clause-communities
returns-clause-communities c =
    rw (c.in_ok-communities.ensures.value, c.value_at.ensures, c.optional_in-rest.ensures) (few-communities c.args.family c.args.attributes.now)

pub returns-clause-large : goal.returns-clause-large
returns-clause-large c =
    rw (c.in_ok-large.ensures, c.value_at-2.ensures, c.behind_at-2.ensures, c.behind_at.ensures, c.optional_in-rest.ensures)
    (few-large c.args.family c.args.attributes.now)
