use Rattle.ip_ranges.proofs.SpelledLemmas.{address_of-ok, address_of-mapped, address_of-not_address, address_of-faults}
use Rattle.ip_ranges.proofs.text.parse_address.Goals as goal

pub returns-clause-ok : goal.returns-clause-ok
returns-clause-ok c = rw (c.read_address.ensures.value, c.as_bytes.ensures.value) (address_of-ok c.args.text.now)

pub returns-clause-not_address : goal.returns-clause-not_address
returns-clause-not_address c = rw (c.read_address.ensures.value, c.as_bytes.ensures.value) (address_of-not_address c.args.text.now)

pub returns-clause-mapped : goal.returns-clause-mapped
returns-clause-mapped c = rw (c.read_address.ensures.value, c.as_bytes.ensures.value) (address_of-mapped c.args.text.now)

pub returns-clause-faults : goal.returns-clause-faults
returns-clause-faults c = rw (c.read_address.ensures.value, c.as_bytes.ensures.value) (address_of-faults c.args.text.now)
