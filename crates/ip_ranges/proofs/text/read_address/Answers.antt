use Rattle.std.proofs.Common.{ap, ◌∙◌}
use Rattle.ip_ranges.specs.AddressText.{unmapped, address_of}
use Rattle.ip_ranges.proofs.text.read_address.Goals as goal

pub returns-in-None-clause-value : goal.returns-in-None-clause-value
unfolding address_of
returns-in-None-clause-value c = ap unmapped c.in-None.ensures.value

pub returns-in-Some-clause-value : goal.returns-in-Some-clause-value
unfolding address_of
returns-in-Some-clause-value c = c.unmapped.ensures.value ∙ ap unmapped c.in-Some.ensures.value
