-- The order of addresses.
use Rattle.std.specs.Ordering.{nat_cmp, ordering_then}
use Rattle.std.specs.declared.cmp.Ordering.{Ordering}
use Rattle.std.specs.declared.cmp.Ordering.TheVariants.{Less, Equal, Greater}
use Rattle.ip_ranges.specs.declared.family.Family.{Family}
use Rattle.ip_ranges.specs.declared.family.Family.TheVariants.{V4, V6}
use Rattle.ip_ranges.specs.Values.{AddressValue}

abbrev pub family_cmp : Family → Family → Ordering
family_cmp V4 V4 = Equal
family_cmp V4 V6 = Less
family_cmp V6 V4 = Greater
family_cmp V6 V6 = Equal

-- IPv4 before IPv6, each family by number
abbrev pub address_cmp : AddressValue → AddressValue → Ordering
address_cmp a b = ordering_then (family_cmp a.family b.family) (nat_cmp a.number b.number)
