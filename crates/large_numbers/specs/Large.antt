-- The order of large communities.
use Rattle.std.specs.Ordering.{nat_cmp, ordering_then}
use Rattle.std.specs.declared.cmp.Ordering.{Ordering}
use Rattle.large_numbers.specs.declared.numbers.LargeCommunity.{LargeCommunity}

-- by the three numbers
abbrev pub large_cmp : LargeCommunity → LargeCommunity → Ordering
large_cmp a b = ordering_then (nat_cmp a.global b.global) (ordering_then (nat_cmp a.first b.first) (nat_cmp a.second b.second))
