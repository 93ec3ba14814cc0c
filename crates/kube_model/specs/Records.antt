-- Records of addresses.
use Rattle.std.specs.Prelude.{Bool, ◌&&◌, not, []}
use Rattle.std.specs.Cmp.Lexicographic.{pointwise}
use Rattle.std.specs.Str.{bytes_eq}
use Rattle.ip_ranges.specs.Values.{same_address}
use Rattle.mlb_base.specs.Items.{is_nil}
use Rattle.kube_model.specs.declared.record.Record.{Record}

-- no address, no pool and no mark
abbrev pub empty_record : Record
empty_record = record { addresses = []; pool = []; mark = [] }

-- the record shows an address
abbrev pub is_assigned : Record → Bool
is_assigned holding = not (is_nil holding.addresses)

-- whether the records are one
abbrev pub same_record : Record → Record → Bool
same_record a b = pointwise same_address a.addresses b.addresses && bytes_eq a.pool b.pool && bytes_eq a.mark b.mark
