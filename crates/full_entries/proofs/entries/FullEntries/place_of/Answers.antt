use Rattle.std.proofs.Common.{◌≡◌}
use Rattle.ip_ranges.specs.declared.family.Family.TheVariants.{V4, V6}
use Rattle.full_entries.proofs.PlaceLaws.{found-by}
use Rattle.full_entries.proofs.entries.FullEntries.place_of.Goals as goal

pub returns-in-V4 : goal.returns-in-V4
returns-in-V4 c =
    let of : c.address.inside.family ≡ V4 = c.in-V4.is in
    rw (← c.self.view_is, ← c.address.view_is)
    (found-by V4 c.self.inside.entries.items c.self.inside.v4 (record { family = c.address.inside.family; number = c.address.inside.number }) c.place_at.result
    c.self.invariant.0 of c.place_at.ensures)

pub returns-in-V6 : goal.returns-in-V6
returns-in-V6 c =
    let of : c.address.inside.family ≡ V6 = c.in-V6.is in
    rw (← c.self.view_is, ← c.address.view_is)
    (found-by V6 c.self.inside.entries.items c.self.inside.v6 (record { family = c.address.inside.family; number = c.address.inside.number })
    c.place_at-in-V6.result c.self.invariant.1 of c.place_at-in-V6.ensures)
