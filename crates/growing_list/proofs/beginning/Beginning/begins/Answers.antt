use mathlib.Core.List.{IsPrefix}
use Rattle.growing_list.proofs.Beginnings.{begins_as_long}
use Rattle.growing_list.proofs.beginning.Beginning.begins.Goals as goal

pub returns : goal.returns
returns g c =
    let both = c.learn.new.self.log in
    let this : IsPrefix c.self.inside.seen.log both = rw (← c.again-both.ensures) c.learn.ensures.2 in
    rw (← c.self.view_is, ← c.other.view_is)
    (begins_as_long c.self.inside.seen.log c.other.inside.seen.log both c.self.inside.count c.other.inside.count
    c.self.invariant.0 c.other.invariant.0 this c.learn.ensures.3)
