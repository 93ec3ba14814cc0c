use Rattle.std.proofs.Common.{sym, ap, is_some, ◌∙◌}
use Rattle.grouped_keys.proofs.GroupedSets.{key_taken, empty_dropped}
use Rattle.grouped_keys.proofs.grouped.GroupedKeys.remove.Goals as goal

pub returns-then-is_empty : goal.returns-then-is_empty
returns-then-is_empty g c =
    let there = (c.get_mut.follows.holds c.remove.new.self).3 (ap is_some (sym c.in-Some.ensures.value)) in
    rw (← c.self.view_is)
    (empty_dropped g.met.G.Ord.total g.K.Ord.cmp c.self.inside.groups.entries c.args.group.now c.args.key.now c.remove.new.self
    (c.get_mut.follows.lender c.remove.new.self).entries there.0
    (c.is_empty.ensures.0 c.if-is_empty.true) c.remove-then-is_empty.new.self.entries c.remove-then-is_empty.ensures.updates.0
    ∙ key_taken g.met.G.Ord.total g.K.Ord.cmp c.self.inside.groups.entries c.args.group.now c.args.key.now c.remove.new.self
    (c.get_mut.follows.lender c.remove.new.self).entries there.0
    c.in-Some.keys.now (sym c.in-Some.ensures.value) c.remove.ensures.updates.0)

pub returns-else-is_empty : goal.returns-else-is_empty
returns-else-is_empty g c =
    rw (← c.self.view_is)
    (key_taken g.met.G.Ord.total g.K.Ord.cmp c.self.inside.groups.entries c.args.group.now c.args.key.now c.remove.new.self
    (c.get_mut.follows.lender c.remove.new.self).entries
    ((c.get_mut.follows.holds c.remove.new.self).3 (ap is_some (sym c.in-Some.ensures.value))).0 c.in-Some.keys.now (sym c.in-Some.ensures.value)
    c.remove.ensures.updates.0)
