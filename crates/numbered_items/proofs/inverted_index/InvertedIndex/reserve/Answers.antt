use Rattle.std.proofs.Common.{arith}
use Rattle.numbered_items.proofs.IndexLaws.{numbers-left, numbers-made, room-now, room-held, room-made, room-stays}
use Rattle.numbered_items.proofs.inverted_index.InvertedIndex.reserve.Goals as goal

pub returns-in-Some-clause-numbers : goal.returns-in-Some-clause-numbers
returns-in-Some-clause-numbers g c =
    rw (← c.self.view_is)
    (numbers-left g.met.T.Ord.total c.args.term c.self.inside.lists (c.get_mut.follows.lender c.reserve.new.self) c.in-Some.list.now c.reserve.new.self
    c.in-Some.ensures.value
    (c.get_mut.follows.holds c.reserve.new.self) c.reserve.ensures.numbers)

pub returns-in-Some-clause-kept : goal.returns-in-Some-clause-kept
returns-in-Some-clause-kept g c =
    rw (← c.self.view_is)
    (room-held g.met.T.Ord.total c.args.term c.self.inside.lists (c.get_mut.follows.lender c.reserve.new.self) c.in-Some.list.now c.reserve.new.self
    c.in-Some.ensures.value
    (c.get_mut.follows.holds c.reserve.new.self) c.reserve.ensures.kept)

pub returns-in-Some-clause-room : goal.returns-in-Some-clause-room
returns-in-Some-clause-room g c =
    rw (room-now g.met.T.Ord.total c.args.term c.self.inside.lists (c.get_mut.follows.lender c.reserve.new.self) c.in-Some.list.now c.reserve.new.self
    c.in-Some.ensures.value
    (c.get_mut.follows.holds c.reserve.new.self))
    c.reserve.ensures.room

pub returns-clause-numbers : goal.returns-clause-numbers
returns-clause-numbers g c =
    rw (← c.self.view_is)
    (numbers-made g.met.T.Ord.total c.args.term c.self.inside.lists c.get_mut.follows.lender-at-none c.insert.new.self c.in_ok-list.list
    c.get_mut.follows.holds-at-none c.in_default.ensures.value
    c.in_ok-insert.ensures.updates c.in_ok-list.ensures.numbers)

pub returns-clause-room : goal.returns-clause-room
returns-clause-room g c =
    rw (room-made g.met.T.Ord.total c.args.term c.self.inside.lists c.get_mut.follows.lender-at-none c.insert.new.self c.in_ok-list.list
    c.get_mut.follows.holds-at-none c.in_default.ensures.value
    c.in_ok-insert.ensures.updates)
    (omega (arith, c.in_ok-list.ensures.room))

pub returns-clause-kept : goal.returns-clause-kept
returns-clause-kept g c =
    rw (← c.self.view_is)
    (room-stays g.met.T.Ord.total c.args.term c.self.inside.lists c.get_mut.follows.lender-at-none c.insert.new.self c.in_ok-list.list
    c.get_mut.follows.holds-at-none c.in_default.ensures.value
    c.in_ok-insert.ensures.updates)
