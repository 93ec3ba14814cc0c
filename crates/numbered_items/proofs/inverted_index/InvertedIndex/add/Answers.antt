use Rattle.std.proofs.Common.{◌++◌, ◌∷◌, []}
use Rattle.numbered_items.proofs.IndexLaws.{room-listed, room-unlisted, numbers-written, room-written}
use Rattle.numbered_items.proofs.inverted_index.InvertedIndex.add.Goals as goal

pub returns-in_default-clause-numbers : goal.returns-in_default-clause-numbers
returns-in_default-clause-numbers g c =
    absurd (room-unlisted g.T.Ord.cmp c.self.inside.lists.entries c.args.term.now c.in_default.ensures.value (rw c.self.view_is c.requires))

pub push-requires : goal.push-requires
push-requires g c =
    room-listed g.T.Ord.cmp c.self.inside.lists.entries c.args.term.now c.in-Some.list.now c.in-Some.ensures.value (rw c.self.view_is c.requires)

pub returns-clause-numbers : goal.returns-clause-numbers
returns-clause-numbers g c =
    rw (← c.self.view_is)
    (numbers-written g.met.T.Ord.total c.args.term.now c.self.inside.lists (c.get_mut.follows.lender c.push.new.self) c.in-Some.list.now c.push.new.self
    c.in-Some.ensures.value
    (c.get_mut.follows.holds c.push.new.self) (λ numbers. numbers ++ c.args.number ∷ []) c.push.ensures.numbers)

pub returns-clause-room : goal.returns-clause-room
returns-clause-room g c =
    rw (← c.self.view_is)
    (room-written g.met.T.Ord.total c.args.term.now c.self.inside.lists (c.get_mut.follows.lender c.push.new.self) c.in-Some.list.now c.push.new.self
    c.in-Some.ensures.value
    (c.get_mut.follows.holds c.push.new.self) 1 c.push.ensures.room)
