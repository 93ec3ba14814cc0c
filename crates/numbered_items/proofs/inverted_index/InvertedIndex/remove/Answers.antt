use Rattle.std.proofs.Common.{◌==◌, not, filter, refl, sym, ◌∙◌}
use Rattle.numbered_items.proofs.IndexLaws.{numbers-unlisted, numbers-written, numbers-now, no-numbers, room-apart}
use Rattle.numbered_items.proofs.inverted_index.InvertedIndex.remove.Goals as goal

pub returns-in_default-clause-numbers : goal.returns-in_default-clause-numbers
returns-in_default-clause-numbers g c =
    rw (c.get_mut.follows.holds-at-none, ← c.self.view_is)
    (numbers-unlisted g.met.T.Ord.total c.args.term.now c.self.inside.lists.entries (sym c.in_default.ensures.value) (filter (λ n. not (n == c.args.number)))
    refl)

pub drop_empty-requires : goal.drop_empty-requires
drop_empty-requires g c =
    numbers-now g.met.T.Ord.total c.args.term.now c.self.inside.lists (c.get_mut.follows.lender c.remove.new.self) c.in-Some.list.now c.remove.new.self
    c.in-Some.ensures.value
    (c.get_mut.follows.holds c.remove.new.self)
    ∙ no-numbers c.remove.new.self.numbers (rw (← c.as_slice.ensures) c.if-is_empty.ensures)

pub returns-then-is_empty-clause-numbers : goal.returns-then-is_empty-clause-numbers
returns-then-is_empty-clause-numbers g c =
    rw (c.drop_empty.ensures.numbers, ← c.self.view_is)
    (numbers-written g.met.T.Ord.total c.args.term.now c.self.inside.lists (c.get_mut.follows.lender c.remove.new.self) c.in-Some.list.now c.remove.new.self
    c.in-Some.ensures.value
    (c.get_mut.follows.holds c.remove.new.self) (filter (λ n. not (n == c.args.number))) c.remove.ensures)

pub returns-then-is_empty-clause-room : goal.returns-then-is_empty-clause-room
returns-then-is_empty-clause-room g c =
    rw (← c.self.view_is)
    (λ t apart. c.drop_empty.ensures.room t apart
    ∙ room-apart g.met.T.Ord.total c.args.term.now c.self.inside.lists (c.get_mut.follows.lender c.remove.new.self) c.in-Some.list.now c.remove.new.self
    c.in-Some.ensures.value
    (c.get_mut.follows.holds c.remove.new.self) t apart)

pub returns-else-is_empty-clause-numbers : goal.returns-else-is_empty-clause-numbers
returns-else-is_empty-clause-numbers g c =
    rw (← c.self.view_is)
    (numbers-written g.met.T.Ord.total c.args.term.now c.self.inside.lists (c.get_mut.follows.lender c.remove.new.self) c.in-Some.list.now c.remove.new.self
    c.in-Some.ensures.value
    (c.get_mut.follows.holds c.remove.new.self) (filter (λ n. not (n == c.args.number))) c.remove.ensures)

pub returns-else-is_empty-clause-room : goal.returns-else-is_empty-clause-room
returns-else-is_empty-clause-room g c =
    rw (← c.self.view_is)
    (room-apart g.met.T.Ord.total c.args.term.now c.self.inside.lists (c.get_mut.follows.lender c.remove.new.self) c.in-Some.list.now c.remove.new.self
    c.in-Some.ensures.value
    (c.get_mut.follows.holds c.remove.new.self))
