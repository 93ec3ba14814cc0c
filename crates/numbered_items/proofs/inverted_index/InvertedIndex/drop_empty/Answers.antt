use Rattle.std.proofs.Common.{◌≡◌, [], None, sym}
use Rattle.numbered_items.specs.Index.{numbers_under}
use Rattle.numbered_items.proofs.IndexLaws.{numbers-kept, room-elsewhere}
use Rattle.numbered_items.proofs.inverted_index.InvertedIndex.drop_empty.Goals as goal

pub returns-clause-numbers : goal.returns-clause-numbers
returns-clause-numbers g c =
    let empty : numbers_under g.T.Ord.cmp c.self.inside.lists.entries c.args.term.now ≡ [] = rw c.self.view_is c.requires in
    rw (← c.self.view_is)
    (numbers-kept g.met.T.Ord.total c.args.term.now None c.self.inside.lists.entries c.remove-empty.new.self.entries c.remove-empty.ensures.updates.0
    (sym empty))

pub returns-clause-room : goal.returns-clause-room
returns-clause-room g c =
    rw (← c.self.view_is)
    (room-elsewhere g.met.T.Ord.total c.args.term.now None c.self.inside.lists.entries c.remove-empty.new.self.entries c.remove-empty.ensures.updates.0)
