use Rattle.std.proofs.Common.{◌∙◌, ap}
use Rattle.numbered_items.specs.Index.{numbers_in}
use Rattle.numbered_items.proofs.inverted_index.InvertedIndex.numbers.Goals as goal

pub returns-in-Some : goal.returns-in-Some
returns-in-Some g c = rw (← c.self.view_is) (c.as_slice.ensures ∙ ap numbers_in c.in-Some.ensures.value)

pub returns-in-None : goal.returns-in-None
returns-in-None g c = rw (← c.self.view_is) (ap numbers_in c.in-None.ensures.value)
