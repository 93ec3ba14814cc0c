use Rattle.std.proofs.Common.{ℕ, List, Option, ap, ◌∙◌}
use Rattle.std.specs.Option.{option_and_then}
use Rattle.claim_index.specs.GroupNumbers.{number_of}
use Rattle.claim_index.proofs.GroupNumberLaws.{groups_in, looked-up}
use Rattle.claim_index.proofs.group_numbers.GroupNumbers.number.Goals as goal

pub returns-in-Some-clause-number : goal.returns-in-Some-clause-number
returns-in-Some-clause-number c =
    rw (← c.self.view_is)
    (c.copied.ensures ∙ c.get.ensures.value ∙ looked-up c.in-Some.group.now c.self.inside.numbers.entries
    ∙ ap (λ (o : Option (List ℕ)). option_and_then (number_of (groups_in c.self.inside.numbers c.self.inside.next)) o) c.in-Some.ensures.group)
