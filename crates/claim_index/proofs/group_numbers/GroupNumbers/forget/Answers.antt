use Rattle.std.proofs.Common.{None, refl}
use Rattle.claim_index.proofs.GroupNumberLaws.{groups_in, puts-updated, forgotten-numbered}
use Rattle.claim_index.proofs.group_numbers.GroupNumbers.forget.Goals as goal

pub invariant_of-self : goal.invariant_of-self
invariant_of-self c =
    let next = c.self.inside.next in
    forgotten-numbered c.args.group.now (groups_in c.self.inside.numbers next) (groups_in c.remove-number.new.self next) c.self.invariant refl
    (puts-updated c.args.group.now None c.self.inside.numbers c.remove-number.new.self next next c.remove-number.ensures.updates)

pub returns-clause-numbers : goal.returns-clause-numbers
returns-clause-numbers c =
    let next = c.self.inside.next in
    rw (← c.self.view_is)
    (puts-updated c.args.group.now None c.self.inside.numbers c.remove-number.new.self next next c.remove-number.ensures.updates)
