use Rattle.std.proofs.Common.{◌≡◌, true, false, Some, None, sym, ◌∙◌, ap, arith}
use Rattle.std.specs.List.{slice_get}
use Rattle.std.proofs.lemmas.Grind.{common_steps}
use Rattle.std.proofs.lemmas.Option.{gets}
use Rattle.bgp_updates.specs.Received.{same_prefix}
use Rattle.bgp_updates.proofs.Halves.{terms_at-past, terms_at-there}
use Rattle.bgp_updates.proofs.finding.route_at.Goals as goal

pub returns-in_err-there : goal.returns-in_err-there
returns-in_err-there c =
    let past : slice_get c.args.table.now c.count_before.result ≡ None = grind (arith, common_steps, gets) in
    rw c.from_residual.ensures (sym (terms_at-past c.args.prefix.now c.args.table.now c.count_before.result c.requires.1 c.count_before.ensures past))

pub returns-then-same_prefix : goal.returns-then-same_prefix
returns-then-same_prefix c =
    let there = c.in_ok-there.there.now in
    let is : slice_get c.args.table.now c.count_before.result ≡ Some there = grind (arith, common_steps, gets) in
    let own : same_prefix c.args.prefix.now there.0 ≡ true =
    ap (λ route. same_prefix c.args.prefix.now route.0) (sym c.there.view_is) ∙ sym c.same_prefix.ensures ∙ c.if-same_prefix.true in
    sym (terms_at-there c.args.prefix.now c.args.table.now c.count_before.result there true c.requires.1 c.count_before.ensures is own)

pub returns-else-same_prefix : goal.returns-else-same_prefix
returns-else-same_prefix c =
    let there = c.in_ok-there.there.now in
    let is : slice_get c.args.table.now c.count_before.result ≡ Some there = grind (arith, common_steps, gets) in
    let other : same_prefix c.args.prefix.now there.0 ≡ false =
    ap (λ route. same_prefix c.args.prefix.now route.0) (sym c.there.view_is) ∙ sym c.same_prefix.ensures ∙ c.if-same_prefix.false in
    sym (terms_at-there c.args.prefix.now c.args.table.now c.count_before.result there false c.requires.1 c.count_before.ensures is other)
