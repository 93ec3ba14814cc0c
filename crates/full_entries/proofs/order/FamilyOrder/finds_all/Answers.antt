use Rattle.std.proofs.Common.{arith}
use Rattle.full_entries.proofs.PlaceLaws.{found-next, all-found}
use Rattle.full_entries.proofs.order.FamilyOrder.finds_all.Goals as goal

pub loop-place-preserved : goal.loop-place-preserved
loop-place-preserved c =
    found-next c.args.family c.args.entries.now c.args.self.now c.loop-place.place c.loop-place.invariant (c.finds.ensures c.if-not-finds.false)

pub returns : goal.returns
returns c = λ _. all-found c.args.family c.args.entries.now c.args.self.now c.loop-place.place (omega (arith, c.loop-place-test.false)) c.loop-place.invariant
