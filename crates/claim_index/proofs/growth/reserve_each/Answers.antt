use Rattle.std.proofs.Common.{length, ◌∙◌, arith}
use Rattle.claim_index.proofs.IndexGrowth.{room-more}
use Rattle.claim_index.proofs.growth.reserve_each.Goals as goal

pub loop-address-preserved : goal.loop-address-preserved
loop-address-preserved c = record {
  numbers = λ s. c.reserve.ensures.numbers s ∙ c.loop-address.invariant.numbers s;
  room = room-more c.loop-address.holders c.reserve.new.self (length c.args.addresses.now) c.args.slot.now c.args.addresses.now c.loop-address.address-index
      c.address-item.result
      c.loop-address-test.true c.address-item.is c.loop-address.invariant.room (c.reserve.ensures.claims_kept c.args.slot.now)
      (c.reserve.ensures.addresses_kept c.args.slot.now)
      c.in_ok-reserve.ensures.claims c.in_ok-reserve.ensures.addresses;
  claims_kept = λ s a. omega (arith, c.loop-address.invariant.claims_kept s a, c.reserve.ensures.claims_kept s a);
  addresses_kept = λ s family. omega (arith, c.loop-address.invariant.addresses_kept s family, c.reserve.ensures.addresses_kept s family);
}

pub returns-in_err-reserve-clause-numbers : goal.returns-in_err-reserve-clause-numbers
returns-in_err-reserve-clause-numbers c = λ s. c.reserve.ensures.numbers s ∙ c.loop-address.invariant.numbers s
