use Rattle.claim_index.proofs.IndexReading.{some-passed}
use Rattle.claim_index.proofs.index.count_odd.Goals as goal

pub returns-clause-ascending : goal.returns-clause-ascending
returns-clause-ascending c some = c.loop-number.invariant.ascending (some-passed c.args.numbers.now c.loop-number.number-index c.loop-number-test.false some)
