use Rattle.std.proofs.Common.{◌≡◌, refl, sym}
use Rattle.std.proofs.iter.Next.{says_at}
use Rattle.pool_config.proofs.search.first_name.Goals as goal

pub loop-name-init : goal.loop-name-init
loop-name-init g c = (c.requires, λ found ends. (rw (c.into_iter-name-iterator.ensures.into_iter_gives, c.iter-name-items.ensures.rest) at ends))

pub returns-then-test : goal.returns-then-test
returns-then-test g c = c.loop-name.invariant.1 _ (λ p says.
    let e : c.test.result ≡ p c.in-Some.held.now.object = says _ _ (says_at g.F.Fn c.test.ensures refl) in
    rw (c.in-Some.ensures.steps, sym e, c.if-test.true) refl)

pub loop-name-preserved : goal.loop-name-preserved
loop-name-preserved g c = (
  c.loop-name.invariant.0,
  λ found ends. c.loop-name.invariant.1 found (λ p says.
      let e : c.test.result ≡ p c.in-Some.held.now.object = says _ _ (says_at g.F.Fn c.test.ensures refl) in
      rw (c.in-Some.ensures.steps, sym e, c.if-test.false) (ends p says)),
)

pub returns : goal.returns
returns g c = c.loop-name.invariant.1 _ (λ p says. rw c.in-None.ensures.steps.0 refl)
