use Rattle.std.proofs.Common.{◌≡◌, ◌∷◌, ◌+◌, drop, refl, sym, ◌∙◌, ap, arith}
use Rattle.std.proofs.lemmas.List.{drop_more, drop_all}
use Rattle.std.proofs.iter.Next.{says_at}
use Rattle.pool_config.proofs.search.any_passes.Goals as goal

pub loop-item-init : goal.loop-item-init
loop-item-init g c = (c.requires, λ any tells. tells)

pub returns-then-test : goal.returns-then-test
returns-then-test g c =
    let i = c.loop-item.item-index in
    let x = c.item-item.result in
    let xs = c.args.items.now in
    let next : drop i xs ≡ x ∷ drop (i + 1) xs = drop_more xs i x c.loop-item-test.true ∙ ap (λ y. y ∷ drop (i + 1) xs) (sym c.item-item.is) in
    c.loop-item.invariant.1 _ (λ p says.
    let e : c.test.result ≡ p x = says _ _ (says_at g.F.Fn c.test.ensures refl) in
    rw (next, sym e, c.if-test.true) refl)

pub loop-item-preserved : goal.loop-item-preserved
loop-item-preserved g c =
    let i = c.loop-item.item-index in
    let x = c.item-item.result in
    let xs = c.args.items.now in
    let next : drop i xs ≡ x ∷ drop (i + 1) xs = drop_more xs i x c.loop-item-test.true ∙ ap (λ y. y ∷ drop (i + 1) xs) (sym c.item-item.is) in (
      c.loop-item.invariant.0,
      λ any tells. c.loop-item.invariant.1 any (λ p says.
          let e : c.test.result ≡ p x = says _ _ (says_at g.F.Fn c.test.ensures refl) in
          rw (next, sym e, c.if-test.false) (tells p says)),
    )

pub returns : goal.returns
returns g c = c.loop-item.invariant.1 _ (λ p says. rw (drop_all c.loop-item.item-index c.args.items.now (omega (arith, c.loop-item-test.false))) refl)
