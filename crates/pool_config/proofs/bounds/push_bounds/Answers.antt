use Rattle.std.proofs.Common.{◌≡◌, true, false, refl, sym, ◌∙◌, arith}
use Rattle.std.proofs.lemmas.List.{append-nil, drop_all}
use Rattle.std.proofs.lemmas.Result.{err_from_is_err_and}
use Rattle.std.proofs.lemmas.Grind.{common_steps}
use Rattle.ip_ranges.specs.Values.{IsRange, same_family}
use Rattle.pool_config.specs.Bounds.{low_in, high_in}
use Rattle.pool_config.proofs.Steps.{one_appended, none_appended, holds_at}
use Rattle.pool_config.proofs.bounds.push_bounds.Goals as goal
use Rattle.pool_config.proofs.bounds.push_bounds.Goals.{then-eq+in_ok-push+in_ok-push-2, else-eq}

pub returns-in_err-push-clause-lows : goal.returns-in_err-push-clause-lows
returns-in_err-push-clause-lows c =
    let p = err_from_is_err_and c.from_residual.result c.from_residual.ensures.1 in
    rw p.1 tt

pub returns-in_err-push-clause-highs : goal.returns-in_err-push-clause-highs
returns-in_err-push-clause-highs c =
    let p = err_from_is_err_and c.from_residual.result c.from_residual.ensures.1 in
    rw p.1 tt

pub returns-in_err-push-clause-ranges : goal.returns-in_err-push-clause-ranges
returns-in_err-push-clause-ranges c =
    let p = err_from_is_err_and c.from_residual.result c.from_residual.ensures.1 in
    rw p.1 tt

pub returns-in_err-push-2-clause-lows : goal.returns-in_err-push-2-clause-lows
returns-in_err-push-2-clause-lows c =
    let p = err_from_is_err_and c.from_residual-in_err-push-2.result c.from_residual-in_err-push-2.ensures.1 in
    rw p.1 tt

pub returns-in_err-push-2-clause-highs : goal.returns-in_err-push-2-clause-highs
returns-in_err-push-2-clause-highs c =
    let p = err_from_is_err_and c.from_residual-in_err-push-2.result c.from_residual-in_err-push-2.ensures.1 in
    rw p.1 tt

pub returns-in_err-push-2-clause-ranges : goal.returns-in_err-push-2-clause-ranges
returns-in_err-push-2-clause-ranges c =
    let p = err_from_is_err_and c.from_residual-in_err-push-2.result c.from_residual-in_err-push-2.ensures.1 in
    rw p.1 tt

pub loop-span-init : goal.loop-span-init
loop-span-init c = record { lows = refl; highs = refl; ranges = λ all. all }

pub returns-clause-lows : goal.returns-clause-lows
returns-clause-lows c =
    sym (append-nil c.loop-span.lows.items)
    ∙ (rw (drop_all c.loop-span.span-index c.args.spans.now (omega (arith, c.loop-span-test.false))) at c.loop-span.invariant.lows)

pub returns-clause-highs : goal.returns-clause-highs
returns-clause-highs c =
    sym (append-nil c.loop-span.highs.items)
    ∙ (rw (drop_all c.loop-span.span-index c.args.spans.now (omega (arith, c.loop-span-test.false))) at c.loop-span.invariant.highs)

pub returns-clause-ranges : goal.returns-clause-ranges
returns-clause-ranges c =
    c.loop-span.invariant.ranges (rw (drop_all c.loop-span.span-index c.args.spans.now (omega (arith, c.loop-span-test.false))) tt)

pub loop-span-preserved : goal.loop-span-preserved
loop-span-preserved c =
    let i = c.loop-span.invariant in
    let spans = c.args.spans.now in
    let at = c.loop-span.span-index in
    let x = c.span-item.result in
    elim c.if-eq.branch [
      | then-eq+in_ok-push+in_ok-push-2 w ↦
          let same : same_family c.span.inside.family c.args.family ≡ true = grind (arith, common_steps) in
          record {
            lows = rw w.lows-is (one_appended (low_in c.args.family) spans at x c.loop-span-test.true c.span-item.is c.span.inside.low c.loop-span.lows.items w.push.new.self.items _
                (rw (← c.span.view_is, same) refl) w.in_ok-push.ensures.items i.lows);
            highs = rw w.highs-is (one_appended (high_in c.args.family) spans at x c.loop-span-test.true c.span-item.is c.span.inside.high c.loop-span.highs.items w.push-then-eq.new.self.items _
                (rw (← c.span.view_is, same) refl) w.in_ok-push-2.ensures.items i.highs);
            ranges = λ later. i.ranges (holds_at IsRange spans at x c.loop-span-test.true c.span-item.is (rw (← c.span.view_is) c.span.invariant) later);
          }
      | else-eq w ↦
          let other : same_family c.span.inside.family c.args.family ≡ false = grind (arith, common_steps) in
          record {
            lows = rw w.lows-is (none_appended (low_in c.args.family) spans at x c.loop-span-test.true c.span-item.is c.loop-span.lows.items _
                (rw (← c.span.view_is, other) refl) i.lows);
            highs = rw w.highs-is (none_appended (high_in c.args.family) spans at x c.loop-span-test.true c.span-item.is c.loop-span.highs.items _
                (rw (← c.span.view_is, other) refl) i.highs);
            ranges = λ later. i.ranges (holds_at IsRange spans at x c.loop-span-test.true c.span-item.is (rw (← c.span.view_is) c.span.invariant) later);
          }
    ]
