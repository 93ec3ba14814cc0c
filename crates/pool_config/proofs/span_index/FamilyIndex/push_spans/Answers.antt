use Rattle.std.proofs.Common.{◌≡◌, true, false, refl, sym, ◌∙◌, arith}
use Rattle.std.proofs.lemmas.Grind.{common_steps}
use Rattle.std.proofs.lemmas.List.{append-nil, drop_all}
use Rattle.std.proofs.lemmas.Result.{err_from_is_err_and}
use Rattle.ip_ranges.specs.Values.{same_family}
use Rattle.pool_config.specs.SpanIndex.{placed_in}
use Rattle.pool_config.specs.declared.span_index.PlacedSpan.{PlacedSpan}
use Rattle.pool_config.proofs.Steps.{one_appended, none_appended}
use Rattle.pool_config.proofs.span_index.FamilyIndex.push_spans.Goals as goal
use Rattle.pool_config.proofs.span_index.FamilyIndex.push_spans.Goals.{then-eq+in_ok-push, else-eq}

pub returns-in_err-push : goal.returns-in_err-push
returns-in_err-push c =
    let p = err_from_is_err_and c.from_residual.result c.from_residual.ensures.1 in
    rw p.1 tt

pub loop-span-preserved : goal.loop-span-preserved
loop-span-preserved c =
    let place = placed_in c.args.family c.args.pool in
    let all = c.args.all.now in
    let at = c.loop-span.span-index in
    let x = c.span-item.result in
    elim c.if-eq.branch [
      | then-eq+in_ok-push w ↦
          let same : same_family c.span.inside.family c.args.family ≡ true = grind (arith, common_steps) in
          let placed : PlacedSpan = record { low = c.span.inside.low; high = c.span.inside.high; pool = c.args.pool } in
          rw w.spans-is (one_appended place all at x c.loop-span-test.true c.span-item.is placed c.loop-span.spans.items w.push.new.self.items _
          (rw (← c.span.view_is, same) refl) w.in_ok-push.ensures.items c.loop-span.invariant)
      | else-eq w ↦
          let other : same_family c.span.inside.family c.args.family ≡ false = grind (arith, common_steps) in
          rw w.spans-is (none_appended place all at x c.loop-span-test.true c.span-item.is c.loop-span.spans.items _
          (rw (← c.span.view_is, other) refl) c.loop-span.invariant)
    ]

pub returns : goal.returns
returns c =
    sym (append-nil c.loop-span.spans.items)
    ∙ (rw (drop_all c.loop-span.span-index c.args.all.now (omega (arith, c.loop-span-test.false))) at c.loop-span.invariant)
