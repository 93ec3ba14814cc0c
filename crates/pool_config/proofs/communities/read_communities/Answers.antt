use Rattle.std.proofs.Common.{refl, sym, ◌∙◌}
use Rattle.std.proofs.lemmas.Result.{err_from_is_err_and}
use Rattle.std.specs.Ordering.{nat_cmp}
use Rattle.pool_config.specs.Lists.{number_in}
use Rattle.pool_config.specs.Objects.{named}
use Rattle.pool_config.proofs.Steps.{one_read, none_read}
use Rattle.pool_config.proofs.communities.read_communities.Goals as goal
use Rattle.pool_config.proofs.communities.read_communities.Goals.{in-Some+in_ok-_is_new, in_default}

pub returns-in_err-_is_new : goal.returns-in_err-_is_new
returns-in_err-_is_new c =
    let p = err_from_is_err_and c.from_residual.result c.from_residual.ensures.1 in
    rw p.1 tt

pub loop-text-preserved : goal.loop-text-preserved
loop-text-preserved c =
    let read = number_in (named c.args.communities.now) in
    let texts = c.args.texts.now in
    let at = c.loop-text.text-index in
    let x = c.text-item.result in
    elim c.match-number_in.branch [
      | in-Some+in_ok-_is_new w ↦
          rw w.numbers-is (one_read read texts at x c.loop-text-test.true c.text-item.is nat_cmp w.in-Some.number c.loop-text.numbers.keys w.insert.new.self.keys _
          (sym c.number_in.ensures ∙ w.in-Some.is) w.in_ok-_is_new.ensures.keys c.loop-text.invariant)
      | in_default w ↦
          rw w.numbers-is (none_read read texts at x c.loop-text-test.true c.text-item.is nat_cmp c.loop-text.numbers.keys _
          (sym c.number_in.ensures ∙ rw w.in_default.is refl) c.loop-text.invariant)
    ]
