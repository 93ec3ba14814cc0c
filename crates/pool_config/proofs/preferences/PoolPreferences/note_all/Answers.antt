use Rattle.ip_ranges.specs.declared.family.Family.TheVariants.{V4, V6}
use Rattle.std.proofs.lemmas.Result.{err_from_is_err_and}
use Rattle.pool_config.proofs.KnownClashes.{knows-none, knows-more, knows-each}
use Rattle.pool_config.proofs.preferences.PoolPreferences.note_all.Goals as goal

pub loop-advertisement-init : goal.loop-advertisement-init
loop-advertisement-init c = record {
  v4 = knows-none V4 c.args.pool.now c.args.bgp.now c.args.v4.now;
  v6 = knows-none V6 c.args.pool.now c.args.bgp.now c.args.v6.now;
}

pub loop-advertisement-preserved : goal.loop-advertisement-preserved
loop-advertisement-preserved c = record {
  v4 = knows-more V4 c.args.pool.now c.args.bgp.now c.loop-advertisement.advertisement-index c.advertisement-item.result c.loop-advertisement.v4 c.note.new.v4
      c.advertisement-item.is c.in_ok-note.ensures.v4 c.loop-advertisement.invariant.v4;
  v6 = knows-more V6 c.args.pool.now c.args.bgp.now c.loop-advertisement.advertisement-index c.advertisement-item.result c.loop-advertisement.v6 c.note.new.v6
      c.advertisement-item.is c.in_ok-note.ensures.v6 c.loop-advertisement.invariant.v6;
}

pub returns-clause-v4 : goal.returns-clause-v4
returns-clause-v4 c = knows-each V4 c.args.pool.now c.args.bgp.now c.loop-advertisement.advertisement-index c.loop-advertisement.v4
    c.loop-advertisement-test.false c.loop-advertisement.invariant.v4

pub returns-clause-v6 : goal.returns-clause-v6
returns-clause-v6 c = knows-each V6 c.args.pool.now c.args.bgp.now c.loop-advertisement.advertisement-index c.loop-advertisement.v6
    c.loop-advertisement-test.false c.loop-advertisement.invariant.v6

pub returns-in_err-note-clause-v4 : goal.returns-in_err-note-clause-v4
returns-in_err-note-clause-v4 c =
    let p = err_from_is_err_and c.from_residual.result c.from_residual.ensures.1 in
    rw p.1 tt

pub returns-in_err-note-clause-v6 : goal.returns-in_err-note-clause-v6
returns-in_err-note-clause-v6 c =
    let p = err_from_is_err_and c.from_residual.result c.from_residual.ensures.1 in
    rw p.1 tt
