use Rattle.ip_ranges.specs.declared.family.Family.TheVariants.{V4, V6}
use Rattle.pool_config.proofs.KnownClashes.{KnowsBelow}
use Rattle.pool_config.proofs.preferences.PoolPreferences.note_all.Given as goal

abbrev pub invariant-loop-advertisement : goal.invariant-loop-advertisement
invariant-loop-advertisement l = record {
  v4 : KnowsBelow V4 l.advertisement-index l.pool l.bgp l.v4;
  v6 : KnowsBelow V6 l.advertisement-index l.pool l.bgp l.v6;
}
