-- Why an event isn't taken.
use Rattle.object_cache.specs.declared.change.ApplyFault.{ApplyFault}
use Rattle.object_cache.specs.declared.change.ApplyFault.TheVariants as applying
use Rattle.core_rules.specs.declared.turn.TakeFault.{TakeFault}
use Rattle.core_rules.specs.declared.turn.TakeFault.TheVariants.{Limit, NoMemory}

abbrev pub take_fault : ApplyFault → TakeFault
take_fault (applying.Limit kind count) = Limit count
take_fault applying.NoMemory = NoMemory
