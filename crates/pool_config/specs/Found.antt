-- The fault of what was found.
use Rattle.kube_model.specs.declared.config_fault.ConfigFault.{ConfigFault}
use Rattle.pool_config.specs.declared.first_fault.Found.{Found}

abbrev pub fault_of : Found → ConfigFault
fault_of found = record { cause = found.cause; kind = found.kind; name = found.name.now }
