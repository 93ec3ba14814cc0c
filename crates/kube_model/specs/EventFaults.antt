-- The fault of a field, as an event's.
use Rattle.json_fields.specs.declared.fault.FieldFault.{FieldFault}
use Rattle.json_fields.specs.declared.fault.FieldFault.TheVariants as fields
use Rattle.kube_model.specs.declared.event.EventFault.{EventFault}
use Rattle.kube_model.specs.declared.event.EventFault.TheVariants.{Field, NoMemory}

abbrev pub event_fault : FieldFault → EventFault
event_fault (fields.Faulty path) = Field path
event_fault fields.NoMemory = NoMemory
