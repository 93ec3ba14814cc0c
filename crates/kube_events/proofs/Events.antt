-- What is wrong with a field of an event.
use Rattle.std.proofs.Common.{Result, refl}
use Rattle.json_fields.specs.Path.{Path}
use Rattle.json_fields.specs.Reading.{Fails}
use Rattle.json_fields.specs.declared.fault.FieldFault.{FieldFault}
use Rattle.json_fields.specs.declared.fault.FieldFault.TheVariants.{Faulty, NoMemory}
use Rattle.kube_model.specs.declared.event.Event.{Event}
use Rattle.kube_model.specs.EventFaults.{event_fault}
use Rattle.kube_events.specs.Event.{FailsEvent, in_field}

pub FailsEvent-in_field : (fault : FieldFault) (read : Result Event Path) → Fails fault read → FailsEvent (event_fault fault) (in_field read)
FailsEvent-in_field (Faulty path) read h = rw h refl
FailsEvent-in_field NoMemory read h = tt
