-- Which services lack a record.
use Rattle.std.specs.Prelude.{ℕ, Bool, false, ◌&&◌, List, Option, Some, None}
use Rattle.kube_model.specs.declared.record.Record.{Record}
use Rattle.kube_model.specs.declared.service.Service.{Service}
use Rattle.kube_model.specs.Records.{empty_record, same_record}
use Rattle.kube_model.specs.Service.{is_handled}

-- the service would lack a record if this were its record: it is held and handled, and the record is empty
abbrev pub lacks_with : Option (List ℕ) → Record → Option Service → Bool
lacks_with class holding None = false
lacks_with class holding (Some service) = is_handled class service && same_record holding empty_record

-- the service lacks a record
abbrev pub lacks_record : Option (List ℕ) → Option Service → Bool
lacks_record class None = false
lacks_record class (Some service) = lacks_with class service.holding (Some service)
