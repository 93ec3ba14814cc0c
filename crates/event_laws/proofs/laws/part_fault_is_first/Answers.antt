use Rattle.event_laws.proofs.PartLaws.{port_fault_is_first, place_fault_is_first, allocation_fault_is_first, selector_fault_is_first}
use Rattle.event_laws.proofs.PartLaws.{expression_fault_is_first, named_value_fault_is_first, endpoint_fault_is_first}
use Rattle.event_laws.proofs.laws.part_fault_is_first.Goals as goal

pub returns : goal.returns
returns c = record {
  port = port_fault_is_first;
  place = place_fault_is_first;
  allocation = allocation_fault_is_first;
  selector = selector_fault_is_first;
  expression = expression_fault_is_first;
  community = named_value_fault_is_first;
  endpoint = endpoint_fault_is_first;
}
