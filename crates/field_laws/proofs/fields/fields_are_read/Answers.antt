use Rattle.json_fields.specs.Reading.{text_of, bool_of, labels_of, list_of, number_in}
use Rattle.json_fields.specs.Expressions.{expression_of}
use Rattle.kube_model.specs.AllocationFields.{allocation_of}
use Rattle.kube_model.specs.EndpointFields.{endpoint_of}
use Rattle.kube_model.specs.Named.{protocol_of, policy_of}
use Rattle.kube_model.specs.PortFields.{port_of}
use Rattle.kube_model.specs.SelectorFields.{selector_of}
use Rattle.kube_events.specs.CommunityFields.{named_value_of}
use Rattle.kube_events.specs.Frame.{bytes_of}
use Rattle.kube_events.specs.Named.{family_of, version_of, address_in}
use Rattle.kube_events.specs.ServiceFields.{ingress_of}
use Rattle.field_laws.proofs.FieldReads.{fields_are_read}
use Rattle.field_laws.proofs.fields.fields_are_read.Goals as goal

pub returns : goal.returns
returns c = record {
  text = fields_are_read text_of;
  truth = fields_are_read bool_of;
  number = λ low high. fields_are_read (number_in low high);
  text_map = fields_are_read labels_of;
  version = fields_are_read version_of;
  address = fields_are_read address_in;
  hex = fields_are_read bytes_of;
  protocol = fields_are_read protocol_of;
  policy = fields_are_read policy_of;
  allocation = fields_are_read allocation_of;
  texts = fields_are_read (list_of text_of);
  families = fields_are_read (list_of family_of);
  selectors = fields_are_read (list_of selector_of);
  expressions = fields_are_read (list_of expression_of);
  ports = fields_are_read (list_of port_of);
  places = fields_are_read (list_of ingress_of);
  named_values = fields_are_read (list_of named_value_of);
  endpoints = fields_are_read (list_of endpoint_of);
}
