use Rattle.json_fields.specs.Reading.{text_of}
use Rattle.json_fields.specs.Expressions.{expression_of}
use Rattle.kube_model.specs.EndpointFields.{endpoint_of}
use Rattle.kube_model.specs.PortFields.{port_of}
use Rattle.kube_model.specs.SelectorFields.{selector_of}
use Rattle.kube_events.specs.CommunityFields.{named_value_of}
use Rattle.kube_events.specs.Named.{family_of}
use Rattle.kube_events.specs.ServiceFields.{ingress_of}
use Rattle.field_laws.proofs.FieldReads.{lists_are_read}
use Rattle.field_laws.proofs.fields.lists_are_read.Goals as goal

pub returns : goal.returns
returns c = record {
  texts = lists_are_read text_of;
  families = lists_are_read family_of;
  selectors = lists_are_read selector_of;
  expressions = lists_are_read expression_of;
  ports = lists_are_read port_of;
  places = lists_are_read ingress_of;
  named_values = lists_are_read named_value_of;
  endpoints = lists_are_read endpoint_of;
}
