-- What the fields of an object are called in the event that is read.
use Rattle.std.specs.Prelude.{ℕ, List, [], ◌∷◌, map, true, Some, None, unwrap_or, codes, if◌then◌else◌}
use Rattle.std.specs.Str.{bytes_eq}
use Rattle.ip_ranges.specs.Values.{AddressValue}
use Rattle.kube_labels.specs.declared.expression.Expression.{Expression}
use Rattle.kube_model.specs.declared.selector.SelectorText.{SelectorText}
use Rattle.kube_model.specs.declared.port.Port.{Port}
use Rattle.kube_model.specs.declared.port.Protocol.{Protocol}
use Rattle.kube_model.specs.declared.port.Protocol.TheVariants.{Tcp, Udp, Sctp}
use Rattle.kube_model.specs.declared.pool.Allocation.{Allocation}
use Rattle.kube_model.specs.declared.slice.Endpoint.{Endpoint}
use Rattle.field_laws.specs.Told.{RowsTold}
use Rattle.field_laws.specs.Tables.{expression_rows, selector_rows, port_rows, place_rows, allocation_rows, named_value_rows, endpoint_rows}

abbrev pub expression_with : RowsTold expression_rows → Expression
expression_with (key, (operator, (values, end))) = record { key = key; operator = operator; values = values }

abbrev pub selector_with : RowsTold selector_rows → SelectorText
selector_with (labels, (expressions, end)) = record { labels = labels; expressions = map expression_with expressions }

abbrev pub protocol_with : List ℕ → Protocol
protocol_with text = if bytes_eq text (codes "TCP") then Tcp else if bytes_eq text (codes "UDP") then Udp else Sctp

abbrev pub port_with : RowsTold port_rows → Port
port_with (protocol, (port, end)) = record { protocol = protocol_with protocol; port = port }

-- a place without an address has none
abbrev pub addresses_with : List (RowsTold place_rows) → List AddressValue
addresses_with [] = []
addresses_with ((Some address, end) ∷ places) = address ∷ addresses_with places
addresses_with ((None, end) ∷ places) = addresses_with places

abbrev pub allocation_with : RowsTold allocation_rows → Allocation
allocation_with (priority, (namespaces, (namespace_selectors, (service_selectors, end)))) = record {
  priority = priority;
  namespaces = namespaces;
  namespace_selectors = map selector_with namespace_selectors;
  service_selectors = map selector_with service_selectors;
}

abbrev pub named_value_with : RowsTold named_value_rows → List ℕ × List ℕ
named_value_with (name, (value, end)) = (name, value)

-- An endpoint is usable where it is serving; where that isn't said, where it is ready; and where neither is said.
abbrev pub endpoint_with : RowsTold endpoint_rows → Endpoint
endpoint_with (node, (ready, (serving, end))) = record { node = node; usable = unwrap_or serving (unwrap_or ready true) }
