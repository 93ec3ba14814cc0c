-- The service that an endpoint slice is of.
use Rattle.kube_model.specs.declared.key.Key.{Key}
use Rattle.kube_model.specs.declared.slice.EndpointSlice.{EndpointSlice}

-- the key of the service that the slice is of: in its namespace, by the name in its label `kubernetes.io/service-name`
abbrev pub service_of : EndpointSlice → Key
service_of slice = record { namespace = slice.key.namespace; name = slice.service }
