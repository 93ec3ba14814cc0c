-- Which services the controller handles.
use Rattle.std.specs.Prelude.{ℕ, List, Bool, true, false, ◌&&◌, Option, Some, None}
use Rattle.std.specs.Str.{bytes_eq}
use Rattle.kube_model.specs.declared.record.Record.{Record}
use Rattle.kube_model.specs.declared.service.Service.{Service}

-- no class equals none
abbrev pub same_class : Option (List ℕ) → Option (List ℕ) → Bool
same_class None None = true
same_class None (Some b) = false
same_class (Some a) None = false
same_class (Some a) (Some b) = bytes_eq a b

-- of type LoadBalancer, and of the configured class (Kubernetes: `spec.loadBalancerClass`)
abbrev pub is_handled : Option (List ℕ) → Service → Bool
is_handled class service = service.balancer && same_class class service.class

-- the service with this record
abbrev pub with_holding : Record → Service → Service
with_holding holding service = record service { holding = holding }
