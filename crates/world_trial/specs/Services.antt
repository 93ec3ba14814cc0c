-- The services that are set and deleted.
use Rattle.std.specs.Prelude.{ℕ, ◌+◌, ◌/◌, ◌%◌, nat_lt, List, [], ◌∷◌, ◌++◌, true, false, None, if◌then◌else◌, codes, decimal}
use Rattle.ip_ranges.specs.declared.family.Family.TheVariants.{V4}
use Rattle.kube_model.specs.declared.key.Key.{Key}
use Rattle.kube_model.specs.declared.port.Port.{Port}
use Rattle.kube_model.specs.declared.port.Protocol.TheVariants.{Tcp}
use Rattle.kube_model.specs.declared.service.Policy.{Policy}
use Rattle.kube_model.specs.declared.service.Policy.TheVariants.{Cluster, Local}
use Rattle.kube_model.specs.declared.service.Service.{Service}
use Rattle.kube_model.specs.declared.service.Wanted.TheVariants.{NotAsked}
use Rattle.kube_model.specs.Records.{empty_record}

-- `s` and the number in two digits
abbrev pub name_of : ℕ → List ℕ
name_of y = codes "s" ++ (decimal (y / 10) ++ decimal (y % 10))

unfoldable pub numbered : ℕ → Key
numbered y = record { namespace = codes "default"; name = name_of y }

-- none, or one that the services with it share
abbrev pub share_key_of : ℕ → List ℕ
share_key_of z = if nat_lt z 2 then [] else codes "k"

abbrev pub policy_of : ℕ → Policy
policy_of z = if nat_lt z 6 then Cluster else Local

-- `app` is `a` where the policy is Local
abbrev pub selector_of : ℕ → List (List ℕ × List ℕ)
selector_of z = if nat_lt z 6 then [] else (codes "app", codes "a") ∷ []

-- one of three ports
abbrev pub port_of : ℕ → Port
port_of z = record { protocol = Tcp; port = 80 + z % 3 }

-- the service of a number, in one of eight forms
unfoldable pub service_of : ℕ → ℕ → Service
service_of y z = record {
  key = numbered y;
  labels = [];
  balancer = true;
  class = None;
  families = V4 ∷ [];
  prefer_dual = false;
  policy = policy_of z;
  selector = selector_of z;
  ports = port_of z ∷ [];
  share_key = share_key_of z;
  pool_asked = [];
  wanted = NotAsked;
  holding = empty_record;
}
