-- Cases of events by what they are about.
use Rattle.std.proofs.Common.{◌≡◌, ℕ, refl}
use Rattle.kube_model.specs.declared.event.Event.{Event}
use Rattle.kube_model.specs.declared.event.Event.TheVariants.{Changed, Deleted, ListEnd, Expired, Members, Frame, Ignored}
use Rattle.kube_model.specs.declared.event.ListGroup.TheVariants as groups
use Rattle.kube_model.specs.declared.key.Key.{Key}
use Rattle.kube_model.specs.declared.object.Kind.TheVariants as kinds
use Rattle.kube_model.specs.declared.object.Object.TheVariants as objects
use Rattle.kube_model.specs.declared.service.Service.{Service}
use Rattle.object_history.specs.Cache.{Cached, cached_after}
use Rattle.object_history.specs.Observations.{Watched}
use Rattle.core_rules.specs.Take.{Effect, Shows, Drops, EndsServices, Configures, Expires, Nothing, effect_of, shows}

module _ (P : Event → Effect → Type 0)
    (shown : (version : ℕ) (service : Service) → P (shows version service) (Shows version service))
    (dropped : (key : Key) → P (Deleted kinds.Service key) (Drops key))
    (ended : P (ListEnd groups.Service) EndsServices)
    (configures : (event : Event) → effect_of event ≡ Configures → P event Configures)
    (expires : P Expired Expires)
    (other : (event : Event) → P event Nothing)
  where
    pub by_effect : (event : Event) → P event (effect_of event)
    by_effect (Changed version (objects.Service service)) = shown version service
    by_effect (Changed version (objects.Pool pool)) = configures (Changed version (objects.Pool pool)) refl
    by_effect (Changed version (objects.L2 adv)) = configures (Changed version (objects.L2 adv)) refl
    by_effect (Changed version (objects.Bgp adv)) = configures (Changed version (objects.Bgp adv)) refl
    by_effect (Changed version (objects.Peer peer)) = configures (Changed version (objects.Peer peer)) refl
    by_effect (Changed version (objects.Community community)) = configures (Changed version (objects.Community community)) refl
    by_effect (Changed version (objects.Namespace namespace)) = configures (Changed version (objects.Namespace namespace)) refl
    by_effect (Changed version (objects.Node node)) = other (Changed version (objects.Node node))
    by_effect (Changed version (objects.Slice slice)) = other (Changed version (objects.Slice slice))
    by_effect (Deleted kinds.Service key) = dropped key
    by_effect (Deleted kinds.Pool key) = configures (Deleted kinds.Pool key) refl
    by_effect (Deleted kinds.L2 key) = configures (Deleted kinds.L2 key) refl
    by_effect (Deleted kinds.Bgp key) = configures (Deleted kinds.Bgp key) refl
    by_effect (Deleted kinds.Peer key) = configures (Deleted kinds.Peer key) refl
    by_effect (Deleted kinds.Community key) = configures (Deleted kinds.Community key) refl
    by_effect (Deleted kinds.Namespace key) = configures (Deleted kinds.Namespace key) refl
    by_effect (Deleted kinds.Node key) = other (Deleted kinds.Node key)
    by_effect (Deleted kinds.Slice key) = other (Deleted kinds.Slice key)
    by_effect (ListEnd groups.Service) = ended
    by_effect (ListEnd groups.Config) = configures (ListEnd groups.Config) refl
    by_effect (ListEnd groups.Endpoint) = other (ListEnd groups.Endpoint)
    by_effect Expired = expires
    by_effect (Members names) = other (Members names)
    by_effect (Frame interface bytes) = other (Frame interface bytes)
    by_effect Ignored = other Ignored

-- what is held of endpoints, and whether their list has ended, is as it was
abbrev pub HasSameEndpoints : Cached → Cached → Type 0
HasSameEndpoints after before = (after.slices ≡ before.slices) × (after.endpoints_ended ≡ before.endpoints_ended)

-- and so it is with services
abbrev HasSameOthers : Cached → Cached → Type 0
HasSameOthers after before = (after.services ≡ before.services) × (after.services_ended ≡ before.services_ended) × HasSameEndpoints after before

-- an event of the configuration or of a namespace leaves all of these so
config-leaves : (event : Event) (s : Cached) → effect_of event ≡ Configures → HasSameOthers (cached_after (Watched event) s) s
config-leaves (Changed version (objects.Service service)) s e = absurd (cc)
config-leaves (Changed version (objects.Pool pool)) s e = (refl, refl, (refl, refl))
config-leaves (Changed version (objects.L2 adv)) s e = (refl, refl, (refl, refl))
config-leaves (Changed version (objects.Bgp adv)) s e = (refl, refl, (refl, refl))
config-leaves (Changed version (objects.Peer peer)) s e = (refl, refl, (refl, refl))
config-leaves (Changed version (objects.Community community)) s e = (refl, refl, (refl, refl))
config-leaves (Changed version (objects.Namespace namespace)) s e = (refl, refl, (refl, refl))
config-leaves (Changed version (objects.Node node)) s e = absurd (cc)
config-leaves (Changed version (objects.Slice slice)) s e = absurd (cc)
config-leaves (Deleted kinds.Service key) s e = absurd (cc)
config-leaves (Deleted kinds.Pool key) s e = (refl, refl, (refl, refl))
config-leaves (Deleted kinds.L2 key) s e = (refl, refl, (refl, refl))
config-leaves (Deleted kinds.Bgp key) s e = (refl, refl, (refl, refl))
config-leaves (Deleted kinds.Peer key) s e = (refl, refl, (refl, refl))
config-leaves (Deleted kinds.Community key) s e = (refl, refl, (refl, refl))
config-leaves (Deleted kinds.Namespace key) s e = (refl, refl, (refl, refl))
config-leaves (Deleted kinds.Node key) s e = absurd (cc)
config-leaves (Deleted kinds.Slice key) s e = absurd (cc)
config-leaves (ListEnd groups.Service) s e = absurd (cc)
config-leaves (ListEnd groups.Config) s e = (refl, refl, (refl, refl))
config-leaves (ListEnd groups.Endpoint) s e = absurd (cc)
config-leaves Expired s e = absurd (cc)
config-leaves (Members names) s e = absurd (cc)
config-leaves (Frame interface bytes) s e = absurd (cc)
config-leaves Ignored s e = absurd (cc)

pub config-services : (event : Event) (s : Cached) → effect_of event ≡ Configures → (cached_after (Watched event) s).services ≡ s.services
config-services event s e = (config-leaves event s e).0

pub config-services_ended : (event : Event) (s : Cached) → effect_of event ≡ Configures → (cached_after (Watched event) s).services_ended ≡ s.services_ended
config-services_ended event s e = (config-leaves event s e).1

pub config-endpoints : (event : Event) (s : Cached) → effect_of event ≡ Configures → HasSameEndpoints (cached_after (Watched event) s) s
config-endpoints event s e = (config-leaves event s e).2
