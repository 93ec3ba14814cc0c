-- What is held after all that happened, kind by kind, and which lists have ended.
use Rattle.std.proofs.Common.{◌≡◌, ◌↔◌, Bool, true, false, cond, ◌||◌, List, [], ◌∷◌, ◌++◌, refl, sym, ap, subst, ◌∙◌}
use Rattle.std.specs.List.Sorted.{IsStrictlySortedBy}
use Rattle.std.specs.Map.{keys_of}
use Rattle.std.specs.Cmp.{IsTotalOrder}
use Rattle.std.proofs.lemmas.Map.Lookups.{CmpEqualImpliesEq}
use Rattle.std.proofs.Math.Bool.{or-true}
use Rattle.kube_model.specs.declared.event.Event.TheVariants.{Changed, Deleted, ListEnd, Expired, Members, Frame, Ignored}
use Rattle.kube_model.specs.declared.event.ListGroup.{ListGroup}
use Rattle.kube_model.specs.declared.event.ListGroup.TheVariants as groups
use Rattle.versioned_map.specs.declared.map.Versioned.{Versioned}
use Rattle.versioned_map.specs.Objects.{held_at}
use Rattle.kube_labels.proofs.NameLaws.{name_cmp-total, name_cmp-exact}
use Rattle.object_history.specs.Kinds.{Resource, service_resource, pool_resource, l2_resource, bgp_resource, peer_resource}
use Rattle.object_history.specs.Kinds.{community_resource, namespace_resource, node_resource, slice_resource}
use Rattle.object_history.specs.Observations.{Observation, Watched, WatchExpired, Written, same_group}
use Rattle.object_history.specs.Cache.{held_after, ended_after, cached}
use Rattle.object_history.specs.LookBack.{last_shown, seen_after, expires, NoneExpires, HasEnded, AreAsShown, IsSetAsShown}
use Rattle.object_history.proofs.Held.{held_at-held_after, ascending-held_after}
use Rattle.object_history.proofs.Seen.{last_shown-is, is-last_shown}

module _ {K T : Type 0} (resource : Resource K T) where
  -- what is held of the kind
  abbrev pub held_of : List Observation → List (K × Versioned T)
  held_of [] = []
  held_of (observation ∷ earlier) = held_after resource observation (held_of earlier)

module _ {K T : Type 0} (resource : Resource K T) (o : IsTotalOrder resource.cmp) where
  ascending-held_of : (observations : List Observation) → IsStrictlySortedBy resource.cmp (keys_of (held_of resource observations))
  unfolding IsStrictlySortedBy
  ascending-held_of [] = tt
  ascending-held_of (observation ∷ earlier) = ascending-held_after resource o observation (held_of resource earlier) (ascending-held_of earlier)

module _ {K T : Type 0} (resource : Resource K T) (o : IsTotalOrder resource.cmp) (exact : CmpEqualImpliesEq resource.cmp) where
  pub held_at-held_of : (observations : List Observation) (key : K)
      → held_at resource.cmp (held_of resource observations) key ≡ last_shown resource key observations
  held_at-held_of [] key = refl
  held_at-held_of (observation ∷ earlier) key =
      held_at-held_after resource o exact key observation (held_of resource earlier) (ascending-held_of resource o earlier)
      ∙ ap (seen_after resource key observation) (held_at-held_of earlier key)

  held_of-is : (observations : List Observation) → AreAsShown resource (held_of resource observations) observations
  held_of-is observations =
      record {
        ascend = ascending-held_of resource o observations;
        each = λ key held. (
          λ e. last_shown-is resource key observations held (sym (held_at-held_of observations key) ∙ e),
          λ i. held_at-held_of observations key ∙ is-last_shown resource key observations held i,
        );
      }

  pub as_shown : (entries : List (K × Versioned T)) (observations : List Observation) → entries ≡ held_of resource observations
      → AreAsShown resource entries observations
  as_shown entries observations e = subst (λ (l : List (K × Versioned T)). AreAsShown resource l observations) (sym e) (held_of-is observations)

-- each kind by itself
pub services-held : (observations : List Observation) → (cached observations).services ≡ held_of service_resource observations
services-held [] = refl
services-held (observation ∷ earlier) = ap (held_after service_resource observation) (services-held earlier)

pub pools-held : (observations : List Observation) → (cached observations).objects.pools ≡ held_of pool_resource observations
pools-held [] = refl
pools-held (observation ∷ earlier) = ap (held_after pool_resource observation) (pools-held earlier)

pub l2s-held : (observations : List Observation) → (cached observations).objects.l2s ≡ held_of l2_resource observations
l2s-held [] = refl
l2s-held (observation ∷ earlier) = ap (held_after l2_resource observation) (l2s-held earlier)

pub bgps-held : (observations : List Observation) → (cached observations).objects.bgps ≡ held_of bgp_resource observations
bgps-held [] = refl
bgps-held (observation ∷ earlier) = ap (held_after bgp_resource observation) (bgps-held earlier)

pub peers-held : (observations : List Observation) → (cached observations).objects.peers ≡ held_of peer_resource observations
peers-held [] = refl
peers-held (observation ∷ earlier) = ap (held_after peer_resource observation) (peers-held earlier)

pub communities-held : (observations : List Observation) → (cached observations).objects.communities ≡ held_of community_resource observations
communities-held [] = refl
communities-held (observation ∷ earlier) = ap (held_after community_resource observation) (communities-held earlier)

pub namespaces-held : (observations : List Observation) → (cached observations).namespaces ≡ held_of namespace_resource observations
namespaces-held [] = refl
namespaces-held (observation ∷ earlier) = ap (held_after namespace_resource observation) (namespaces-held earlier)

pub nodes-held : (observations : List Observation) → (cached observations).nodes ≡ held_of node_resource observations
nodes-held [] = refl
nodes-held (observation ∷ earlier) = ap (held_after node_resource observation) (nodes-held earlier)

pub slices-held : (observations : List Observation) → (cached observations).slices ≡ held_of slice_resource observations
slices-held [] = refl
slices-held (observation ∷ earlier) = ap (held_after slice_resource observation) (slices-held earlier)

pub objects-as_shown : (observations : List Observation) → IsSetAsShown (cached observations).objects observations
objects-as_shown observations =
    record {
      pools = as_shown pool_resource name_cmp-total name_cmp-exact _ observations (pools-held observations);
      l2s = as_shown l2_resource name_cmp-total name_cmp-exact _ observations (l2s-held observations);
      bgps = as_shown bgp_resource name_cmp-total name_cmp-exact _ observations (bgps-held observations);
      peers = as_shown peer_resource name_cmp-total name_cmp-exact _ observations (peers-held observations);
      communities = as_shown community_resource name_cmp-total name_cmp-exact _ observations (communities-held observations);
    }

-- ---- lists that have ended
pub same_group-is : (a b : ListGroup) → same_group a b ≡ true → a ≡ b
same_group-is groups.Config groups.Config e = refl
same_group-is groups.Config groups.Service e = absurd (cc)
same_group-is groups.Config groups.Endpoint e = absurd (cc)
same_group-is groups.Service groups.Service e = refl
same_group-is groups.Service groups.Config e = absurd (cc)
same_group-is groups.Service groups.Endpoint e = absurd (cc)
same_group-is groups.Endpoint groups.Endpoint e = refl
same_group-is groups.Endpoint groups.Config e = absurd (cc)
same_group-is groups.Endpoint groups.Service e = absurd (cc)

pub same_group-itself : (a : ListGroup) → same_group a a ≡ true
same_group-itself groups.Config = refl
same_group-itself groups.Service = refl
same_group-itself groups.Endpoint = refl

abbrev pub ended_of : ListGroup → List Observation → Bool
ended_of group [] = false
ended_of group (observation ∷ earlier) = ended_after group observation (ended_of group earlier)

ended_on : (group : ListGroup) (observation : Observation) (earlier : List Observation) → expires group observation ≡ false → HasEnded group earlier
    → HasEnded group (observation ∷ earlier)
ended_on group observation earlier stays i =
    record { later = observation ∷ i.later; earlier = i.earlier; split = ap (λ (l : List Observation). observation ∷ l) i.split; lasts = (stays, i.lasts) }

ends_now : (same : Bool) (group g : ListGroup) (earlier : List Observation) → same ≡ same_group g group
    → ((ended_of group earlier ≡ true) → HasEnded group earlier)
    → (same || ended_of group earlier) ≡ true → HasEnded group (Watched (ListEnd g) ∷ earlier)
ends_now true group g earlier e ih ended =
    let is : g ≡ group = same_group-is g group (sym e) in
    record { later = []; earlier = earlier; split = ap (λ (k : ListGroup). Watched (ListEnd k) ∷ earlier) is; lasts = tt }
ends_now false group g earlier e ih ended = ended_on group (Watched (ListEnd g)) earlier refl (ih ended)

expired_not : (same : Bool) (group g : ListGroup) (earlier : List Observation) → same ≡ same_group g group
    → ((ended_of group earlier ≡ true) → HasEnded group earlier) → cond same false (ended_of group earlier) ≡ true → HasEnded group (WatchExpired g ∷ earlier)
expired_not true group g earlier e ih ended = absurd (cc)
expired_not false group g earlier e ih ended = ended_on group (WatchExpired g) earlier (sym e) (ih ended)

pub ended_of-is : (group : ListGroup) (observations : List Observation) → ended_of group observations ≡ true → HasEnded group observations
ended_of-is group [] e = absurd (cc)
ended_of-is group (Watched (Changed version object) ∷ earlier) e = ended_on group _ earlier refl (ended_of-is group earlier e)
ended_of-is group (Watched (Deleted kind key) ∷ earlier) e = ended_on group _ earlier refl (ended_of-is group earlier e)
ended_of-is group (Watched (ListEnd g) ∷ earlier) e = ends_now (same_group g group) group g earlier refl (ended_of-is group earlier) e
ended_of-is group (Watched Expired ∷ earlier) e = absurd (cc)
ended_of-is group (Watched (Members names) ∷ earlier) e = ended_on group _ earlier refl (ended_of-is group earlier e)
ended_of-is group (Watched (Frame interface bytes) ∷ earlier) e = ended_on group _ earlier refl (ended_of-is group earlier e)
ended_of-is group (Watched Ignored ∷ earlier) e = ended_on group _ earlier refl (ended_of-is group earlier e)
ended_of-is group (WatchExpired g ∷ earlier) e = expired_not (same_group g group) group g earlier refl (ended_of-is group earlier) e
ended_of-is group (Written key version holding ∷ earlier) e = ended_on group _ earlier refl (ended_of-is group earlier e)

ended_stays : (group : ListGroup) (observation : Observation) → expires group observation ≡ false → ended_after group observation true ≡ true
ended_stays group (Watched (Changed version object)) e = refl
ended_stays group (Watched (Deleted kind key)) e = refl
ended_stays group (Watched (ListEnd g)) e = or-true (same_group g group)
ended_stays group (Watched Expired) e = absurd (cc)
ended_stays group (Watched (Members names)) e = refl
ended_stays group (Watched (Frame interface bytes)) e = refl
ended_stays group (Watched Ignored) e = refl
ended_stays group (WatchExpired g) e = rw e refl
ended_stays group (Written key version holding) e = refl

ended_through : (group : ListGroup) (later earlier : List Observation) → NoneExpires group later
    → ended_of group (later ++ Watched (ListEnd group) ∷ earlier) ≡ true
ended_through group [] earlier stays = rw (same_group-itself group) refl
ended_through group (observation ∷ later) earlier stays =
    ap (ended_after group observation) (ended_through group later earlier stays.1) ∙ ended_stays group observation stays.0

pub is-ended_of : (group : ListGroup) (observations : List Observation) → HasEnded group observations → ended_of group observations ≡ true
is-ended_of group observations i = ap (ended_of group) i.split ∙ ended_through group i.later i.earlier i.lasts

pub config_ended-is : (observations : List Observation) → (cached observations).config_ended ≡ ended_of groups.Config observations
config_ended-is [] = refl
config_ended-is (observation ∷ earlier) = ap (ended_after groups.Config observation) (config_ended-is earlier)

pub services_ended-is : (observations : List Observation) → (cached observations).services_ended ≡ ended_of groups.Service observations
services_ended-is [] = refl
services_ended-is (observation ∷ earlier) = ap (ended_after groups.Service observation) (services_ended-is earlier)

pub endpoints_ended-is : (observations : List Observation) → (cached observations).endpoints_ended ≡ ended_of groups.Endpoint observations
endpoints_ended-is [] = refl
endpoints_ended-is (observation ∷ earlier) = ap (ended_after groups.Endpoint observation) (endpoints_ended-is earlier)

pub ended_both : (ended : Bool) (group : ListGroup) (observations : List Observation) → ended ≡ ended_of group observations
    → (ended ≡ true) ↔ HasEnded group observations
ended_both ended group observations e = (λ t. ended_of-is group observations (sym e ∙ t), λ i. e ∙ is-ended_of group observations i)
