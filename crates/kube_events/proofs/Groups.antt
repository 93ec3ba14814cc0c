-- Fields that are read in groups are read as they are one after the other.
use Rattle.std.proofs.Common.{◌≡◌, Bool, List, Result, Ok, Err, refl, sym, ap, subst, ◌∙◌}
use Rattle.serde_json.specs.Data.{Data}
use Rattle.json_fields.specs.Path.{Path}
use Rattle.json_fields.specs.Reading.{◌>>=◌, Fails, Gives}
use Rattle.json_fields.specs.declared.fault.FieldFault.{FieldFault}
use Rattle.ip_ranges.specs.Values.{AddressValue}
use Rattle.ip_ranges.specs.declared.family.Family.{Family}
use Rattle.kube_model.specs.declared.key.Key.{Key}
use Rattle.kube_model.specs.declared.port.Port.{Port}
use Rattle.kube_model.specs.declared.service.Policy.{Policy}
use Rattle.kube_model.specs.declared.service.Service.{Service}
use Rattle.kube_model.proofs.Fails.{Fails-bind}
use Rattle.kube_events.specs.declared.service_fields.Notes.{Notes}
use Rattle.kube_events.specs.declared.service_fields.Request.{Request}
use Rattle.kube_events.specs.declared.service_fields.Traffic.{Traffic}
use Rattle.kube_events.specs.SliceFields.{endpoints_field, service_named, slice_of, slice_with}
use Rattle.kube_events.specs.Fields.{Pairs, in_turn, labels_field, pools_field, pool_selectors_field, node_selectors_field}
use Rattle.kube_events.specs.BgpFields.{length_field, length_v6_field, local_pref_field, communities_field}
use Rattle.kube_events.specs.BgpFields.{peers_field, bgp_of, route_spec_of, choice_spec_of, bgp_with}
use Rattle.kube_events.specs.ServiceFields.{annotations_field, balancer_field, class_field, address_field, families_field, prefer_dual_field, policy_field}
use Rattle.kube_events.specs.ServiceFields.{selector_field, ports_field, places_field, service_of, notes_of, request_of, traffic_of, recorded_of}
use Rattle.kube_events.specs.ServiceFields.{spec_with, service_with}
use Rattle.kube_events.specs.Wanted.{wanted_of}

in_group : {A B C : Type 0} (first : Result A Path) (then : A → Result B Path) (next : B → Result C Path)
    → ((first >>= then) >>= next) ≡ (first >>= λ a. then a >>= next)
in_group (Ok a) then next = refl
in_group (Err path) then next = refl

same_then : {A B : Type 0} (first : Result A Path) (then other : A → Result B Path) → ((a : A) → then a ≡ other a) → (first >>= then) ≡ (first >>= other)
same_then (Ok a) then other same = same a
same_then (Err path) then other same = refl

pub group_of_two : {A B C D : Type 0} (first : Result A Path) (second : Result B Path) (make : A → B → C) (next : C → Result D Path)
    → ((first >>= λ a. second >>= λ b. Ok (make a b)) >>= next) ≡ (first >>= λ a. second >>= λ b. next (make a b))
group_of_two (Ok a) (Ok b) make next = refl
group_of_two (Ok a) (Err path) make next = refl
group_of_two (Err path) second make next = refl

group_of_three : {A B C D E : Type 0} (first : Result A Path) (second : Result B Path) (third : Result C Path) (make : A → B → C → D) (next : D → Result E Path)
    → ((first >>= λ a. second >>= λ b. third >>= λ c. Ok (make a b c)) >>= next) ≡ (first >>= λ a. second >>= λ b. third >>= λ c. next (make a b c))
group_of_three (Ok a) second third make next = group_of_two second third (make a) next
group_of_three (Err path) second third make next = refl

group_of_four : {A B C D E F : Type 0} (first : Result A Path) (second : Result B Path) (third : Result C Path) (fourth : Result D Path)
    (make : A → B → C → D → E) (next : E → Result F Path)
    → ((first >>= λ a. second >>= λ b. third >>= λ c. fourth >>= λ d. Ok (make a b c d)) >>= next)
    ≡ (first >>= λ a. second >>= λ b. third >>= λ c. fourth >>= λ d. next (make a b c d))
group_of_four (Ok a) second third fourth make next = group_of_three second third fourth (make a) next
group_of_four (Err path) second third fourth make next = refl

group_of_five : {A B C D E F G : Type 0} (first : Result A Path) (second : Result B Path) (third : Result C Path) (fourth : Result D Path)
    (fifth : Result E Path) (make : A → B → C → D → E → F) (next : F → Result G Path)
    → ((first >>= λ a. second >>= λ b. third >>= λ c. fourth >>= λ d. fifth >>= λ e. Ok (make a b c d e)) >>= next)
    ≡ (first >>= λ a. second >>= λ b. third >>= λ c. fourth >>= λ d. fifth >>= λ e. next (make a b c d e))
group_of_five (Ok a) second third fourth fifth make next = group_of_four second third fourth fifth (make a) next
group_of_five (Err path) second third fourth fifth make next = refl

pub bgp_grouped : (d : Data) → (route_spec_of d >>= λ route. choice_spec_of d >>= λ choice. Ok (bgp_with (record { route = route; choice = choice })))
    ≡ bgp_of d
unfolding bgp_of route_spec_of choice_spec_of
bgp_grouped d =
    group_of_four (length_field d) (length_v6_field d) (local_pref_field d) (communities_field d)
    (λ length length_v6 local_pref communities. record { length = length; length_v6 = length_v6; local_pref = local_pref; communities = communities }) _
    ∙ same_then (length_field d) _ _ (λ length.
    same_then (length_v6_field d) _ _ (λ length_v6.
    same_then (local_pref_field d) _ _ (λ local_pref.
    same_then (communities_field d) _ _ (λ communities.
    group_of_four (pools_field d) (pool_selectors_field d) (node_selectors_field d) (peers_field d) (λ pools pool_selectors node_selectors peers.
    record { pools = pools; pool_selectors = pool_selectors; node_selectors = node_selectors; peers = peers }) _))))

abbrev pub traffic_with : List Family → Bool → Policy → Pairs × List Port → Traffic
traffic_with families prefer_dual policy ends =
    record { families = families; prefer_dual = prefer_dual; policy = policy; selector = ends.0; ports = ends.1 }

pub traffic_grouped : (d : Data)
    → (families_field d >>= λ families. prefer_dual_field d >>= λ prefer_dual. policy_field d >>= λ policy. in_turn (selector_field d) (ports_field d)
    >>= λ ends. Ok (traffic_with families prefer_dual policy ends)) ≡ traffic_of d
unfolding traffic_of
traffic_grouped d =
    same_then (families_field d) _ _ (λ families.
    same_then (prefer_dual_field d) _ _ (λ prefer_dual.
    same_then (policy_field d) _ _ (λ policy.
    group_of_two (selector_field d) (ports_field d) (λ selector ports. (selector, ports)) (λ ends. Ok (traffic_with families prefer_dual policy ends)))))

-- two that are read in turn give what they stand for in turn
pub Gives-in_turn : {A B : Type 0} (both : Result (A × B) FieldFault) (first : Result A FieldFault) (second : Result B FieldFault)
    (r : Result A Path) (s : Result B Path)
    → both ≡ in_turn first second → Gives (λ x. x) first r → Gives (λ x. x) second s → Gives (λ x. x) both (in_turn r s)
Gives-in_turn both (Ok a) (Ok b) r s is h k = rw (is, h, k) refl
Gives-in_turn both (Ok a) (Err fault) r s is h k = rw (is, h) (Fails-bind fault s _ k)
Gives-in_turn both (Err fault) second r s is h k = rw is (Fails-bind fault r _ h)

in_two_turns : {A B C D E : Type 0} (first : Result A Path) (second : Result B Path) (third : Result C Path) (fourth : Result D Path) (make : A → B → C → D → E)
    → (in_turn (in_turn first second) (in_turn third fourth) >>= λ all. Ok (make all.0.0 all.0.1 all.1.0 all.1.1))
    ≡ (first >>= λ a. second >>= λ b. third >>= λ c. fourth >>= λ d. Ok (make a b c d))
in_two_turns (Ok a) (Ok b) (Ok c) (Ok d) make = refl
in_two_turns (Ok a) (Ok b) (Ok c) (Err path) make = refl
in_two_turns (Ok a) (Ok b) (Err path) fourth make = refl
in_two_turns (Ok a) (Err path) third fourth make = refl
in_two_turns (Err path) second third fourth make = refl

-- four that are read in two turns are read as they are one after the other
pub Gives-two_turns : {A B C D E : Type 0} (first : Result A FieldFault) (second : Result B FieldFault)
    (third : Result C FieldFault) (fourth : Result D FieldFault)
    (one : Result (A × B) FieldFault) (other : Result (C × D) FieldFault) (all : Result ((A × B) × (C × D)) FieldFault)
    (r : Result A Path) (s : Result B Path) (t : Result C Path) (u : Result D Path) (make : A → B → C → D → E)
    → one ≡ in_turn first second → other ≡ in_turn third fourth → all ≡ in_turn one other
    → Gives (λ x. x) first r → Gives (λ x. x) second s → Gives (λ x. x) third t → Gives (λ x. x) fourth u
    → Gives (λ parts. make parts.0.0 parts.0.1 parts.1.0 parts.1.1) all (r >>= λ a. s >>= λ b. t >>= λ c. u >>= λ d. Ok (make a b c d))
Gives-two_turns {A = A} {B = B} {C = C} {D = D} {E = E} first second third fourth one other all r s t u make ones others alls h k l m =
    go all (Gives-in_turn all one other (in_turn r s) (in_turn t u) alls (Gives-in_turn one first second r s ones h k)
    (Gives-in_turn other third fourth t u others l m))
  where
    go : (all : Result ((A × B) × (C × D)) FieldFault) → Gives (λ x. x) all (in_turn (in_turn r s) (in_turn t u))
        → Gives (λ parts. make parts.0.0 parts.0.1 parts.1.0 parts.1.1) all (r >>= λ a. s >>= λ b. t >>= λ c. u >>= λ d. Ok (make a b c d))
    go (Ok parts) h = sym (in_two_turns r s t u make) ∙ ap (λ (read : Result ((A × B) × (C × D)) Path).
        read >>= λ all. Ok (make all.0.0 all.0.1 all.1.0 all.1.1)) h
    go (Err fault) h = subst (λ (read : Result E Path). Fails fault read) (in_two_turns r s t u make) (Fails-bind fault _ _ h)

-- the service of the parts
abbrev pub read_service : Notes → Request → Traffic → List AddressValue → Key → Pairs → Service
read_service notes request traffic addresses =
    service_with (spec_with notes request (wanted_of notes.addresses_asked request.address) traffic addresses)

pub slice_grouped : (d : Data)
    → (service_named d >>= λ service. endpoints_field d >>= λ endpoints. Ok (slice_with (record { service = service; endpoints = endpoints })))
    ≡ slice_of d
unfolding slice_of service_named
slice_grouped d = in_group (labels_field d) _ _

pub service_grouped : (d : Data)
    → (notes_of d >>= λ notes. request_of d >>= λ request. traffic_of d >>= λ traffic. recorded_of d >>= λ addresses.
    Ok (read_service notes request traffic addresses)) ≡ service_of d
unfolding service_of notes_of request_of traffic_of recorded_of
service_grouped d =
    in_group (annotations_field d) _ _
    ∙ same_then (annotations_field d) _ _ (λ annotations.
    group_of_three (balancer_field d) (class_field d) (address_field d)
    (λ balancer class address. record { balancer = balancer; class = class; address = address }) _
    ∙ same_then (balancer_field d) _ _ (λ balancer.
    same_then (class_field d) _ _ (λ class.
    same_then (address_field d) _ _ (λ address.
    group_of_five (families_field d) (prefer_dual_field d) (policy_field d) (selector_field d) (ports_field d) (λ families prefer_dual policy selector ports.
    record { families = families; prefer_dual = prefer_dual; policy = policy; selector = selector; ports = ports }) _
    ∙ same_then (families_field d) _ _ (λ families.
    same_then (prefer_dual_field d) _ _ (λ prefer_dual.
    same_then (policy_field d) _ _ (λ policy.
    same_then (selector_field d) _ _ (λ selector.
    same_then (ports_field d) _ _ (λ ports.
    in_group (places_field d) _ _)))))))))
