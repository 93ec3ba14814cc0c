-- An address that is announced from no node has no announcer, so one that no service records has none; and where all stays that decides who may announce one
-- but at some nodes, the others are eligible as before.
use Rattle.std.proofs.Common.{◌≡◌, ◌↔◌, ℕ, Bool, false, ◌&&◌, ◌||◌, List, [], ◌∷◌, filter, None, Contains, refl, sym, ap, ◌∙◌}
use Rattle.std.proofs.lemmas.Bool.{or_parts, and_right}
use Rattle.std.specs.List.{list_any}
use Rattle.ip_ranges.specs.AddressText.{canonical_text}
use Rattle.ip_ranges.specs.Values.{AddressValue, has_address}
use Rattle.kube_model.specs.declared.service.Service.{Service}
use Rattle.pool_config.specs.Choice.{chooses, selects}
use Rattle.speaker_view.specs.Change.{StaysAt}
use Rattle.speaker_view.specs.Endpoints.{announced_from, can_announce, is_recorded_in}
use Rattle.speaker_view.specs.Held.{objects_of}
use Rattle.speaker_view.specs.ViewValue.{ViewValue}
use Rattle.speaker_view.proofs.Serving.{announced_from-Decides}
use Rattle.l2_elect.specs.Eligible.{EligibleNodesStay, IsEligible, is_advertised, is_eligible, passes_in}
use Rattle.l2_elect.specs.Election.{announcer_of, best_from}
use Rattle.l2_elect.proofs.Eligibility.{advertised-means, means-advertised}

-- where a test fails everywhere, so it does with another
neither : {X : Type 0} (p q : X → Bool) (xs : List X) → list_any p xs ≡ false → list_any (λ x. p x && q x) xs ≡ false
neither p q [] e = refl
neither p q (x ∷ xs) e =
    let parts = or_parts (p x) (list_any p xs) e in
    let here = parts.0 in
    let later = neither p q xs parts.1 in
    λ i. (here i && q x) || later i

pub none-pass : {X : Type 0} (p : X → Bool) (xs : List X) → ((x : X) → p x ≡ false) → filter p xs ≡ []
none-pass p [] none = refl
none-pass p (x ∷ xs) none = rw (none x) (none-pass p xs none)

pub unannounced-none : (v : ViewValue) (a : AddressValue) → ((node : List ℕ) → announced_from v a node ≡ false) → announcer_of v a ≡ None
unannounced-none v a unannounced =
    ap (best_from (canonical_text a) None)
    (none-pass (is_eligible v a) v.members (λ node. and_right (is_advertised v node a) (announced_from v a node) (unannounced node)))

pub unrecorded-none : (v : ViewValue) (a : AddressValue) → is_recorded_in v a ≡ false → announcer_of v a ≡ None
unrecorded-none v a e =
    unannounced-none v a (λ node. neither (λ (s : Service). has_address s.holding.addresses a) (λ s. can_announce v s node) (objects_of v.held.services) e)

-- ---- what stays at another node
module _ (v w : ViewValue) (nodes : List (List ℕ)) (a : AddressValue) (stays : StaysAt v w nodes a) (node : List ℕ) (other : ¬ (Contains nodes node)) where
  advertised-stays : is_advertised w node a ≡ is_advertised v node a
  advertised-stays =
      let labels = stays.labels node other in
      λ i. passes_in (λ pool adv. chooses adv.pools adv.pool_selectors pool.name pool.labels && selects adv.node_selectors (labels i)) a (stays.config i)

  pub still-eligible : IsEligible v a node → IsEligible w a node
  still-eligible e = record {
    member = (stays.members node other).1 e.member;
    advertised = advertised-means w a node (advertised-stays ∙ means-advertised v a node e.advertised);
    recorded = (announced_from-Decides w a node).0 (stays.announced node other ∙ (announced_from-Decides v a node).1 e.recorded);
  }

  pub was-eligible : IsEligible w a node → IsEligible v a node
  was-eligible e = record {
    member = (stays.members node other).0 e.member;
    advertised = advertised-means v a node (sym advertised-stays ∙ means-advertised w a node e.advertised);
    recorded = (announced_from-Decides v a node).0 (sym (stays.announced node other) ∙ (announced_from-Decides w a node).1 e.recorded);
  }

pub eligible_nodes_stay : EligibleNodesStay
eligible_nodes_stay v w nodes a stays node other = (λ e. was-eligible v w nodes a stays node other e, λ e. still-eligible v w nodes a stays node other e)
