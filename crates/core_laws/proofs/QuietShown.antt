-- Quiet by what the look back shows, from quiet by what the core holds.
use Rattle.std.proofs.Common.{◌≡◌, ℕ, Bool, true, false, ◌&&◌, List, [], Option, Some, None, is_some, option_map, refl, ap, subst, ◌∙◌}
use Rattle.kube_model.specs.declared.key.Key.{Key}
use Rattle.kube_model.specs.declared.put.Put.{Put}
use Rattle.kube_model.specs.declared.service.Service.{Service}
use Rattle.kube_model.specs.Keys.{has_key}
use Rattle.versioned_map.specs.declared.map.Versioned.{Versioned}
use Rattle.pool_config.specs.ConfigValue.{ConfigValue}
use Rattle.object_history.specs.Cache.{Cached, cached}
use Rattle.object_history.specs.Kinds.{service_resource}
use Rattle.object_history.specs.LookBack.{IsLastShown}
use Rattle.object_history.proofs.Force.{all_is_as_shown}
use Rattle.object_history.proofs.Seen.{is-last_shown}
use Rattle.alloc_book.specs.Asking.{Offer}
use Rattle.claim_index.specs.Claims.{holders, Holders}
use Rattle.alloc_book.proofs.PendingLaws.{holders-same}
use Rattle.core_rules.specs.Core.{is_ready, is_settled, offer_at, offer_in, pools_in, labels_of, service_of}
use Rattle.core_rules.specs.Keys.{is_free}
use Rattle.core_rules.specs.Run.{TranscriptEntry, core_after, IsRun, put_out, observed, claims_shown}
use Rattle.core_rules.proofs.Claims.{shown-held, claims_are_shown}
use Rattle.core_rules.proofs.Runs.{core_holds_what_was_observed}
use Rattle.core_laws.specs.Puts.{IsReadyBy}
use Rattle.core_laws.specs.Quiet.{MeetsRow, is_put_of}
use Rattle.core_laws.specs.QuietShown.{offer_shown, RunsAreQuietAsShown}
use Rattle.core_laws.specs.Waits.{awaits_shown}
use Rattle.core_laws.proofs.Awaiting.{awaiting-is}
use Rattle.core_laws.proofs.Puts.{class-is, labels-shown}
use Rattle.core_laws.proofs.QuietRuns.{runs_are_quiet}

ready-all : (a b : Bool) (c : Option ConfigValue) (config : ConfigValue) → a ≡ true → b ≡ true → c ≡ Some config → (a && b && is_some c) ≡ true
ready-all a b c config x y z = rw (x, y, z) refl

settled-all : (a b c : Bool) → a ≡ true → b ≡ true → c ≡ true → (a && b && c) ≡ true
settled-all a b c x y z = rw (x, y, z) refl

free-all : (queue awaiting : List Key) (key : Key) → queue ≡ [] → has_key awaiting key ≡ false → is_free queue awaiting key ≡ true
free-all queue awaiting key none unasked = rw (none, unasked) refl

no-put : (out : Option Put) (key : Key) → out ≡ None → is_put_of out key ≡ false
no-put out key e = rw e refl

module _ (class : Option (List ℕ)) (run : List TranscriptEntry) (is : IsRun class run) (idle : (core_after class run).queue ≡ []) (none : put_out run ≡ None)
    (ready : IsReadyBy (observed run)) where
  holds : (core_after class run).held ≡ cached (observed run)
  holds = (core_holds_what_was_observed class run is).0

  in-force : (core_after class run).held.config ≡ Some ready.config
  in-force = ap (λ (h : Cached). h.config) holds ∙ ((all_is_as_shown (observed run)).config ready.config).1 ready.in_force

  is-ready : is_ready (core_after class run).held ≡ true
  is-ready =
      ready-all (core_after class run).held.config_ended (core_after class run).held.services_ended (core_after class run).held.config ready.config
      (ap (λ (h : Cached). h.config_ended) holds ∙ (all_is_as_shown (observed run)).config_ended.1 ready.configured)
      (ap (λ (h : Cached). h.services_ended) holds ∙ (all_is_as_shown (observed run)).services_ended.1 ready.listed)
      in-force

  found : (key : Key) (held : Versioned Service) → IsLastShown service_resource key held (observed run)
      → service_of (core_after class run).held key ≡ Some held.object
  found key held shown =
      ap (option_map (λ (h : Versioned Service). h.object)) (shown-held class run is key ∙ is-last_shown service_resource key (observed run) held shown)

  settled : (key : Key) (held : Versioned Service) → IsLastShown service_resource key held (observed run) → awaits_shown key run ≡ false
      → is_settled (core_after class run) key ≡ true
  settled key held shown waits =
      settled-all (is_ready (core_after class run).held) (is_some (service_of (core_after class run).held key))
      (is_free (core_after class run).queue (core_after class run).awaiting key)
      is-ready (ap is_some (found key held shown))
      (free-all (core_after class run).queue (core_after class run).awaiting key idle (awaiting-is class run is key ∙ waits))

  offers : (service : Service) → offer_in (core_after class run).held service ≡ offer_shown ready.config (observed run) service
  offers service =
      ap (λ (c : Option ConfigValue). offer_at (pools_in c) (labels_of (core_after class run).held service.key.namespace) service) in-force
      ∙ ap (λ (labels : List (List ℕ × List ℕ)). offer_at ready.config.pools labels service) (labels-shown class run is service.key.namespace)

  offers-same : offer_in (core_after class run).held ≡ offer_shown ready.config (observed run)
  offers-same = λ i service. offers service i

  has-same : holders (core_after class run).claims ≡ (λ k. claims_shown k run)
  has-same = holders-same (holders (core_after class run).claims) (λ k. claims_shown k run) (claims_are_shown class run is)

  quiet : (key : Key) (held : Versioned Service) → IsLastShown service_resource key held (observed run) → awaits_shown key run ≡ false
      → MeetsRow class (offer_shown ready.config (observed run)) (λ k. claims_shown k run) held.object
  quiet key held shown waits =
      let row = runs_are_quiet class run is key held.object (settled key held shown waits)
      (no-put (core_after class run).out key ((core_holds_what_was_observed class run is).1 ∙ none)) (found key held shown) in
      let by_class = subst (λ (c : Option (List ℕ)). MeetsRow c (offer_in (core_after class run).held) (holders (core_after class run).claims) held.object)
      (class-is class run) row in
      let by_offer = subst (λ (o : Service → Offer). MeetsRow class o (holders (core_after class run).claims) held.object) offers-same by_class in
      subst (λ (h : Holders). MeetsRow class (offer_shown ready.config (observed run)) h held.object) has-same by_offer

pub runs_are_quiet_as_shown : RunsAreQuietAsShown
runs_are_quiet_as_shown class run is idle none ready key held shown waits = quiet class run is idle none ready key held shown waits
