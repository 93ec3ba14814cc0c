-- What a settled service has.
use Rattle.std.proofs.Common.{◌≡◌, ◌≢◌, ℕ, Bool, true, false, ◌&&◌, List, Option, Some, None, filter, inl, inr, refl, sym, ap, subst, ◌∙◌, ⊎_elim}
use Rattle.std.proofs.lemmas.Bool.{true≢false}
use Rattle.kube_model.specs.declared.record.Record.{Record}
use Rattle.kube_model.specs.declared.service.Service.{Service}
use Rattle.kube_model.specs.Records.{empty_record}
use Rattle.kube_model.specs.Service.{is_handled, with_holding}
use Rattle.sharing_terms.specs.Terms.{terms_of}
use Rattle.pool_config.specs.declared.compiled.CompiledPool.{CompiledPool}
use Rattle.pool_config.specs.declared.compiled.CompiledAllocation.{CompiledAllocation}
use Rattle.pool_choice.specs.Serving.{serves, serves_by}
use Rattle.pool_choice.specs.Rank.{pool_cmp}
use Rattle.pool_choice.specs.Sorted.{sorted}
use Rattle.alloc_book.specs.declared.choice.Choice.{Choice}
use Rattle.alloc_book.specs.declared.choice.Choice.TheVariants.{Foreign, Clear, Pending, Keep, New}
use Rattle.alloc_book.specs.Asking.{Asker, Offer, asker_of, options_of}
use Rattle.claim_index.specs.Claims.{Holders}
use Rattle.alloc_book.specs.Chosen.{IsChosen}
use Rattle.alloc_book.specs.Granted.{IsFor}
use Rattle.core_rules.specs.Core.{offer_at}
use Rattle.core_rules.specs.Turn.{wanted_record}
use Rattle.core_laws.specs.Puts.{labels_shown}
use Rattle.core_laws.specs.Quiet.{MeetsRow}
use Rattle.core_laws.specs.Served.{IsServed}
use Rattle.core_laws.specs.Settled.{OffersAreForServices, HeldAreServed, OthersAreBare}
use Rattle.core_laws.specs.Waiting.{AreForService}
use Rattle.core_laws.proofs.Served.{chosen_is_served}
use Rattle.core_laws.proofs.ServedRows.{eligible-offered}
use Rattle.core_laws.proofs.Keyed.{terms-kept}
use Rattle.core_laws.proofs.Waiting.{not-foreign, not-cleared}

-- ---- a record doesn't matter to what there is
served-by : (allocation : Option CompiledAllocation) (service : Service) (holding : Record) (labels : List (List ℕ × List ℕ))
    → serves_by allocation (with_holding holding service) labels ≡ serves_by allocation service labels
served-by None service holding labels = refl
served-by (Some a) service holding labels = refl

serves-kept : (service : Service) (holding : Record) (labels : List (List ℕ × List ℕ))
    → ◌≡◌ {A = CompiledPool → Bool} (serves (with_holding holding service) labels) (serves service labels)
serves-kept service holding labels = λ i pool. served-by pool.allocation service holding labels i

offer-kept : (pools : List CompiledPool) (labels : List (List ℕ × List ℕ)) (service : Service) (holding : Record)
    → offer_at pools labels (with_holding holding service) ≡ offer_at pools labels service
offer-kept pools labels service holding =
    let by : (CompiledPool → Bool) → Offer =
    λ test. record { pools = pools; serves = test; eligible = sorted pool_cmp (filter (λ (pool : CompiledPool). pool.auto_assign && test pool) pools) } in
    ap by (serves-kept service holding labels)

pub offers_are_for_services : OffersAreForServices
offers_are_for_services config observations = record {
  same = λ service holding. offer-kept config.pools (labels_shown service.key.namespace observations) service holding;
  offered = λ service. eligible-offered config.pools (labels_shown service.key.namespace observations) service;
}

-- ---- a record that was chosen
served-for : (has : Holders) (o : Offer) (q : Asker) (before : Service) (r : Record) → q.key ≡ before.key → q.terms ≡ terms_of before
    → q.options ≡ options_of before → q.wanted ≡ before.wanted → q.pool_asked ≡ before.pool_asked
    → IsServed has o (asker_of before) r → IsServed has o q r
served-for has o q before r k t f w p s = record {
  pool = s.pool;
  stands = s.stands;
  serves = s.serves;
  fits = rw f s.fits;
  usable = λ a there. let u = s.usable a there in record { in_pool = u.in_pool; not_avoided = u.not_avoided; left = rw (k, t) u.left };
  as_asked = rw w s.as_asked;
  from_asked = rw p s.from_asked;
  is = rw t s.is;
}

module _ (class : Option (List ℕ)) (offer_for : Service → Offer) (has : Holders) (service : Service) (for_service : AreForService offer_for)
    (row : MeetsRow class offer_for has service)
    (handled : is_handled class service ≡ true) (some : service.holding ≢ empty_record) where
  handled-before : is_handled class row.before ≡ true
  handled-before = sym (ap (is_handled class) row.only_record) ∙ handled

  same-offer : offer_for row.before ≡ offer_for service
  same-offer = sym (for_service.same row.before service.holding) ∙ ap offer_for (sym row.only_record)

  served : (r : Record) → IsFor r row.choice → service.holding ≡ r → (by : Holders) × IsServed by (offer_for service) (asker_of service) service.holding
  served r for is =
      let before : IsServed row.chosen_by (offer_for row.before) (asker_of row.before) r =
      chosen_is_served row.chosen_by (offer_for row.before) class row.before r row.choice (for_service.offered row.before) for row.chosen in
      let offered : IsServed row.chosen_by (offer_for service) (asker_of row.before) r =
      subst (λ (o : Offer). IsServed row.chosen_by o (asker_of row.before) r) same-offer before in
      let held : IsServed row.chosen_by (offer_for service) (asker_of row.before) service.holding =
      subst (IsServed row.chosen_by (offer_for service) (asker_of row.before)) (sym is) offered in
      let e = row.only_record in (
        row.chosen_by,
        served-for row.chosen_by (offer_for service) (asker_of service) row.before service.holding
            (ap (λ (s : Service). s.key) e) (ap terms_of e ∙ terms-kept row.before service.holding) (ap options_of e)
            (ap (λ (s : Service). s.wanted) e) (ap (λ (s : Service). s.pool_asked) e) held,
      )

  served-by-choice : (c : Choice) → row.choice ≡ c → (by : Holders) × IsServed by (offer_for service) (asker_of service) service.holding
  served-by-choice Foreign e = absurd (not-foreign row.chosen_by (offer_for row.before) class row.before (asker_of row.before) handled-before
      (subst (IsChosen row.chosen_by (offer_for row.before) class row.before) e row.chosen))
  served-by-choice Clear e = absurd (not-cleared row.chosen_by (offer_for row.before) class row.before (asker_of row.before) handled-before
      (subst (IsChosen row.chosen_by (offer_for row.before) class row.before) e row.chosen))
  served-by-choice (Pending reason) e = absurd (some (row.holding_is ∙ ap (wanted_record row.before.holding) e))
  served-by-choice (Keep holding) e = served holding (inl e) (row.holding_is ∙ ap (wanted_record row.before.holding) e)
  served-by-choice (New holding) e = served holding (inr e) (row.holding_is ∙ ap (wanted_record row.before.holding) e)

pub held_are_served : HeldAreServed
held_are_served class offer_for has service for_service row handled some =
    served-by-choice class offer_for has service for_service row handled some row.choice refl

-- ---- a service of another type
cleared : (has : Holders) (o : Offer) (class : Option (List ℕ)) (service : Service) (c : Choice) → service.balancer ≡ false → IsChosen has o class service c
    → c ≡ Clear
cleared has o class service c other chosen =
    ⊎_elim
    (λ one. absurd (true≢false (sym one.0.0 ∙ other)))
    (λ rest. ⊎_elim (λ two. two.1) (λ more. absurd (more.0 other)) rest.1)
    chosen

pub others_are_bare : OthersAreBare
others_are_bare class offer_for has service row other =
    let before : row.before.balancer ≡ false = sym (ap (λ (s : Service). s.balancer) row.only_record) ∙ other in
    row.holding_is ∙ ap (wanted_record row.before.holding) (cleared row.chosen_by (offer_for row.before) class row.before row.choice before row.chosen)
