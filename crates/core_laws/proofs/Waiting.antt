-- A service that waits is pending: the record that it has doesn't matter.
use Rattle.std.proofs.Common.{◌≡◌, ◌≢◌, ℕ, suc, true, false, cond, List, [], ◌∷◌, map, length, filter, Option}
use Rattle.std.proofs.Common.{inl, inr, ⊎_elim, refl, sym, ap, subst, ◌∙◌}
use Rattle.std.proofs.lemmas.Bool.{and_parts, true≢false}
use Rattle.ip_ranges.specs.declared.family.Family.{Family}
use Rattle.ip_ranges.specs.Values.{AddressValue, same_family}
use Rattle.ip_ranges.proofs.AddressLaws.{same_family-itself}
use Rattle.kube_model.specs.declared.reason.Reason.{Reason}
use Rattle.kube_model.specs.declared.record.Record.{Record}
use Rattle.kube_model.specs.declared.service.Service.{Service}
use Rattle.kube_model.specs.Records.{empty_record}
use Rattle.kube_model.specs.Service.{is_handled, same_class, with_holding}
use Rattle.mlb_base.specs.Cases.{Case, IsFirst, NoneIs}
use Rattle.mlb_base.specs.Items.{Has}
use Rattle.mlb_base.proofs.CaseLaws.{case-has, first-none, none-fewer}
use Rattle.sharing_terms.specs.declared.terms.Terms.{Terms}
use Rattle.pool_config.specs.declared.compiled.CompiledPool.{CompiledPool}
use Rattle.alloc_book.specs.declared.choice.Choice.{Choice}
use Rattle.alloc_book.specs.declared.choice.Choice.TheVariants.{Foreign, Clear, Pending, Keep, New}
use Rattle.alloc_book.specs.Asking.{Asker, Offer, alone_of, options_of, asker_of, asked_in}
use Rattle.claim_index.specs.Claims.{Holders}
use Rattle.alloc_book.specs.Chosen.{AsksAddresses, Gives, IsChosen, IsChosenFor}
use Rattle.alloc_book.specs.First.{AllUsable, FitsOption, IsHome, IsKept, IsOneOfEach, record_in}
use Rattle.alloc_book.specs.Granted.{IsFor}
use Rattle.core_rules.specs.Turn.{wanted_record}
use Rattle.core_laws.specs.Quiet.{MeetsRow}
use Rattle.core_laws.specs.Waiting.{IgnoresRecords, WaitsInVain}
use Rattle.core_laws.proofs.Classes.{same_class-is}
use Rattle.core_laws.proofs.Served.{chosen-fits}
use Rattle.core_laws.proofs.Keyed.{terms-kept}

-- ---- no address is one of each family
some-wanted : (families : List Family) → families ≢ [] → ¬ (IsOneOfEach families [])
some-wanted [] some each = absurd (some refl)
some-wanted (f ∷ families) some each =
    let counted : 0 ≡ length
    (cond (same_family f f) (f ∷ filter (λ (g : Family). same_family g f) families) (filter (λ (g : Family). same_family g f) families)) = each f in
    let more : 0 ≡ suc (length (filter (λ (g : Family). same_family g f) families)) = rw (same_family-itself f) at counted in
    absurd (cc)

-- nor of each family of an option that has a family
abbrev AreSome : List (List Family) → Type 0
AreSome options = NoneIs (λ (families : List Family). families ≡ []) options

none-fits : (options : List (List Family)) → AreSome options → ¬ (Has (λ (families : List Family). IsOneOfEach families []) options)
none-fits [] some has = has
none-fits (families ∷ options) some has = ⊎_elim (λ here. some-wanted families some.0 here) (λ later. none-fits options some.1 later) has

alone-some : (families : List Family) → AreSome (map (λ (family : Family). family ∷ []) families)
alone-some [] = tt
alone-some (f ∷ families) = (λ e. absurd (cc), alone-some families)

options-some : (service : Service) → service.families ≢ [] → AreSome (options_of service)
options-some service some = (some, alone-some (alone_of service.prefer_dual service.families))

-- ---- the same choice under another record
first-turned : {X : Type 0} (P Q : X → Type 0) (xs : List X) (x : X) → ((z : X) → P z → Q z) → ((z : X) → Q z → P z) → IsFirst P xs x → IsFirst Q xs x
first-turned P Q [] x to back first = first
first-turned P Q (z ∷ zs) x to back first =
    ⊎_elim (λ here. inl (to z here.0, here.1)) (λ there. inr (λ q. there.0 (back z q), first-turned P Q zs x to back there.1)) first

case-turned : (W V A B R S : Type 0) → (W → V) → (V → W) → (A → B) → (R → S) → Case W A R → Case V B S
case-turned W V A B R S to back answer rest c = ⊎_elim (λ here. inl (to here.0, answer here.1)) (λ there. inr (λ v. there.0 (back v), rest there.1)) c

module _ (has : Holders) (o : Offer) (q : Asker) (addresses : List AddressValue) where
  abbrev with : Asker
  with = record q { recorded = addresses }

  home-to : (pool : CompiledPool) → IsHome o q pool → IsHome o with pool
  home-to pool h = record { is_open = h.is_open; in_pool = h.in_pool }

  home-back : (pool : CompiledPool) → IsHome o with pool → IsHome o q pool
  home-back pool h = record { is_open = h.is_open; in_pool = h.in_pool }

  homes-to : (pool : CompiledPool) → IsFirst (IsHome o q) o.pools pool → IsFirst (IsHome o with) o.pools pool
  homes-to pool first = first-turned (IsHome o q) (IsHome o with) o.pools pool home-to home-back first

  homes-back : (pool : CompiledPool) → IsFirst (IsHome o with) o.pools pool → IsFirst (IsHome o q) o.pools pool
  homes-back pool first = first-turned (IsHome o with) (IsHome o q) o.pools pool home-back home-to first

  same : (W A S : Type 0) {R : Type 0} → (R → S) → Case W A R → Case W A S
  same W A S then c = ⊎_elim (λ here. inl here) (λ there. inr (there.0, then there.1)) c

  -- the cases after that of a record which stays
  behind : (c : Choice) (A B C : Type 0)
      → Case (AsksAddresses q × NoneIs (IsHome o q) o.pools) A
      (Case (AsksAddresses q × ((pool : CompiledPool) × IsFirst (IsHome o q) o.pools pool × ¬ (AllUsable has q pool (asked_in q.wanted)))) B
      (Case (AsksAddresses q) ((pool : CompiledPool) × IsFirst (IsHome o q) o.pools pool × AllUsable has q pool (asked_in q.wanted)
      × (c ≡ New (record_in pool q (asked_in q.wanted)))) C))
      → Case (AsksAddresses with × NoneIs (IsHome o with) o.pools) A
      (Case (AsksAddresses with × ((pool : CompiledPool) × IsFirst (IsHome o with) o.pools pool × ¬ (AllUsable has with pool (asked_in with.wanted)))) B
      (Case (AsksAddresses with) ((pool : CompiledPool) × IsFirst (IsHome o with) o.pools pool × AllUsable has with pool (asked_in with.wanted)
      × (c ≡ New (record_in pool with (asked_in with.wanted)))) C))
  behind c A B C rest =
      case-turned _ _ _ _ _ _
      (λ w. (w.0, none-fewer (IsHome o q) (IsHome o with) o.pools home-back w.1))
      (λ v. (v.0, none-fewer (IsHome o with) (IsHome o q) o.pools home-to v.1))
      (λ a. a)
      (λ more. case-turned _ _ _ _ _ _
      (λ w. (w.0, (w.1.0, homes-to w.1.0 w.1.1, w.1.2)))
      (λ v. (v.0, (v.1.0, homes-back v.1.0 v.1.1, v.1.2)))
      (λ a. a)
      (λ last. case-turned _ _ _ _ _ _ (λ w. w) (λ v. v) (λ home. (home.0, homes-to home.0 home.1, home.2, home.3)) (λ end. end) last)
      more)
      rest

  -- what is pending under one record is pending under another that can't be kept
  pub pending-turned : ¬ ((pool : CompiledPool) × IsFirst (IsKept has o with) o.pools pool) → (class : Option (List ℕ)) (service : Service) (r : Reason)
      → IsChosenFor has o class service q (Pending r) → IsChosenFor has o class service with (Pending r)
  pending-turned none class service r =
      same _ _ _ (same _ _ _ (same _ _ _ (same _ _ _ (same _ _ _ (same _ _ _
      (λ seventh. ⊎_elim
      (λ kept. let is = kept.1.2 in absurd (cc))
      (λ rest. inr (none, behind (Pending r) _ _ _ rest.1))
      seventh))))))

-- ---- a handled service is neither foreign nor to be cleared
handled-parts : (class : Option (List ℕ)) (service : Service) → is_handled class service ≡ true → (service.balancer ≡ true) × (service.class ≡ class)
handled-parts class service e =
    let parts = and_parts service.balancer (same_class class service.class) e in
    (parts.0, (same_class-is class service.class).0 parts.1)

-- it is no reason and no record
abbrev IsBare : Choice → Type 0
IsBare Foreign = Unit {0}
IsBare Clear = Unit {0}
IsBare (Pending reason) = ⊥
IsBare (Keep holding) = ⊥
IsBare (New holding) = ⊥

given-bare : (has : Holders) (q : Asker) (c : Choice) → IsBare c → (pools : List CompiledPool) (reason : Reason) → Gives has q pools reason c → ⊥
given-bare has q c bare pools reason gives = ⊎_elim (λ new. subst IsBare new.2 bare) (λ full. subst IsBare full.1 bare) gives

-- such a choice is made by the type and the class alone
bare-chosen : (has : Holders) (o : Offer) (class : Option (List ℕ)) (service : Service) (q : Asker) (c : Choice) → IsBare c
    → ((service.balancer ≡ true) × (service.class ≢ class) → c ≡ Foreign → ⊥) → (service.balancer ≡ false → c ≡ Clear → ⊥) → IsChosenFor has o class service q c
    → ⊥
bare-chosen has o class service q c bare foreign clear =
    case-has _ _ _ _ foreign (λ _.
    case-has _ _ _ _ clear (λ _.
    case-has _ _ _ _ (λ _ is. subst IsBare is bare) (λ _.
    case-has _ _ _ _ (λ _ is. subst IsBare is bare) (λ _.
    case-has _ _ _ _ (λ _ is. subst IsBare is bare) (λ _.
    case-has _ _ _ _ (λ _ is. subst IsBare is bare) (λ _.
    case-has _ _ _ _ (λ _ kept. subst IsBare kept.2 bare) (λ _.
    case-has _ _ _ _ (λ _ is. subst IsBare is bare) (λ _.
    case-has _ _ _ _ (λ _ is. subst IsBare is bare) (λ _.
    case-has _ _ _ _ (λ _ home. subst IsBare home.3 bare) (λ _.
    case-has _ _ _ _ (λ _ gives. given-bare has q c bare _ _ gives) (λ _.
    case-has _ _ _ _ (λ _ is. subst IsBare is bare) (λ _ gives. given-bare has q c bare _ _ gives))))))))))))

pub not-foreign : (has : Holders) (o : Offer) (class : Option (List ℕ)) (service : Service) (q : Asker) → is_handled class service ≡ true
    → IsChosenFor has o class service q Foreign → ⊥
not-foreign has o class service q handled =
    bare-chosen has o class service q Foreign tt (λ other _. other.1 (handled-parts class service handled).1) (λ _ is. absurd (cc))

pub not-cleared : (has : Holders) (o : Offer) (class : Option (List ℕ)) (service : Service) (q : Asker) → is_handled class service ≡ true
    → IsChosenFor has o class service q Clear → ⊥
not-cleared has o class service q handled =
    bare-chosen has o class service q Clear tt (λ _ is. absurd (cc)) (λ bare _. true≢false (sym (handled-parts class service handled).0 ∙ bare))

-- the asker with another record
asker-with : (service : Service) (holding : Record) → asker_of (with_holding holding service) ≡ record (asker_of service) { recorded = holding.addresses }
asker-with service holding =
    let by : Terms → Asker = λ terms. record {
      key = service.key;
      terms = terms;
      options = options_of service;
      wanted = service.wanted;
      pool_asked = service.pool_asked;
      recorded = holding.addresses;
    } in
    ap by (terms-kept service holding)

-- with no address nothing is kept
kept-none : (has : Holders) (o : Offer) (q : Asker) → AreSome q.options → q.recorded ≡ [] → ¬ ((pool : CompiledPool) × IsFirst (IsKept has o q) o.pools pool)
kept-none has o q some none found =
    first-none (IsKept has o q) o.pools found.0 found.1 (all-not o.pools)
  where
    not-kept : (pool : CompiledPool) → ¬ (IsKept has o q pool)
    not-kept pool k = none-fits q.options some (subst (FitsOption q) none k.fits)

    all-not : (pools : List CompiledPool) → NoneIs (IsKept has o q) pools
    all-not [] = tt
    all-not (pool ∷ pools) = (not-kept pool, all-not pools)

module _ (class : Option (List ℕ)) (offer_for : Service → Offer) (has : Holders) (service : Service) (same : IgnoresRecords offer_for)
    (row : MeetsRow class offer_for has service)
    (handled : is_handled class service ≡ true) (some : service.families ≢ []) (empty : service.holding ≡ empty_record) where
  before-handled : is_handled class row.before ≡ true
  before-handled = sym (ap (is_handled class) row.only_record) ∙ handled

  before-some : AreSome (options_of row.before)
  before-some = options-some row.before (λ e. some (ap (λ (s : Service). s.families) row.only_record ∙ e))

  -- a record with no address was not chosen
  not-served : (r : Record) → IsFor r row.choice → service.holding ≡ r → ⊥
  not-served r for is =
      let fits : FitsOption (asker_of row.before) r.addresses = chosen-fits row.chosen_by (offer_for row.before) class row.before r row.choice for row.chosen in
      none-fits (options_of row.before) before-some (subst (λ (x : Record). FitsOption (asker_of row.before) x.addresses) (sym is ∙ empty) fits)

  pending-of : (reason : Reason) → row.choice ≡ Pending reason → IsChosen has (offer_for service) class service (Pending reason)
  pending-of reason is =
      let now = row.pending_now reason is in
      let addresses = service.holding.addresses in
      let none : addresses ≡ [] = ap (λ (r : Record). r.addresses) empty in
      let by = asker-with row.before service.holding in
      let turned = pending-turned has (offer_for row.before) (asker_of row.before) addresses
      (kept-none has (offer_for row.before) (record (asker_of row.before) { recorded = addresses }) before-some none) class row.before reason now in
      let asked = subst (λ q. IsChosenFor has (offer_for row.before) class row.before q (Pending reason)) (sym by) turned in
      let offered = subst (λ o. IsChosenFor has o class row.before (asker_of (with_holding service.holding row.before)) (Pending reason))
      (sym (same row.before service.holding)) asked in
      subst (λ (s : Service). IsChosen has (offer_for s) class s (Pending reason)) (sym row.only_record) offered

  waits-by : (c : Choice) → row.choice ≡ c → (reason : Reason) × IsChosen has (offer_for service) class service (Pending reason)
  waits-by Foreign e = absurd (not-foreign row.chosen_by (offer_for row.before) class row.before (asker_of row.before) before-handled
      (subst (IsChosen row.chosen_by (offer_for row.before) class row.before) e row.chosen))
  waits-by Clear e = absurd (not-cleared row.chosen_by (offer_for row.before) class row.before (asker_of row.before) before-handled
      (subst (IsChosen row.chosen_by (offer_for row.before) class row.before) e row.chosen))
  waits-by (Pending reason) e = (reason, pending-of reason e)
  waits-by (Keep holding) e = absurd (not-served holding (inl e) (row.holding_is ∙ ap (wanted_record row.before.holding) e))
  waits-by (New holding) e = absurd (not-served holding (inr e) (row.holding_is ∙ ap (wanted_record row.before.holding) e))

pub waits_in_vain : WaitsInVain
waits_in_vain class offer_for has service same row handled some empty = waits-by class offer_for has service same row handled some empty row.choice refl
