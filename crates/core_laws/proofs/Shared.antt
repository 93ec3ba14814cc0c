-- Two services with one address share it, or the cluster showed it so: by what is new with each entry.
use Rattle.std.proofs.Common.{◌≡◌, ◌≢◌, ℕ, ◌<◌, suc, Bool, true, false, not, List, [], ◌∷◌, ◌++◌, Option, Some}
use Rattle.std.proofs.Common.{None, ◌⊎◌, inl, inr, ⊎_elim, option_map, refl, sym, ap, subst, ◌∙◌}
use Rattle.std.proofs.lemmas.Bool.{true≢false}
use Rattle.std.proofs.lemmas.List.{append-nil}
use Rattle.std.specs.List.{Contains}
use Rattle.mlb_base.specs.Items.{is_nil}
use Rattle.mlb_base.proofs.Among.{contains-none}
use Rattle.ip_ranges.specs.Values.{AddressValue}
use Rattle.kube_model.specs.declared.key.Key.{Key}
use Rattle.kube_model.specs.declared.put.Put.{Put}
use Rattle.kube_model.specs.declared.reason.Reason.{Reason}
use Rattle.kube_model.specs.declared.record.Record.{Record}
use Rattle.kube_model.specs.declared.service.Service.{Service}
use Rattle.kube_model.specs.Records.{empty_record, is_assigned}
use Rattle.sharing_terms.specs.declared.terms.Terms.{Terms}
use Rattle.sharing_terms.specs.Marked.{AreTerms, IsMarkOf}
use Rattle.sharing_terms.specs.Terms.{terms_of}
use Rattle.kube_model.specs.Service.{with_holding}
use Rattle.sharing_terms.proofs.SharingLaws.{may_share-turned}
use Rattle.versioned_map.specs.declared.map.Versioned.{Versioned}
use Rattle.object_history.proofs.Seen.{is-last_shown}
use Rattle.object_history.specs.Kinds.{service_resource}
use Rattle.object_history.specs.LookBack.{IsLastShown}
use Rattle.alloc_book.specs.declared.choice.Choice.{Choice}
use Rattle.alloc_book.specs.declared.choice.Choice.TheVariants.{Foreign, Clear, Pending, Keep, New}
use Rattle.alloc_book.specs.Asking.{Offer, asker_of}
use Rattle.claim_index.specs.Claims.{ClaimValue, Holders, terms_under}
use Rattle.alloc_book.specs.Granted.{IsFor, IsGranted}
use Rattle.sharing_terms.specs.Sharing.{MayShare}
use Rattle.core_rules.proofs.ByMark.{terms_under-marked}
use Rattle.alloc_book.proofs.ChosenLaws.{chosen_for-granted}
use Rattle.core_rules.specs.declared.turn.Turn.TheVariants.{Wants}
use Rattle.core_rules.specs.Core.{offer_at, service_of}
use Rattle.core_rules.specs.Turn.{wanted_record}
use Rattle.core_rules.specs.Run.{TranscriptEntry, Turned, core_after, IsRun, put_out, observed, terms_shown, claims_shown}
use Rattle.core_rules.proofs.Claims.{claims_are_shown, shown-held}
use Rattle.core_rules.proofs.Runs.{core_holds_what_was_observed}
use Rattle.core_laws.specs.Claimed.{IsClaimedAs}
use Rattle.core_laws.specs.Puts.{IsRightPut, labels_shown}
use Rattle.core_laws.specs.Shared.{claim_out, may_have, has_claim, age_of, ClaimsMayShare, CameShown, AreSharedOrShown, AllShowTerms, RunsAreShared}
use Rattle.core_laws.specs.Shared.{MayShareWith, SharesRightly, PutsShareRightly}
use Rattle.core_laws.specs.Shown.{HoldsOfShown}
use Rattle.core_laws.proofs.Claimed.{chosen-foreign, services_are_claimed}
use Rattle.core_laws.proofs.Keyed.{own-keys, shown-holds, observed-all, terms-kept}
use Rattle.core_laws.proofs.Puts.{puts_are_right}
use Rattle.core_laws.proofs.Ages.{has-is, has-from, has-not, age-none, age-some, age-positive, was-older, was-new, suc-less}
use Rattle.core_laws.proofs.Came.{Came, came}

-- no put is in flight where an event is taken or a turn is made
pub none-out : (class : Option (List ℕ)) (run : List TranscriptEntry) → IsRun class run → (core_after class run).out ≡ None → put_out run ≡ None
none-out class run is e = sym (core_holds_what_was_observed class run is).1 ∙ e

pub alone : (key : Key) (run : List TranscriptEntry) → put_out run ≡ None → may_have key run ≡ claims_shown key run
alone key run e = ap (λ (o : Option Put). claims_shown key run ++ claim_out key o (terms_shown key run)) e ∙ append-nil (claims_shown key run)

-- ---- a put leaves each address to whoever else has it
pub assigned_by : (addresses : List AddressValue) (a : AddressValue) → Contains addresses a → not (is_nil addresses) ≡ true
assigned_by [] a there = absurd (contains-none a there)
assigned_by (x ∷ xs) a there = refl

not-empty : (r : Record) → is_assigned r ≡ true → r ≡ empty_record → ⊥
not-empty r has e = true≢false (sym has ∙ ap is_assigned e)

-- what is written with an address was chosen, to be kept or anew
for-by : (c : Choice) (held r : Record) → is_assigned r ≡ true → c ≢ Foreign → r ≡ wanted_record held c → IsFor r c
for-by Foreign held r has own e = absurd (own refl)
for-by Clear held r has own e = absurd (not-empty r has e)
for-by (Pending reason) held r has own e = absurd (not-empty r has e)
for-by (Keep holding) held r has own e = inl (ap Keep (sym e))
for-by (New holding) held r has own e = inr (ap New (sym e))

abbrev Typed : Key → Service → Type 0
Typed key service = AreTerms (terms_of service)

typed-kept : (key : Key) (service : Service) (holding : Record) → Typed key service → Typed key (with_holding holding service)
typed-kept key service holding t = subst AreTerms (sym (terms-kept service holding)) t

module _ (class : Option (List ℕ)) (put : Put) (pending : Option Reason) (earlier : List TranscriptEntry)
    (is : IsRun class (Turned (Wants put pending) ∷ earlier)) (all : AllShowTerms earlier) (right : IsRightPut class put pending earlier) where
  abbrev service : Service
  service = right.decision.held.object

  abbrev offer : Offer
  offer = offer_at right.decision.config.pools (labels_shown service.key.namespace (observed earlier)) service

  abbrev has : Holders
  has = λ key. claims_shown key earlier

  -- something is chosen for it, since it isn't of another class
  chosen : right.decision.choice ≢ Foreign
  chosen is =
      let foreign = chosen-foreign has offer (asker_of service) right.decision.choice is class service right.decision.chosen in
      foreign.1 (right.own foreign.0)

  granted : is_assigned put.holding ≡ true → IsGranted has offer (asker_of service) put.holding
  granted assigned =
      let for : IsFor put.holding right.decision.choice = for-by right.decision.choice service.holding put.holding assigned chosen right.holding_is in
      chosen_for-granted has offer (asker_of service) class service put.holding right.decision.choice for right.decision.chosen

  of-shown : (P : Key → Service → Type 0) → ((key : Key) (s : Service) (holding : Record) → P key s → P key (with_holding holding s)) → HoldsOfShown P earlier
      → P put.key service
  of-shown P kept each =
      shown-holds P kept (observed earlier) put.key right.decision.held (observed-all P kept earlier each)
      (is-last_shown service_resource put.key (observed earlier) right.decision.held right.decision.shown)

  own : service.key ≡ put.key
  own = of-shown (λ k s. s.key ≡ k) (λ k s holding p. p) (own-keys earlier)

  marked : is_assigned put.holding ≡ true → IsMarkOf (terms_of service) put.holding.mark
  marked assigned = record { terms = of-shown Typed typed-kept all; mark = sym (ap (λ (x : Record). x.mark) (granted assigned).is) }

  shares : (other : Key) → other ≢ put.key → (d : ClaimValue) → Contains (may_have other earlier) d → (a : AddressValue) → Contains put.holding.addresses a
      → Contains d.holding.addresses a → MayShare (terms_of service) d.terms
  shares other apart d there a in_put in_d =
      ((granted (assigned_by put.holding.addresses a in_put)).usable a in_put).left other (λ same. apart (same ∙ own)) d
      (subst (λ (cs : List ClaimValue). Contains cs d) (alone other earlier (none-out class earlier is.1 is.0.0)) there) in_d

  shown : (other : Key) → other ≢ put.key → (held : Versioned Service) → IsLastShown service_resource other held (observed earlier) → (a : AddressValue)
      → Contains put.holding.addresses a → Contains held.object.holding.addresses a → MayShareWith (terms_of service) held.object
  shown other apart held last a in_put in_held =
      let found : service_of (core_after class earlier).held other ≡ Some held.object =
      ap (option_map (λ (h : Versioned Service). h.object))
      (shown-held class earlier is.1 other ∙ is-last_shown service_resource other (observed earlier) held last) in
      let claimed : IsClaimedAs (core_after class earlier).claims other held.object =
      services_are_claimed class earlier is.1 other held.object found (assigned_by held.object.holding.addresses a in_held) in
      let there : Contains (may_have other earlier) claimed.claim =
      subst (λ (cs : List ClaimValue). Contains cs claimed.claim)
      (claims_are_shown class earlier is.1 other ∙ sym (alone other earlier (none-out class earlier is.1 is.0.0))) claimed.stands in
      let by_claim : MayShare (terms_of service) claimed.claim.terms =
      shares other apart claimed.claim there a in_put (subst (λ (r : Record). Contains r.addresses a) (sym claimed.with_record) in_held) in
      record {
        marked = λ u mark. subst (MayShare (terms_of service)) (claimed.marked u mark) by_claim;
        adopted = λ none. subst (MayShare (terms_of service)) (claimed.adopted none) by_claim;
      }

pub puts_share_rightly : PutsShareRightly
puts_share_rightly class put pending earlier is all right = record {
  marked = marked class put pending earlier is all right;
  shares = shares class put pending earlier is all right;
  shown = shown class put pending earlier is all right;
}

-- ---- one entry more
pub turned : (c d : ClaimValue) → ClaimsMayShare c d → ClaimsMayShare d c
turned c d s = may_share-turned c.terms d.terms s

-- what shares with a put by the terms of its mark shares with its claim
by-mark : (r : Record) (adopted t : Terms) (c d : ClaimValue) → IsMarkOf t r.mark → terms_under r adopted ≡ c.terms → MayShare t d.terms → ClaimsMayShare c d
by-mark r adopted t c d mark is shares = subst (λ (x : Terms). MayShare x d.terms) (sym (terms_under-marked r adopted t mark) ∙ is) shares

same-some : (key other : Key) → Some key ≡ Some other → key ≡ other
same-some key other e = cc

module _ (class : Option (List ℕ)) (x : TranscriptEntry) (earlier : List TranscriptEntry) (is : IsRun class (x ∷ earlier)) (all : AllShowTerms earlier) where
  -- what came first stays so
  older : (key other : Key) (r q : ClaimValue) → has_claim key r earlier ≡ true → has_claim key r (x ∷ earlier) ≡ true → has_claim other q earlier ≡ true
      → has_claim other q (x ∷ earlier) ≡ true
      → CameShown key r other q earlier → CameShown key r other q (x ∷ earlier)
  older key other r q before now before' now' c = (
    suc-less (age_of key r earlier) (age_of other q earlier) _ _ (age-some key r x earlier now) (age-some other q x earlier now') c.0,
    was-older key r x earlier before ∙ c.1,
  )

  -- the key came to its record with this entry, and the other had its own before
  newer : (key other : Key) → key ≢ other → (r q : ClaimValue) → Contains (may_have key (x ∷ earlier)) r → has_claim key r earlier ≡ false
      → has_claim other q earlier ≡ true → has_claim other q (x ∷ earlier) ≡ true
      → (a : AddressValue) → Contains r.holding.addresses a → Contains q.holding.addresses a → ClaimsMayShare r q ⊎ CameShown key r other q (x ∷ earlier)
  newer key other apart r q there new before now a in_r in_q =
      let came_to : Came x (terms_shown key earlier) key r = came class x earlier (none-out class earlier is.1) is key r there (has-not key r earlier new) in
      let mine : age_of key r (x ∷ earlier) ≡ suc 0 = age-some key r x earlier (has-from key r (x ∷ earlier) there) ∙ ap suc (age-none key r earlier new) in
      let theirs : age_of other q (x ∷ earlier) ≡ suc (age_of other q earlier) = age-some other q x earlier now in
      let since : 0 < age_of other q earlier = age-positive other q earlier before in
      ⊎_elim
      (λ event. let younger : age_of key r (x ∷ earlier) < age_of other q (x ∷ earlier) = suc-less 0 (age_of other q earlier) _ _ mine theirs since in
      inr (younger, was-new key r x earlier new ∙ event))
      (λ p.
      let run : IsRun class (Turned (Wants p.0 p.1) ∷ earlier) = subst (λ (y : TranscriptEntry). IsRun class (y ∷ earlier)) p.2 is in
      let in_put : Contains p.0.holding.addresses a = subst (λ (y : Record). Contains y.addresses a) (sym p.3.holding_is) in_r in
      let right : IsRightPut class p.0 p.1 earlier = puts_are_right class p.0 p.1 earlier run in
      let given : SharesRightly p.0 right.decision.held.object earlier = puts_share_rightly class p.0 p.1 earlier run all right in
      inl (by-mark p.0.holding (terms_shown key earlier) (terms_of right.decision.held.object) r q (given.marked (assigned_by p.0.holding.addresses a in_put))
      p.3.terms_is (given.shares other (λ same. apart (sym (same ∙ p.3.of_key))) q (has-is other q earlier before) a in_put in_q)))
      came_to.by

  step : AreSharedOrShown earlier → AreSharedOrShown (x ∷ earlier)
  step ih key other apart r q there there' a in_r in_q = by_tests (has_claim key r earlier) (has_claim other q earlier) refl refl
    where
      now : has_claim key r (x ∷ earlier) ≡ true
      now = has-from key r (x ∷ earlier) there

      now' : has_claim other q (x ∷ earlier) ≡ true
      now' = has-from other q (x ∷ earlier) there'

      by_tests : (b c : Bool) → has_claim key r earlier ≡ b → has_claim other q earlier ≡ c → ClaimsMayShare r q ⊎ CameShown key r other q (x ∷ earlier)
          ⊎ CameShown other q key r (x ∷ earlier)
      by_tests true true e f =
          ⊎_elim (λ s. inl s)
          (λ shown. inr (⊎_elim (λ c. inl (older key other r q e now f now' c)) (λ c. inr (older other key q r f now' e now c)) shown))
          (ih key other apart r q (has-is key r earlier e) (has-is other q earlier f) a in_r in_q)
      by_tests false true e f = ⊎_elim (λ s. inl s) (λ c. inr (inl c)) (newer key other apart r q there e f now' a in_r in_q)
      by_tests true false e f = ⊎_elim (λ s. inl (turned q r s)) (λ c. inr (inr c)) (newer other key (λ same. apart (sym same)) q r there' f e now a in_q in_r)
      by_tests false false e f =
          let mine : Came x (terms_shown key earlier) key r = came class x earlier (none-out class earlier is.1) is key r there (has-not key r earlier e) in
          let theirs : Came x (terms_shown other earlier) other q =
          came class x earlier (none-out class earlier is.1) is other q there' (has-not other q earlier f) in
          absurd (apart (same-some key other (sym mine.source ∙ theirs.source)))

pub runs_are_shared : RunsAreShared
runs_are_shared class [] is all = λ key other apart r q there there' a in_r in_q. absurd (contains-none r there)
runs_are_shared class (x ∷ earlier) is all = step class x earlier is all.1 (runs_are_shared class earlier is.1 all.1)
