-- Each held service has the claim of its record, and others after it while a put of it is in doubt.
use Rattle.std.proofs.Common.{◌≡◌, ◌≢◌, ℕ, Bool, true, false, cond, eqb, leb, ◌&&◌, ◌||◌, not, List, [], ◌∷◌, ◌++◌, Option, Some, None, option_map}
use Rattle.std.proofs.Common.{append-nil, append_assoc, ◌⊎◌, inl, inr, ⊎_elim, refl, sym, ap, subst, ◌∙◌}
use Rattle.std.proofs.lemmas.Bool.{true≢false, or_parts}
use Rattle.std.proofs.lemmas.List.Folds.{list_any-append}
use Rattle.std.proofs.lemmas.Option.{same_Some}
use Rattle.std.proofs.lemmas.List.Elements.{Contains-append_left}
use Rattle.std.proofs.lemmas.Map.Entries.{option_filter}
use Rattle.std.specs.List.{Contains, list_any}
use Rattle.std.specs.List.Sorted.{IsStrictlySortedBy}
use Rattle.std.specs.Map.{keys_of}
use Rattle.std.specs.Option.{option_map_or, unwrap_or}
use Rattle.kube_model.specs.declared.event.Event.{Event}
use Rattle.kube_model.specs.declared.event.ListGroup.{ListGroup}
use Rattle.kube_model.specs.declared.event.ListGroup.TheVariants as groups
use Rattle.kube_model.specs.declared.key.Key.{Key}
use Rattle.kube_model.specs.declared.put.Put.{Put}
use Rattle.kube_model.specs.declared.record.Record.{Record}
use Rattle.kube_model.specs.declared.reply.PutReply.{PutReply}
use Rattle.kube_model.specs.declared.reply.PutReply.TheVariants.{Ok as StoredReply, Stale, Missing, Unknown}
use Rattle.kube_model.specs.declared.service.Service.{Service}
use Rattle.kube_model.specs.Keys.{key_cmp, same_key}
use Rattle.kube_model.specs.Records.{is_assigned, same_record}
use Rattle.kube_model.specs.declared.reason.Reason.{Reason}
use Rattle.kube_model.specs.declared.reason.Reason.TheVariants.{RequestUnreadable, RequestFamilies, PoolUnknown, PoolRefused}
use Rattle.kube_model.specs.declared.reason.Reason.TheVariants.{AddressOutside, AddressUnusable, PoolExhausted, NoPool, Exhausted}
use Rattle.kube_model.specs.Service.{with_holding}
use Rattle.kube_model.proofs.KeyLaws.{key_cmp-total, key_cmp-exact, same_key-is, same_key-itself, same_key-flip, is_eq-key_cmp}
use Rattle.mlb_base.proofs.Among.{any-contains}
use Rattle.mlb_base.proofs.CaseLaws.{case-has}
use Rattle.sharing_terms.specs.declared.terms.Terms.{Terms}
use Rattle.sharing_terms.specs.Marked.{IsMarkOf}
use Rattle.sharing_terms.specs.Spelled.{recorded_terms}
use Rattle.sharing_terms.specs.Terms.{terms_of}
use Rattle.sharing_terms.proofs.ReadBack.{recorded-exact}
use Rattle.versioned_map.specs.declared.map.Versioned.{Versioned}
use Rattle.versioned_map.specs.Objects.{held_at, at_version, version_at, listed, expired}
use Rattle.versioned_map.proofs.HeldLaws.{held_at-shown, held_at-removed, held_at-listed, held_at-expired}
use Rattle.object_history.specs.Kinds.{service_resource}
use Rattle.object_history.specs.LookBack.{written_over}
use Rattle.object_history.specs.Observations.{same_group}
use Rattle.object_history.proofs.Held.{amended_seen}
use Rattle.claim_index.specs.Claims.{ClaimValue, Holders, holders, is_under, terms_under, claims_of, claim_of, settled, added}
use Rattle.claim_index.proofs.TermLaws.{made, under-made, under-is}
use Rattle.pool_config.specs.declared.compiled.CompiledPool.{CompiledPool}
use Rattle.alloc_book.specs.declared.choice.Choice.{Choice}
use Rattle.alloc_book.specs.declared.choice.Choice.TheVariants.{Foreign, Clear, Pending, Keep, New}
use Rattle.alloc_book.specs.Asking.{Asker, Offer, asker_of, asked_in}
use Rattle.alloc_book.specs.Chosen.{asked_pools, Gives, IsChosenFor}
use Rattle.alloc_book.specs.First.{record_in}
use Rattle.alloc_book.proofs.ChooseLaws.{choose-is}
use Rattle.alloc_book.proofs.BookLaws.{claim_of-stands}
use Rattle.claim_index.proofs.ClaimLaws.{claims_of-settled, claims_of-doubted, claims_of-others}
use Rattle.core_rules.specs.Core.{State, no_terms, terms_in, shown_terms, own_claims, has_other, offer_in, service_of}
use Rattle.core_rules.specs.Turn.{chosen_at, is_foreign, is_kept, wanted_record}
use Rattle.core_rules.specs.Take.{core_by, core_take, core_expired, is_unlisted}
use Rattle.core_rules.specs.Replied.{put_terms, replied_to}
use Rattle.core_rules.specs.Run.{TranscriptEntry, Took, Expired, Turned, Heard, core_after, observed, IsRun}
use Rattle.core_rules.proofs.ByMark.{terms_under-marked}
use Rattle.core_rules.proofs.Claims.{claims_of-kept}
use Rattle.core_rules.proofs.Effects.{by_effect, config-services}
use Rattle.core_rules.proofs.Runs.{core_holds_what_was_observed}
use Rattle.core_laws.specs.Claimed.{ServicesAreClaimed}
use Rattle.core_laws.proofs.Orderly.{sorted-services}
use Rattle.core_laws.proofs.Keyed.{service-key, terms-kept}
use Rattle.core_laws.proofs.Puts.{class-is, held-of}
use Rattle.core_laws.proofs.Others.{loses-of, none-more}
use Rattle.core_laws.proofs.QuietReplies.{PutIsChosen}
use Rattle.core_laws.proofs.QuietRuns.{out-chosen}

-- it is of type LoadBalancer, and of another class
abbrev pub IsForeign : Option (List ℕ) → Service → Type 0
IsForeign class service = (service.balancer ≡ true) × (service.class ≢ class)

-- The claims are that of the service's record, and others, none of which is that again. A service of another class has no others.
record AreOwnAndMore (class : Option (List ℕ)) (claims : List ClaimValue) (service : Service) : Type 0 where
  pub more : List ClaimValue
  pub are : claims ≡ own_claims service ++ more
  pub others : list_any (is_under service.holding (shown_terms service)) more ≡ false
  pub sure : IsForeign class service → more ≡ []

-- so it is where a service is held
abbrev AreClaims : Option (List ℕ) → Option (Versioned Service) → List ClaimValue → Type 0
AreClaims class held claims = (h : Versioned Service) → held ≡ Some h → AreOwnAndMore class claims h.object

own-alone : (class : Option (List ℕ)) (service : Service) → AreOwnAndMore class (own_claims service) service
own-alone class service = record { more = []; are = sym (append-nil (own_claims service)); others = refl; sure = λ foreign. refl }

none-held : (class : Option (List ℕ)) (claims : List ClaimValue) → AreClaims class None claims
none-held class claims h e = absurd (cc)

held-as : (class : Option (List ℕ)) (held also : Option (Versioned Service)) (claims more : List ClaimValue) → also ≡ held → more ≡ claims
    → AreClaims class held claims → AreClaims class also more
held-as class held also claims more e d all =
    subst (λ (o : Option (Versioned Service)). AreClaims class o more) (sym e) (subst (AreClaims class held) (sym d) all)

-- old: the event isn't newer than what is held; b: it is about this service
shown_by : (class : Option (List ℕ)) (old b : Bool) (held : Option (Versioned Service)) (version : ℕ) (service : Service) (claims : List ClaimValue)
    → AreClaims class held claims
    → AreClaims class (cond old held (cond b (Some (record { version = version; object = service })) held)) (cond old claims (cond b (own_claims service) claims))
shown_by class true b held version service claims all = all
shown_by class false false held version service claims all = all
shown_by class false true held version service claims all = λ h e.
    let new : Versioned Service = record { version = version; object = service } in
    let is : service ≡ h.object = let same : new ≡ h = cc in ap (λ (x : Versioned Service). x.object) same in
    subst (λ (x : Service). AreOwnAndMore class (own_claims service) x) is (own-alone class service)

gone_by : (class : Option (List ℕ)) (b : Bool) (held : Option (Versioned Service)) (claims : List ClaimValue) → AreClaims class held claims
    → AreClaims class (cond b None held) (cond b [] claims)
gone_by class true held claims all = none-held class []
gone_by class false held claims all = all

ended_at : (class : Option (List ℕ)) (b : Bool) (g : Versioned Service) (claims : List ClaimValue) → eqb g.version 0 ≡ b → AreClaims class (Some g) claims
    → AreClaims class (cond (not b) (Some g) None)
    (cond (eqb (option_map_or (λ (x : Versioned Service). x.version) (cond (not b) (Some g) None) 0) 0) [] claims)
ended_at class true g claims e all = none-held class []
ended_at class false g claims e all = subst (λ (b : Bool). AreClaims class (Some g) (cond b [] claims)) (sym e) all

ended_by : (class : Option (List ℕ)) (held : Option (Versioned Service)) (claims : List ClaimValue) → AreClaims class held claims
    → (let left = option_filter (λ (v : Versioned Service). not (eqb v.version 0)) held in
    AreClaims class left (cond (eqb (option_map_or (λ (x : Versioned Service). x.version) left 0) 0) [] claims))
ended_by class None claims all = none-held class []
ended_by class (Some g) claims all = ended_at class (eqb g.version 0) g claims refl all

at-version : (class : Option (List ℕ)) (held : Option (Versioned Service)) (version : ℕ) (claims : List ClaimValue) → AreClaims class held claims
    → AreClaims class (option_map (at_version version) held) claims
at-version class None version claims all = none-held class claims
at-version class (Some g) version claims all = λ h e.
    let is : g.object ≡ h.object = let same : at_version version g ≡ h = cc in ap (λ (x : Versioned Service). x.object) same in
    subst (λ (x : Service). AreOwnAndMore class claims x) is (all g refl)

-- ---- a doubt
-- a claim that isn't among them isn't that of the service's record, which is
new_by : (assigned same : Bool) (claims more : List ClaimValue) (service : Service) (k : Key) (r : Record) (t : Terms) → is_assigned r ≡ assigned
    → service.key ≡ k
    → is_under service.holding (shown_terms service) (made k r t) ≡ same → claims ≡ own_claims service ++ more → list_any (is_under r t) claims ≡ false
    → list_any (is_under service.holding (shown_terms service)) (cond assigned (made k r t ∷ []) []) ≡ false
new_by false same claims more service k r t has of e are none = refl
new_by true false claims more service k r t has of e are none = ap (λ (b : Bool). b || false) e
new_by true true claims more service k r t has of e are none =
    let is : made k r t ≡ made k service.holding (shown_terms service) =
    under-is k service.holding (shown_terms service) (made k r t) (same_key-itself k) e in
    let stands : Contains (own_claims service) (made k r t) =
    subst (Contains (own_claims service)) (ap (λ (x : Key). made x service.holding (shown_terms service)) of ∙ sym is)
    (claim_of-stands service.key service.holding (shown_terms service)
    (ap (λ (x : ClaimValue). is_assigned x.holding) (sym is) ∙ has)) in
    absurd (true≢false (sym (any-contains (is_under r t) claims (made k r t)
    (subst (λ (cs : List ClaimValue). Contains cs (made k r t)) (sym are) (Contains-append_left (own_claims service) more (made k r t) stands))
    (under-made k r t)) ∙ none))

more_by : (class : Option (List ℕ)) (b : Bool) (claims : List ClaimValue) (service : Service) (k : Key) (r : Record) (t : Terms)
    → list_any (is_under r t) claims ≡ b → service.key ≡ k
    → ¬ (IsForeign class service) → AreOwnAndMore class claims service → AreOwnAndMore class (cond b claims (claims ++ claim_of k r t)) service
more_by class true claims service k r t e of own each = each
more_by class false claims service k r t e of own each =
    let new : list_any (is_under service.holding (shown_terms service)) (claim_of k r t) ≡ false =
    new_by (is_assigned r) (is_under service.holding (shown_terms service) (made k r t)) claims each.more service k r t refl of refl each.are e in
    record {
      more = each.more ++ claim_of k r t;
      are = ap (λ (cs : List ClaimValue). cs ++ claim_of k r t) each.are ∙ append_assoc (own_claims service) each.more (claim_of k r t);
      others =
          list_any-append (is_under service.holding (shown_terms service)) each.more (claim_of k r t)
          ∙ ap (λ (b : Bool). b || list_any (is_under service.holding (shown_terms service)) (claim_of k r t)) each.others ∙ new;
      sure = λ foreign. absurd (own foreign);
    }

new-claims : (old : Bool) (key k : Key) (holding : Record) (terms : Terms) (claims : List ClaimValue)
    → claims_of key (cond (not old) (settled k holding terms claims) claims)
    ≡ cond old (claims_of key claims) (cond (same_key k key) (claim_of k holding terms) (claims_of key claims))
new-claims true key k holding terms claims = refl
new-claims false key k holding terms claims = claims_of-settled claims k key holding terms

-- ---- an event
module _ (class : Option (List ℕ)) (s : State) (sorted : IsStrictlySortedBy key_cmp (keys_of s.held.services)) (key : Key)
    (all : AreClaims class (held_at key_cmp s.held.services key) (claims_of key s.claims)) where
  abbrev here : Option (Versioned Service)
  here = held_at key_cmp s.held.services key

  took : (event : Event) → AreClaims class (held_at key_cmp (core_take s event).held.services key) (claims_of key (core_take s event).claims)
  took = by_effect (λ event c. AreClaims class (held_at key_cmp (core_by c s event).held.services key) (claims_of key (core_by c s event).claims))
      (λ version service.
      let old = leb version (version_at key_cmp s.held.services service.key) in
      let new : Versioned Service = record { version = version; object = service } in
      held-as class _ _ _ _
      (held_at-shown key_cmp-total s.held.services service.key key version service
      ∙ ap (λ (b : Bool). cond old here (cond b (Some new) here)) (is_eq-key_cmp key service.key ∙ same_key-flip key service.key))
      (new-claims old key service.key service.holding (shown_terms service) s.claims)
      (shown_by class old (same_key service.key key) here version service (claims_of key s.claims) all))
      (λ gone.
      held-as class _ _ _ _
      (held_at-removed key_cmp-total s.held.services gone key sorted ∙ ap (λ (b : Bool). cond b None here) (is_eq-key_cmp gone key))
      (claims_of-others s.claims gone key)
      (gone_by class (same_key gone key) here (claims_of key s.claims) all))
      (let left = held_at-listed key_cmp-total s.held.services key sorted in
      held-as class _ _ _ _ left
      (claims_of-kept (is_unlisted (listed s.held.services)) s.claims key
      ∙ ap (λ (o : Option (Versioned Service)). cond (eqb (option_map_or (λ (x : Versioned Service). x.version) o 0) 0) [] (claims_of key s.claims)) left)
      (ended_by class here (claims_of key s.claims) all))
      (λ event c. held-as class _ _ _ _ (ap (λ (es : List (Key × Versioned Service)). held_at key_cmp es key) (config-services event s.held c)) refl all)
      (held-as class _ _ _ _ (held_at-expired key_cmp s.held.services key) refl (at-version class here 0 (claims_of key s.claims) all))
      (λ event. all)

  expired_by : (b : Bool) → AreClaims class (held_at key_cmp (cond b (expired s.held.services) s.held.services) key) (claims_of key s.claims)
  expired_by true = held-as class _ _ _ _ (held_at-expired key_cmp s.held.services key) refl (at-version class here 0 (claims_of key s.claims) all)
  expired_by false = all

  one_expired : (group : ListGroup) → AreClaims class (held_at key_cmp (core_expired s group).held.services key) (claims_of key (core_expired s group).claims)
  one_expired group = expired_by (same_group group groups.Service)

  -- ---- a reply
  module _ (keyed : (h : Versioned Service) → here ≡ Some h → h.object.key ≡ key) where
    terms-here : (g : Versioned Service) (put : Put) → put.key ≡ key → here ≡ Some g → terms_in s.held put.key ≡ terms_of g.object
    terms-here g put of is =
        ap (terms_in s.held) of
        ∙ ap (λ (o : Option (Versioned Service)). option_map_or terms_of (option_map (λ (h : Versioned Service). h.object) o) no_terms) is

    written_some : (found : Option (Versioned Service)) (put : Put) (version : ℕ) → here ≡ found → put.key ≡ key
        → AreClaims class (option_map (written_over service_resource key (Some (version, with_holding put.holding))) found)
        (claim_of put.key put.holding (put_terms s.held put))
    written_some None put version is of = none-held class _
    written_some (Some g) put version is of = λ h e.
        let new : Versioned Service = record { version = version; object = with_holding put.holding g.object } in
        let same : with_holding put.holding g.object ≡ h.object = let both : new ≡ h = cc in ap (λ (x : Versioned Service). x.object) both in
        let terms : put_terms s.held put ≡ shown_terms (with_holding put.holding g.object) =
        ap (terms_under put.holding) (terms-here g put of is ∙ sym (terms-kept g.object put.holding)) in
        let own : claim_of put.key put.holding (put_terms s.held put) ≡ own_claims (with_holding put.holding g.object) =
        ap (λ (k : Key). claim_of k put.holding (put_terms s.held put)) (of ∙ sym (keyed g is)) ∙ ap (claim_of g.object.key put.holding) terms in
        subst (λ (x : Service). AreOwnAndMore class (claim_of put.key put.holding (put_terms s.held put)) x) same
        (subst (λ (cs : List ClaimValue). AreOwnAndMore class cs (with_holding put.holding g.object)) (sym own)
        (own-alone class (with_holding put.holding g.object)))

    written_none : (found : Option (Versioned Service)) (claims : List ClaimValue) → AreClaims class found claims
        → AreClaims class (option_map (written_over service_resource key None) found) claims
    written_none None claims each = each
    written_none (Some g) claims each = each

    written_by : (b : Bool) (put : Put) (version : ℕ) → same_key put.key key ≡ b
        → AreClaims class (option_map (written_over service_resource key (cond b (Some (version, with_holding put.holding)) None)) here)
        (cond b (claim_of put.key put.holding (put_terms s.held put)) (claims_of key s.claims))
    written_by true put version e = written_some here put version refl (same_key-is put.key key e)
    written_by false put version e = written_none here (claims_of key s.claims) all

    doubted_by : (b : Bool) (k : Key) (r : Record) (terms : Terms) → same_key k key ≡ b
        → ((h : Versioned Service) → held_at key_cmp s.held.services k ≡ Some h → ¬ (IsForeign class h.object))
        → AreClaims class here (cond b (added k r terms (claims_of key s.claims)) (claims_of key s.claims))
    doubted_by true k r terms e own = λ h found.
        let of : k ≡ key = same_key-is k key e in
        more_by class (list_any (is_under r terms) (claims_of key s.claims)) (claims_of key s.claims) h.object k r terms refl (keyed h found ∙ sym of)
        (own h (ap (held_at key_cmp s.held.services) of ∙ found)) (all h found)
    doubted_by false k r terms e own = all

    heard : (out : Option Put) (reply : PutReply)
        → ((put : Put) → out ≡ Some put → (h : Versioned Service) → held_at key_cmp s.held.services put.key ≡ Some h → ¬ (IsForeign class h.object))
        → AreClaims class (held_at key_cmp (replied_to out s reply).held.services key) (claims_of key (replied_to out s reply).claims)
    heard None reply own = all
    heard (Some put) (StoredReply version) own =
        held-as class _ _ _ _
        (amended_seen service_resource key_cmp-total key_cmp-exact key (held_at key_cmp s.held.services put.key) s.held.services put.key version
        (with_holding put.holding) refl
        ∙ ap (λ (b : Bool). option_map (written_over service_resource key (cond b (Some (version, with_holding put.holding)) None)) here)
        (is_eq-key_cmp put.key key))
        (claims_of-settled s.claims put.key key put.holding (put_terms s.held put))
        (written_by (same_key put.key key) put version refl)
    heard (Some put) Stale own = all
    heard (Some put) Missing own = all
    heard (Some put) Unknown own =
        held-as class _ _ _ _ refl (claims_of-doubted s.claims put.key key put.holding (put_terms s.held put))
        (doubted_by (same_key put.key key) put.key put.holding (put_terms s.held put) refl (own put refl))

-- ---- a run
-- a service for which something is chosen isn't of another class
not-foreign : (s : State) (service : Service) → chosen_at s service ≢ Foreign → ¬ (IsForeign s.class service)
not-foreign s service here =
    case-has _ _ _ _ (λ _ foreign. absurd (here foreign)) (λ none _. none) (choose-is s.claims (offer_in s.held service) s.class service (chosen_at s service) refl)

-- so it is with the service of a put in flight
out-own : (class : Option (List ℕ)) (run : List TranscriptEntry) → IsRun class run → (put : Put) → (core_after class run).out ≡ Some put
    → (h : Versioned Service) → held_at key_cmp (core_after class run).held.services put.key ≡ Some h → ¬ (IsForeign class h.object)
out-own class run is put out h found =
    let s = core_after class run in
    let chosen : PutIsChosen s put = out-chosen class run is put out in
    let same : h.object ≡ chosen.service =
    same_Some h.object chosen.service (sym (ap (option_map (λ (v : Versioned Service). v.object)) found) ∙ chosen.found) in
    subst (λ (x : Service). ¬ (IsForeign class x)) (sym same)
    (subst (λ (c : Option (List ℕ)). ¬ (IsForeign c chosen.service)) (class-is class run) (not-foreign s chosen.service chosen.own))

held-keyed : (class : Option (List ℕ)) (run : List TranscriptEntry) → IsRun class run → (key : Key) (h : Versioned Service)
    → held_at key_cmp (core_after class run).held.services key ≡ Some h → h.object.key ≡ key
held-keyed class run is key h found = service-key class run is key h.object (ap (option_map (λ (v : Versioned Service). v.object)) found)

held-claims : (class : Option (List ℕ)) (run : List TranscriptEntry) → IsRun class run → (key : Key)
    → AreClaims class (held_at key_cmp (core_after class run).held.services key) (claims_of key (core_after class run).claims)
held-claims class [] is key = none-held class []
held-claims class (Took event ∷ earlier) is key =
    took class (core_after class earlier) (sorted-services (core_after class earlier) (observed earlier) (core_holds_what_was_observed class earlier is.1).0) key
    (held-claims class earlier is.1 key) event
held-claims class (Expired group ∷ earlier) is key =
    one_expired class (core_after class earlier)
    (sorted-services (core_after class earlier) (observed earlier) (core_holds_what_was_observed class earlier is.1).0)
    key (held-claims class earlier is.1 key) group
held-claims class (Turned turn ∷ earlier) is key = held-claims class earlier is.1 key
held-claims class (Heard reply ∷ earlier) is key =
    heard class (core_after class earlier) (sorted-services (core_after class earlier) (observed earlier) (core_holds_what_was_observed class earlier is.1).0) key
    (held-claims class earlier is.1 key) (held-keyed class earlier is.1 key) (core_after class earlier).out reply (out-own class earlier is.1)

-- ---- what it is claimed under
adopted-by : (r : Record) (adopted : Terms) (found : Option Terms) → recorded_terms r.mark ≡ found → ((t : Terms) → ¬ (IsMarkOf t r.mark))
    → unwrap_or found adopted ≡ adopted
adopted-by r adopted None is none = refl
adopted-by r adopted (Some t) is none = absurd (none t ((recorded-exact r.mark t).0 is))

pub services_are_claimed : ServicesAreClaimed
services_are_claimed class run is key service found has =
    let held = held-of (held_at key_cmp (core_after class run).held.services key) service found in
    let each : AreOwnAndMore class (claims_of key (core_after class run).claims) service =
    subst (λ (x : Service). AreOwnAndMore class (claims_of key (core_after class run).claims) x) held.2 (held-claims class run is key held.0 held.1) in
    let claim = made service.key service.holding (shown_terms service) in
    record {
      claim = claim;
      stands =
          subst (λ (cs : List ClaimValue). Contains cs claim) (sym each.are)
          (Contains-append_left (own_claims service) each.more claim (claim_of-stands service.key service.holding (shown_terms service) has));
      with_record = refl;
      marked = λ t is_mark. terms_under-marked service.holding (terms_of service) t is_mark;
      adopted = λ none. adopted-by service.holding (terms_of service) (recorded_terms service.holding.mark) refl none;
    }

-- ---- no other claims
-- where there are no others, the claims are the record's alone
sole-claims : (class : Option (List ℕ)) (claims : List ClaimValue) (service : Service) → AreOwnAndMore class (claims_of service.key claims) service
    → has_other service claims ≡ false → claims_of service.key claims ≡ own_claims service
sole-claims class claims service each e =
    let r = service.holding in
    let t = shown_terms service in
    let other : ClaimValue → Bool = λ x. not (is_under r t x) in
    let parts = or_parts (list_any other (own_claims service)) (list_any other each.more)
    (sym (list_any-append other (own_claims service) each.more) ∙ ap (list_any other) (sym each.are) ∙ sym (loses-of claims service.key r t) ∙ e) in
    each.are ∙ ap (λ (cs : List ClaimValue). own_claims service ++ cs) (none-more each.more r t each.others parts.1) ∙ append-nil (own_claims service)

kept_by : (is_foreign same other : Bool) → (is_foreign || (same && not other)) ≡ true → (is_foreign ≡ true) ⊎ (other ≡ false)
kept_by true same other e = inl refl
kept_by false true false e = inr refl
kept_by false true true e = absurd (cc)
kept_by false false other e = absurd (cc)

-- it is of another class where nothing is chosen for it
module _ (has : Holders) (o : Offer) (q : Asker) (c : Choice) (foreign : c ≡ Foreign) where
  another : (d : Choice) → is_foreign d ≡ false → c ≡ d → ⊥
  another d other e = true≢false (ap is_foreign (sym foreign ∙ e) ∙ other)

  given : (pools : List CompiledPool) (reason : Reason) → Gives has q pools reason c → ⊥
  given pools reason gives = ⊎_elim (λ new. another (New new.0) refl new.2) (λ full. another (Pending reason) refl full.1) gives

  pub chosen-foreign : (class : Option (List ℕ)) (service : Service) → IsChosenFor has o class service q c → IsForeign class service
  chosen-foreign class service =
      case-has _ _ _ _ (λ here _. here) (λ _.
      case-has _ _ _ _ (λ _ is. absurd (another Clear refl is)) (λ _.
      case-has _ _ _ _ (λ _ is. absurd (another (Pending RequestUnreadable) refl is)) (λ _.
      case-has _ _ _ _ (λ _ is. absurd (another (Pending RequestFamilies) refl is)) (λ _.
      case-has _ _ _ _ (λ _ is. absurd (another (Pending PoolUnknown) refl is)) (λ _.
      case-has _ _ _ _ (λ _ is. absurd (another (Pending PoolRefused) refl is)) (λ _.
      case-has _ _ _ _ (λ _ kept. absurd (another (Keep (record_in kept.0 q q.recorded)) refl kept.2)) (λ _.
      case-has _ _ _ _ (λ _ is. absurd (another (Pending AddressOutside) refl is)) (λ _.
      case-has _ _ _ _ (λ _ is. absurd (another (Pending AddressUnusable) refl is)) (λ _.
      case-has _ _ _ _ (λ _ home. absurd (another (New (record_in home.0 q (asked_in q.wanted))) refl home.3)) (λ _.
      case-has _ _ _ _ (λ _ gives. absurd (given (asked_pools o q) PoolExhausted gives)) (λ _.
      case-has _ _ _ _ (λ _ is. absurd (another (Pending NoPool) refl is)) (λ _ gives. absurd (given o.eligible Exhausted gives)))))))))))))

foreign-choice : (c : Choice) → is_foreign c ≡ true → c ≡ Foreign
foreign-choice Foreign e = refl
foreign-choice Clear e = absurd (cc)
foreign-choice (Pending reason) e = absurd (cc)
foreign-choice (Keep holding) e = absurd (cc)
foreign-choice (New holding) e = absurd (cc)

-- where a service keeps its record, it has no other claim
pub kept-alone : (class : Option (List ℕ)) (run : List TranscriptEntry) → IsRun class run → (key : Key) (service : Service)
    → service_of (core_after class run).held key ≡ Some service
    → (let s = core_after class run in is_kept service.holding (has_other service s.claims) (chosen_at s service) ≡ true)
    → claims_of key (core_after class run).claims ≡ own_claims service
kept-alone class run is key service found kept =
    let s = core_after class run in
    let held = held-of (held_at key_cmp s.held.services key) service found in
    let each : AreOwnAndMore class (claims_of key s.claims) service =
    subst (λ (x : Service). AreOwnAndMore class (claims_of key s.claims) x) held.2 (held-claims class run is key held.0 held.1) in
    let of : service.key ≡ key = service-key class run is key service found in
    ⊎_elim
    (λ foreign.
    let other : IsForeign s.class service =
    chosen-foreign (holders s.claims) (offer_in s.held service) (asker_of service) (chosen_at s service) (foreign-choice (chosen_at s service) foreign) s.class
    service (choose-is s.claims (offer_in s.held service) s.class service (chosen_at s service) refl) in
    each.are
    ∙ ap (λ (cs : List ClaimValue). own_claims service ++ cs)
    (each.sure (subst (λ (c : Option (List ℕ)). IsForeign c service) (class-is class run) other))
    ∙ append-nil (own_claims service))
    (λ none.
    subst (λ (k : Key). claims_of k s.claims ≡ own_claims service) of
    (sole-claims class s.claims service (subst (λ (k : Key). AreOwnAndMore class (claims_of k s.claims) service) (sym of) each) none))
    (kept_by (is_foreign (chosen_at s service)) (same_record (wanted_record service.holding (chosen_at s service)) service.holding)
    (has_other service s.claims) kept)
