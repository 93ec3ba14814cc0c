-- The claims of each key are those that the look back shows.
use Rattle.std.proofs.Common.{◌≡◌, ℕ, Bool, true, false, cond, eqb, leb, ◌&&◌, not, List, [], ◌∷◌, Option}
use Rattle.std.proofs.Common.{Some, None, option_map, filter, refl, sym, ap, subst, ◌∙◌}
use Rattle.std.specs.Option.{option_map_or}
use Rattle.mlb_base.proofs.Bools.{cond-same}
use Rattle.kube_model.specs.declared.event.Event.{Event}
use Rattle.kube_model.specs.declared.event.Event.TheVariants.{ListEnd}
use Rattle.kube_model.specs.declared.event.ListGroup.TheVariants as groups
use Rattle.kube_model.specs.declared.key.Key.{Key}
use Rattle.kube_model.specs.declared.put.Put.{Put}
use Rattle.kube_model.specs.declared.record.Record.{Record}
use Rattle.sharing_terms.specs.declared.terms.Terms.{Terms}
use Rattle.sharing_terms.specs.Terms.{terms_of}
use Rattle.kube_model.specs.declared.reply.PutReply.{PutReply}
use Rattle.kube_model.specs.declared.reply.PutReply.TheVariants.{Ok as StoredReply, Stale, Missing, Unknown}
use Rattle.kube_model.specs.declared.service.Service.{Service}
use Rattle.versioned_map.specs.declared.map.Versioned.{Versioned}
use Rattle.versioned_map.specs.Objects.{held_at, version_at}
use Rattle.object_history.specs.Cache.{Cached}
use Rattle.object_history.specs.Observations.{Watched}
use Rattle.kube_model.specs.Keys.{key_cmp, same_key}
use Rattle.object_history.specs.Kinds.{service_resource}
use Rattle.object_history.specs.LookBack.{last_shown, seen_after, version_of}
use Rattle.object_history.proofs.Cached.{held_at-held_of, services-held}
use Rattle.kube_model.proofs.KeyLaws.{key_cmp-total, key_cmp-exact, same_key-is}
use Rattle.claim_index.specs.Claims.{ClaimValue, claims_of, claim_of, terms_under, added, settled}
use Rattle.claim_index.proofs.ClaimLaws.{claims_of-settled, claims_of-doubted, claims_of-others}
use Rattle.core_rules.specs.Core.{State, no_terms, terms_in, shown_terms}
use Rattle.core_rules.specs.Take.{effect_of, core_by, core_take, is_unlisted}
use Rattle.core_rules.specs.Replied.{put_terms, replied_to}
use Rattle.core_rules.specs.Run.{TranscriptEntry, Took, Expired, Turned, Heard, core_after, IsRun, observed, version_shown}
use Rattle.core_rules.specs.Run.{terms_shown, claims_told, claims_heard, claims_shown, ClaimsAreShown}
use Rattle.core_rules.proofs.Effects.{by_effect}
use Rattle.core_rules.proofs.Runs.{core_holds_what_was_observed}

-- what is held of a key, and at which version
pub shown-held : (class : Option (List ℕ)) (run : List TranscriptEntry) → IsRun class run → (key : Key)
    → held_at key_cmp (core_after class run).held.services key ≡ last_shown service_resource key (observed run)
shown-held class run is key =
    ap (λ (h : Cached). held_at key_cmp h.services key) (core_holds_what_was_observed class run is).0
    ∙ ap (λ (es : List (Key × Versioned Service)). held_at key_cmp es key) (services-held (observed run))
    ∙ held_at-held_of service_resource key_cmp-total key_cmp-exact (observed run) key

pub version-held : (class : Option (List ℕ)) (run : List TranscriptEntry) → IsRun class run → (key : Key)
    → version_at key_cmp (core_after class run).held.services key ≡ version_shown key run
version-held class run is key = ap (λ (h : Option (Versioned Service)). option_map_or (λ (v : Versioned Service). v.version) h 0) (shown-held class run is key)

kept_by : (x y z : Bool) (c : ClaimValue) (key : Key) (cs rest : List ClaimValue) → y ≡ same_key c.key key → (y ≡ true → x ≡ z)
    → claims_of key rest ≡ cond z [] (claims_of key cs)
    → claims_of key (cond (not x) (c ∷ rest) rest) ≡ cond z [] (cond y (c ∷ claims_of key cs) (claims_of key cs))
kept_by true true z c key cs rest s same ih = rw ih (rw (← same refl) refl)
kept_by true false z c key cs rest s same ih = ih
kept_by false true z c key cs rest s same ih =
    let no : z ≡ false = sym (same refl) in
    rw (← s, no) (ap (λ (rs : List ClaimValue). c ∷ rs) (ih ∙ ap (λ b. cond b [] (claims_of key cs)) no))
kept_by false false z c key cs rest s same ih = rw (← s) ih

-- the claims of some keys go
pub claims_of-kept : (test : Key → Bool) (cs : List ClaimValue) (key : Key)
    → claims_of key (filter (λ (c : ClaimValue). not (test c.key)) cs) ≡ cond (test key) [] (claims_of key cs)
claims_of-kept test [] key = sym (cond-same (test key) [])
claims_of-kept test (c ∷ cs) key =
    kept_by (test c.key) (same_key c.key key) (test key) c key cs (filter (λ (c : ClaimValue). not (test c.key)) cs) refl
    (λ s. ap test (same_key-is c.key key s)) (claims_of-kept test cs key)

ended_by : (b : Bool) (h : Versioned Service) → b ≡ eqb h.version 0 → eqb (version_of service_resource h.object.key (cond b None (Some h))) 0 ≡ b
ended_by true h e = refl
ended_by false h e = sym e

-- at the end of the list, what is held at version 0 is dropped
pub ended-version : (key : Key) (found : Option (Versioned Service))
    → eqb (version_of service_resource key (seen_after service_resource key (Watched (ListEnd groups.Service)) found)) 0
    ≡ eqb (version_of service_resource key found) 0
ended-version key None = refl
ended-version key (Some h) = ended_by (eqb h.version 0) h refl

shown_by : (same newer late : Bool) (key k : Key) (holding : Record) (terms : Terms) (claims before : List ClaimValue)
    → claims_of key (settled k holding terms claims) ≡ cond same (claim_of k holding terms) (claims_of key claims) → claims_of key claims ≡ before
    → (same ≡ true → newer ≡ late)
    → claims_of key (cond newer (settled k holding terms claims) claims) ≡ cond (same && late) (claim_of k holding terms) before
shown_by true true late key k holding terms claims before e a s = rw (← s refl) e
shown_by true false late key k holding terms claims before e a s = rw (← s refl) a
shown_by false true late key k holding terms claims before e a s = e ∙ a
shown_by false false late key k holding terms claims before e a s = a

took-claims : (s : State) (key : Key) (v : ℕ) (before : List ClaimValue) → version_at key_cmp s.held.services key ≡ v → claims_of key s.claims ≡ before
    → is_unlisted (core_take s (ListEnd groups.Service)).held.services key ≡ eqb v 0
    → (event : Event) → claims_of key (core_take s event).claims ≡ claims_told key (effect_of event) v before
took-claims s key v before version a ends = by_effect (λ event c. claims_of key (core_by c s event).claims ≡ claims_told key c v before)
    (λ at service. shown_by (same_key service.key key) (not (leb at (version_at key_cmp s.held.services service.key))) (not (leb at v)) key service.key
    service.holding (shown_terms service) s.claims before
    (claims_of-settled s.claims service.key key service.holding (shown_terms service)) a
    (λ same. ap (λ n. not (leb at n)) (ap (version_at key_cmp s.held.services) (same_key-is service.key key same) ∙ version)))
    (λ gone. claims_of-others s.claims gone key ∙ ap (λ (rs : List ClaimValue). cond (same_key gone key) [] rs) a)
    (claims_of-kept (is_unlisted (core_take s (ListEnd groups.Service)).held.services) s.claims key
    ∙ ap (λ b. cond b [] (claims_of key s.claims)) ends ∙ ap (λ (rs : List ClaimValue). cond (eqb v 0) [] rs) a)
    (λ event c. a)
    a
    (λ event. a)

terms-within : (found : Option (Versioned Service)) → option_map_or terms_of (option_map (λ (h : Versioned Service). h.object) found) no_terms
    ≡ option_map_or (λ (h : Versioned Service). terms_of h.object) found no_terms
terms-within None = refl
terms-within (Some h) = refl

-- the terms of the held service are those that the look back shows
pub terms-held : (class : Option (List ℕ)) (run : List TranscriptEntry) → IsRun class run → (key : Key)
    → terms_in (core_after class run).held key ≡ terms_shown key run
terms-held class run is key =
    terms-within (held_at key_cmp (core_after class run).held.services key)
    ∙ ap (λ (h : Option (Versioned Service)). option_map_or (λ (v : Versioned Service). terms_of v.object) h no_terms) (shown-held class run is key)

-- the same for the key of a put, where it is the key
put_by : (b : Bool) (put : Put) (key : Key) (s : State) (adopted : Terms) (more : Terms → List ClaimValue) (rest : List ClaimValue) → same_key put.key key ≡ b
    → terms_in s.held key ≡ adopted
    → cond b (more (put_terms s.held put)) rest ≡ cond b (more (terms_under put.holding adopted)) rest
put_by true put key s adopted more rest same e = ap (λ (t : Terms). more (terms_under put.holding t)) (ap (terms_in s.held) (same_key-is put.key key same) ∙ e)
put_by false put key s adopted more rest same e = refl

heard-claims : (out : Option Put) (reply : PutReply) (s : State) (key : Key) (adopted : Terms) (before : List ClaimValue) → terms_in s.held key ≡ adopted
    → claims_of key s.claims ≡ before
    → claims_of key (replied_to out s reply).claims ≡ claims_heard key out reply adopted before
heard-claims None reply s key adopted before e a = a
heard-claims (Some put) (StoredReply version) s key adopted before e a =
    claims_of-settled s.claims put.key key put.holding (put_terms s.held put)
    ∙ ap (λ (rs : List ClaimValue). cond (same_key put.key key) (claim_of put.key put.holding (put_terms s.held put)) rs) a
    ∙ put_by (same_key put.key key) put key s adopted (claim_of put.key put.holding) before refl e
heard-claims (Some put) Stale s key adopted before e a = a
heard-claims (Some put) Missing s key adopted before e a = a
heard-claims (Some put) Unknown s key adopted before e a =
    claims_of-doubted s.claims put.key key put.holding (put_terms s.held put)
    ∙ ap (λ (rs : List ClaimValue). cond (same_key put.key key) (added put.key put.holding (put_terms s.held put) rs) rs) a
    ∙ put_by (same_key put.key key) put key s adopted (λ t. added put.key put.holding t before) before refl e

pub claims_are_shown : ClaimsAreShown
claims_are_shown class [] is key = refl
claims_are_shown class (Took event ∷ earlier) is key =
    took-claims (core_after class earlier) key (version_shown key earlier) (claims_shown key earlier) (version-held class earlier is.1 key)
    (claims_are_shown class earlier is.1 key)
    (ap (λ n. eqb n 0) (version-held class (Took (ListEnd groups.Service) ∷ earlier) (is.0, is.1) key)
    ∙ ended-version key (last_shown service_resource key (observed earlier)))
    event
claims_are_shown class (Expired group ∷ earlier) is key = claims_are_shown class earlier is.1 key
claims_are_shown class (Turned turn ∷ earlier) is key = claims_are_shown class earlier is.1 key
claims_are_shown class (Heard reply ∷ earlier) is key =
    subst (λ out. claims_of key (replied_to (core_after class earlier).out (core_after class earlier) reply).claims
    ≡ claims_heard key out reply (terms_shown key earlier) (claims_shown key earlier))
    (core_holds_what_was_observed class earlier is.1).1
    (heard-claims (core_after class earlier).out reply (core_after class earlier) key (terms_shown key earlier) (claims_shown key earlier)
    (terms-held class earlier is.1 key) (claims_are_shown class earlier is.1 key))
