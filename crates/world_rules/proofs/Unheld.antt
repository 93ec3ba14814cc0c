-- A service that isn't held has no claim, and awaits nothing.
use Rattle.std.proofs.Common.{◌≡◌, ℕ, Bool, true, false, cond, eqb, leb, not, ◌||◌, List, [], ◌∷◌, ◌++◌, Option, Some, None, is_eq, is_some, option_map, refl, sym, ap, subst, ◌∙◌}
use Rattle.std.proofs.lemmas.Map.Entries.{option_filter}
use Rattle.std.specs.List.Sorted.{IsStrictlySortedBy}
use Rattle.std.specs.Map.{keys_of}
use Rattle.std.specs.Option.{option_map_or}
use Rattle.kube_model.specs.declared.event.Event.{Event}
use Rattle.kube_model.specs.declared.event.Event.TheVariants.{ListEnd}
use Rattle.kube_model.specs.declared.event.ListGroup.TheVariants as groups
use Rattle.kube_model.specs.declared.key.Key.{Key}
use Rattle.kube_model.specs.declared.put.Put.{Put}
use Rattle.kube_model.specs.declared.record.Record.{Record}
use Rattle.kube_model.specs.declared.reply.PutReply.{PutReply}
use Rattle.kube_model.specs.declared.reply.PutReply.TheVariants.{Ok as StoredReply, Stale, Missing, Unknown}
use Rattle.kube_model.specs.declared.service.Service.{Service}
use Rattle.kube_model.specs.Keys.{key_cmp, same_key, has_key, without}
use Rattle.kube_model.specs.Service.{with_holding}
use Rattle.kube_model.proofs.KeyLaws.{key_cmp-total, same_key-is, is_eq-key_cmp}
use Rattle.object_history.specs.Observations.{same_group}
use Rattle.versioned_map.specs.declared.map.Versioned.{Versioned}
use Rattle.versioned_map.specs.Objects.{at_version, held_at, object_at, amended_at, expired, listed}
use Rattle.versioned_map.proofs.HeldLaws.{held_at-shown, held_at-removed, held_at-listed, held_at-amended, held_at-expired}
use Rattle.sharing_terms.specs.declared.terms.Terms.{Terms}
use Rattle.claim_index.specs.Claims.{ClaimValue, added, claim_of, claims_of, settled}
use Rattle.claim_index.proofs.ClaimLaws.{claims_of-settled, claims_of-doubted, claims_of-others}
use Rattle.core_rules.specs.Core.{State, shown_terms}
use Rattle.core_rules.specs.Take.{core_by, core_take, is_unlisted}
use Rattle.core_rules.specs.Replied.{put_terms, replied, replied_to}
use Rattle.core_rules.specs.Run.{TranscriptEntry, Took, Expired, Turned, Heard, core_after, IsRun, observed}
use Rattle.core_rules.proofs.Claims.{claims_of-kept}
use Rattle.core_rules.proofs.Effects.{by_effect, config-services}
use Rattle.core_rules.proofs.Runs.{core_holds_what_was_observed}
use Rattle.core_laws.specs.Queue.{IsHeld}
use Rattle.core_laws.proofs.Awaiting.{has_key-kept, has_key-without}
use Rattle.core_laws.proofs.Orderly.{sorted-services}
use Rattle.core_laws.proofs.Queued.{runs-held}
use Rattle.core_laws.proofs.Rows.{has_key-append}
use Rattle.world_rules.proofs.Lanes.{here-same}

-- where this isn't held, these claims are none, and it doesn't await
abbrev FreeUnless : Option (Versioned Service) → List ClaimValue → Bool → Type 0
FreeUnless found claims awaits = found ≡ None → (claims ≡ []) × (awaits ≡ false)

-- so it is of the key
abbrev pub IsFreeUnlessHeld : State → Key → Type 0
IsFreeUnlessHeld s key = FreeUnless (held_at key_cmp s.held.services key) (claims_of key s.claims) (has_key s.awaiting key)

free-as : (found found' : Option (Versioned Service)) (claims claims' : List ClaimValue) (awaits awaits' : Bool) → found' ≡ found → claims' ≡ claims
    → awaits' ≡ awaits → FreeUnless found claims awaits → FreeUnless found' claims' awaits'
free-as found found' claims claims' awaits awaits' f c a free none = let is = free (sym f ∙ none) in (c ∙ is.0, a ∙ is.1)

-- ---- an event
shown_by : (old same : Bool) (new : Versioned Service) (found : Option (Versioned Service)) (now claims : List ClaimValue) (awaits : Bool)
    → FreeUnless found claims awaits
    → FreeUnless (cond old found (cond same (Some new) found)) (cond old claims (cond same now claims)) (cond old awaits (cond same false awaits))
shown_by true same new found now claims awaits free = free
shown_by false true new found now claims awaits free = λ none. absurd (cc)
shown_by false false new found now claims awaits free = free

claims_by : (old : Bool) (key k : Key) (holding : Record) (terms : Terms) (claims : List ClaimValue)
    → claims_of key (cond (not old) (settled k holding terms claims) claims)
    ≡ cond old (claims_of key claims) (cond (same_key k key) (claim_of k holding terms) (claims_of key claims))
claims_by true key k holding terms claims = refl
claims_by false key k holding terms claims = claims_of-settled claims k key holding terms

awaiting_by : (old : Bool) (key k : Key) (awaiting : List Key)
    → has_key (cond (not old) (without k awaiting) awaiting) key ≡ cond old (has_key awaiting key) (cond (same_key k key) false (has_key awaiting key))
awaiting_by true key k awaiting = refl
awaiting_by false key k awaiting = has_key-without k awaiting key

dropped_by : (same : Bool) (found : Option (Versioned Service)) (claims : List ClaimValue) (awaits : Bool) → FreeUnless found claims awaits
    → FreeUnless (cond same None found) (cond same [] claims) (cond same false awaits)
dropped_by true found claims awaits free = λ none. (refl, refl)
dropped_by false found claims awaits free = free

-- what isn't held then wasn't listed
listed_by : (found : Option (Versioned Service)) (claims : List ClaimValue) (awaits : Bool) → found ≡ None
    → (let gone = eqb (option_map_or (λ (v : Versioned Service). v.version) found 0) 0 in
    (cond gone [] claims ≡ []) × (cond gone false awaits ≡ false))
listed_by None claims awaits none = (refl, refl)
listed_by (Some v) claims awaits none = absurd (cc)

expired_by : (found : Option (Versioned Service)) (claims : List ClaimValue) (awaits : Bool) → FreeUnless found claims awaits
    → FreeUnless (option_map (at_version 0) found) claims awaits
expired_by None claims awaits free = free
expired_by (Some v) claims awaits free = λ none. absurd (cc)

module _ (s : State) (sorted : IsStrictlySortedBy key_cmp (keys_of s.held.services)) (key : Key) (free : IsFreeUnlessHeld s key) where
  abbrev here : Option (Versioned Service)
  here = held_at key_cmp s.held.services key

  expired-free : FreeUnless (held_at key_cmp (expired s.held.services) key) (claims_of key s.claims) (has_key s.awaiting key)
  expired-free =
      free-as _ _ _ _ _ _ (held_at-expired key_cmp s.held.services key) refl refl
      (expired_by here (claims_of key s.claims) (has_key s.awaiting key) free)

  ended-free : IsFreeUnlessHeld (core_take s (ListEnd groups.Service)) key
  ended-free none =
      let after = listed s.held.services in
      let is = listed_by (held_at key_cmp after key) (claims_of key s.claims) (has_key s.awaiting key) none in (
        claims_of-kept (is_unlisted after) s.claims key ∙ is.0,
        has_key-kept (is_unlisted after) s.awaiting key ∙ is.1,
      )

  took-free : (event : Event) → IsFreeUnlessHeld (core_take s event) key
  took-free = by_effect (λ event c. IsFreeUnlessHeld (core_by c s event) key)
      (λ version service.
      (let old = leb version (option_map_or (λ (v : Versioned Service). v.version) (held_at key_cmp s.held.services service.key) 0) in
      let new : Versioned Service = record { version = version; object = service } in
      free-as _ _ _ _ _ _
      (held_at-shown key_cmp-total s.held.services service.key key version service
      ∙ ap (λ (b : Bool). cond old here (cond b (Some new) here)) (here-same key service.key))
      (claims_by old key service.key service.holding (shown_terms service) s.claims) (awaiting_by old key service.key s.awaiting)
      (shown_by old (same_key service.key key) new here (claim_of service.key service.holding (shown_terms service)) (claims_of key s.claims)
      (has_key s.awaiting key) free)))
      (λ gone.
      free-as _ _ _ _ _ _
      (held_at-removed key_cmp-total s.held.services gone key sorted ∙ ap (λ (b : Bool). cond b None here) (is_eq-key_cmp gone key))
      (claims_of-others s.claims gone key) (has_key-without gone s.awaiting key)
      (dropped_by (same_key gone key) here (claims_of key s.claims) (has_key s.awaiting key) free))
      ended-free
      (λ event c.
      free-as _ _ _ _ _ _ (ap (λ (es : List (Key × Versioned Service)). held_at key_cmp es key) (config-services event s.held c)) refl refl free)
      expired-free
      (λ event. free)

-- ---- a reply
or_false : (a b : Bool) → a ≡ false → b ≡ false → (a || (b || false)) ≡ false
or_false a b x y = rw (x, y) refl

-- another key than one that is held isn't it
other_by : (same : Bool) (k key : Key) (services : List (Key × Versioned Service)) → same_key k key ≡ same → is_some (object_at key_cmp services k) ≡ true
    → held_at key_cmp services key ≡ None → same ≡ false
other_by false k key services e held none = refl
other_by true k key services e held none =
    let there : is_some (object_at key_cmp services key) ≡ true = subst (λ (x : Key). is_some (object_at key_cmp services x) ≡ true) (same_key-is k key e) held in
    absurd (let no : is_some (option_map (λ (h : Versioned Service). h.object) None) ≡ true =
    ap (λ (o : Option (Versioned Service)). is_some (option_map (λ (h : Versioned Service). h.object) o)) (sym none) ∙ there in cc)

amended_by : (same : Bool) (new : Versioned Service) (found : Option (Versioned Service)) → cond same (Some new) found ≡ None → found ≡ None
amended_by true new found none = absurd (cc)
amended_by false new found none = none

-- what isn't held when a record was written wasn't before
amended-back : (services : List (Key × Versioned Service)) (k key : Key) (version : ℕ) (holding : Record) (found : Option (Versioned Service))
    → held_at key_cmp services k ≡ found → held_at key_cmp (amended_at key_cmp services k version (with_holding holding) found) key ≡ None
    → held_at key_cmp services key ≡ None
amended-back services k key version holding None is none = none
amended-back services k key version holding (Some h) is none =
    let new : Versioned Service = record { version = version; object = with_holding holding h.object } in
    amended_by (is_eq (key_cmp k key)) new (held_at key_cmp services key)
    (sym (held_at-amended key_cmp-total services k key version (with_holding holding) h is) ∙ none)

module _ (s : State) (put : Put) (held : is_some (object_at key_cmp s.held.services put.key) ≡ true) (key : Key) (free : IsFreeUnlessHeld s key) where
  other : held_at key_cmp s.held.services key ≡ None → same_key put.key key ≡ false
  other none = other_by (same_key put.key key) put.key key s.held.services refl held none

  replied-free : (reply : PutReply) → IsFreeUnlessHeld (replied s put reply) key
  replied-free (StoredReply version) none =
      let before = amended-back s.held.services put.key key version put.holding (held_at key_cmp s.held.services put.key) refl none in (
        claims_of-settled s.claims put.key key put.holding (put_terms s.held put)
            ∙ ap (λ (b : Bool). cond b (claim_of put.key put.holding (put_terms s.held put)) (claims_of key s.claims)) (other before) ∙ (free before).0,
        (free before).1,
      )
  replied-free Stale none =
      ((free none).0, has_key-append s.awaiting (put.key ∷ []) key ∙ or_false (has_key s.awaiting key) (same_key put.key key) (free none).1 (other none))
  replied-free Missing none =
      ((free none).0, has_key-append s.awaiting (put.key ∷ []) key ∙ or_false (has_key s.awaiting key) (same_key put.key key) (free none).1 (other none))
  replied-free Unknown none = (
    claims_of-doubted s.claims put.key key put.holding (put_terms s.held put)
        ∙ ap (λ (b : Bool). cond b (added put.key put.holding (put_terms s.held put) (claims_of key s.claims)) (claims_of key s.claims)) (other none)
        ∙ (free none).0,
    (free none).1,
  )

heard_by : (out : Option Put) (reply : PutReply) (s : State) (key : Key) → ((put : Put) → out ≡ Some put → IsHeld s put.key) → IsFreeUnlessHeld s key
    → IsFreeUnlessHeld (replied_to out s reply) key
heard_by None reply s key held free = free
heard_by (Some put) reply s key held free = replied-free s put (held put refl) key free reply

-- ---- along a run
expired_either : (b : Bool) (services : List (Key × Versioned Service)) (key : Key) (claims : List ClaimValue) (awaits : Bool)
    → FreeUnless (held_at key_cmp services key) claims awaits → FreeUnless (held_at key_cmp (expired services) key) claims awaits
    → FreeUnless (held_at key_cmp (cond b (expired services) services) key) claims awaits
expired_either true services key claims awaits same free = free
expired_either false services key claims awaits same free = same

pub runs-free : (class : Option (List ℕ)) (run : List TranscriptEntry) → IsRun class run → (key : Key) → IsFreeUnlessHeld (core_after class run) key
runs-free class [] is key = λ none. (refl, refl)
runs-free class (Took event ∷ earlier) is key =
    let s = core_after class earlier in
    took-free s (sorted-services s (observed earlier) (core_holds_what_was_observed class earlier is.1).0) key (runs-free class earlier is.1 key) event
runs-free class (Expired group ∷ earlier) is key =
    let s = core_after class earlier in
    let sorted = sorted-services s (observed earlier) (core_holds_what_was_observed class earlier is.1).0 in
    expired_either (same_group group groups.Service) s.held.services key (claims_of key s.claims) (has_key s.awaiting key) (runs-free class earlier is.1 key)
    (expired-free s sorted key (runs-free class earlier is.1 key))
runs-free class (Turned turn ∷ earlier) is key = runs-free class earlier is.1 key
runs-free class (Heard reply ∷ earlier) is key =
    let s = core_after class earlier in
    heard_by s.out reply s key (runs-held class earlier is.1).out (runs-free class earlier is.1 key)
