-- A turn, its put and the reply keep what holds of a world, and so does a crash.
use Rattle.world_rules.proofs.Storing.{given-marked, given-assigned}
use Rattle.world_rules.specs.Tracked.{is_given}
use Rattle.world_rules.specs.Safe.{ShareByMarks}
use Rattle.std.proofs.Common.{◌≡◌, ◌≢◌, ℕ, ◌+◌, Bool, true, false, cond, eqb, ◌&&◌, List, [], ◌∷◌, ◌++◌, Option, Some}
use Rattle.std.proofs.Common.{None, option_map, is_some, IfSome, MatchBool, refl, sym, ap, subst, ◌∙◌, append-nil}
use Rattle.std.proofs.lemmas.Bool.{true≢false, and_parts, eqb-true}
use Rattle.std.proofs.lemmas.List.Elements.{Contains-append_left, Contains-append_right}
use Rattle.std.specs.List.{AllByRecursion, Contains, list_any}
use Rattle.std.specs.Option.{option_map_or}
use Rattle.mlb_base.proofs.Among.{contains-none, any-found}
use Rattle.mlb_base.proofs.Lists.{all-append}
use Rattle.ip_ranges.specs.Values.{AddressValue}
use Rattle.kube_model.specs.declared.event.Event.{Event}
use Rattle.kube_model.specs.declared.event.ListGroup.TheVariants as groups
use Rattle.kube_model.specs.declared.key.Key.{Key}
use Rattle.kube_model.specs.declared.object.Object.{Object}
use Rattle.kube_model.specs.declared.put.Put.{Put}
use Rattle.kube_model.specs.declared.reason.Reason.{Reason}
use Rattle.kube_model.specs.declared.record.Record.{Record}
use Rattle.kube_model.specs.declared.reply.PutReply.{PutReply}
use Rattle.kube_model.specs.declared.reply.PutReply.TheVariants as replies
use Rattle.kube_model.specs.declared.service.Service.{Service}
use Rattle.kube_model.specs.Keys.{key_cmp, same_key}
use Rattle.kube_model.specs.Kinds.{group_of}
use Rattle.kube_model.specs.Records.{is_assigned}
use Rattle.kube_model.specs.Service.{with_holding}
use Rattle.kube_model.proofs.KeyLaws.{key_cmp-total, same_key-is, same_key-itself, is_eq-key_cmp}
use Rattle.versioned_map.specs.declared.map.Versioned.{Versioned}
use Rattle.versioned_map.specs.Objects.{held_at, version_at as version_held, amended_at}
use Rattle.versioned_map.proofs.HeldLaws.{held_at-amended}
use Rattle.claim_index.specs.Claims.{ClaimValue, is_under, claims_of, records_in, records_of, claim_of, claimed_by, doubted, added}
use Rattle.claim_index.proofs.ClaimLaws.{claims_of-doubted, claim-of}
use Rattle.world_rules.proofs.ClaimRecords.{under-is, records-either, records-there, records-from, records_of-settled}
use Rattle.status_store.specs.declared.change.Outcome.{Outcome}
use Rattle.status_store.specs.declared.change.Outcome.TheVariants.{Delivered, Lost, Refused}
use Rattle.status_store.specs.declared.stored.Stored.{Stored}
use Rattle.status_store.specs.Places.{Place, place_of, service_at}
use Rattle.status_store.specs.Objects.{stored_at}
use Rattle.status_store.specs.Changes.{StoreValue, record_of, with_record, kept_record, recorded, is_at_version}
use Rattle.status_store.specs.Changes.{is_made, with_put, after_put, delivered_reply, reply_to}
use Rattle.status_store.proofs.StoredLaws.{found-stored}
use Rattle.core_rules.specs.declared.turn.Turn.TheVariants.{NoPut, Wants}
use Rattle.core_rules.specs.Core.{State, is_ready, has_other}
use Rattle.core_rules.specs.Turn.{turn_at, turn_of, core_turn, after_turn, put_in, is_kept, chosen_at, wanted_record, reason_in}
use Rattle.core_rules.specs.Replied.{replied, replied_to, core_reply, put_terms}
use Rattle.core_rules.specs.Run.{Turned, Heard, core_after, IsRun}
use Rattle.core_rules.proofs.Claims.{claims_are_shown}
use Rattle.core_rules.proofs.Runs.{heard-out}
use Rattle.core_laws.specs.Shared.{may_have}
use Rattle.core_laws.proofs.Queued.{queues_are_orderly}
use Rattle.core_laws.specs.Puts.{IsRightPut}
use Rattle.core_laws.specs.Shared.{SharesRightly}
use Rattle.core_laws.proofs.Puts.{puts_are_right}
use Rattle.core_laws.proofs.Shared.{assigned_by, puts_share_rightly, alone, none-out}
use Rattle.core_laws.proofs.QuietRuns.{wants-some}
use Rattle.world_rules.specs.Tracked.{Shown, Notice, Shows, IsClaimed, WillBeClaimed, IsTracked}
use Rattle.world_rules.specs.World.{WorldValue, as_shown, shown_stored, shown_put, put_by, turned, after_turning, next_put, reached, after_crash}
use Rattle.world_rules.specs.Good.{stored_as, stored_of, held_as, held_of, notices_in, notices_of}
use Rattle.world_rules.specs.Good.{notices_shown, IsTrackedIn, IsOfGroup, IsFollowed, IsGoodStore, IsGood}
use Rattle.world_rules.proofs.Following.{at_next}
use Rattle.world_rules.proofs.Tracking.{Grows, tracked-other, tracked-accepted, tracked-lost, tracked-doubted}
use Rattle.world_rules.proofs.Lanes.{all-either, notices_in-push, tracked-as}
use Rattle.world_rules.proofs.Storing.{record_at, StandsBeside, service-at, given-record, stored_at-recorded, good-put}
use Rattle.sharing_terms.specs.declared.terms.Terms.{Terms}
use Rattle.sharing_terms.specs.Marked.{IsMarkOf}
use Rattle.sharing_terms.specs.Sharing.{MayShare}
use Rattle.sharing_terms.specs.Terms.{terms_of}
use Rattle.sharing_terms.proofs.ReadBack.{marks-apart}
use Rattle.alloc_book.proofs.BookLaws.{claim_of-stands}
use Rattle.core_rules.proofs.ByMark.{claims_are_by_mark}

-- ---- a turn that wants a put
wanted_by : (b : Bool) (key : Key) (version : ℕ) (r : Record) (pending : Option Reason) (put : Put)
    → put_in (cond b (NoPut key pending) (Wants (record { key = key; version = version; holding = r }) pending)) ≡ Some put
    → (put.key ≡ key) × (put.version ≡ version)
wanted_by true key version r pending put e = absurd (cc)
wanted_by false key version r pending put e =
    let one : Put = record { key = key; version = version; holding = r } in
    let same : put ≡ one = cc in
    (ap (λ (p : Put). p.key) same, ap (λ (p : Put). p.version) same)

-- the service is held at the put's version
abbrev pub IsHeldAt : State → Put → Type 0
IsHeldAt s put = (h : Versioned Service) × (held_at key_cmp s.held.services put.key ≡ Some h) × (h.version ≡ put.version)

held_by : (found : Option (Versioned Service)) (s : State) (key : Key) (put : Put) → held_at key_cmp s.held.services key ≡ found
    → put_in (turn_at s key (option_map (λ (h : Versioned Service). h.object) found)) ≡ Some put → IsHeldAt s put
held_by None s key put is e = absurd (cc)
held_by (Some h) s key put is e =
    let service = h.object in
    let parts = wanted_by (is_kept service.holding (has_other service s.claims) (chosen_at s service)) key (version_held key_cmp s.held.services key)
    (wanted_record service.holding (chosen_at s service)) (reason_in (chosen_at s service)) put e in
    let version : version_held key_cmp s.held.services key ≡ h.version =
    ap (λ (o : Option (Versioned Service)). option_map_or (λ (x : Versioned Service). x.version) o 0) is in
    (h, ap (held_at key_cmp s.held.services) parts.0 ∙ is, sym (parts.1 ∙ version))

pub held-at : (queue : List Key) (s : State) (put : Put) → put_in (turn_of s queue) ≡ Some put → IsHeldAt s put
held-at [] s put e = absurd (cc)
held-at (key ∷ keys) s put e = held_by (held_at key_cmp s.held.services key) s key put refl e

some-queued : (queue : List Key) (s : State) (put : Put) → put_in (turn_of s queue) ≡ Some put → queue ≡ [] → ⊥
some-queued [] s put e none = absurd (cc)
some-queued (key ∷ keys) s put e none = absurd (cc)

ended_of : (a b c : Bool) → (a && b && c) ≡ true → b ≡ true
ended_of true true c e = refl
ended_of true false c e = absurd (cc)
ended_of false b c e = absurd (cc)

ready_by : (ready : Bool) (queue : List Key) → (ready ≡ false → queue ≡ []) → (queue ≡ [] → ⊥) → ready ≡ true
ready_by true queue idle some = refl
ready_by false queue idle some = absurd (some (idle refl))

-- ---- claims
added_by : (b : Bool) (claims more : List ClaimValue) → Grows (records_in claims) (records_in (cond b claims (claims ++ more)))
added_by true claims more q there = there
added_by false claims more q there =
    let found = records-from claims q there in
    subst (Contains (records_in (claims ++ more))) found.2 (records-there (claims ++ more) found.0 (Contains-append_left claims more found.0 found.1))

pub added-grows : (key : Key) (r : Record) (terms : Terms) (claims : List ClaimValue) → Grows (records_in claims) (records_in (added key r terms claims))
added-grows key r terms claims = added_by (list_any (is_under r terms) claims) claims (claim_of key r terms)

own_by : (b : Bool) (key : Key) (r : Record) (terms : Terms) (claims : List ClaimValue) → list_any (is_under r terms) claims ≡ b → is_assigned r ≡ true
    → Contains (records_in (cond b claims (claims ++ claim_of key r terms))) r
own_by true key r terms claims e has =
    let found = any-found (is_under r terms) claims e in
    subst (Contains (records_in claims)) (under-is found.0 r terms found.2).0 (records-there claims found.0 found.1)
own_by false key r terms claims e has =
    let claim : ClaimValue = record { key = key; holding = r; terms = terms } in
    records-there (claims ++ claim_of key r terms) claim (Contains-append_right claims (claim_of key r terms) claim (claim_of-stands key r terms has))

pub added-own : (key : Key) (r : Record) (terms : Terms) (claims : List ClaimValue) → is_assigned r ≡ true → Contains (records_in (added key r terms claims)) r
added-own key r terms claims has = own_by (list_any (is_under r terms) claims) key r terms claims refl has

-- the records of a key after a doubt
pub records-doubted : (claims : List ClaimValue) (key q : Key) (r : Record) (terms : Terms)
    → records_of q (doubted key r terms claims) ≡ cond (same_key key q) (records_in (added key r terms (claims_of q claims))) (records_of q claims)
records-doubted claims key q r terms =
    ap records_in (claims_of-doubted claims key q r terms) ∙ records-either (same_key key q) (added key r terms (claims_of q claims)) (claims_of q claims)

claimed_at : (found : Option Stored) (claims : List Record) (a : AddressValue) (t : Terms) → IsClaimed (option_map stored_as found) claims
    → Contains (kept_record found).addresses a → IsMarkOf t (kept_record found).mark → Contains claims (kept_record found)
claimed_at None claims a t claimed there m = absurd (contains-none a there)
claimed_at (Some held) claims a t claimed there m = claimed (given-marked (record_of held.object) a t there m)

-- ---- one service, by whether the put is of it
doubted_by : (z : Bool) (n : ℕ) (st : Option Shown) (o : Option (Versioned Service)) (h : Versioned Service) (claims more : List Record) (notices : List Notice)
    → Grows claims more
    → (z ≡ true → o ≡ Some h) → IsTracked n true st (option_map held_as o) claims notices
    → IsTracked n true st (option_map held_as o) (cond z more claims) notices
doubted_by true n st o h claims more notices grows is t =
    subst (λ (x : Option (Versioned Service)). IsTracked n true st (option_map held_as x) more notices) (sym (is refl))
    (tracked-doubted n st (held_as h) claims more notices grows
    (subst (λ (x : Option (Versioned Service)). IsTracked n true st (option_map held_as x) claims notices) (is refl) t))
doubted_by false n st o h claims more notices grows is t = t

-- both are there, at one version
abbrev pub AtOneVersion : Option Stored → Option (Versioned Service) → Stored → Versioned Service → Type 0
AtOneVersion o p g h = (o ≡ Some g) × (p ≡ Some h)

both-there : (n : ℕ) (o : Option Stored) (p : Option (Versioned Service)) (g : Stored) (h : Versioned Service) (claims : List Record) (notices : List Notice)
    → AtOneVersion o p g h
    → IsTracked n true (option_map stored_as o) (option_map held_as p) claims notices → IsTracked n true (Some (stored_as g)) (Some (held_as h)) claims notices
both-there n o p g h claims notices is t =
    subst (λ (x : Option Stored). IsTracked n true (option_map stored_as x) (Some (held_as h)) claims notices) is.0
    (subst (λ (x : Option (Versioned Service)). IsTracked n true (option_map stored_as o) (option_map held_as x) claims notices) is.1 t)

accepted_by : (z : Bool) (n : ℕ) (o : Option Stored) (p : Option (Versioned Service)) (g : Stored) (h : Versioned Service) (r : Record) (claims : List Record)
    (notices : List Notice)
    → (z ≡ true → AtOneVersion o p g h) → h.version ≡ g.version → record_of (with_record r g.object) ≡ r
    → IsTracked n true (option_map stored_as o) (option_map held_as p) claims notices
    → IsTracked (n + 1) true (option_map stored_as (cond z (Some (recorded (n + 1) r g)) o))
    (option_map held_as (cond z (Some (record { version = n + 1; object = with_holding r h.object })) p))
    (cond z (claimed_by r) claims) (notices ++ cond z (Shows (at_next n r) ∷ []) [])
accepted_by true n o p g h r claims notices is same own t =
    subst (λ (q : Record). IsTracked (n + 1) true (Some (at_next n q)) (Some (at_next n r)) (claimed_by r) (notices ++ Shows (at_next n r) ∷ [])) (sym own)
    (tracked-accepted n (stored_as g) (held_as h) r claims notices same (both-there n o p g h claims notices (is refl) t))
accepted_by false n o p g h r claims notices is same own t =
    subst (IsTracked (n + 1) true (option_map stored_as o) (option_map held_as p) claims) (sym (append-nil notices))
    (tracked-other n true (option_map stored_as o) (option_map held_as p) claims notices t)

pub lost_by : (z : Bool) (n : ℕ) (o : Option Stored) (p : Option (Versioned Service)) (g : Stored) (h : Versioned Service) (r : Record) (claims more : List Record)
    (notices : List Notice)
    → Grows claims more → (z ≡ true → is_given r ≡ true → Contains more r) → (z ≡ true → AtOneVersion o p g h) → h.version ≡ g.version
    → record_of (with_record r g.object) ≡ r
    → IsTracked n true (option_map stored_as o) (option_map held_as p) claims notices
    → IsTracked (n + 1) true (option_map stored_as (cond z (Some (recorded (n + 1) r g)) o)) (option_map held_as p)
    (cond z more claims) (notices ++ cond z (Shows (at_next n r) ∷ []) [])
lost_by true n o p g h r claims more notices grows has is same own t =
    let there = is refl in
    subst (λ (x : Option (Versioned Service)).
    IsTracked (n + 1) true (Some (stored_as (recorded (n + 1) r g))) (option_map held_as x) more (notices ++ Shows (at_next n r) ∷ [])) (sym there.1)
    (subst (λ (q : Record). IsTracked (n + 1) true (Some (at_next n q)) (Some (held_as h)) more (notices ++ Shows (at_next n r) ∷ [])) (sym own)
    (tracked-lost n (stored_as g) (held_as h) r claims more notices same grows (has refl) (both-there n o p g h claims notices there t)))
lost_by false n o p g h r claims more notices grows has is same own t =
    subst (IsTracked (n + 1) true (option_map stored_as o) (option_map held_as p) claims) (sym (append-nil notices))
    (tracked-other n true (option_map stored_as o) (option_map held_as p) claims notices t)

-- ---- what a put that was made shows
module _ (store : StoreValue) (put : Put) where
  abbrev pub next : ℕ
  next = store.counter + 1

  abbrev pub objects_with : Bool → Option Stored → List Stored
  objects_with b found = cond b (with_put next put found store.objects) store.objects

  abbrev pub put_shown : Bool → Option Stored → List Event
  put_shown b found = cond b (shown_stored (stored_at (objects_with b found) (service_at put.key))) []

  abbrev pub stored_now : Option Stored
  stored_now = stored_at store.objects (service_at put.key)

  made-shown : (g : Stored) → stored_now ≡ Some g → put_shown true (Some g) ≡ as_shown (recorded next put.holding g) ∷ []
  made-shown g found =
      ap shown_stored (stored_at-recorded store.objects g put.key put.key put.holding next found
      ∙ ap (λ (b : Bool). cond b (Some (recorded next put.holding g)) stored_now) (same_key-itself put.key))

  made-notices : (g : Stored) (key : Key) → stored_now ≡ Some g
      → notices_of key (as_shown (recorded next put.holding g)) ≡ cond (same_key put.key key) (Shows (at_next store.counter put.holding) ∷ []) []
  made-notices g key found =
      let is = service-at g.object put.key (found-stored store.objects (service_at put.key) g found).1 in
      ap (λ (x : Object). notices_shown key next (with_record put.holding x)) is.1
      ∙ ap (λ (k : Key). cond (same_key k key) (Shows (at_next store.counter put.holding) ∷ []) []) is.2

  pub made-lane : (g : Stored) (key : Key) (lane : List Event) → stored_now ≡ Some g
      → notices_in key (lane ++ put_shown true (Some g))
      ≡ notices_in key lane ++ cond (same_key put.key key) (Shows (at_next store.counter put.holding) ∷ []) []
  made-lane g key lane found =
      ap (λ (events : List Event). notices_in key (lane ++ events)) (made-shown g found)
      ∙ notices_in-push key lane (as_shown (recorded next put.holding g))
      ∙ ap (λ (ns : List Notice). notices_in key lane ++ ns) (made-notices g key found)

-- what is stored of a service is shown to the services' lane
stored_of_group : (found : Option Stored) (place : Place) → group_of place.0 ≡ groups.Service
    → ((held : Stored) → found ≡ Some held → place_of held.object ≡ place) → AllByRecursion (IsOfGroup groups.Service) (shown_stored found)
stored_of_group None place e at = tt
stored_of_group (Some held) place e at = (ap (λ (p : Place). group_of p.0) (at held refl) ∙ e, tt)

pub put-of : (put : Put) (outcome : Outcome) (store : StoreValue) → AllByRecursion (IsOfGroup groups.Service) (shown_put put outcome store)
put-of put outcome store =
    let objects = (after_put put outcome store).objects in
    all-either (is_made put outcome store.objects) (IsOfGroup groups.Service) (shown_stored (stored_at objects (service_at put.key))) []
    (stored_of_group (stored_at objects (service_at put.key)) (service_at put.key) refl (λ held e. (found-stored objects (service_at put.key) held e).1)) tt

-- ---- one service of the core that has heard the reply
module _ (w : WorldValue) (s : State) (put : Put) (h : Versioned Service) (held : held_at key_cmp s.held.services put.key ≡ Some h)
    (at : h.version ≡ put.version)
    (ended : s.held.services_ended ≡ true) (key : Key) (up : IsTrackedIn w s key)
  where
    abbrev here : Option Stored
    here = stored_at w.store.objects (service_at key)

    abbrev held_here : Option (Versioned Service)
    held_here = held_at key_cmp s.held.services key

    -- what holds after the reply, where the put was made or not
    abbrev Result : Bool → Option Stored → PutReply → Type 0
    Result b found reply =
        let t = replied (after_turn s) put reply in
        IsTracked (cond b (w.store.counter + 1) w.store.counter) t.held.services_ended
        (option_map stored_as (stored_at (objects_with w.store put b found) (service_at key)))
        (held_of t key) (records_of key t.claims) (notices_in key (w.service_lane ++ put_shown w.store put b found))

    ended-up : IsTracked w.store.counter true (stored_of w.store key) (held_of s key) (records_of key s.claims) (notices_in key w.service_lane)
    ended-up = subst
        (λ (b : Bool). IsTracked w.store.counter b (stored_of w.store key) (held_of s key) (records_of key s.claims) (notices_in key w.service_lane)) ended up

    none-more : notices_in key (w.service_lane ++ []) ≡ notices_in key w.service_lane
    none-more = ap (notices_in key) (append-nil w.service_lane)

    -- the records of the key, and that of the put
    abbrev more-records : List Record
    more-records = records_in (added put.key put.holding (put_terms s.held put) (claims_of key s.claims))

    more-grows : Grows (records_of key s.claims) more-records
    more-grows = added-grows put.key put.holding (put_terms s.held put) (claims_of key s.claims)

    stale-result : (found : Option Stored) → Result false found replies.Stale
    stale-result found = tracked-as _ _ _ _ refl refl refl none-more up

    missing-result : (found : Option Stored) → Result false found replies.Missing
    missing-result found = tracked-as _ _ _ _ refl refl refl none-more up

    same-held : same_key put.key key ≡ true → held_here ≡ Some h
    same-held same = ap (held_at key_cmp s.held.services) (sym (same_key-is put.key key same)) ∙ held

    doubt-result : (found : Option Stored) → Result false found replies.Unknown
    doubt-result found =
        subst (λ (b : Bool). IsTracked w.store.counter b (stored_of w.store key) (held_of s key)
        (records_of key (replied (after_turn s) put replies.Unknown).claims) (notices_in key (w.service_lane ++ []))) (sym ended)
        (tracked-as _ _ _ _ refl refl (records-doubted s.claims put.key key put.holding (put_terms s.held put)) none-more
        (doubted_by (same_key put.key key) w.store.counter (stored_of w.store key) held_here h (records_of key s.claims) more-records
        (notices_in key w.service_lane) more-grows same-held ended-up))

    module _ (g : Stored) (found : stored_at w.store.objects (service_at put.key) ≡ Some g) (current : g.version ≡ put.version) where
      both-here : same_key put.key key ≡ true → AtOneVersion here held_here g h
      both-here same = (ap (λ (k : Key). stored_at w.store.objects (service_at k)) (sym (same_key-is put.key key same)) ∙ found, same-held same)

      own-record : record_of (with_record put.holding g.object) ≡ put.holding
      own-record = given-record put.holding g.object put.key (found-stored w.store.objects (service_at put.key) g found).1

      stored-now : option_map stored_as (stored_at (objects_with w.store put true (Some g)) (service_at key))
          ≡ option_map stored_as (cond (same_key put.key key) (Some (recorded (w.store.counter + 1) put.holding g)) here)
      stored-now = ap (option_map stored_as) (stored_at-recorded w.store.objects g put.key key put.holding (w.store.counter + 1) found)

      held-now : held_of (replied (after_turn s) put (replies.Ok (w.store.counter + 1))) key
          ≡ option_map held_as
          (cond (same_key put.key key) (Some (record { version = w.store.counter + 1; object = with_holding put.holding h.object })) held_here)
      held-now =
          ap (option_map held_as)
          (ap (λ (o : Option (Versioned Service)).
          held_at key_cmp (amended_at key_cmp s.held.services put.key (w.store.counter + 1) (with_holding put.holding) o) key) held
          ∙ held_at-amended key_cmp-total s.held.services put.key key (w.store.counter + 1) (with_holding put.holding) h held
          ∙ ap (λ (b : Bool). cond b (Some (record { version = w.store.counter + 1; object = with_holding put.holding h.object })) held_here)
          (is_eq-key_cmp put.key key))

      accepted-result : Result true (Some g) (replies.Ok (w.store.counter + 1))
      accepted-result =
          let t = replied (after_turn s) put (replies.Ok (w.store.counter + 1)) in
          subst (λ (b : Bool). IsTracked (w.store.counter + 1) b (option_map stored_as (stored_at (objects_with w.store put true (Some g)) (service_at key)))
          (held_of t key) (records_of key t.claims) (notices_in key (w.service_lane ++ put_shown w.store put true (Some g)))) (sym ended)
          (tracked-as _ _ _ _ stored-now held-now (records_of-settled s.claims put.key key put.holding (put_terms s.held put))
          (made-lane w.store put g key w.service_lane found)
          (accepted_by (same_key put.key key) w.store.counter here held_here g h put.holding (records_of key s.claims) (notices_in key w.service_lane) both-here
          (at ∙ sym current) own-record ended-up))

      lost-result : Result true (Some g) replies.Unknown
      lost-result =
          let t = replied (after_turn s) put replies.Unknown in
          subst (λ (b : Bool). IsTracked (w.store.counter + 1) b (option_map stored_as (stored_at (objects_with w.store put true (Some g)) (service_at key)))
          (held_of t key) (records_of key t.claims) (notices_in key (w.service_lane ++ put_shown w.store put true (Some g)))) (sym ended)
          (tracked-as _ _ _ _ stored-now refl (records-doubted s.claims put.key key put.holding (put_terms s.held put))
          (made-lane w.store put g key w.service_lane found)
          (lost_by (same_key put.key key) w.store.counter here held_here g h put.holding (records_of key s.claims) more-records (notices_in key w.service_lane)
          more-grows (λ _ has. added-own put.key put.holding (put_terms s.held put) (claims_of key s.claims) (given-assigned put.holding has)) both-here (at ∙ sym current) own-record ended-up))

    delivered_on : (b : Bool) (g : Stored) → stored_at w.store.objects (service_at put.key) ≡ Some g → eqb g.version put.version ≡ b
        → Result b (Some g) (cond b (replies.Ok (w.store.counter + 1)) replies.Stale)
    delivered_on true g found e = accepted-result g found (eqb-true g.version put.version e)
    delivered_on false g found e = stale-result (Some g)

    delivered_by : (found : Option Stored) → stored_at w.store.objects (service_at put.key) ≡ found
        → Result (is_at_version put.version found) found (delivered_reply w.store.counter put found)
    delivered_by None is = missing-result None
    delivered_by (Some g) is = delivered_on (eqb g.version put.version) g is refl

    lost_on : (b : Bool) (found : Option Stored) → stored_at w.store.objects (service_at put.key) ≡ found → (b ≡ true → is_at_version put.version found ≡ true)
        → Result b found replies.Unknown
    lost_on false found is made = doubt-result found
    lost_on true None is made = absurd (true≢false (sym (made refl)))
    lost_on true (Some g) is made = lost-result g is (eqb-true g.version put.version (made refl))

    put-tracked : (outcome : Outcome)
        → Result (is_made put outcome w.store.objects) (stored_at w.store.objects (service_at put.key)) (reply_to put outcome w.store)
    put-tracked Delivered = delivered_by (stored_at w.store.objects (service_at put.key)) refl
    put-tracked Refused = stale-result (stored_at w.store.objects (service_at put.key))
    put-tracked (Lost applied) =
        let there = stored_at w.store.objects (service_at put.key) in
        lost_on (applied && is_at_version put.version there) there refl (λ e. (and_parts applied (is_at_version put.version there) e).1)

-- ---- the core that wants the put
module _ (w : WorldValue) (s : State) (put : Put) (wanted : put_in (core_turn s) ≡ Some put) (up : IsFollowed w s) where
  idle : is_ready s.held ≡ false → s.queue ≡ []
  idle = subst (λ (t : State). is_ready t.held ≡ false → t.queue ≡ []) up.leads (queues_are_orderly w.class up.run up.is).empty_unready

  pub ended-services : s.held.services_ended ≡ true
  ended-services =
      ended_of s.held.config_ended s.held.services_ended (is_some s.held.config)
      (ready_by (is_ready s.held) s.queue idle (some-queued s.queue s put wanted))

  out-none : (core_after w.class up.run).out ≡ None
  out-none = ap (λ (t : State). t.out) up.leads ∙ up.none_out

  abbrev turn : (pending : Option Reason) × (core_turn s ≡ Wants put pending)
  turn = wants-some (core_turn s) put wanted

  abbrev run : IsRun w.class (Turned (Wants put turn.0) ∷ up.run)
  run = ((out-none, sym turn.1 ∙ ap core_turn (sym up.leads)), up.is)

  abbrev right : IsRightPut w.class put turn.0 up.run
  right = puts_are_right w.class put turn.0 up.run run

  -- the terms of the service that it is put for
  abbrev given : Terms
  given = terms_of right.decision.held.object

  shares : SharesRightly put right.decision.held.object up.run
  shares = puts_share_rightly w.class put turn.0 up.run run up.typed right

  -- whoever else has an address of the put by a claim shares it
  pub beside-claimed : (other : Key) → other ≢ put.key → (q : Record) → ((t : Terms) → IsMarkOf t q.mark → Contains (records_of other s.claims) q)
      → (a : AddressValue) → Contains put.holding.addresses a → Contains q.addresses a → ShareByMarks put.holding q
  beside-claimed other apart q claimed a in_put in_other t u marked marked' =
      let has = claimed u marked' in
      let found = records-from (claims_of other s.claims) q has in
      let shown : claims_of other s.claims ≡ may_have other up.run =
      ap (λ (x : State). claims_of other x.claims) (sym up.leads) ∙ claims_are_shown w.class up.run up.is other
      ∙ sym (alone other up.run (none-out w.class up.run up.is out-none)) in
      let stands : Contains (core_after w.class up.run).claims found.0 =
      subst (λ (x : State). Contains x.claims found.0) (sym up.leads) (claim-of s.claims other found.0 found.1).0 in
      let theirs : found.0.terms ≡ u = claims_are_by_mark w.class up.run found.0 stands u (subst (λ (r : Record). IsMarkOf u r.mark) (sym found.2) marked') in
      subst (λ (x : Terms). MayShare x u) (marks-apart given t put.holding.mark (shares.marked (assigned_by put.holding.addresses a in_put)) marked)
      (subst (MayShare given) theirs
      (shares.shares other apart found.0 (subst (λ (cs : List ClaimValue). Contains cs found.0) shown found.1) a in_put
      (subst (λ (r : Record). Contains r.addresses a) (sym found.2) in_other)))

  -- and so does whoever else is recorded with one, since it has it by a claim
  pub beside : StandsBeside (record_at w.store) put.key put.holding
  beside other apart a in_put in_other =
      let of_other = up.tracked other in
      let claimed : IsClaimed (stored_of w.store other) (records_of other s.claims) =
      subst (λ (b : Bool). MatchBool b (IsClaimed (stored_of w.store other) (records_of other s.claims)) (WillBeClaimed (stored_of w.store other)
      (held_of s other) (records_of other s.claims) (notices_in other w.service_lane))) ended-services of_other.claimed in
      beside-claimed other apart (record_at w.store other)
      (λ u marked. claimed_at (stored_at w.store.objects (service_at other)) (records_of other s.claims) a u claimed in_other marked) a in_put in_other

  -- a put with an address is marked
  pub put-marked : is_assigned put.holding ≡ true → (t : Terms) × IsMarkOf t put.holding.mark
  put-marked has = (given, shares.marked has)

  put-stored : (outcome : Outcome) → IsGoodStore w.store → IsGoodStore (after_put put outcome w.store)
  put-stored outcome good = good-put put outcome w.store good beside

  pub heard : (reply : PutReply) → core_reply (after_turn s) reply ≡ replied (after_turn s) put reply
  heard reply = ap (λ (o : Option Put). replied_to o (after_turn s) reply) wanted

  put-followed : (outcome : Outcome) → IsGoodStore (after_put put outcome w.store)
      → (let v = put_by (after_turn s) put outcome w in IsFollowed v (replied (after_turn s) put (reply_to put outcome w.store)))
  put-followed outcome good =
      let reply = reply_to put outcome w.store in
      let h = held-at s.queue s put wanted in
      record {
        run = Heard reply ∷ Turned (core_turn (core_after w.class up.run)) ∷ up.run;
        is = (ap is_some (ap (λ (t : State). put_in (core_turn t)) up.leads ∙ wanted), ((out-none, refl), up.is));
        leads = ap (λ (t : State). core_reply (after_turn t) reply) up.leads ∙ heard reply;
        typed = (tt, (tt, up.typed));
        none_out = heard-out (Some put) reply (after_turn s) refl;
        services = all-append (IsOfGroup groups.Service) w.service_lane (shown_put put outcome w.store) up.services (put-of put outcome w.store);
        tracked = λ key. put-tracked w s put h.0 h.1 h.2 ended-services key (up.tracked key) outcome;
      }

  put-good : (outcome : Outcome) → IsGood w → IsGood (put_by (after_turn s) put outcome w)
  put-good outcome good =
      let stored = put-stored outcome good.stored in
      record {
        stored = stored;
        up = subst (IsFollowed (put_by (after_turn s) put outcome w)) (sym (heard (reply_to put outcome w.store))) (put-followed outcome stored);
      }

-- a turn without a put
silent-good : (w : WorldValue) (s : State) → put_in (core_turn s) ≡ None → IsFollowed w s → IsGood w → IsGood (record w { core = Some (after_turn s) })
silent-good w s none up good = record {
  stored = good.stored;
  up = record {
    run = Turned (core_turn (core_after w.class up.run)) ∷ up.run;
    is = ((ap (λ (t : State). t.out) up.leads ∙ up.none_out, refl), up.is);
    leads = ap after_turn up.leads;
    typed = (tt, up.typed);
    none_out = none;
    services = up.services;
    tracked = up.tracked;
  };
}

turned_by : (found : Option Put) (w : WorldValue) (s : State) (outcome : Outcome) → put_in (core_turn s) ≡ found → IsFollowed w s → IsGood w
    → IsGood (turned (after_turn s) found outcome w)
turned_by None w s outcome e up good = silent-good w s e up good
turned_by (Some put) w s outcome e up good = put-good w s put e up outcome good

turning_by : (c : Option State) (w : WorldValue) (outcome : Outcome) → IfSome c (IsFollowed w) → IsGood w → IsGood (after_turning c outcome w)
turning_by None w outcome up good = good
turning_by (Some s) w outcome up good = turned_by (put_in (core_turn s)) w s outcome refl up good

pub good-turn : (outcome : Outcome) (w : WorldValue) → IsGood w → IsGood (after_turning w.core outcome w)
good-turn outcome w good = turning_by w.core w outcome good.up good

-- ---- a crash
pub reached_by : (found : Option Put) (applied : Bool) (w : WorldValue) (s : State) → put_in (core_turn s) ≡ found → IsFollowed w s → IsGood w
    → IsGoodStore (reached found applied w.store)
reached_by None applied w s e up good = good.stored
reached_by (Some put) applied w s e up good = put-stored w s put e up (Lost applied) good.stored

crashed_by : (c : Option State) (applied : Bool) (w : WorldValue) → IfSome c (IsFollowed w) → IsGood w → IsGoodStore (reached (next_put c) applied w.store)
crashed_by None applied w up good = good.stored
crashed_by (Some s) applied w up good = reached_by (put_in (core_turn s)) applied w s refl up good

pub good-crash : (applied : Bool) (w : WorldValue) → IsGood w → IsGood (after_crash applied w)
good-crash applied w good = record { stored = crashed_by w.core applied w good.up good; up = tt }
