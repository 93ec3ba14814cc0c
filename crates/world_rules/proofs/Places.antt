-- What holds of a world row by row, from what holds of each service.
use Rattle.world_rules.specs.Tracked.{is_given}
use Rattle.std.proofs.Common.{◌≡◌, ◌≢◌, ℕ, ◌<◌, Bool, true, false, cond, List, [], ◌∷◌, ◌++◌, Option, Some, None}
use Rattle.std.proofs.Common.{◌⊎◌, inl, inr, ⊎_elim, option_map, refl, sym, ap, subst, ◌∙◌, arith, MatchBool, IfSome}
use Rattle.std.specs.List.{Contains}
use Rattle.std.proofs.lemmas.Bool.{true≢false, false_from_ne_true}
use Rattle.mlb_base.proofs.Among.{contains-none, contains-cons, contains-later, contains-first}
use Rattle.kube_model.specs.declared.event.Event.{Event}
use Rattle.kube_model.specs.declared.event.Event.TheVariants.{Changed, Deleted, ListEnd, Expired, Members, Frame, Ignored}
use Rattle.kube_model.specs.declared.event.ListGroup.TheVariants as groups
use Rattle.kube_model.specs.declared.key.Key.{Key}
use Rattle.kube_model.specs.declared.object.Kind.TheVariants as kinds
use Rattle.kube_model.specs.declared.object.Object.TheVariants as objects
use Rattle.kube_model.specs.declared.record.Record.{Record}
use Rattle.kube_model.specs.declared.service.Service.{Service}
use Rattle.kube_model.specs.Keys.{key_cmp, same_key}
use Rattle.kube_model.specs.Records.{is_assigned}
use Rattle.kube_model.proofs.KeyLaws.{same_key-is, same_key-itself, same_key-by}
use Rattle.versioned_map.specs.declared.map.Versioned.{Versioned}
use Rattle.versioned_map.specs.Objects.{held_at}
use Rattle.status_store.specs.declared.stored.Stored.{Stored}
use Rattle.status_store.specs.Places.{service_at}
use Rattle.status_store.specs.Objects.{IsStored, stored_at}
use Rattle.status_store.proofs.StoredLaws.{found-stored, stored-found}
use Rattle.claim_index.specs.Claims.{records_of, ClaimValue, claims_of}
use Rattle.core_rules.specs.Core.{State, service_of}
use Rattle.core_laws.specs.Queue.{IsOrderlyQueue}
use Rattle.core_laws.specs.Quiet.{IsQuiet}
use Rattle.core_laws.proofs.Queued.{queues_are_orderly}
use Rattle.core_laws.proofs.QuietRuns.{runs_are_quiet}
use Rattle.world_rules.specs.Tracked.{Shown, Notice, Shows, Gone, End, version_at, IsBare, has_gone, IsJust}
use Rattle.world_rules.specs.Tracked.{IsCarried, Follows, IsClaimed, WillBeClaimed, EndsOnce, IsTracked}
use Rattle.world_rules.specs.Good.{ends_config, NoneEnds, OneEnds, ConfigEnds, stored_as, stored_of, held_as}
use Rattle.world_rules.specs.Good.{held_of, notices_of, notices_in, IsFollowed, IsGoodStore}
use Rattle.world_rules.specs.Invariant.{IsHeld, IsPending, shows_service, deletes_service, ends_services, IsNewer, IsBareIn, IsAsShown, IsLive, AreCounted}
use Rattle.world_rules.specs.Invariant.{StoredAreClaimed, WillBeShown, StoredAreListed, HeldAreCurrent, LiveAreStored, DeletedAreBare, HeldAreClaimed}
use Rattle.world_rules.specs.Invariant.{IsQuiescent, AreInOrder, WillBeShownAt, UnheldAreShown, EndsOnceIn, WillBeListed, UnlistedAreShown, IsInOrder}
use Rattle.world_rules.specs.Laws.{WorldsAreInOrder, OwnEndsOnce}
use Rattle.world_rules.specs.Safe.{IsRecorded}
use Rattle.world_rules.specs.World.{WorldValue}
use Rattle.world_rules.proofs.Lanes.{notices_in-append}
use Rattle.world_rules.proofs.Following.{Follows-old}
use Rattle.world_rules.proofs.Rows.{has_end, held-up_to, pending-up_to, gone-bare, pending-behind, given-above, old-shows, current-stays, live-carried}
use Rattle.world_rules.proofs.Rows.{IsListed, claimed-or-listed, IsComing, IsHeldAt, held-or-coming, IsBeforeEnd, unlisted-shown, ends-has_end}
use Rattle.world_rules.proofs.ClaimRecords.{records-there}
use Rattle.core_laws.specs.Claimed.{IsClaimedAs}
use Rattle.core_laws.proofs.Claimed.{services_are_claimed}

-- ---- what an event is for a service
-- It shows the service.
pub record ShowsIt (key : Key) (event : Event) : Type 0 where
  pub version : ℕ
  pub service : Service
  pub is : event ≡ shows_service version service
  pub of_key : service.key ≡ key
  pub notices : notices_of key event ≡ Shows (record { version = version; holding = service.holding }) ∷ []

-- It deletes the service, or it ends the list.
pub record DeletesIt (key : Key) (event : Event) : Type 0 where
  pub is : event ≡ deletes_service key
  pub notices : notices_of key event ≡ Gone ∷ []

pub record EndsIt (key : Key) (event : Event) : Type 0 where
  pub is : event ≡ ends_services
  pub notices : notices_of key event ≡ End ∷ []

-- Nothing, and neither of the last two.
pub record IsOther (key : Key) (event : Event) : Type 0 where
  pub kept : event ≢ deletes_service key
  pub goes_on : event ≢ ends_services
  pub notices : notices_of key event ≡ []

abbrev pub IsOne : Key → Event → Type 0
IsOne key event = ShowsIt key event ⊎ DeletesIt key event ⊎ EndsIt key event ⊎ IsOther key event

nothing : (key : Key) (event : Event) → event ≢ deletes_service key → event ≢ ends_services → notices_of key event ≡ [] → IsOne key event
nothing key event kept goes_on notices = inr (inr (inr (record { kept = kept; goes_on = goes_on; notices = notices })))

one-shown : (b : Bool) (key : Key) (version : ℕ) (service : Service) → b ≡ same_key service.key key → IsOne key (shows_service version service)
one-shown true key version service e =
    inl (record {
      version = version;
      service = service;
      is = refl;
      of_key = same_key-is service.key key (sym e);
      notices = rw (← e) refl;
    })
one-shown false key version service e = nothing key (shows_service version service) (λ no. absurd (cc no)) (λ no. absurd (cc no)) (rw (← e) refl)

one-deleted : (b : Bool) (key other : Key) → b ≡ same_key other key → IsOne key (deletes_service other)
one-deleted true key other e = inr (inl (record { is = ap deletes_service (same_key-is other key (sym e)); notices = rw (← e) refl }))
one-deleted false key other e =
    nothing key (deletes_service other) (λ same. let is : other ≡ key = cc same in true≢false (sym (same_key-by other key is) ∙ sym e)) (λ no. absurd (cc no))
    (rw (← e) refl)

pub one-is : (key : Key) (event : Event) → IsOne key event
one-is key (Changed version (objects.Service service)) = one-shown (same_key service.key key) key version service refl
one-is key (Changed version (objects.Pool pool)) = nothing key (Changed version (objects.Pool pool)) (λ no. absurd (cc no)) (λ no. absurd (cc no)) refl
one-is key (Changed version (objects.L2 adv)) = nothing key (Changed version (objects.L2 adv)) (λ no. absurd (cc no)) (λ no. absurd (cc no)) refl
one-is key (Changed version (objects.Bgp adv)) = nothing key (Changed version (objects.Bgp adv)) (λ no. absurd (cc no)) (λ no. absurd (cc no)) refl
one-is key (Changed version (objects.Peer peer)) = nothing key (Changed version (objects.Peer peer)) (λ no. absurd (cc no)) (λ no. absurd (cc no)) refl
one-is key (Changed version (objects.Community community)) =
    nothing key (Changed version (objects.Community community)) (λ no. absurd (cc no)) (λ no. absurd (cc no)) refl
one-is key (Changed version (objects.Namespace namespace)) =
    nothing key (Changed version (objects.Namespace namespace)) (λ no. absurd (cc no)) (λ no. absurd (cc no)) refl
one-is key (Changed version (objects.Node node)) = nothing key (Changed version (objects.Node node)) (λ no. absurd (cc no)) (λ no. absurd (cc no)) refl
one-is key (Changed version (objects.Slice slice)) = nothing key (Changed version (objects.Slice slice)) (λ no. absurd (cc no)) (λ no. absurd (cc no)) refl
one-is key (Deleted kinds.Service other) = one-deleted (same_key other key) key other refl
one-is key (Deleted kinds.Pool other) = nothing key (Deleted kinds.Pool other) (λ no. absurd (cc no)) (λ no. absurd (cc no)) refl
one-is key (Deleted kinds.L2 other) = nothing key (Deleted kinds.L2 other) (λ no. absurd (cc no)) (λ no. absurd (cc no)) refl
one-is key (Deleted kinds.Bgp other) = nothing key (Deleted kinds.Bgp other) (λ no. absurd (cc no)) (λ no. absurd (cc no)) refl
one-is key (Deleted kinds.Peer other) = nothing key (Deleted kinds.Peer other) (λ no. absurd (cc no)) (λ no. absurd (cc no)) refl
one-is key (Deleted kinds.Community other) = nothing key (Deleted kinds.Community other) (λ no. absurd (cc no)) (λ no. absurd (cc no)) refl
one-is key (Deleted kinds.Namespace other) = nothing key (Deleted kinds.Namespace other) (λ no. absurd (cc no)) (λ no. absurd (cc no)) refl
one-is key (Deleted kinds.Node other) = nothing key (Deleted kinds.Node other) (λ no. absurd (cc no)) (λ no. absurd (cc no)) refl
one-is key (Deleted kinds.Slice other) = nothing key (Deleted kinds.Slice other) (λ no. absurd (cc no)) (λ no. absurd (cc no)) refl
one-is key (ListEnd groups.Service) = inr (inr (inl (record { is = refl; notices = refl })))
one-is key (ListEnd groups.Config) = nothing key (ListEnd groups.Config) (λ no. absurd (cc no)) (λ no. absurd (cc no)) refl
one-is key (ListEnd groups.Endpoint) = nothing key (ListEnd groups.Endpoint) (λ no. absurd (cc no)) (λ no. absurd (cc no)) refl
one-is key Expired = nothing key Expired (λ no. absurd (cc no)) (λ no. absurd (cc no)) refl
one-is key (Members names) = nothing key (Members names) (λ no. absurd (cc no)) (λ no. absurd (cc no)) refl
one-is key (Frame interface bytes) = nothing key (Frame interface bytes) (λ no. absurd (cc no)) (λ no. absurd (cc no)) refl
one-is key Ignored = nothing key Ignored (λ no. absurd (cc no)) (λ no. absurd (cc no)) refl

-- ---- the lane of a service
abbrev as_notices : ℕ → Service → Shown
as_notices version service = record { version = version; holding = service.holding }

-- where an event shows the service, its notice stands there
notices-shows : (key : Key) (version : ℕ) (service : Service) (before behind : List Event) → service.key ≡ key
    → notices_in key (before ++ shows_service version service ∷ behind) ≡ notices_in key before ++ Shows (as_notices version service) ∷ notices_in key behind
notices-shows key version service before behind e =
    notices_in-append key before (shows_service version service ∷ behind)
    ∙ ap (λ b. notices_in key before ++ (cond b (Shows (as_notices version service) ∷ []) [] ++ notices_in key behind)) (same_key-by service.key key e)

notices-gone : (key : Key) (before behind : List Event)
    → notices_in key (before ++ deletes_service key ∷ behind) ≡ notices_in key before ++ Gone ∷ notices_in key behind
notices-gone key before behind =
    notices_in-append key before (deletes_service key ∷ behind)
    ∙ ap (λ b. notices_in key before ++ (cond b (Gone ∷ []) [] ++ notices_in key behind)) (same_key-itself key)

notices-ends : (key : Key) (before behind : List Event)
    → notices_in key (before ++ ends_services ∷ behind) ≡ notices_in key before ++ End ∷ notices_in key behind
notices-ends key before behind = notices_in-append key before (ends_services ∷ behind)

-- Where a notice shows the service, an event does.
pub record StandsIn (key : Key) (lane : List Event) (x : Shown) (behind : List Notice) : Type 0 where
  pub earlier : List Event
  pub service : Service
  pub later : List Event
  pub is : lane ≡ earlier ++ shows_service x.version service ∷ later
  pub of_key : service.key ≡ key
  pub holding : service.holding ≡ x.holding
  pub later_is : notices_in key later ≡ behind

stands-behind : (key : Key) (event : Event) (lane : List Event) (x : Shown) (behind : List Notice) → StandsIn key lane x behind
    → StandsIn key (event ∷ lane) x behind
stands-behind key event lane x behind st =
    record {
      earlier = event ∷ st.earlier;
      service = st.service;
      later = st.later;
      is = ap (λ (es : List Event). event ∷ es) st.is;
      of_key = st.of_key;
      holding = st.holding;
      later_is = st.later_is;
    }

same-shown : (version : ℕ) (service : Service) (x : Shown) (event : Event) → event ≡ shows_service version service → as_notices version service ≡ x
    → event ≡ shows_service x.version service
same-shown version service x event is e = is ∙ ap (λ (y : Shown). shows_service y.version service) e

-- one notice first
first-stands : (key : Key) (event : Event) (lane : List Event) (n : Notice) (before : List Notice) (x : Shown) (behind : List Notice)
    → ((y : Shown) → n ≡ Shows y → (service : Service) × (event ≡ shows_service y.version service) × (service.key ≡ key) × (service.holding ≡ y.holding))
    → n ∷ notices_in key lane ≡ before ++ Shows x ∷ behind
    → ((rest : List Notice) → notices_in key lane ≡ rest ++ Shows x ∷ behind → StandsIn key lane x behind) → StandsIn key (event ∷ lane) x behind
first-stands key event lane n [] x behind shown e ih =
    let heads : n ≡ Shows x = cc in
    let tails : notices_in key lane ≡ behind = cc in
    let s = shown x heads in
    record { earlier = []; service = s.0; later = lane; is = ap (λ (y : Event). y ∷ lane) s.1; of_key = s.2; holding = s.3; later_is = tails }
first-stands key event lane n (m ∷ before) x behind shown e ih =
    let tails : notices_in key lane ≡ before ++ Shows x ∷ behind = cc in
    stands-behind key event lane x behind (ih before tails)

shown-is : (key : Key) (event : Event) (s : ShowsIt key event) (y : Shown) → Shows (as_notices s.version s.service) ≡ Shows y
    → (service : Service) × (event ≡ shows_service y.version service) × (service.key ≡ key) × (service.holding ≡ y.holding)
shown-is key event s y e =
    let same : as_notices s.version s.service ≡ y = cc in
    (s.service, same-shown s.version s.service y event s.is same, s.of_key, ap (λ (z : Shown). z.holding) same)

no-shown : (n : Notice) → ((y : Shown) → n ≡ Shows y → ⊥) → (key : Key) (event : Event) (y : Shown) → n ≡ Shows y
    → (service : Service) × (event ≡ shows_service y.version service) × (service.key ≡ key) × (service.holding ≡ y.holding)
no-shown n not key event y e = absurd (not y e)

pub stands-in : (key : Key) (lane : List Event) (before : List Notice) (x : Shown) (behind : List Notice) → notices_in key lane ≡ before ++ Shows x ∷ behind
    → StandsIn key lane x behind
stands-in key [] [] x behind e = absurd (cc)
stands-in key [] (m ∷ before) x behind e = absurd (cc)
stands-in key (event ∷ lane) before x behind e =
    let ih : (rest : List Notice) → notices_in key lane ≡ rest ++ Shows x ∷ behind → StandsIn key lane x behind =
    λ rest is. stands-in key lane rest x behind is in
    ⊎_elim
    (λ s. first-stands key event lane (Shows (as_notices s.version s.service)) before x behind (shown-is key event s)
    (ap (λ (ns : List Notice). ns ++ notices_in key lane) (sym s.notices) ∙ e) ih)
    (λ rest. ⊎_elim
    (λ d. first-stands key event lane Gone before x behind (no-shown Gone (λ y no. absurd (cc no)) key event)
    (ap (λ (ns : List Notice). ns ++ notices_in key lane) (sym d.notices) ∙ e) ih)
    (λ more. ⊎_elim
    (λ d. first-stands key event lane End before x behind (no-shown End (λ y no. absurd (cc no)) key event)
    (ap (λ (ns : List Notice). ns ++ notices_in key lane) (sym d.notices) ∙ e) ih)
    (λ o. stands-behind key event lane x behind (ih before (ap (λ (ns : List Notice). ns ++ notices_in key lane) (sym o.notices) ∙ e)))
    more)
    rest)
    (one-is key event)

-- ---- deletions and ends in a lane
gone-over : (xs ys : List Notice) → has_gone ys ≡ true → has_gone (xs ++ ys) ≡ true
gone-over [] ys e = e
gone-over (Shows x ∷ more) ys e = gone-over more ys e
gone-over (Gone ∷ more) ys e = refl
gone-over (End ∷ more) ys e = gone-over more ys e

end-over : (xs ys : List Notice) → has_end ys ≡ true → has_end (xs ++ ys) ≡ true
end-over [] ys e = e
end-over (Shows x ∷ more) ys e = end-over more ys e
end-over (Gone ∷ more) ys e = end-over more ys e
end-over (End ∷ more) ys e = refl

pub gone-there : (key : Key) (lane : List Event) → Contains lane (deletes_service key) → has_gone (notices_in key lane) ≡ true
gone-there key [] there = absurd (contains-none (deletes_service key) there)
gone-there key (event ∷ lane) there =
    ⊎_elim
    (λ is. subst (λ (x : Event). has_gone (notices_of key x ++ notices_in key lane) ≡ true) (sym is)
    (ap (λ b. has_gone (cond b (Gone ∷ []) [] ++ notices_in key lane)) (same_key-itself key)))
    (λ later. gone-over (notices_of key event) (notices_in key lane) (gone-there key lane later))
    (contains-cons event lane (deletes_service key) there)

pub end-there : (key : Key) (lane : List Event) → Contains lane ends_services → has_end (notices_in key lane) ≡ true
end-there key [] there = absurd (contains-none ends_services there)
end-there key (event ∷ lane) there =
    ⊎_elim
    (λ is. subst (λ (x : Event). has_end (notices_of key x ++ notices_in key lane) ≡ true) (sym is) refl)
    (λ later. end-over (notices_of key event) (notices_in key lane) (end-there key lane later))
    (contains-cons event lane ends_services there)

contains-is : (event x : Event) (lane : List Event) → event ≡ x → Contains (event ∷ lane) x
contains-is event x lane is = subst (λ (y : Event). Contains (event ∷ lane) y) is (contains-first event lane)

pub there-gone : (key : Key) (lane : List Event) → has_gone (notices_in key lane) ≡ true → Contains lane (deletes_service key)
there-gone key [] e = absurd (cc)
there-gone key (event ∷ lane) e =
    let later : has_gone (notices_in key lane) ≡ true → Contains (event ∷ lane) (deletes_service key) =
    λ f. contains-later event lane (deletes_service key) (there-gone key lane f) in
    ⊎_elim
    (λ s. later (sym (ap (λ (ns : List Notice). has_gone (ns ++ notices_in key lane)) s.notices) ∙ e))
    (λ rest. ⊎_elim
    (λ d. contains-is event (deletes_service key) lane d.is)
    (λ more. ⊎_elim
    (λ d. later (sym (ap (λ (ns : List Notice). has_gone (ns ++ notices_in key lane)) d.notices) ∙ e))
    (λ o. later (sym (ap (λ (ns : List Notice). has_gone (ns ++ notices_in key lane)) o.notices) ∙ e))
    more)
    rest)
    (one-is key event)

pub there-end : (key : Key) (lane : List Event) → has_end (notices_in key lane) ≡ true → Contains lane ends_services
there-end key [] e = absurd (cc)
there-end key (event ∷ lane) e =
    let later : has_end (notices_in key lane) ≡ true → Contains (event ∷ lane) ends_services =
    λ f. contains-later event lane ends_services (there-end key lane f) in
    ⊎_elim
    (λ s. later (sym (ap (λ (ns : List Notice). has_end (ns ++ notices_in key lane)) s.notices) ∙ e))
    (λ rest. ⊎_elim
    (λ d. later (sym (ap (λ (ns : List Notice). has_end (ns ++ notices_in key lane)) d.notices) ∙ e))
    (λ more. ⊎_elim
    (λ d. contains-is event ends_services lane d.is)
    (λ o. later (sym (ap (λ (ns : List Notice). has_end (ns ++ notices_in key lane)) o.notices) ∙ e))
    more)
    rest)
    (one-is key event)

true-false : (b : Bool) → b ≡ true → b ≡ false → ⊥
true-false b t f = true≢false (sym t ∙ f)

-- the list ends once
ended-none : (notices : List Notice) → EndsOnce true notices → has_end notices ≡ false
ended-none [] e = refl
ended-none (Shows x ∷ more) e = ended-none more e
ended-none (Gone ∷ more) e = ended-none more e
ended-none (End ∷ more) e = absurd e

end-once : (before : List Notice) (behind : List Notice) (ended : Bool) → EndsOnce ended (before ++ End ∷ behind) → has_end behind ≡ false
end-once [] behind true e = absurd e
end-once [] behind false e = ended-none behind e
end-once (Shows x ∷ before) behind true e = end-once before behind true e
end-once (Shows x ∷ before) behind false e = end-once before behind false e
end-once (Gone ∷ before) behind true e = end-once before behind true e
end-once (Gone ∷ before) behind false e = end-once before behind false e
end-once (End ∷ before) behind true e = absurd e
end-once (End ∷ before) behind false e = end-once before behind true e

-- ---- the end of the list of the configuration
none-there : (lane : List Event) → NoneEnds lane → Contains lane ends_config → ⊥
none-there [] none there = contains-none ends_config there
none-there (event ∷ lane) none there = ⊎_elim none.0 (none-there lane none.1) (contains-cons event lane ends_config there)

one-there : (lane : List Event) → OneEnds lane → Contains lane ends_config
one-there [] one = absurd one
one-there (event ∷ lane) (inl here) = contains-is event ends_config lane here.0
one-there (event ∷ lane) (inr later) = contains-later event lane ends_config (one-there lane later.1)

none-behind : (before behind : List Event) → NoneEnds (before ++ ends_config ∷ behind) → ⊥
none-behind [] behind none = none.0 refl
none-behind (event ∷ before) behind none = none-behind before behind none.1

one-behind : (before behind : List Event) → OneEnds (before ++ ends_config ∷ behind) → NoneEnds behind
one-behind [] behind (inl here) = here.1
one-behind [] behind (inr later) = absurd (later.0 refl)
one-behind (event ∷ before) behind (inl here) = absurd (none-behind before behind here.1)
one-behind (event ∷ before) behind (inr later) = one-behind before behind later.1

ends-behind : (ended : Bool) (before behind : List Event) → ConfigEnds ended (before ++ ends_config ∷ behind) → NoneEnds behind
ends-behind true before behind none = absurd (none-behind before behind none)
ends-behind false before behind one = one-behind before behind one

config-ends : (ended : Bool) (lane : List Event) → ConfigEnds ended lane → EndsOnceIn ends_config ended lane
config-ends ended lane ends =
    record {
      pending = λ unended. one-there lane (subst (λ b. ConfigEnds b lane) unended ends);
      none = λ is there. none-there lane (subst (λ b. ConfigEnds b lane) is ends) there;
      once = λ before behind split there. none-there behind (ends-behind ended before behind (subst (ConfigEnds ended) split ends)) there;
    }

-- ---- by a test that is known
match-true : (P Q : Type 0) (b : Bool) → b ≡ true → MatchBool b P Q → P
match-true P Q true e p = p
match-true P Q false e p = absurd (cc)

match-false : (P Q : Type 0) (b : Bool) → b ≡ false → MatchBool b P Q → Q
match-false P Q true e q = absurd (cc)
match-false P Q false e q = q

-- ---- one world
module _ (w : WorldValue) (s : State) (stored : IsGoodStore w.store) (up : IsFollowed w s) where
  -- what is stored and held of a service, as it is tracked
  recorded-at : (key : Key) (r : Record) → IsRecorded w.store key r → (x : Shown) × (stored_of w.store key ≡ Some x) × (x.holding ≡ r)
  recorded-at key r rec =
      let found = stored-found w.store.objects (service_at key) rec.0 stored.kept.ascending rec.1 in
      (stored_as rec.0, ap (option_map stored_as) found, rec.2)

  stored-at : (key : Key) (held : Stored) → IsStored w.store.objects (service_at key) held → stored_of w.store key ≡ Some (stored_as held)
  stored-at key held there = ap (option_map stored_as) (stored-found w.store.objects (service_at key) held stored.kept.ascending there)

  held-at : (key : Key) (held : Versioned Service) → IsHeld s key held → held_of s key ≡ Some (held_as held)
  held-at key held is = ap (option_map held_as) is

  newer-at : (key : Key) (version : ℕ) → IsNewer s key version → 0 < version → version_at (held_of s key) < version
  newer-at key version newer pos = by_held (held_at key_cmp s.held.services key) refl
    where
      by_held : (o : Option (Versioned Service)) → held_at key_cmp s.held.services key ≡ o → version_at (option_map held_as o) < version
      by_held None e = pos
      by_held (Some held) e = newer held e

  at-newer : (key : Key) (version : ℕ) → version_at (held_of s key) < version → IsNewer s key version
  at-newer key version lt held is = subst (λ (o : Option (Versioned Service)). version_at (option_map held_as o) < version) is lt

  -- ---- the rows
  record-stored : (key : Key) (x : Shown) → stored_of w.store key ≡ Some x → IsRecorded w.store key x.holding
  record-stored key x e = by_stored (stored_at w.store.objects (service_at key)) refl e
    where
      by_stored : (o : Option Stored) → stored_at w.store.objects (service_at key) ≡ o → option_map stored_as o ≡ Some x → IsRecorded w.store key x.holding
      by_stored None f g = absurd (cc)
      by_stored (Some held) f g =
          let same : stored_as held ≡ x = cc in
          (held, found-stored w.store.objects (service_at key) held f, ap (λ (y : Shown). y.holding) same)

  tracked-at : (key : Key) (x : Shown) → stored_of w.store key ≡ Some x
      → IsTracked w.store.counter s.held.services_ended (Some x) (held_of s key) (records_of key s.claims) (notices_in key w.service_lane)
  tracked-at key x e = rw e at (up.tracked key)

  stored_claimed : StoredAreClaimed w s
  stored_claimed ended key r rec has =
      let x = recorded-at key r rec in
      let t = tracked-at key x.0 x.1 in
      let claimed : IsClaimed (Some x.0) (records_of key s.claims) = match-true _ _ s.held.services_ended ended t.claimed in
      subst (λ (q : Record). Contains (records_of key s.claims) q) x.2 (claimed (ap is_given x.2 ∙ has))

  listed-there : (key : Key) (r : Record) → IsListed (held_of s key) (notices_in key w.service_lane) r → WillBeShown w s key r
  listed-there key r l =
      let at = stands-in key w.service_lane l.stands.before l.x l.behind l.stands.is in
      record {
        before = at.earlier;
        version = l.x.version;
        service = at.service;
        behind = at.later;
        pending = at.is;
        of_key = at.of_key;
        with_record = at.holding ∙ l.with_record;
        newer = at-newer key l.x.version l.newer;
        before_end = there-end key at.later (ap has_end at.later_is ∙ l.before_end);
      }

  stored_listed : StoredAreListed w s
  stored_listed unended key r rec has =
      let x = recorded-at key r rec in
      let t = tracked-at key x.0 x.1 in
      let will : WillBeClaimed (Some x.0) (held_of s key) (records_of key s.claims) (notices_in key w.service_lane) =
      match-false _ _ s.held.services_ended unended t.claimed in
      let ends : EndsOnce false (notices_in key w.service_lane) = subst (λ b. EndsOnce b (notices_in key w.service_lane)) unended t.ends in
      ⊎_elim
      (λ there. inl (subst (λ (q : Record). Contains (records_of key s.claims) q) x.2 there))
      (λ l. inr (listed-there key r (subst (λ (q : Record). IsListed (held_of s key) (notices_in key w.service_lane) q) x.2 l)))
      (claimed-or-listed (notices_in key w.service_lane) x.0 (held_of s key) (records_of key s.claims) (ap is_given x.2 ∙ has) ends t.follows will)

  both-at : (key : Key) (st : Stored) (held : Versioned Service) → IsStored w.store.objects (service_at key) st → IsHeld s key held
      → IsTracked w.store.counter s.held.services_ended (Some (stored_as st)) (Some (held_as held)) (records_of key s.claims) (notices_in key w.service_lane)
  both-at key st held there is = rw (held-at key held is) at (tracked-at key (stored_as st) (stored-at key st there))

  current : HeldAreCurrent w s
  current key st held there is same =
      let t = both-at key st held there is in
      let old = Follows-old (stored_as st) (held_as held) (notices_in key w.service_lane) same t.stored_later t.follows in
      let stays = current-stays (notices_in key w.service_lane) (stored_as st) (held_as held) same t.stored_later t.follows in
      record {
        same = ap (λ (x : Shown). x.holding) old.1;
        none_newer = λ before behind version service pending of_key.
            (let le = old-shows (notices_in key before) (notices_in key behind) st.version (as_notices version service)
            (rw (pending, notices-shows key version service before behind of_key) at old.0) in
            omega (arith, le, same));
        no_deletion = λ before behind pending.
            true-false (has_gone (notices_in key w.service_lane)) (ap (λ (lane : List Event). has_gone (notices_in key lane)) pending
            ∙ ap has_gone (notices-gone key before behind) ∙ gone-over (notices_in key before) (Gone ∷ notices_in key behind) refl) stays;
      }

  -- what is pending of a service is in its notices
  split : (before behind : List Event) (version : ℕ) (service : Service) → IsPending w before (shows_service version service) behind
      → notices_in service.key w.service_lane ≡ notices_in service.key before ++ Shows (as_notices version service) ∷ notices_in service.key behind
  split before behind version service pending = ap (notices_in service.key) pending ∙ notices-shows service.key version service before behind refl

  carried-at : (before behind : List Event) (version : ℕ) (service : Service) → IsPending w before (shows_service version service) behind
      → IsLive s before version service.key
      → IsCarried (stored_of w.store service.key) service.holding (notices_in service.key behind)
  carried-at before behind version service pending live =
      let t = up.tracked service.key in
      let is = split before behind version service pending in
      let given = rw is at t.notices_given in
      let follows = rw is at t.follows in
      let above = (given-above (notices_in service.key before) (notices_in service.key behind) 0 w.store.counter (as_notices version service) given).0 in
      live-carried (notices_in service.key before) (notices_in service.key behind) 0 w.store.counter (stored_of w.store service.key) (held_of s service.key)
      (as_notices version service) follows given
      (⊎_elim (λ newer. inl (newer-at service.key version newer above)) (λ gone. inr (gone-there service.key before gone)) live)

  just-recorded : (b : Bool) (key : Key) (r : Record) (o : Option Shown) → stored_of w.store key ≡ o → b ≡ false → MatchBool b (IsBare o) (IsJust o r)
      → IsAsShown w.store key r
  just-recorded true key r o e f c = absurd (cc)
  just-recorded false key r None e f c = absurd c
  just-recorded false key r (Some x) e f c = (x.holding, record-stored key x e, c)

  bare-is : (key : Key) (q : Record) (o : Option Shown) → (x : Shown) × (stored_of w.store key ≡ Some x) × (x.holding ≡ q) → stored_of w.store key ≡ o
      → IsBare o → is_given q ≡ false
  bare-is key q None x f bare = let none : Some x.0 ≡ None = sym x.1 ∙ f in absurd (cc none)
  bare-is key q (Some y) x f bare = let some : Some x.0 ≡ Some y = sym x.1 ∙ f in let same : x.0 ≡ y = cc in
      ap is_given (sym x.2) ∙ ap (λ (z : Shown). is_given z.holding) same ∙ bare

  bare-recorded : (b : Bool) (key : Key) (r : Record) (o : Option Shown) → stored_of w.store key ≡ o → b ≡ true → MatchBool b (IsBare o) (IsJust o r)
      → IsBareIn w.store key
  bare-recorded b key r o e f c = λ q rec. bare-is key q o (recorded-at key q rec) e (match-true _ _ b f c)

  live : LiveAreStored w s
  live =
      record {
        last = λ before behind version service pending is none.
            just-recorded (has_gone (notices_in service.key behind)) service.key service.holding (stored_of w.store service.key) refl
            (false_from_ne_true (has_gone (notices_in service.key behind)) (λ e. none (there-gone service.key behind e)))
            (carried-at before behind version service pending is);
        gone = λ before behind version service pending is gone.
            bare-recorded (has_gone (notices_in service.key behind)) service.key service.holding (stored_of w.store service.key) refl
            (gone-there service.key behind gone)
            (carried-at before behind version service pending is);
      }

  deleted : DeletedAreBare w s
  deleted before behind key pending st there =
      let t = tracked-at key (stored_as st) (stored-at key st there) in
      let gone : has_gone (notices_in key w.service_lane) ≡ true = ap (λ (lane : List Event). has_gone (notices_in key lane)) pending
      ∙ ap has_gone (notices-gone key before behind) ∙ gone-over (notices_in key before) (Gone ∷ notices_in key behind) refl in
      let bare = gone-bare (notices_in key w.service_lane) (Some (stored_as st)) (held_of s key) gone t.follows in
      (at-newer key st.version bare.1, bare.0)

  held-claimed : (key : Key) (held : Versioned Service) → IsHeld s key held → is_assigned held.object.holding ≡ true → IsClaimedAs s.claims key held.object
  held-claimed key held is has =
      subst (λ (t : State). IsClaimedAs t.claims key held.object) up.leads
      (services_are_claimed w.class up.run up.is key held.object
      (ap (λ (t : State). service_of t.held key) up.leads ∙ ap (option_map (λ (h : Versioned Service). h.object)) is) has)

  claims-held : (key : Key) (c : ClaimValue) → Contains (claims_of key s.claims) c → (held : Versioned Service) × IsHeld s key held
  claims-held key c there = by_held (held_at key_cmp s.held.services key) refl
    where
      by_held : (o : Option (Versioned Service)) → held_at key_cmp s.held.services key ≡ o
          → (held : Versioned Service) × (held_at key_cmp s.held.services key ≡ Some held)
      by_held None e =
          let none : held_of s key ≡ None = ap (option_map held_as) e in
          let kept : records_of key s.claims ≡ [] = rw none at (up.tracked key).kept in
          absurd (contains-none c.holding (subst (λ (rs : List Record). Contains rs c.holding) kept (records-there (claims_of key s.claims) c there)))
      by_held (Some held) e = (held, e)

  held_claimed : HeldAreClaimed s
  held_claimed = record { held = held-claimed; claims = claims-held }

  quiescent : IsQuiescent s
  quiescent =
      let orderly = subst (λ (t : State). IsOrderlyQueue t) up.leads (queues_are_orderly w.class up.run up.is) in
      record {
        quiet = subst (λ (t : State). IsQuiet t) up.leads (runs_are_quiet w.class up.run up.is);
        idle = orderly.empty_unready;
      }

  counted : AreCounted w s
  counted =
      record {
        stored = stored.kept;
        held = λ key held is. (let given = rw (held-at key held is) at (up.tracked key).held_given in given);
        pending = λ before behind version service pending.
            (let given = rw (split before behind version service pending) at (up.tracked service.key).notices_given in
            (given-above (notices_in service.key before) (notices_in service.key behind) 0 w.store.counter (as_notices version service) given).1);
      }

  follows-at : (before behind : List Event) (version : ℕ) (service : Service) (st : Stored) → IsPending w before (shows_service version service) behind
      → IsStored w.store.objects (service_at service.key) st
      → Follows (Some (stored_as st)) (held_of s service.key)
      (notices_in service.key before ++ Shows (as_notices version service) ∷ notices_in service.key behind)
  follows-at before behind version service st pending there =
      let t = tracked-at service.key (stored_as st) (stored-at service.key st there) in
      rw (split before behind version service pending) at t.follows

  ascending : (before between behind : List Event) (first second : ℕ) (service other : Service) → service.key ≡ other.key
      → w.service_lane ≡ before ++ (shows_service first service ∷ (between ++ (shows_service second other ∷ behind))) → first < second
  ascending before between behind first second service other same is =
      let key = service.key in
      let one : notices_in key w.service_lane
      ≡ notices_in key before ++ Shows (as_notices first service) ∷ notices_in key (between ++ shows_service second other ∷ behind) =
      ap (notices_in key) is ∙ notices-shows key first service before (between ++ shows_service second other ∷ behind) refl in
      let given = rw one at (up.tracked key).notices_given in
      let after = (given-above (notices_in key before) (notices_in key (between ++ shows_service second other ∷ behind)) 0 w.store.counter
      (as_notices first service) given).2 in
      let two = rw (notices-shows key second other between behind (sym same)) at after in
      (given-above (notices_in key between) (notices_in key behind) first w.store.counter (as_notices second other) two).0

  ordered : AreInOrder w s
  ordered =
      record {
        held = λ key st held there is.
            (let t = both-at key st held there is in held-up_to (notices_in key w.service_lane) (Some (stored_as st)) (Some (held_as held)) t.follows);
        ascending = ascending;
        stored = λ before behind version service st pending there.
            pending-up_to (notices_in service.key before) (notices_in service.key behind) (Some (stored_as st)) (held_of s service.key)
            (as_notices version service) (follows-at before behind version service st pending there);
        deleted = λ before behind version service st pending there gone.
            pending-behind (notices_in service.key before) (notices_in service.key behind) (Some (stored_as st)) (held_of s service.key)
            (as_notices version service) (gone-there service.key behind gone) (follows-at before behind version service st pending there);
      }

  coming-there : (key : Key) (version : ℕ) → IsComing (notices_in key w.service_lane) version → WillBeShownAt w key version
  coming-there key version c =
      let at = stands-in key w.service_lane c.stands.before c.x c.behind c.stands.is in
      record {
        before = at.earlier;
        service = at.service;
        behind = at.later;
        pending = subst (λ v. w.service_lane ≡ at.earlier ++ shows_service v at.service ∷ at.later) c.at_version at.is;
        of_key = at.of_key;
        stays = λ there. true-false (has_gone (notices_in key at.later)) (gone-there key at.later there) (ap has_gone at.later_is ∙ c.stays);
      }

  held-there : (key : Key) (version : ℕ) → IsHeldAt (held_of s key) version → (held : Versioned Service) × IsHeld s key held × (held.version ≡ version)
  held-there key version at = by_held (held_at key_cmp s.held.services key) refl at
    where
      by_held : (o : Option (Versioned Service)) → held_at key_cmp s.held.services key ≡ o → IsHeldAt (option_map held_as o) version
          → (held : Versioned Service) × (held_at key_cmp s.held.services key ≡ Some held) × (held.version ≡ version)
      by_held None e at = absurd at
      by_held (Some held) e at = (held, e, at)

  unheld : UnheldAreShown w s
  unheld key st there =
      let t = tracked-at key (stored_as st) (stored-at key st there) in
      ⊎_elim (λ at. inl (held-there key st.version at)) (λ c. inr (coming-there key st.version c))
      (held-or-coming (notices_in key w.service_lane) (stored_as st) (held_of s key) t.stored_later t.follows)

  -- any service tells of the end of the list
  some_key : Key
  some_key = record { namespace = []; name = [] }

  ends : EndsOnceIn ends_services s.held.services_ended w.service_lane
  ends =
      record {
        pending = λ unended. (let once : EndsOnce false (notices_in some_key w.service_lane) = subst (λ b. EndsOnce b (notices_in some_key w.service_lane))
            unended (up.tracked some_key).ends in there-end some_key w.service_lane (ends-has_end (notices_in some_key w.service_lane) once));
        none = λ ended there. (let once : EndsOnce true (notices_in some_key w.service_lane) =
            subst (λ b. EndsOnce b (notices_in some_key w.service_lane)) ended (up.tracked some_key).ends in
            true-false (has_end (notices_in some_key w.service_lane)) (end-there some_key w.service_lane there)
            (ended-none (notices_in some_key w.service_lane) once));
        once = λ before behind pending there.
            (let once = subst (λ (ns : List Notice). EndsOnce s.held.services_ended ns) (ap (notices_in some_key) pending ∙ notices-ends some_key before behind)
            (up.tracked some_key).ends in
            true-false (has_end (notices_in some_key behind)) (end-there some_key behind there)
            (end-once (notices_in some_key before) (notices_in some_key behind) s.held.services_ended once));
      }

  before-there : (key : Key) → IsBeforeEnd (notices_in key w.service_lane) → WillBeListed w key
  before-there key l =
      let at = stands-in key w.service_lane l.stands.before l.x l.behind l.stands.is in
      record {
        before = at.earlier;
        version = l.x.version;
        service = at.service;
        behind = at.later;
        pending = at.is;
        of_key = at.of_key;
        before_end = there-end key at.later (ap has_end at.later_is ∙ l.before_end);
      }

  unlisted : UnlistedAreShown w s
  unlisted unended key held is none st there =
      let t = both-at key st held there is in
      let once : EndsOnce false (notices_in key w.service_lane) = subst (λ b. EndsOnce b (notices_in key w.service_lane)) unended t.ends in
      ⊎_elim
      (λ l. inl (before-there key l))
      (λ bare. inr (
        bare,
        ⊎_elim
            (λ at. (let same : held_as at.0 ≡ held_as held = ap held_as (one-held at.0 held at.1 is) in
            let version : at.0.version ≡ held.version = ap (λ (x : Shown). x.version) same in
            let later : 0 < st.version = t.stored_later in
            absurd (omega (arith, version, at.2, none, later))))
            (λ c. c)
            (unheld key st there),
      ))
      (unlisted-shown (notices_in key w.service_lane) (stored_as st) (held_as held) none once t.follows)
    where
      one-held : (x y : Versioned Service) → held_at key_cmp s.held.services key ≡ Some x → held_at key_cmp s.held.services key ≡ Some y → x ≡ y
      one-held x y e f = let same : Some x ≡ Some y = sym e ∙ f in cc

  in-order : IsInOrder w s
  in-order =
      record {
        safe = stored.safe;
        counted = counted;
        stored_claimed = stored_claimed;
        stored_listed = stored_listed;
        current = current;
        live = live;
        deleted = deleted;
        held_claimed = held_claimed;
        quiescent = quiescent;
        ordered = ordered;
        unheld = unheld;
        ends = ends;
        unlisted = unlisted;
      }

up-in-order : (w : WorldValue) (c : Option State) → IsGoodStore w.store → IfSome c (IsFollowed w) → IfSome c (IsInOrder w)
up-in-order w None stored up = tt
up-in-order w (Some s) stored up = in-order w s stored up

-- a good world is in order, row by row
pub worlds_are_in_order : WorldsAreInOrder
worlds_are_in_order w good = up-in-order w w.core good.stored good.up

-- in a world that makes steps the list of the configuration ends once
ends_by : (c : Option State) (lane : List Event) → IfSome c (λ s. ConfigEnds s.held.config_ended lane)
    → IfSome c (λ s. EndsOnceIn ends_config s.held.config_ended lane)
ends_by None lane once = tt
ends_by (Some s) lane once = config-ends s.held.config_ended lane once

pub own_ends_once : OwnEndsOnce
own_ends_once w own = ends_by w.core w.config_lane own.config_ends
