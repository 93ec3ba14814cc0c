-- Puts that are under way: each of them, where it would be stored if it came now, is claimed by the core, and may stand beside whatever is stored
-- and beside the others.
pub use Rattle.world_rules.specs.Expected.{CanLand, IsExpected, AreExpected}
use Rattle.std.proofs.Common.{◌≡◌, ◌≢◌, ◌⊎◌, inl, inr, ⊎_elim, ℕ, ◌+◌, ◌≤◌, ◌<◌, Bool, true, false, cond, eqb, leb, List, [], ◌∷◌, ◌++◌}
use Rattle.std.proofs.Common.{Option, Some, None, option_map, is_some, IfSome, refl, sym, ap, subst, ◌∙◌, arith, append-nil}
use Rattle.std.proofs.lemmas.Bool.{true≢false, eqb-true}
use Rattle.std.specs.List.{AllByRecursion, Contains}
use Rattle.std.specs.Ordering.{is_eq}
use Rattle.mlb_base.proofs.Among.{contains-none, contains-cons}
use Rattle.mlb_base.proofs.Lists.{all-append}
use Rattle.ip_ranges.specs.Values.{AddressValue}
use Rattle.kube_model.specs.declared.event.Event.{Event}
use Rattle.kube_model.specs.declared.event.ListGroup.TheVariants as groups
use Rattle.kube_model.specs.declared.key.Key.{Key}
use Rattle.kube_model.specs.declared.object.Kind.{Kind}
use Rattle.kube_model.specs.declared.object.Object.{Object}
use Rattle.kube_model.specs.declared.put.Put.{Put}
use Rattle.kube_model.specs.declared.record.Record.{Record}
use Rattle.kube_model.specs.declared.service.Service.{Service}
use Rattle.kube_model.specs.Keys.{key_cmp, same_key}
use Rattle.kube_model.proofs.KeyLaws.{same_key-is, same_key-itself}
use Rattle.versioned_map.specs.declared.map.Versioned.{Versioned}
use Rattle.versioned_map.specs.Objects.{held_at}
use Rattle.claim_index.specs.Claims.{records_of}
use Rattle.status_store.specs.declared.change.Edit.TheVariants.{Delete}
use Rattle.status_store.specs.declared.change.Outcome.{Outcome}
use Rattle.status_store.specs.declared.change.Outcome.TheVariants.{Delivered, Lost, Refused}
use Rattle.status_store.specs.declared.stored.Stored.{Stored}
use Rattle.status_store.specs.Places.{Place, place_cmp, service_at}
use Rattle.status_store.specs.Objects.{is_of, stored_at}
use Rattle.status_store.specs.Changes.{StoreValue, IsWellFormed, kept_record, recorded, record_of, with_record, is_at_version, is_made, with_put, after_put, edited}
use Rattle.status_store.proofs.ListLaws.{stored_at-with_stored, stored_at-without_stored}
use Rattle.status_store.proofs.StoredLaws.{found-stored}
use Rattle.core_rules.specs.Core.{State}
use Rattle.world_rules.specs.Tracked.{Shown, Notice, Shows, is_given, version_at, IsBehind, IsUpTo, IsTracked, Gone, Follows}
use Rattle.world_rules.specs.Safe.{ShareByMarks}
use Rattle.world_rules.specs.World.{WorldValue, while_up, shown_put}
use Rattle.world_rules.specs.Moves.{IsOld, after_landing, stored_with}
use Rattle.world_rules.specs.Good.{stored_as, stored_of, held_as, held_of, notices_in, IsTrackedIn, IsOfGroup, IsFollowed, IsGoodStore, IsGood}
use Rattle.std.specs.List.Sorted.{IsStrictlySortedBy}
use Rattle.std.specs.Map.{keys_of}
use Rattle.kube_model.specs.declared.event.Event.TheVariants.{Changed, Deleted, ListEnd, Expired, Members, Frame, Ignored}
use Rattle.kube_model.specs.declared.object.Kind.TheVariants as kinds
use Rattle.kube_model.specs.declared.object.Object.TheVariants as objects
use Rattle.kube_model.specs.declared.reply.PutReply.{PutReply}
use Rattle.kube_model.specs.declared.reply.PutReply.TheVariants as replies
use Rattle.kube_model.specs.Service.{with_holding}
use Rattle.kube_model.proofs.KeyLaws.{key_cmp-total, is_eq-key_cmp}
use Rattle.versioned_map.specs.Objects.{version_at as version_held, amended_at}
use Rattle.versioned_map.proofs.HeldLaws.{held_at-shown, held_at-removed, held_at-amended}
use Rattle.claim_index.specs.Claims.{records_in, claims_of, claimed_by, added}
use Rattle.status_store.specs.Changes.{delivered_reply, reply_to}
use Rattle.core_rules.specs.Core.{shown_terms}
use Rattle.core_rules.specs.Take.{core_take}
use Rattle.core_rules.specs.Turn.{core_turn, after_turn, put_in}
use Rattle.core_rules.specs.Replied.{replied, core_reply, put_terms}
use Rattle.world_rules.specs.World.{told, expired_core, after_turning, next_put, reached}
use Rattle.world_rules.specs.World.{turned as turned_world}
use Rattle.world_rules.specs.Moves.{given_up, puts_in}
use Rattle.world_rules.specs.Good.{notices_of}
use Rattle.world_rules.proofs.ClaimRecords.{records_of-settled, records_of-others}
use Rattle.world_rules.proofs.Following.{leb-older}
use Rattle.world_rules.proofs.Lanes.{here-same}
use Rattle.world_rules.proofs.Storing.{given-marked, given-assigned, more-by}
use Rattle.world_rules.proofs.Takes.{claimed_by_new, held-version, not-ended, told-event, services-sorted}
use Rattle.world_rules.proofs.Tracking.{Grows}
use Rattle.world_rules.proofs.Turns.{IsHeldAt, held-at, records-doubted, added-grows, added-own, heard, ended-services, beside-claimed, beside}
use Rattle.world_rules.proofs.Lanes.{tracked-as, counted-at}
use Rattle.world_rules.proofs.Storing.{record_at, StandsBeside, none-in, turned, made_by, made-there, put_by, set_store, given-record, stored_at-recorded}
use Rattle.world_rules.proofs.Turns.{lost_by, made-lane, put-of, AtOneVersion, objects_with, put_shown}

pub none-expected : (store : StoreValue) (core : Option State) → AreExpected store core []
none-expected store core = record {
  counted = λ put in_late. absurd (contains-none put in_late);
  claimed = λ put in_late. absurd (contains-none put in_late);
  beside = λ put in_late. absurd (contains-none put in_late);
  apart = λ put other in_late. absurd (contains-none put in_late);
}

-- ---- edits
pub edited-expected : (old new : StoreValue) (core : Option State) (late : List Put) → old.counter ≤ new.counter
    → ((put : Put) → put.version ≤ old.counter → CanLand new put → CanLand old put)
    → ((key : Key) → (record_at old key ≡ record_at new key) ⊎ (is_given (record_at new key) ≡ false))
    → AreExpected old core late → AreExpected new core late
edited-expected old new core late more lands records e = record {
  counted = λ put in_late. (let le = e.counted put in_late in omega (arith, more, le));
  claimed = λ put in_late can. e.claimed put in_late (lands put (e.counted put in_late) can);
  beside = λ put in_late can other apart a here there.
      ⊎_elim
      (λ same. subst (ShareByMarks put.holding) same
      (e.beside put in_late (lands put (e.counted put in_late) can) other apart a here (subst (λ (r : Record). Contains r.addresses a) (sym same) there)))
      (λ gone. λ t u m n. absurd (none-in (record_at new other) a u gone there n))
      (records other);
  apart = λ put other in_late in_too can too.
      e.apart put other in_late in_too (lands put (e.counted put in_late) can) (lands other (e.counted other in_too) too);
}

lands_by : (b : Bool) (v n : ℕ) (added : Stored) (o : Option Stored) → added.version ≡ n + 1 → v ≤ n → is_at_version v (cond b (Some added) o) ≡ true
    → is_at_version v o ≡ true
lands_by true v n added o is le e = let at : added.version ≡ v = eqb-true added.version v e in absurd (omega (arith, is, at, le))
lands_by false v n added o is le e = e

pub set-lands : (object : Object) (holding : Record) (store : StoreValue) (put : Put) → put.version ≤ store.counter
    → CanLand (set_store object holding store) put → CanLand store put
set-lands object holding store put le can =
    lands_by (is_of (service_at put.key) (stored_with store object holding)) put.version store.counter (stored_with store object holding)
    (stored_at store.objects (service_at put.key)) refl le
    (subst (λ (o : Option Stored). is_at_version put.version o ≡ true)
    (stored_at-with_stored store.objects (stored_with store object holding) (service_at put.key)) can)

gone_lands : (b : Bool) (v : ℕ) (o : Option Stored) → is_at_version v (cond b None o) ≡ true → is_at_version v o ≡ true
gone_lands true v o e = absurd (true≢false (sym e))
gone_lands false v o e = e

pub delete-lands : (kind : Kind) (gone : Key) (store : StoreValue) → IsWellFormed store → (put : Put) → CanLand (edited (Delete kind gone) store) put
    → CanLand store put
delete-lands kind gone store kept put can =
    let place : Place = (kind, gone) in
    gone_lands (is_eq (place_cmp place (service_at put.key))) put.version (stored_at store.objects (service_at put.key))
    (subst (λ (o : Option Stored). is_at_version put.version o ≡ true)
    (stored_at-without_stored store.objects place (service_at put.key) kept.ascending) can)

-- ---- a put that comes
abbrev with_made : Bool → Put → Option Stored → StoreValue → StoreValue
with_made b put found store =
    record { objects = cond b (with_put (store.counter + 1) put found store.objects) store.objects; counter = cond b (store.counter + 1) store.counter }

-- one that can land then, could land before, and is of another service
made_lands_by : (z : Bool) (own key : Key) (v n : ℕ) (added : Stored) (o : Option Stored) → same_key own key ≡ z → added.version ≡ n + 1 → v ≤ n
    → is_at_version v (cond z (Some added) o) ≡ true → (is_at_version v o ≡ true) × (own ≢ key)
made_lands_by true own key v n added o z is le e = let at : added.version ≡ v = eqb-true added.version v e in absurd (omega (arith, is, at, le))
made_lands_by false own key v n added o z is le e =
    (e, λ same. true≢false (sym (same_key-itself own) ∙ ap (same_key own) same ∙ z))

beside_by : (z : Bool) (r q p : Record) (a : AddressValue) → Contains p.addresses a → Contains (cond z r q).addresses a
    → (Contains r.addresses a → ShareByMarks p r) → (Contains q.addresses a → ShareByMarks p q) → ShareByMarks p (cond z r q)
beside_by true r q p a here there own rest = own there
beside_by false r q p a here there own rest = rest there

pub put-expected : (b : Bool) (q : Put) (found : Option Stored) (store : StoreValue) (core now : Option State) (late : List Put)
    → stored_at store.objects (service_at q.key) ≡ found → (b ≡ true → is_some found ≡ true) → AreExpected store core late
    → ((p : Put) → Contains late p → CanLand store p → (b ≡ false) ⊎ (q.key ≢ p.key) → IfSome now (λ s. IsExpected s p))
    → (b ≡ true → (p : Put) → Contains late p → CanLand store p → q.key ≢ p.key → (a : AddressValue) → Contains p.holding.addresses a
    → Contains q.holding.addresses a → ShareByMarks p.holding q.holding)
    → AreExpected (with_made b q found store) now late
put-expected false q found store core now late is there e claims shares = record {
  counted = e.counted;
  claimed = λ p in_late can. claims p in_late can (inl refl);
  beside = e.beside;
  apart = e.apart;
}
put-expected true q None store core now late is there e claims shares = absurd (true≢false (sym (there refl)))
put-expected true q (Some g) store core now late is there e claims shares = record {
  counted = λ p in_late. (let le = e.counted p in_late in omega (arith, le));
  claimed = λ p in_late can. (let before = lands p in_late can in claims p in_late before.0 (inr before.1));
  beside = λ p in_late can other apart a here in_other.
      (let before = lands p in_late can in
      subst (ShareByMarks p.holding) (sym (at other))
      (beside_by (same_key q.key other) q.holding (record_at store other) p.holding a here
      (subst (λ (r : Record). Contains r.addresses a) (at other) in_other)
      (λ own. shares refl p in_late before.0 before.1 a here own)
      (λ rest. e.beside p in_late before.0 other apart a here rest)));
  apart = λ p other in_late in_too can too. e.apart p other in_late in_too (lands p in_late can).0 (lands other in_too too).0;
}
  where
    lands : (p : Put) → Contains late p → CanLand (with_made true q (Some g) store) p → CanLand store p × (q.key ≢ p.key)
    lands p in_late can =
        made_lands_by (same_key q.key p.key) q.key p.key p.version store.counter (recorded (store.counter + 1) q.holding g)
        (stored_at store.objects (service_at p.key)) refl refl (e.counted p in_late)
        (subst (λ (o : Option Stored). is_at_version p.version o ≡ true)
        (stored_at-recorded store.objects g q.key p.key q.holding (store.counter + 1) is) can)

    at : (key : Key) → record_at (with_made true q (Some g) store) key ≡ cond (same_key q.key key) q.holding (record_at store key)
    at key =
        ap kept_record (stored_at-recorded store.objects g q.key key q.holding (store.counter + 1) is)
        ∙ put_by (same_key q.key key) (store.counter + 1) q.holding g (stored_at store.objects (service_at key))
        (given-record q.holding g.object q.key (found-stored store.objects (service_at q.key) g is).1)

-- it is under way from then on, too
added_by : (late : List Put) (q p : Put) (X : Put → Type 0) → Contains (q ∷ late) p → X q → ((o : Put) → Contains late o → X o) → X p
added_by late q p X in_late own rest = ⊎_elim (λ same. subst X same own) (λ later. rest p later) (contains-cons q late p in_late)

pub added-expected : (store : StoreValue) (core : Option State) (late : List Put) (q : Put) → q.version ≤ store.counter
    → (CanLand store q → IfSome core (λ s. IsExpected s q)) → (CanLand store q → StandsBeside (record_at store) q.key q.holding)
    → (CanLand store q → (p : Put) → Contains late p → CanLand store p → q.key ≢ p.key → (a : AddressValue) → Contains q.holding.addresses a
    → Contains p.holding.addresses a → ShareByMarks q.holding p.holding)
    → AreExpected store core late → AreExpected store core (q ∷ late)
added-expected store core late q given claimed beside shares e = record {
  counted = λ p in_late. added_by late q p (λ (o : Put). o.version ≤ store.counter) in_late given e.counted;
  claimed = λ p in_late. added_by late q p (λ (o : Put). CanLand store o → IfSome core (λ s. IsExpected s o)) in_late claimed e.claimed;
  beside = λ p in_late. added_by late q p (λ (o : Put). CanLand store o → StandsBeside (record_at store) o.key o.holding) in_late beside e.beside;
  apart = λ p other in_late in_too.
      added_by late q p (λ (o : Put). CanLand store o → CanLand store other → o.key ≢ other.key → (a : AddressValue) → Contains o.holding.addresses a
      → Contains other.holding.addresses a → ShareByMarks o.holding other.holding) in_late
      (added_by late q other (λ (o : Put). CanLand store q → CanLand store o → q.key ≢ o.key → (a : AddressValue) → Contains q.holding.addresses a
      → Contains o.holding.addresses a → ShareByMarks q.holding o.holding) in_too
      (λ can too apart. absurd (apart refl))
      (λ o later can too apart. shares can o later too apart))
      (λ o later. added_by late q other (λ (u : Put). CanLand store o → CanLand store u → o.key ≢ u.key → (a : AddressValue) → Contains o.holding.addresses a
      → Contains u.holding.addresses a → ShareByMarks o.holding u.holding) in_too
      (λ can too apart a here there. turned q.holding o.holding (shares too o later can (λ same. apart (sym same)) a there here))
      (λ u too. e.apart o u later too));
}

-- ---- a put that lands
cond-same : {X : Type 0} (b : Bool) (x : X) → cond b x x ≡ x
cond-same true x = refl
cond-same false x = refl

-- the service is held at this version, which is 1 at least
held_there : (o : Option (Versioned Service)) (v : ℕ) → version_at (option_map held_as o) ≡ v → 0 < v
    → (h : Versioned Service) × (o ≡ Some h) × (h.version ≡ v)
held_there None v e pos = absurd (omega (arith, e, pos))
held_there (Some h) v e pos = (h, refl, e)

landed_store : (b : Bool) (q : Put) (found : Option Stored) (store : StoreValue) → stored_at store.objects (service_at q.key) ≡ found
    → (b ≡ true → is_some found ≡ true) → IsGoodStore store → (b ≡ true → StandsBeside (record_at store) q.key q.holding)
    → IsGoodStore (with_made b q found store)
landed_store false q found store is there good beside = good
landed_store true q found store is there good beside = made_by true q found store is good there (beside refl)

module _ (w : WorldValue) (s : State) (q : Put) (key : Key) (up : IsTrackedIn w s key) where
  abbrev Landed : Bool → Option Stored → Type 0
  Landed b found =
      IsTracked (cond b (w.store.counter + 1) w.store.counter) s.held.services_ended
      (option_map stored_as (stored_at (objects_with w.store q b found) (service_at key)))
      (held_of s key) (records_of key s.claims) (notices_in key (w.service_lane ++ put_shown w.store q b found))

  landed_at : (b : Bool) (found : Option Stored) → stored_at w.store.objects (service_at q.key) ≡ found → (b ≡ true → is_at_version q.version found ≡ true)
      → IsWellFormed w.store → (b ≡ true → IsExpected s q) → Landed b found
  landed_at false found is current kept expected =
      tracked-as _ _ _ _ refl refl refl (ap (notices_in key) (append-nil w.service_lane)) up
  landed_at true None is current kept expected = absurd (true≢false (sym (current refl)))
  landed_at true (Some g) is current kept expected =
      let n = w.store.counter in
      let claims = records_of key s.claims in
      let e = expected refl in
      let at : g.version ≡ q.version = eqb-true g.version q.version (current refl) in
      let pos : 0 < g.version = subst (λ (o : Option Stored). IsBehind (option_map stored_as o) 0) is (counted-at n w.store.objects (service_at q.key) kept.counted).1 in
      let h = held_there (held_at key_cmp s.held.services q.key) g.version (e.1 ∙ sym at) pos in
      let own : record_of (with_record q.holding g.object) ≡ q.holding =
      given-record q.holding g.object q.key (found-stored w.store.objects (service_at q.key) g is).1 in
      let both : same_key q.key key ≡ true → AtOneVersion (stored_at w.store.objects (service_at key)) (held_at key_cmp s.held.services key) g h.0 =
      λ same. (let k = same_key-is q.key key same in
      (subst (λ (x : Key). stored_at w.store.objects (service_at x) ≡ Some g) k is, subst (λ (x : Key). held_at key_cmp s.held.services x ≡ Some h.0) k h.1)) in
      let has : same_key q.key key ≡ true → is_given q.holding ≡ true → Contains claims q.holding =
      λ same given. subst (λ (x : Key). Contains (records_of x s.claims) q.holding) (same_key-is q.key key same) (e.2 given) in
      let ended_up = subst (λ (b : Bool). IsTracked n b (stored_of w.store key) (held_of s key) claims (notices_in key w.service_lane)) e.0 up in
      subst (λ (b : Bool). IsTracked (n + 1) b (option_map stored_as (stored_at (objects_with w.store q true (Some g)) (service_at key)))
      (held_of s key) claims (notices_in key (w.service_lane ++ put_shown w.store q true (Some g)))) (sym e.0)
      (tracked-as _ _ _ _
      (ap (option_map stored_as) (stored_at-recorded w.store.objects g q.key key q.holding (n + 1) is))
      refl (sym (cond-same (same_key q.key key) claims))
      (made-lane w.store q g key w.service_lane is)
      (lost_by (same_key q.key key) n (stored_at w.store.objects (service_at key)) (held_at key_cmp s.held.services key) g h.0 q.holding claims claims
      (notices_in key w.service_lane) (λ r there. there) has both h.2 own ended_up))

landed_up : (c : Option State) (w : WorldValue) (q : Put) → IfSome c (IsFollowed w) → IsWellFormed w.store
    → (CanLand w.store q → IfSome c (λ s. IsExpected s q))
    → (let v : WorldValue = record w {
      store = after_put q (Lost true) w.store;
      service_lane = w.service_lane ++ while_up c (shown_put q (Lost true) w.store);
    } in IfSome c (IsFollowed v))
landed_up None w q up kept expected = tt
landed_up (Some s) w q up kept expected = record {
  run = up.run;
  is = up.is;
  leads = up.leads;
  typed = up.typed;
  none_out = up.none_out;
  services = all-append (IsOfGroup groups.Service) w.service_lane (shown_put q (Lost true) w.store) up.services (put-of q (Lost true) w.store);
  tracked = λ key.
      landed_at w s q key (up.tracked key) (is_made q (Lost true) w.store.objects) (stored_at w.store.objects (service_at q.key)) refl (λ e. e) kept expected;
}

pub good-land : (w : WorldValue) (late : List Put) (q : Put) → Contains late q → AreExpected w.store w.core late → IsGood w → IsGood (after_landing q w)
good-land w late q in_late e good = record {
  stored = landed_store (is_made q (Lost true) w.store.objects) q (stored_at w.store.objects (service_at q.key)) w.store refl
      (made-there q (Lost true) w.store.objects) good.stored (e.beside q in_late);
  up = landed_up w.core w q good.up good.stored.kept (e.claimed q in_late);
}

pub landed-expected : (w : WorldValue) (late : List Put) (q : Put) → Contains late q → AreExpected w.store w.core late
    → AreExpected (after_landing q w).store w.core late
landed-expected w late q in_late e =
    put-expected (is_made q (Lost true) w.store.objects) q (stored_at w.store.objects (service_at q.key)) w.store w.core w.core late refl
    (made-there q (Lost true) w.store.objects) e
    (λ p there can else. e.claimed p there can)
    (λ made p there can apart. e.apart p q there in_late can made (λ same. apart (sym same)))

-- ---- an event that is taken
at_there : (o : Option Stored) (v : ℕ) → is_at_version v o ≡ true → (g : Stored) × (o ≡ Some g) × (g.version ≡ v)
at_there None v e = absurd (true≢false (sym e))
at_there (Some g) v e = (g, refl, eqb-true g.version v e)

same_by : {X : Type 0} (old b : Bool) (o new : X) → (b ≡ true → old ≡ true) → cond old o (cond b new o) ≡ o
same_by true b o new f = refl
same_by false true o new f = absurd (true≢false (sym (f refl)))
same_by false false o new f = refl

kept_by : {X : Type 0} (b : Bool) (o new : X) → (b ≡ true → ⊥) → cond b new o ≡ o
kept_by true o new f = absurd (f refl)
kept_by false o new f = refl

up_to_by : (b : Bool) (st h : Option Shown) (z : Shown) (notices : List Notice) → Follows st h (cond b (Shows z ∷ []) [] ++ notices) → b ≡ true
    → IsUpTo st z.version
up_to_by true st h z notices f e = f.0
up_to_by false st h z notices f e = absurd (true≢false (sym e))

behind_by : (b : Bool) (st h : Option Shown) (notices : List Notice) → Follows st h (cond b (Gone ∷ []) [] ++ notices) → b ≡ true
    → IsBehind st (version_at h)
behind_by true st h notices f e = f.1
behind_by false st h notices f e = absurd (true≢false (sym e))

-- nothing that is pending changes what is held at the stored version
module _ (w : WorldValue) (s : State) (sorted : IsStrictlySortedBy key_cmp (keys_of s.held.services)) (lane : List Event) (key : Key) (x : Shown)
    (stored : stored_of w.store key ≡ Some x) (current : version_at (held_of s key) ≡ x.version) (ended : s.held.services_ended ≡ true)
  where
    abbrev hold : Option (Versioned Service)
    hold = held_at key_cmp s.held.services key

    abbrev Before : Event → Type 0
    Before event = IsTracked w.store.counter s.held.services_ended (stored_of w.store key) (held_of s key) (records_of key s.claims)
        (notices_of key event ++ notices_in key lane)

    abbrev IsSameFor : State → Type 0
    IsSameFor t = (held_of t key ≡ held_of s key) × (records_of key t.claims ≡ records_of key s.claims)
        × (t.held.services_ended ≡ s.held.services_ended)

    same-shown : (version : ℕ) (service : Service) → Before (Changed version (objects.Service service))
        → IsSameFor (core_take s (Changed version (objects.Service service)))
    same-shown version service t =
        let z : Shown = record { version = version; holding = service.holding } in
        let old = leb version (version_held key_cmp s.held.services service.key) in
        let new : Versioned Service = record { version = version; object = service } in
        let is_old : same_key service.key key ≡ true → old ≡ true = λ same.
        (let up = up_to_by (same_key service.key key) (stored_of w.store key) (held_of s key) z (notices_in key lane) t.follows same in
        let le : version ≤ x.version = subst (λ (o : Option Shown). IsUpTo o version) stored up in
        let held : version_held key_cmp s.held.services service.key ≡ x.version =
        ap (version_held key_cmp s.held.services) (same_key-is service.key key same) ∙ held-version hold ∙ current in
        ap (leb version) held ∙ leb-older version x.version le) in (
          ap (option_map held_as)
              (held_at-shown key_cmp-total s.held.services service.key key version service
              ∙ ap (λ (b : Bool). cond old hold (cond b (Some new) hold)) (here-same key service.key)
              ∙ same_by old (same_key service.key key) hold (Some new) is_old),
          claimed_by_new old key service.key service.holding (shown_terms service) s.claims
              ∙ same_by old (same_key service.key key) (records_of key s.claims) (claimed_by service.holding) is_old,
          refl,
        )

    same-deleted : (gone : Key) → Before (Deleted kinds.Service gone) → IsSameFor (core_take s (Deleted kinds.Service gone))
    same-deleted gone t =
        let not_here : same_key gone key ≡ true → ⊥ = λ same.
        (let lt = behind_by (same_key gone key) (stored_of w.store key) (held_of s key) (notices_in key lane) t.follows same in
        let less : version_at (held_of s key) < x.version = subst (λ (o : Option Shown). IsBehind o (version_at (held_of s key))) stored lt in
        omega (arith, less, current)) in (
          ap (option_map held_as)
              (held_at-removed key_cmp-total s.held.services gone key sorted ∙ ap (λ (b : Bool). cond b None hold) (is_eq-key_cmp gone key)
              ∙ kept_by (same_key gone key) hold None not_here),
          records_of-others s.claims gone key ∙ kept_by (same_key gone key) (records_of key s.claims) [] not_here,
          refl,
        )

    same-event : (event : Event) → IsOfGroup groups.Service event → Before event → IsSameFor (core_take s event)
    same-event (Changed version (objects.Service service)) of t = same-shown version service t
    same-event (Changed version (objects.Pool pool)) of t = absurd (cc)
    same-event (Changed version (objects.L2 adv)) of t = absurd (cc)
    same-event (Changed version (objects.Bgp adv)) of t = absurd (cc)
    same-event (Changed version (objects.Peer peer)) of t = absurd (cc)
    same-event (Changed version (objects.Community community)) of t = absurd (cc)
    same-event (Changed version (objects.Namespace namespace)) of t = absurd (cc)
    same-event (Changed version (objects.Node node)) of t = absurd (cc)
    same-event (Changed version (objects.Slice slice)) of t = absurd (cc)
    same-event (Deleted kinds.Service gone) of t = same-deleted gone t
    same-event (Deleted kinds.Pool gone) of t = absurd (cc)
    same-event (Deleted kinds.L2 gone) of t = absurd (cc)
    same-event (Deleted kinds.Bgp gone) of t = absurd (cc)
    same-event (Deleted kinds.Peer gone) of t = absurd (cc)
    same-event (Deleted kinds.Community gone) of t = absurd (cc)
    same-event (Deleted kinds.Namespace gone) of t = absurd (cc)
    same-event (Deleted kinds.Node gone) of t = absurd (cc)
    same-event (Deleted kinds.Slice gone) of t = absurd (cc)
    same-event (ListEnd groups.Service) of t =
        absurd (true≢false (sym ended ∙ not-ended s.held.services_ended (notices_in key lane) t.ends))
    same-event (ListEnd groups.Config) of t = absurd (cc)
    same-event (ListEnd groups.Endpoint) of t = absurd (cc)
    same-event Expired of t = absurd of
    same-event (Members names) of t = absurd of
    same-event (Frame interface bytes) of t = absurd of
    same-event Ignored of t = absurd of

expected-as : (s t : State) (p : Put) → (held_of t p.key ≡ held_of s p.key) × (records_of p.key t.claims ≡ records_of p.key s.claims)
    × (t.held.services_ended ≡ s.held.services_ended) → IsExpected s p → IsExpected t p
expected-as s t p same e =
    (same.2 ∙ e.0, ap version_at same.0 ∙ e.1, λ given. subst (λ (rs : List Record). Contains rs p.holding) (sym same.1) (e.2 given))

taken_by : (w : WorldValue) (c : Option State) (lane : List Event) (p : Put) → w.service_lane ≡ lane → IfSome c (IsFollowed w) → CanLand w.store p
    → IfSome c (λ s. IsExpected s p) → IfSome (told c lane) (λ s. IsExpected s p)
taken_by w None lane p is up can e = tt
taken_by w (Some s) [] p is up can e = e
taken_by w (Some s) (event ∷ lane) p is up can e =
    let g = at_there (stored_at w.store.objects (service_at p.key)) p.version can in
    let of : AllByRecursion (IsOfGroup groups.Service) (event ∷ lane) = subst (AllByRecursion (IsOfGroup groups.Service)) is up.services in
    expected-as s (core_take s event) p
    (same-event w s (services-sorted w s up) lane p.key (stored_as g.0) (ap (option_map stored_as) g.1) (e.1 ∙ sym g.2) e.0 event of.0
    (subst (λ (events : List Event). IsTracked w.store.counter s.held.services_ended (stored_of w.store p.key) (held_of s p.key) (records_of p.key s.claims)
    (notices_in p.key events)) is (up.tracked p.key))) e

pub taken-expected : (w : WorldValue) (late : List Put) → IsGood w → AreExpected w.store w.core late
    → AreExpected w.store (told w.core w.service_lane) late
taken-expected w late good e = record {
  counted = e.counted;
  claimed = λ p in_late can. taken_by w w.core w.service_lane p refl good.up can (e.claimed p in_late can);
  beside = e.beside;
  apart = e.apart;
}

-- ---- something of the configuration that is shown, or a service once more, and its watch that expires
told_by : (c : Option State) (event : Event) (p : Put) → IsOfGroup groups.Config event ⊎ IsOld event c → IfSome c (λ s. IsExpected s p)
    → IfSome (option_map (λ s. core_take s event) c) (λ s. IsExpected s p)
told_by None event p of e = tt
told_by (Some s) event p of e =
    let same = told-event s event of in
    expected-as s (core_take s event) p
    (ap (λ (es : List (Key × Versioned Service)). option_map held_as (held_at key_cmp es p.key)) same.0, ap (records_of p.key) same.2, same.1) e

pub told-expected : (store : StoreValue) (c : Option State) (late : List Put) (event : Event) → IsOfGroup groups.Config event ⊎ IsOld event c → AreExpected store c late
    → AreExpected store (option_map (λ s. core_take s event) c) late
told-expected store c late event of e = record {
  counted = e.counted;
  claimed = λ p in_late can. told_by c event p of (e.claimed p in_late can);
  beside = e.beside;
  apart = e.apart;
}

config_by : (c : Option State) (p : Put) → IfSome c (λ s. IsExpected s p) → IfSome (expired_core groups.Config c) (λ s. IsExpected s p)
config_by None p e = tt
config_by (Some s) p e = e

pub config-expected : (store : StoreValue) (c : Option State) (late : List Put) → AreExpected store c late
    → AreExpected store (expired_core groups.Config c) late
config-expected store c late e = record {
  counted = e.counted;
  claimed = λ p in_late can. config_by c p (e.claimed p in_late can);
  beside = e.beside;
  apart = e.apart;
}

-- ---- a turn, and a crash
none_given : (outcome : Outcome) → given_up outcome None ≡ []
none_given Delivered = refl
none_given (Lost applied) = refl
none_given Refused = refl

reply_ok_by : (b : Bool) (n v : ℕ) → cond b (replies.Ok n) replies.Stale ≡ replies.Ok v → b ≡ true
reply_ok_by true n v e = refl
reply_ok_by false n v e = absurd (cc)

delivered_ok : (found : Option Stored) (n : ℕ) (q : Put) (v : ℕ) → delivered_reply n q found ≡ replies.Ok v → is_at_version q.version found ≡ true
delivered_ok None n q v e = absurd (cc)
delivered_ok (Some g) n q v e = reply_ok_by (eqb g.version q.version) (n + 1) v e

-- a put that is answered ok was made
ok_made : (outcome : Outcome) (store : StoreValue) (q : Put) (v : ℕ) → reply_to q outcome store ≡ replies.Ok v → is_made q outcome store.objects ≡ true
ok_made Delivered store q v e = delivered_ok (stored_at store.objects (service_at q.key)) store.counter q v e
ok_made (Lost applied) store q v e = absurd (cc)
ok_made Refused store q v e = absurd (cc)

grown_by : (z : Bool) (rs more : List Record) (r : Record) → Grows rs more → Contains rs r → Contains (cond z more rs) r
grown_by true rs more r grows there = grows r there
grown_by false rs more r grows there = there

apart_false : (k key : Key) → k ≢ key → same_key k key ≡ true → ⊥
apart_false k key apart same = apart (same_key-is k key same)

replied-expected : (s : State) (q : Put) (h : Versioned Service) → held_at key_cmp s.held.services q.key ≡ Some h → (reply : PutReply) (p : Put)
    → ((v : ℕ) → reply ≡ replies.Ok v → q.key ≢ p.key) → IsExpected s p → IsExpected (replied (after_turn s) q reply) p
replied-expected s q h held (replies.Ok v) p apart e =
    let hold = held_at key_cmp s.held.services p.key in
    let other : Option (Versioned Service) = Some (record { version = v; object = with_holding q.holding h.object }) in
    let away = apart_false q.key p.key (apart v refl) in
    let same : held_of (replied (after_turn s) q (replies.Ok v)) p.key ≡ held_of s p.key =
    ap (option_map held_as)
    (ap (λ (o : Option (Versioned Service)). held_at key_cmp (amended_at key_cmp s.held.services q.key v (with_holding q.holding) o) p.key) held
    ∙ held_at-amended key_cmp-total s.held.services q.key p.key v (with_holding q.holding) h held
    ∙ ap (λ (b : Bool). cond b other hold) (is_eq-key_cmp q.key p.key)
    ∙ kept_by (same_key q.key p.key) hold other away) in (
      e.0,
      ap version_at same ∙ e.1,
      λ given. subst (λ (rs : List Record). Contains rs p.holding)
          (sym (records_of-settled s.claims q.key p.key q.holding (put_terms s.held q)
          ∙ kept_by (same_key q.key p.key) (records_of p.key s.claims) (claimed_by q.holding) away)) (e.2 given),
    )
replied-expected s q h held replies.Stale p apart e = e
replied-expected s q h held replies.Missing p apart e = e
replied-expected s q h held replies.Unknown p apart e = (
  e.0,
  e.1,
  λ given. subst (λ (rs : List Record). Contains rs p.holding) (sym (records-doubted s.claims q.key p.key q.holding (put_terms s.held q)))
      (grown_by (same_key q.key p.key) (records_of p.key s.claims) (records_in (added q.key q.holding (put_terms s.held q) (claims_of p.key s.claims))) p.holding
      (added-grows q.key q.holding (put_terms s.held q) (claims_of p.key s.claims)) (e.2 given)),
)

-- one that can land after its own coming, wasn't made
unmade_by : (b : Bool) (q : Put) (found : Option Stored) (store : StoreValue) → stored_at store.objects (service_at q.key) ≡ found
    → (b ≡ true → is_some found ≡ true) → q.version ≤ store.counter → CanLand (with_made b q found store) q → b ≡ false
unmade_by false q found store is there le can = refl
unmade_by true q None store is there le can = absurd (true≢false (sym (there refl)))
unmade_by true q (Some g) store is there le can =
    absurd ((made_lands_by (same_key q.key q.key) q.key q.key q.version store.counter (recorded (store.counter + 1) q.holding g)
    (stored_at store.objects (service_at q.key)) refl refl le
    (subst (λ (o : Option Stored). is_at_version q.version o ≡ true)
    (stored_at-recorded store.objects g q.key q.key q.holding (store.counter + 1) is) can)).1 refl)

stands_by : (b : Bool) (q : Put) (found : Option Stored) (store : StoreValue) → b ≡ false → StandsBeside (record_at store) q.key q.holding
    → StandsBeside (record_at (with_made b q found store)) q.key q.holding
stands_by true q found store e beside = absurd (true≢false e)
stands_by false q found store e beside = beside

before_by : (b : Bool) (q p : Put) (found : Option Stored) (store : StoreValue) → b ≡ false → CanLand (with_made b q found store) p → CanLand store p
before_by true q p found store e can = absurd (true≢false e)
before_by false q p found store e can = can

module _ (w : WorldValue) (s : State) (q : Put) (wanted : put_in (core_turn s) ≡ Some q) (up : IsFollowed w s) (late : List Put)
    (e : AreExpected w.store (Some s) late)
  where
    h : IsHeldAt s q
    h = held-at s.queue s q wanted

    held-version-of : version_at (held_of s q.key) ≡ q.version
    held-version-of = ap (λ (o : Option (Versioned Service)). version_at (option_map held_as o)) h.1 ∙ h.2

    given-version : q.version ≤ w.store.counter
    given-version = subst (λ (v : ℕ). v ≤ w.store.counter) held-version-of (up.tracked q.key).held_given

    -- it shares with each of the others
    shares-own : (p : Put) → Contains late p → CanLand w.store p → q.key ≢ p.key → (a : AddressValue) → Contains q.holding.addresses a
        → Contains p.holding.addresses a → ShareByMarks q.holding p.holding
    shares-own p in_late can apart a here there =
        beside-claimed w s q wanted up p.key (λ same. apart (sym same)) p.holding
        (λ t marked. (e.claimed p in_late can).2 (given-marked p.holding a t there marked)) a here there

    -- what holds of the others
    came : (outcome : Outcome) (now : Option State)
        → ((p : Put) → Contains late p → CanLand w.store p → (is_made q outcome w.store.objects ≡ false) ⊎ (q.key ≢ p.key) → IfSome now (λ t. IsExpected t p))
        → AreExpected (after_put q outcome w.store) now late
    came outcome now claims =
        put-expected (is_made q outcome w.store.objects) q (stored_at w.store.objects (service_at q.key)) w.store (Some s) now late refl
        (made-there q outcome w.store.objects) e claims
        (λ made p in_late can apart a here there. turned q.holding p.holding (shares-own p in_late can apart a there here))

    -- and of it too, where it is under way
    given : (applied : Bool) (now : Option State)
        → ((p : Put) → Contains late p → CanLand w.store p → (is_made q (Lost applied) w.store.objects ≡ false) ⊎ (q.key ≢ p.key)
        → IfSome now (λ t. IsExpected t p))
        → IfSome now (λ t. IsExpected t q) → AreExpected (after_put q (Lost applied) w.store) now (q ∷ late)
    given applied now claims own =
        let b = is_made q (Lost applied) w.store.objects in
        let found = stored_at w.store.objects (service_at q.key) in
        let unmade : CanLand (after_put q (Lost applied) w.store) q → b ≡ false =
        unmade_by b q found w.store refl (made-there q (Lost applied) w.store.objects) given-version in
        let more = more-by b w.store.counter in
        let le = given-version in
        added-expected (after_put q (Lost applied) w.store) now late q (omega (arith, more, le)) (λ can. own)
        (λ can. stands_by b q found w.store (unmade can) (beside w s q wanted up))
        (λ can p in_late too. shares-own p in_late (before_by b q p found w.store (unmade can) too))
        (came (Lost applied) now claims)

    heard-claims : (outcome : Outcome) (p : Put) → Contains late p → CanLand w.store p
        → (is_made q outcome w.store.objects ≡ false) ⊎ (q.key ≢ p.key) → IsExpected (replied (after_turn s) q (reply_to q outcome w.store)) p
    heard-claims outcome p in_late can either =
        replied-expected s q h.0 h.1 (reply_to q outcome w.store) p
        (λ v ok. ⊎_elim (λ unmade. absurd (true≢false (sym (ok_made outcome w.store q v ok) ∙ unmade))) (λ apart. apart) either)
        (e.claimed p in_late can)

    own-claim : IsExpected (replied (after_turn s) q replies.Unknown) q
    own-claim = (
      ended-services w s q wanted up,
      held-version-of,
      λ given. subst (λ (rs : List Record). Contains rs q.holding)
          (sym (records-doubted s.claims q.key q.key q.holding (put_terms s.held q)
          ∙ ap (λ (b : Bool). cond b (records_in (added q.key q.holding (put_terms s.held q) (claims_of q.key s.claims))) (records_of q.key s.claims))
          (same_key-itself q.key)))
          (added-own q.key q.holding (put_terms s.held q) (claims_of q.key s.claims) (given-assigned q.holding given)),
    )

    turn-heard : (outcome : Outcome)
        → AreExpected (after_put q outcome w.store) (Some (replied (after_turn s) q (reply_to q outcome w.store))) (given_up outcome (Some q) ++ late)
    turn-heard Delivered = came Delivered (Some (replied (after_turn s) q (reply_to q Delivered w.store))) (heard-claims Delivered)
    turn-heard (Lost applied) = given applied (Some (replied (after_turn s) q replies.Unknown)) (heard-claims (Lost applied)) own-claim
    turn-heard Refused = came Refused (Some (replied (after_turn s) q replies.Stale)) (heard-claims Refused)

    turn-expected : (outcome : Outcome)
        → AreExpected (after_put q outcome w.store) (Some (core_reply (after_turn s) (reply_to q outcome w.store))) (given_up outcome (Some q) ++ late)
    turn-expected outcome =
        subst (λ (t : State). AreExpected (after_put q outcome w.store) (Some t) (given_up outcome (Some q) ++ late))
        (sym (heard w s q wanted up (reply_to q outcome w.store))) (turn-heard outcome)

turned_by : (found : Option Put) (w : WorldValue) (s : State) (outcome : Outcome) (late : List Put) → put_in (core_turn s) ≡ found → IsFollowed w s
    → AreExpected w.store (Some s) late
    → AreExpected (turned_world (after_turn s) found outcome w).store (turned_world (after_turn s) found outcome w).core (given_up outcome found ++ late)
turned_by None w s outcome late is up e =
    subst (λ (more : List Put). AreExpected w.store (Some (after_turn s)) (more ++ late)) (sym (none_given outcome))
    (record { counted = e.counted; claimed = e.claimed; beside = e.beside; apart = e.apart })
turned_by (Some q) w s outcome late is up e = turn-expected w s q is up late e outcome

pub turned-expected : (c : Option State) (w : WorldValue) (outcome : Outcome) (late : List Put) → IfSome c (IsFollowed w) → w.core ≡ c
    → AreExpected w.store c late
    → AreExpected (after_turning c outcome w).store (after_turning c outcome w).core (given_up outcome (next_put c) ++ late)
turned-expected None w outcome late up is e =
    subst (λ (more : List Put). AreExpected w.store w.core (more ++ late)) (sym (none_given outcome))
    (subst (λ (c : Option State). AreExpected w.store c late) (sym is) e)
turned-expected (Some s) w outcome late up is e = turned_by (put_in (core_turn s)) w s outcome late refl up e

pub unclaimed : (store : StoreValue) (c : Option State) (late : List Put) → AreExpected store c late → AreExpected store None late
unclaimed store c late e = record { counted = e.counted; claimed = λ p in_late can. tt; beside = e.beside; apart = e.apart }

pub stopped_by : (found : Option Put) (w : WorldValue) (s : State) (applied : Bool) (late : List Put) → put_in (core_turn s) ≡ found → IsFollowed w s
    → AreExpected w.store (Some s) late → AreExpected (reached found applied w.store) None (puts_in found ++ late)
stopped_by None w s applied late is up e = unclaimed w.store (Some s) late e
stopped_by (Some q) w s applied late is up e = given w s q is up late e applied None (λ p in_late can either. tt) tt

pub stopped-expected : (c : Option State) (w : WorldValue) (applied : Bool) (late : List Put) → IfSome c (IsFollowed w) → AreExpected w.store c late
    → AreExpected (reached (next_put c) applied w.store) None (puts_in (next_put c) ++ late)
stopped-expected None w applied late up e = unclaimed w.store None late e
stopped-expected (Some s) w applied late up e = stopped_by (put_in (core_turn s)) w s applied late refl up e
