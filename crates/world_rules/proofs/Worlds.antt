-- Every world is good, and so safe.
use Rattle.std.proofs.Common.{◌≡◌, ℕ, ◌≤◌, ◌++◌, cond, is_some, arith, List, [], ◌∷◌, Option, Some, None, option_map, IfSome, refl, sym, ap, subst, ◌∙◌}
use Rattle.kube_model.specs.declared.event.Event.{Event}
use Rattle.kube_model.specs.declared.event.ListGroup.TheVariants as groups
use Rattle.kube_model.specs.declared.key.Key.{Key}
use Rattle.kube_model.specs.declared.put.Put.{Put}
use Rattle.status_store.specs.declared.change.Edit.TheVariants.{Delete}
use Rattle.kube_model.specs.declared.service.Service.{Service}
use Rattle.kube_model.specs.Keys.{key_cmp}
use Rattle.versioned_map.specs.declared.map.Versioned.{Versioned}
use Rattle.versioned_map.specs.Objects.{held_at, at_version}
use Rattle.versioned_map.proofs.HeldLaws.{held_at-expired}
use Rattle.claim_index.specs.Claims.{records_of}
use Rattle.status_store.specs.Places.{service_at}
use Rattle.status_store.specs.Changes.{StoreValue, edited}
use Rattle.status_store.specs.Objects.{stored_at}
use Rattle.core_rules.specs.Core.{State, fresh}
use Rattle.core_rules.specs.Take.{core_expired}
use Rattle.core_rules.specs.Run.{TranscriptEntry, Expired}
use Rattle.core_laws.specs.Shared.{AllShowTerms}
use Rattle.world_rules.specs.Tracked.{version_at, IsBehind}
use Rattle.world_rules.specs.Moves.{Move, Sets, Deletes, Tells, Takes, Turns, Stops, Starts, ConfigExpires, ServicesExpire, EndsLater, Lands, IsMove}
use Rattle.world_rules.specs.Moves.{IsListOf, AreMoves, entries_of, run_along, after_move, after_moves, after_start, relisted, under_way, but_config, begun}
use Rattle.world_rules.specs.World.{WorldValue, expired_core}
use Rattle.world_rules.specs.Chain.{late_along}
use Rattle.world_rules.specs.Good.{held_as, stored_of, held_of, notices_in, IsTrackedIn, IsFollowed, IsGoodStore, IsGood}
use Rattle.world_rules.specs.Expected.{LateAreExpected}
use Rattle.world_rules.specs.Laws.{IsSafeWorld, AreSafeAlong, StartsAreGood, StepsKeepGood, WorldsAreSafe}
use Rattle.world_rules.proofs.Tracking.{tracked-fresh, tracked-expired, unversion}
use Rattle.world_rules.proofs.Lanes.{tracked-as, counted-at, notices-list, of-list}
use Rattle.world_rules.proofs.Edits.{good-set, good-deleted}
use Rattle.world_rules.proofs.Landing.{AreExpected, none-expected, edited-expected, set-lands, delete-lands, good-land, landed-expected, taken-expected}
use Rattle.world_rules.proofs.Landing.{told-expected, config-expected, turned-expected, stopped-expected}
use Rattle.world_rules.proofs.Storing.{set_store, set-records, delete-records, more-by}
use Rattle.world_rules.proofs.Later.{good-late}
use Rattle.world_rules.proofs.Places.{worlds_are_in_order}
use Rattle.world_rules.proofs.Takes.{same-tracked, good-take, good-tell}
use Rattle.world_rules.proofs.Turns.{good-turn, good-crash}

-- ---- a controller that was just started
started-followed : (w : WorldValue) (list : List Event) → IsGoodStore w.store → IsListOf w.store list
    → (let v : WorldValue = record w { service_lane = list; core = Some (fresh w.class) } in IsFollowed v (fresh w.class))
started-followed w list good listed = record {
  run = [];
  is = tt;
  leads = refl;
  typed = tt;
  none_out = refl;
  services = of-list w.store list listed;
  tracked = λ key. fresh-tracked key (counted-at w.store.counter w.store.objects (service_at key) good.kept.counted);
}
  where
    fresh-tracked : (key : Key) → (version_at (stored_of w.store key) ≤ w.store.counter) × IsBehind (stored_of w.store key) 0
        → (let v : WorldValue = record w { service_lane = list; core = Some (fresh w.class) } in IsTrackedIn v (fresh w.class) key)
    fresh-tracked key given = tracked-as _ _ _ _ refl refl refl (notices-list w.store list key good.kept.ascending listed)
        (tracked-fresh w.store.counter (stored_of w.store key) given.0 given.1)

-- a world without a controller
abbrev down : Option (List ℕ) → StoreValue → WorldValue
down class store = record { class = class; store = store; config_lane = []; service_lane = []; core = None }

pub starts_are_good : StartsAreGood
starts_are_good class store list good listed = record { stored = good; up = started-followed (down class store) list good listed }

start_by : (c : Option State) (list : List Event) (w : WorldValue) → IsListOf w.store list → IsGood w → IsGood (after_start c list w)
start_by None list w listed good = record { stored = good.stored; up = started-followed w list good.stored listed }
start_by (Some s) list w listed good = good

-- ---- a watch that expires
unversioned : (o : Option (Versioned Service)) → option_map held_as (option_map (at_version 0) o) ≡ unversion (option_map held_as o)
unversioned None = refl
unversioned (Some v) = refl

services-expired_core : (w : WorldValue) (s : State) (list : List Event) → IsGoodStore w.store → IsListOf w.store list → IsFollowed w s
    → (let v : WorldValue = record w { service_lane = list; core = Some (core_expired s groups.Service) } in IsFollowed v (core_expired s groups.Service))
services-expired_core w s list good listed up = record {
  run = Expired groups.Service ∷ up.run;
  is = (ap (λ (t : State). t.out) up.leads ∙ up.none_out, up.is);
  leads = ap (λ (t : State). core_expired t groups.Service) up.leads;
  typed = (tt, up.typed);
  none_out = up.none_out;
  services = of-list w.store list listed;
  tracked = λ key.
      tracked-as _ _ _ _ refl
      (ap (option_map held_as) (held_at-expired key_cmp s.held.services key) ∙ unversioned (held_at key_cmp s.held.services key))
      refl (notices-list w.store list key good.kept.ascending listed)
      (tracked-expired w.store.counter s.held.services_ended (stored_of w.store key) (held_of s key) (records_of key s.claims) (notices_in key w.service_lane)
      (up.tracked key));
}

services_by : (c : Option State) (list : List Event) (w : WorldValue) → IsGoodStore w.store → IsListOf w.store list → IfSome c (IsFollowed w)
    → (let v : WorldValue = record w { service_lane = relisted c list w.service_lane; core = expired_core groups.Service c } in
    IfSome (expired_core groups.Service c) (IsFollowed v))
services_by None list w good listed up = tt
services_by (Some s) list w good listed up = services-expired_core w s list good listed up

config_by : (c : Option State) (w : WorldValue) → IfSome c (IsFollowed w)
    → (let v : WorldValue = record w { core = expired_core groups.Config c } in IfSome (expired_core groups.Config c) (IsFollowed v))
config_by None w up = tt
config_by (Some s) w up = record {
  run = Expired groups.Config ∷ up.run;
  is = (ap (λ (t : State). t.out) up.leads ∙ up.none_out, up.is);
  leads = ap (λ (t : State). core_expired t groups.Config) up.leads;
  typed = (tt, up.typed);
  none_out = up.none_out;
  services = up.services;
  tracked = λ key. same-tracked w.store.counter (stored_of w.store key) (notices_in key w.service_lane) s (core_expired s groups.Config) key (refl, refl, refl)
      (up.tracked key);
}

-- ---- each move, and all of them
pub good-move : (move : Move) (w : WorldValue) (late : List Put) → IsMove move w late → AllShowTerms (entries_of move w) → AreExpected w.store w.core late → IsGood w
    → IsGood (after_move move w)
good-move (Sets object holding) w late may typed e good = good-set object holding w may good
good-move (Deletes kind key) w late may typed e good = good-deleted kind key w good
good-move (Tells event) w late may typed e good = good-tell event w may typed good
good-move Takes w late may typed e good = good-take w typed good
good-move (Turns outcome) w late may typed e good = good-turn outcome w good
good-move (Stops applied) w late may typed e good = good-crash applied w good
good-move (Starts list) w late may typed e good = start_by w.core list w may good
good-move ConfigExpires w late may typed e good = record { stored = good.stored; up = config_by w.core w good.up }
good-move (ServicesExpire list) w late may typed e good = record { stored = good.stored; up = services_by w.core list w good.stored may good.up }
good-move (EndsLater before event behind) w late may typed e good = good-late before event behind w may good
good-move (Lands put) w late may typed e good = good-land w late put may e good

starts-late : (c : Option State) (list : List Event) (w : WorldValue) (late : List Put) → w.core ≡ c → AreExpected w.store w.core late
    → AreExpected (after_start c list w).store (after_start c list w).core (cond (is_some c) late [])
starts-late None list w late is e = none-expected w.store (Some (fresh w.class))
starts-late (Some s) list w late is e = e

expires-late : (c : Option State) (store : StoreValue) (late : List Put) → AreExpected store c late
    → AreExpected store (expired_core groups.Service c) (cond (is_some c) [] late)
expires-late None store late e = e
expires-late (Some s) store late e = none-expected store (Some (core_expired s groups.Service))

-- what is known of the puts that are under way
pub late-move : (move : Move) (w : WorldValue) (late : List Put) → IsMove move w late → AreExpected w.store w.core late → IsGood w
    → AreExpected (after_move move w).store (after_move move w).core (under_way move w late)
late-move (Sets object holding) w late may e good =
    edited-expected w.store (set_store object holding w.store) w.core late (omega arith) (set-lands object holding w.store) (set-records object holding w.store may) e
late-move (Deletes kind key) w late may e good =
    let more = more-by (is_some (stored_at w.store.objects (kind, key))) w.store.counter in
    edited-expected w.store (edited (Delete kind key) w.store) w.core late more (λ put le. delete-lands kind key w.store good.stored.kept put)
    (delete-records kind key w.store good.stored.kept) e
late-move (Tells event) w late may e good = told-expected w.store w.core late event may e
late-move Takes w late may e good = taken-expected w late good e
late-move (Turns outcome) w late may e good = turned-expected w.core w outcome late good.up refl e
late-move (Stops applied) w late may e good = stopped-expected w.core w applied late good.up e
late-move (Starts list) w late may e good = starts-late w.core list w late refl e
late-move ConfigExpires w late may e good = config-expected w.store w.core late e
late-move (ServicesExpire list) w late may e good = expires-late w.core w.store late e
late-move (EndsLater before event behind) w late may e good = e
late-move (Lands put) w late may e good = landed-expected w late put may e

-- nothing of it is about the lane of the configuration
followed-else : (w : WorldValue) (lane : List Event) (c : Option State) → IfSome c (IsFollowed w)
    → (let v : WorldValue = record w { config_lane = lane } in IfSome c (IsFollowed v))
followed-else w lane None up = tt
followed-else w lane (Some s) up = record {
  run = up.run;
  is = up.is;
  leads = up.leads;
  typed = up.typed;
  none_out = up.none_out;
  services = up.services;
  tracked = up.tracked;
}

pub good-else : (w : WorldValue) (lane : List Event) → IsGood w → (let v : WorldValue = record w { config_lane = lane } in IsGood v)
good-else w lane good = record { stored = good.stored; up = followed-else w lane w.core good.up }

pub steps_keep_good : StepsKeepGood
steps_keep_good old new move step good =
    good-else (but_config new) new.config_lane
    (subst IsGood (sym step.leads) (good-else (after_move move old) [] (good-move move old [] step.may step.typed (none-expected old.store old.core) good)))

-- what a longer run was shown
terms-first : (now earlier : List TranscriptEntry) → AllShowTerms (now ++ earlier) → AllShowTerms now
terms-first [] earlier all = tt
terms-first (entry ∷ now) earlier all = (all.0, terms-first now earlier all.1)

terms-earlier : (now earlier : List TranscriptEntry) → AllShowTerms (now ++ earlier) → AllShowTerms earlier
terms-earlier [] earlier all = all
terms-earlier (entry ∷ now) earlier all = terms-earlier now earlier all.1

terms-before : (moves : List Move) (w : WorldValue) (earlier : List TranscriptEntry) → AllShowTerms (run_along moves w earlier) → AllShowTerms earlier
terms-before [] w earlier all = all
terms-before (move ∷ moves) w earlier all =
    terms-earlier (entries_of move w) earlier (terms-before moves (after_move move w) (entries_of move w ++ earlier) all)

pub good-moves : (moves : List Move) (w : WorldValue) (late : List Put) (earlier : List TranscriptEntry) → AreMoves moves w late
    → AllShowTerms (run_along moves w earlier) → IsGood w → AreExpected w.store w.core late → IsGood (after_moves moves w)
good-moves [] w late earlier may typed good e = good
good-moves (move ∷ moves) w late earlier may typed good e =
    let here = terms-first (entries_of move w) earlier (terms-before moves (after_move move w) (entries_of move w ++ earlier) typed) in
    good-moves moves (after_move move w) (under_way move w late) (entries_of move w ++ earlier) may.1 typed (good-move move w late may.0 here e good)
    (late-move move w late may.0 e good)

-- what is known of the puts that are under way after them
pub late-moves : (moves : List Move) (w : WorldValue) (late : List Put) (earlier : List TranscriptEntry) → AreMoves moves w late
    → AllShowTerms (run_along moves w earlier) → IsGood w → AreExpected w.store w.core late
    → AreExpected (after_moves moves w).store (after_moves moves w).core (late_along moves w late)
late-moves [] w late earlier may typed good e = e
late-moves (move ∷ moves) w late earlier may typed good e =
    let here = terms-first (entries_of move w) earlier (terms-before moves (after_move move w) (entries_of move w ++ earlier) typed) in
    late-moves moves (after_move move w) (under_way move w late) (entries_of move w ++ earlier) may.1 typed (good-move move w late may.0 here e good)
    (late-move move w late may.0 e good)

safe-world : (w : WorldValue) → IsGood w → IsSafeWorld w
safe-world w good = record { safe = good.stored.safe; kept = good.stored.kept; ordered = worlds_are_in_order w good }

pub safe-along : (moves : List Move) (w : WorldValue) (late : List Put) (earlier : List TranscriptEntry) → AreMoves moves w late
    → AllShowTerms (run_along moves w earlier) → IsGood w → AreExpected w.store w.core late → AreSafeAlong moves w
safe-along [] w late earlier may typed good e = safe-world w good
safe-along (move ∷ moves) w late earlier may typed good e =
    let here = terms-first (entries_of move w) earlier (terms-before moves (after_move move w) (entries_of move w ++ earlier) typed) in (
      safe-world w good,
      safe-along moves (after_move move w) (under_way move w late) (entries_of move w ++ earlier) may.1 typed (good-move move w late may.0 here e good)
          (late-move move w late may.0 e good),
    )

pub worlds_are_safe : WorldsAreSafe
worlds_are_safe class store list moves good listed may typed =
    safe-along moves (begun class store list) [] [] may typed (starts_are_good class store list good listed) (none-expected store (Some (fresh class)))

pub late_are_expected : LateAreExpected
late_are_expected class store list moves good listed may typed =
    late-moves moves (begun class store list) [] [] may typed (starts_are_good class store list good listed) (none-expected store (Some (fresh class)))
