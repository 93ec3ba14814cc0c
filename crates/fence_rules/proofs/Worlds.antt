-- The world of one program among many: it stays good, whatever happens.
use Rattle.std.proofs.Common.{◌≡◌, ◌≢◌, ℕ, ◌+◌, Bool, true, false, cond, List, [], ◌∷◌, ◌++◌, Option, Some, None, option_map, refl, sym, ap, subst, ◌∙◌, append-nil}
use Rattle.std.proofs.lemmas.Bool.{true≢false}
use Rattle.std.proofs.lemmas.List.Elements.{Contains-append_right}
use Rattle.std.specs.List.{Contains}
use Rattle.kube_model.specs.declared.event.Event.{Event}
use Rattle.kube_model.specs.declared.event.ListGroup.TheVariants as groups
use Rattle.kube_model.specs.declared.put.Put.{Put}
use Rattle.kube_model.specs.declared.reply.PutReply.{PutReply}
use Rattle.kube_model.specs.declared.reply.PutReply.TheVariants as replies
use Rattle.kube_model.specs.Kinds.{kind_of, group_of}
use Rattle.status_store.specs.declared.change.Outcome.{Outcome}
use Rattle.status_store.specs.declared.change.Outcome.TheVariants.{Delivered, Lost, Refused}
use Rattle.status_store.specs.declared.change.Edit.TheVariants.{Delete}
use Rattle.status_store.specs.declared.stored.Stored.{Stored}
use Rattle.status_store.specs.Places.{service_at}
use Rattle.status_store.specs.Objects.{stored_at}
use Rattle.status_store.specs.Changes.{StoreValue, after_put, delivered_reply, is_at_version, is_made}
use Rattle.core_rules.specs.Core.{State}
use Rattle.core_rules.specs.Replied.{core_reply}
use Rattle.core_rules.specs.Take.{core_take}
use Rattle.core_rules.specs.Turn.{core_turn, after_turn, put_in}
use Rattle.core_laws.specs.Shared.{AllShowTerms}
use Rattle.world_rules.specs.Expected.{AreExpected}
use Rattle.world_rules.specs.Good.{IsGood, IsGoodStore}
use Rattle.world_rules.specs.Moves.{Move, Sets, Deletes, Tells, Takes, Turns, Stops, Starts, ConfigExpires, ServicesExpire, EndsLater, Lands}
use Rattle.world_rules.specs.Moves.{IsMove, after_move, entries_of, given_up, puts_in, stored_with}
use Rattle.world_rules.specs.World.{WorldValue, as_shown, next_put, shown_edit, shown_put, to_lane, told, turned, after_turning, expired_core, while_up}
use Rattle.world_rules.proofs.Turns.{good-turn}
use Rattle.world_rules.proofs.Worlds.{good-else, good-move, late-move}
use Rattle.fence_rules.specs.Cluster.{Phase, Free, Sent, Carried, AreOver, IsEdit, IsOwnMove, IsUnsent, MayList, answered, world_with}
use Rattle.fence_rules.specs.Fenced.{IsGoodIn, IsGoodWith}

pub good-store : (phase : Phase) (class : Option (List ℕ)) (store : StoreValue) (lane : List Event) (core : Option State) (late : List Put)
    → IsGoodIn phase class store lane core late → IsGoodStore store
good-store Free class store lane core late good = good.0.stored
good-store Sent class store lane core late good = good.0.stored
good-store (Carried version) class store lane core late good = good.0.0.stored

-- ---- puts that were given up
fewer-expected : (store : StoreValue) (core : Option State) (more late : List Put) → AreExpected store core (more ++ late) → AreExpected store core late
fewer-expected store core more late e = record {
  counted = λ put has. e.counted put (Contains-append_right more late put has);
  claimed = λ put has lands. e.claimed put (Contains-append_right more late put has) lands;
  beside = λ put has lands. e.beside put (Contains-append_right more late put has) lands;
  apart = λ put other has also lands then_lands.
      e.apart put other (Contains-append_right more late put has) (Contains-append_right more late other also) lands then_lands;
}

-- of those that are gone nothing is asked
over-expected : (store : StoreValue) (core : Option State) (late : List Put) → AreOver store late → AreExpected store core late
over-expected store core late over = record {
  counted = λ put has. (over put has).0;
  claimed = λ put has lands. absurd (true≢false (sym lands ∙ (over put has).1));
  beside = λ put has lands. absurd (true≢false (sym lands ∙ (over put has).1));
  apart = λ put other has also lands then_lands. absurd (true≢false (sym lands ∙ (over put has).1));
}

-- ---- others edit the store
while-answered : (core : Option State) (reply : PutReply) (events : List Event) → while_up core events ≡ while_up (answered core reply) events
while-answered None reply events = refl
while-answered (Some s) reply events = refl

-- what a program is shown and knows after an edit
abbrev lane_after : Move → Option (List ℕ) → StoreValue → List Event → Option State → List Event
lane_after move class store lane core = (after_move move (world_with class store lane core)).service_lane

abbrev store_after : Move → Option (List ℕ) → StoreValue → StoreValue
store_after move class store = (after_move move (world_with class store [] None)).store

pub edit-core : (move : Move) → IsEdit move → (w : WorldValue) → (after_move move w).core ≡ w.core
edit-core (Sets object holding) is w = refl
edit-core (Deletes kind key) is w = refl
edit-core (Tells event) is w = absurd is
edit-core Takes is w = absurd is
edit-core (Turns outcome) is w = absurd is
edit-core (Stops applied) is w = absurd is
edit-core (Starts list) is w = absurd is
edit-core ConfigExpires is w = absurd is
edit-core (ServicesExpire list) is w = absurd is
edit-core (EndsLater before event behind) is w = absurd is
edit-core (Lands put) is w = absurd is

edit-lane : (move : Move) → IsEdit move → (class : Option (List ℕ)) (store : StoreValue) (lane : List Event) (core : Option State) (reply : PutReply)
    → lane_after move class store lane (answered core reply) ≡ lane_after move class store lane core
edit-lane (Sets object holding) is class store lane core reply =
    ap (λ (events : List Event). lane ++ to_lane groups.Service (group_of (kind_of object)) events)
    (sym (while-answered core reply (as_shown (stored_with store object holding) ∷ [])))
edit-lane (Deletes kind key) is class store lane core reply =
    ap (λ (events : List Event). lane ++ to_lane groups.Service (group_of kind) events) (sym (while-answered core reply (shown_edit (Delete kind key) store)))
edit-lane (Tells event) is class store lane core reply = absurd is
edit-lane Takes is class store lane core reply = absurd is
edit-lane (Turns outcome) is class store lane core reply = absurd is
edit-lane (Stops applied) is class store lane core reply = absurd is
edit-lane (Starts list) is class store lane core reply = absurd is
edit-lane ConfigExpires is class store lane core reply = absurd is
edit-lane (ServicesExpire list) is class store lane core reply = absurd is
edit-lane (EndsLater before event behind) is class store lane core reply = absurd is
edit-lane (Lands put) is class store lane core reply = absurd is

edit-one : (move : Move) → IsEdit move → (class : Option (List ℕ)) (store : StoreValue) (lane : List Event) (core : Option State) (late : List Put)
    → IsMove move (world_with class store [] None) [] → IsGoodWith class store lane core late
    → IsGoodWith class (store_after move class store) (lane_after move class store lane core) core late
edit-one (Sets object holding) is class store lane core late may good =
    let w = world_with class store lane core in (
      good-else (after_move (Sets object holding) w) [] (good-move (Sets object holding) w late may tt good.1 good.0),
      late-move (Sets object holding) w late may good.1 good.0,
    )
edit-one (Deletes kind key) is class store lane core late may good =
    let w = world_with class store lane core in (
      good-else (after_move (Deletes kind key) w) [] (good-move (Deletes kind key) w late may tt good.1 good.0),
      late-move (Deletes kind key) w late may good.1 good.0,
    )
edit-one (Tells event) is class store lane core late may good = absurd is
edit-one Takes is class store lane core late may good = absurd is
edit-one (Turns outcome) is class store lane core late may good = absurd is
edit-one (Stops applied) is class store lane core late may good = absurd is
edit-one (Starts list) is class store lane core late may good = absurd is
edit-one ConfigExpires is class store lane core late may good = absurd is
edit-one (ServicesExpire list) is class store lane core late may good = absurd is
edit-one (EndsLater before event behind) is class store lane core late may good = absurd is
edit-one (Lands put) is class store lane core late may good = absurd is

edit-answered : (move : Move) → IsEdit move → (class : Option (List ℕ)) (store : StoreValue) (lane : List Event) (core : Option State) (late : List Put) (reply : PutReply)
    → IsMove move (world_with class store [] None) [] → IsGoodWith class store lane (answered core reply) late
    → IsGoodWith class (store_after move class store) (lane_after move class store lane core) (answered core reply) late
edit-answered move is class store lane core late reply may good =
    subst (λ (later : List Event). IsGoodWith class (store_after move class store) later (answered core reply) late)
    (edit-lane move is class store lane core reply) (edit-one move is class store lane (answered core reply) late may good)

edit-phase : (phase : Phase) (move : Move) → IsEdit move → (class : Option (List ℕ)) (store : StoreValue) (lane : List Event) (core : Option State) (late : List Put)
    → IsMove move (world_with class store [] None) [] → IsGoodIn phase class store lane core late
    → IsGoodIn phase class (store_after move class store) (lane_after move class store lane core) core late
edit-phase Free move is class store lane core late may good = edit-one move is class store lane core late may good
edit-phase Sent move is class store lane core late may good = edit-one move is class store lane core late may good
edit-phase (Carried version) move is class store lane core late may good = (
  edit-answered move is class store lane core late (replies.Ok version) may good.0,
  edit-answered move is class store lane core (puts_in (next_put core) ++ late) replies.Unknown may good.1,
)

pub good-edit : (phase : Phase) (move : Move) → IsEdit move → (class : Option (List ℕ)) (store : StoreValue) (lane : List Event) (core : Option State) (late : List Put)
    → IsMove move (world_with class store [] None) [] → IsGoodIn phase class store lane core late
    → IsGoodIn phase class (store_after move class store) (lane_after move class store lane core) (after_move move (world_with class store lane core)).core late
good-edit phase move is class store lane core late may good =
    subst (λ (next : Option State). IsGoodIn phase class (store_after move class store) (lane_after move class store lane core) next late)
    (sym (edit-core move is (world_with class store lane core))) (edit-phase phase move is class store lane core late may good)

-- ---- what a program does without the store
told-down : (core : Option State) (lane : List Event) → core ≡ None → told core lane ≡ None
told-down None lane down = refl
told-down (Some s) lane down = absurd (cc)

turning-down : (core : Option State) (outcome : Outcome) (w : WorldValue) → core ≡ None → w.core ≡ None → (after_turning core outcome w).core ≡ None
turning-down None outcome w down is = is
turning-down (Some s) outcome w down is = absurd (cc)

mapped-down : (core : Option State) (f : State → State) → core ≡ None → option_map f core ≡ None
mapped-down None f down = refl
mapped-down (Some s) f down = absurd (cc)

expired-down : (core : Option State) → core ≡ None → expired_core groups.Config core ≡ None
expired-down None down = refl
expired-down (Some s) down = absurd (cc)

expired-down_services : (core : Option State) → core ≡ None → expired_core groups.Service core ≡ None
expired-down_services None down = refl
expired-down_services (Some s) down = absurd (cc)

pub stays-down : (move : Move) → IsOwnMove move → (w : WorldValue) → w.core ≡ None → (after_move move w).core ≡ None
stays-down (Sets object holding) is w down = absurd is
stays-down (Deletes kind key) is w down = absurd is
stays-down (Tells event) is w down = mapped-down w.core (λ s. core_take s event) down
stays-down Takes is w down = told-down w.core w.service_lane down
stays-down (Turns outcome) is w down = turning-down w.core outcome w down down
stays-down (Stops applied) is w down = absurd is
stays-down (Starts list) is w down = absurd is
stays-down ConfigExpires is w down = expired-down w.core down
stays-down (ServicesExpire list) is w down = expired-down_services w.core down
stays-down (EndsLater before event behind) is w down = down
stays-down (Lands put) is w down = absurd is

-- nor is one that runs stopped by it
mapped-up : (core : Option State) (f : State → State) → option_map f core ≡ None → core ≡ None
mapped-up None f down = refl
mapped-up (Some s) f down = absurd (cc)

told-up : (core : Option State) (lane : List Event) → told core lane ≡ None → core ≡ None
told-up None lane down = refl
told-up (Some s) [] down = absurd (cc)
told-up (Some s) (event ∷ more) down = absurd (cc)

turned-up : (found : Option Put) (s : State) (outcome : Outcome) (w : WorldValue) → (turned s found outcome w).core ≡ None → ⊥
turned-up None s outcome w down = absurd (cc)
turned-up (Some put) s outcome w down = absurd (cc)

turning-up : (core : Option State) (outcome : Outcome) (w : WorldValue) → (after_turning core outcome w).core ≡ None → core ≡ None
turning-up None outcome w down = refl
turning-up (Some s) outcome w down = absurd (turned-up (put_in (core_turn s)) (after_turn s) outcome w down)

expired-up : (core : Option State) → expired_core groups.Config core ≡ None → core ≡ None
expired-up None down = refl
expired-up (Some s) down = absurd (cc)

expired-up_services : (core : Option State) → expired_core groups.Service core ≡ None → core ≡ None
expired-up_services None down = refl
expired-up_services (Some s) down = absurd (cc)

pub stays-up : (move : Move) → IsOwnMove move → (w : WorldValue) → (after_move move w).core ≡ None → w.core ≡ None
stays-up (Sets object holding) is w down = absurd is
stays-up (Deletes kind key) is w down = absurd is
stays-up (Tells event) is w down = mapped-up w.core (λ s. core_take s event) down
stays-up Takes is w down = told-up w.core w.service_lane down
stays-up (Turns outcome) is w down = turning-up w.core outcome w down
stays-up (Stops applied) is w down = absurd is
stays-up (Starts list) is w down = absurd is
stays-up ConfigExpires is w down = expired-up w.core down
stays-up (ServicesExpire list) is w down = expired-up_services w.core down
stays-up (EndsLater before event behind) is w down = down
stays-up (Lands put) is w down = absurd is

pub answered-up : (core : Option State) (reply : PutReply) → answered core reply ≡ None → core ≡ None
answered-up None reply down = refl
answered-up (Some s) reply down = absurd (cc)

pub answered-down : (core : Option State) (reply : PutReply) → core ≡ None → answered core reply ≡ None
answered-down None reply down = refl
answered-down (Some s) reply down = absurd (cc)

unsent-store : (outcome : Outcome) (put : Put) (store : StoreValue) → IsUnsent outcome → after_put put outcome store ≡ store
unsent-store Delivered put store is = absurd is
unsent-store (Lost true) put store is = absurd (true≢false is)
unsent-store (Lost false) put store is = refl
unsent-store Refused put store is = refl

record IsSameStore (v w : WorldValue) : Type 0 where
  pub store : v.store ≡ w.store
  pub class : v.class ≡ w.class

turned-same : (found : Option Put) (s : State) (outcome : Outcome) (w : WorldValue) → IsUnsent outcome → IsSameStore (turned s found outcome w) w
turned-same None s outcome w is = record { store = refl; class = refl }
turned-same (Some put) s outcome w is = record { store = unsent-store outcome put w.store is; class = refl }

turning-same : (core : Option State) (outcome : Outcome) (w : WorldValue) → IsUnsent outcome → IsSameStore (after_turning core outcome w) w
turning-same None outcome w is = record { store = refl; class = refl }
turning-same (Some s) outcome w is = turned-same (put_in (core_turn s)) (after_turn s) outcome w is

own-same : (move : Move) → IsOwnMove move → (w : WorldValue) → IsSameStore (after_move move w) w
own-same (Sets object holding) is w = absurd is
own-same (Deletes kind key) is w = absurd is
own-same (Tells event) is w = record { store = refl; class = refl }
own-same Takes is w = record { store = refl; class = refl }
own-same (Turns outcome) is w = turning-same w.core outcome w is
own-same (Stops applied) is w = absurd is
own-same (Starts list) is w = absurd is
own-same ConfigExpires is w = record { store = refl; class = refl }
own-same (ServicesExpire list) is w = record { store = refl; class = refl }
own-same (EndsLater before event behind) is w = record { store = refl; class = refl }
own-same (Lands put) is w = absurd is

over : (v w : WorldValue) → IsSameStore v w → IsGood v → IsGood (world_with w.class w.store v.service_lane v.core)
over v w same good =
    subst (λ (class : Option (List ℕ)). IsGood (world_with class w.store v.service_lane v.core)) same.class
    (subst (λ (store : StoreValue). IsGood (world_with v.class store v.service_lane v.core)) same.store (good-else v [] good))

own-expected : (move : Move) (w : WorldValue) (late : List Put) → IsOwnMove move → IsMove move w late → MayList move w.store late → AreExpected w.store w.core late
    → IsGood w → AreExpected w.store (after_move move w).core late
own-expected (Sets object holding) w late is may listed e good = absurd is
own-expected (Deletes kind key) w late is may listed e good = absurd is
own-expected (Tells event) w late is may listed e good = late-move (Tells event) w late may e good
own-expected Takes w late is may listed e good = late-move Takes w late may e good
own-expected (Turns outcome) w late is may listed e good =
    let next = after_move (Turns outcome) w in
    subst (λ (store : StoreValue). AreExpected store next.core late) (turning-same w.core outcome w is).store
    (fewer-expected next.store next.core (given_up outcome (next_put w.core)) late (late-move (Turns outcome) w late may e good))
own-expected (Stops applied) w late is may listed e good = absurd is
own-expected (Starts list) w late is may listed e good = absurd is
own-expected ConfigExpires w late is may listed e good = late-move ConfigExpires w late may e good
own-expected (ServicesExpire list) w late is may listed e good = over-expected w.store (expired_core groups.Service w.core) late listed
own-expected (EndsLater before event behind) w late is may listed e good = late-move (EndsLater before event behind) w late may e good
own-expected (Lands put) w late is may listed e good = absurd is

pub good-own : (move : Move) (w : WorldValue) (late : List Put) → IsOwnMove move → IsMove move w late → AllShowTerms (entries_of move w) → MayList move w.store late
    → IsGood w → AreExpected w.store w.core late → IsGoodWith w.class w.store (after_move move w).service_lane (after_move move w).core late
good-own move w late is may typed listed good e =
    (over (after_move move w) w (own-same move is w) (good-move move w late may typed e good), own-expected move w late is may listed e good)

-- ---- its put is carried out, and answered
made-reply : (found : Option Stored) (counter : ℕ) (put : Put) → is_at_version put.version found ≡ true
    → delivered_reply counter put found ≡ replies.Ok (counter + 1)
made-reply None counter put at = absurd (true≢false (sym at))
made-reply (Some held) counter put at = ap (λ (b : Bool). cond b (replies.Ok (counter + 1)) replies.Stale) at

-- the world of a core, and what its put makes of it
abbrev IsGoodPut : Option (List ℕ) → StoreValue → List Event → State → Outcome → Option Put → Type 0
IsGoodPut class store lane s outcome found = IsGood (turned (after_turn s) found outcome (world_with class store lane (Some s)))

-- and what is expected there
abbrev IsLatePut : Option (List ℕ) → StoreValue → List Event → State → Outcome → List Put → Option Put → Type 0
IsLatePut class store lane s outcome late found =
    let w = turned (after_turn s) found outcome (world_with class store lane (Some s)) in AreExpected w.store w.core (given_up outcome found ++ late)

late-turn : (outcome : Outcome) (class : Option (List ℕ)) (store : StoreValue) (lane : List Event) (s : State) (late : List Put) (put : Put)
    → next_put (Some s) ≡ Some put → IsGoodWith class store lane (Some s) late → IsLatePut class store lane s outcome late (Some put)
late-turn outcome class store lane s late put wants good =
    subst (IsLatePut class store lane s outcome late) wants (late-move (Turns outcome) (world_with class store lane (Some s)) late tt good.1 good.0)

pub good-carried : (core : Option State) (class : Option (List ℕ)) (store : StoreValue) (lane : List Event) (late : List Put) (put : Put) → next_put core ≡ Some put
    → is_made put Delivered store.objects ≡ true → IsGoodWith class store lane core late
    → IsGoodIn (Carried (store.counter + 1)) class (after_put put Delivered store) (lane ++ while_up core (shown_put put Delivered store)) core late
good-carried None class store lane late put wants made good = absurd (cc)
good-carried (Some s) class store lane late put wants made good = (
  subst (λ (reply : PutReply). IsGoodWith class (after_put put Delivered store) (lane ++ shown_put put Delivered store)
      (Some (core_reply (after_turn s) reply)) late) (made-reply (stored_at store.objects (service_at put.key)) store.counter put made) (
        subst (IsGoodPut class store lane s Delivered) wants (good-turn Delivered (world_with class store lane (Some s)) good.0),
        late-turn Delivered class store lane s late put wants good,
      ),
  (
    subst (IsGoodPut class store lane s (Lost true)) wants (good-turn (Lost true) (world_with class store lane (Some s)) good.0),
    subst (λ (found : Option Put). AreExpected (after_put put Delivered store) (Some (core_reply (after_turn s) replies.Unknown)) (puts_in found ++ late))
        (sym wants) (late-turn (Lost true) class store lane s late put wants good),
  ),
)

pub good-given_up : (core : Option State) (class : Option (List ℕ)) (store : StoreValue) (lane : List Event) (late : List Put) (put : Put) → next_put core ≡ Some put
    → IsGoodWith class store lane core late → IsGoodWith class store lane (answered core replies.Unknown) (put ∷ late)
good-given_up None class store lane late put wants good = absurd (cc)
good-given_up (Some s) class store lane late put wants good = (
  subst (λ (later : List Event). IsGood (world_with class store later (Some (core_reply (after_turn s) replies.Unknown)))) (append-nil lane)
      (subst (IsGoodPut class store lane s (Lost false)) wants (good-turn (Lost false) (world_with class store lane (Some s)) good.0)),
  late-turn (Lost false) class store lane s late put wants good,
)

-- whatever phase its put is in
pub good-unknown : (phase : Phase) (core : Option State) (class : Option (List ℕ)) (store : StoreValue) (lane : List Event) (late : List Put) (put : Put)
    → phase ≢ Free → next_put core ≡ Some put → IsGoodIn phase class store lane core late
    → IsGoodWith class store lane (answered core replies.Unknown) (put ∷ late)
good-unknown Free core class store lane late put out wants good = absurd (out refl)
good-unknown Sent core class store lane late put out wants good = good-given_up core class store lane late put wants good
good-unknown (Carried version) core class store lane late put out wants good =
    subst (λ (found : Option Put). IsGoodWith class store lane (answered core replies.Unknown) (puts_in found ++ late)) wants good.1

-- ---- a put that was given up is carried out
landed-one : (class : Option (List ℕ)) (store : StoreValue) (lane : List Event) (core : Option State) (late : List Put) (put : Put) → Contains late put
    → IsGoodWith class store lane core late
    → IsGoodWith class (after_put put Delivered store) (lane ++ while_up core (shown_put put Delivered store)) core late
landed-one class store lane core late put has good =
    let w = world_with class store lane core in (
      good-else (after_move (Lands put) w) [] (good-move (Lands put) w late has tt good.1 good.0),
      late-move (Lands put) w late has good.1 good.0,
    )

landed-answered : (class : Option (List ℕ)) (store : StoreValue) (lane : List Event) (core : Option State) (late : List Put) (put : Put) (reply : PutReply)
    → Contains late put → IsGoodWith class store lane (answered core reply) late
    → IsGoodWith class (after_put put Delivered store) (lane ++ while_up core (shown_put put Delivered store)) (answered core reply) late
landed-answered class store lane core late put reply has good =
    subst (λ (events : List Event). IsGoodWith class (after_put put Delivered store) (lane ++ events) (answered core reply) late)
    (sym (while-answered core reply (shown_put put Delivered store))) (landed-one class store lane (answered core reply) late put has good)

pub good-landed : (phase : Phase) (class : Option (List ℕ)) (store : StoreValue) (lane : List Event) (core : Option State) (late : List Put) (put : Put)
    → Contains late put → IsGoodIn phase class store lane core late
    → IsGoodIn phase class (after_put put Delivered store) (lane ++ while_up core (shown_put put Delivered store)) core late
good-landed Free class store lane core late put has good = landed-one class store lane core late put has good
good-landed Sent class store lane core late put has good = landed-one class store lane core late put has good
good-landed (Carried version) class store lane core late put has good = (
  landed-answered class store lane core late put (replies.Ok version) has good.0,
  landed-answered class store lane core (puts_in (next_put core) ++ late) put replies.Unknown
      (Contains-append_right (puts_in (next_put core)) late put has) good.1,
)
