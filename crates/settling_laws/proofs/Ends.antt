-- The steps of a controller that is left alone end.
use Rattle.std.proofs.Common.{◌≡◌, ◌≢◌, ℕ, ◌+◌, ◌≤◌, ◌<◌, List, [], ◌∷◌, ◌++◌, length, Bool, true, false, cond, ◌&&◌, is_some, ◌∙◌, Option, Some, None, IfSome, refl, sym, ap, subst, arith}
use Rattle.std.proofs.lemmas.Bool.{true≢false, or_from, false_from_ne_true}
use Rattle.std.specs.List.{AllByRecursion, list_any}
use Rattle.kube_model.specs.declared.event.Event.{Event}
use Rattle.kube_model.specs.declared.event.Event.TheVariants.{Changed, Deleted, ListEnd, Expired, Members, Frame, Ignored}
use Rattle.kube_model.specs.declared.key.Key.{Key}
use Rattle.kube_model.specs.declared.object.Kind.TheVariants as kinds
use Rattle.kube_model.specs.declared.object.Object.TheVariants as objects
use Rattle.kube_model.specs.Keys.{same_key}
use Rattle.object_history.specs.LookBack.{event_ends_list}
use Rattle.pool_config.specs.ConfigValue.{ConfigValue}
use Rattle.kube_model.specs.declared.event.ListGroup.TheVariants as groups
use Rattle.status_store.specs.declared.change.Outcome.{Outcome}
use Rattle.status_store.specs.declared.change.Outcome.TheVariants.{Delivered}
use Rattle.status_store.specs.Changes.{StoreValue}
use Rattle.core_rules.specs.declared.turn.Turn.TheVariants.{Idle}
use Rattle.core_rules.specs.Core.{State}
use Rattle.core_rules.specs.Take.{core_take}
use Rattle.core_rules.specs.Turn.{core_turn, turn_of}
use Rattle.core_laws.specs.Queue.{IsOrderlyQueue}
use Rattle.core_laws.proofs.Queued.{queues_are_orderly}
use Rattle.world_rules.specs.declared.step.Step.{Step}
use Rattle.world_rules.specs.declared.step.Step.TheVariants.{Edit as Edits, Take, Turn as Turns, Crash, Restart, Expire}
use Rattle.world_rules.specs.Good.{ConfigEnds, IsOfGroup, IsFollowed, IsGood, IsOwn, NoneEnds, ends_config, notices_in, notices_of}
use Rattle.world_rules.specs.Tracked.{Shown, Notice, Shows, Gone, EndsOnce}
use Rattle.world_rules.specs.Safe.{StepsTerms}
use Rattle.world_rules.specs.World.{WorldValue, IsEnabled, after_take, after_turning, world_step}
use Rattle.world_rules.proofs.Own.{steps_are_moves, steps_keep_own}
use Rattle.world_rules.proofs.Worlds.{steps_keep_good}
use Rattle.settling_laws.proofs.Takes.{service-fall, config-fall}
use Rattle.settling_laws.proofs.Turns.{turn-falls}
use Rattle.settling_laws.proofs.Left.{news_among, late_among, has_record, turns_in, steps_of, steps_left}
use Rattle.settling_laws.proofs.Numbers.{most}
use Rattle.settling_laws.proofs.Counts.{late-few, news-few, queue-few, turns-few}
use Rattle.settling_laws.specs.Settling.{IsOwnStep, AreOwnSteps, behind_end, doubts_in, most_steps, StepsEnd}

pub any-key : Key
any-key = record { namespace = []; name = [] }

pub own-terms : (step : Step) → IsOwnStep step → StepsTerms step
own-terms (Edits edit) own = absurd own
own-terms (Take group) own = tt
own-terms (Turns outcome) own = tt
own-terms (Crash applied) own = tt
own-terms (Restart order) own = tt
own-terms (Expire group order) own = tt

-- ---- ahead of the end of its list the core isn't ready
unshown : (b : Bool) (x : Shown) (more : List Notice) → EndsOnce true (cond b (Shows x ∷ []) [] ++ more) → EndsOnce true more
unshown true x more ends = ends
unshown false x more ends = ends

undeleted : (b : Bool) (more : List Notice) → EndsOnce true (cond b (Gone ∷ []) [] ++ more) → EndsOnce true more
undeleted true more ends = ends
undeleted false more ends = ends

none-ends : (event : Event) (more : List Notice) → EndsOnce true (notices_of any-key event ++ more)
    → (event_ends_list groups.Service event ≡ false) × EndsOnce true more
none-ends (Changed version (objects.Service service)) more ends =
    (refl, unshown (same_key service.key any-key) (record { version = version; holding = service.holding }) more ends)
none-ends (Changed version (objects.Pool pool)) more ends = (refl, ends)
none-ends (Changed version (objects.L2 adv)) more ends = (refl, ends)
none-ends (Changed version (objects.Bgp adv)) more ends = (refl, ends)
none-ends (Changed version (objects.Peer peer)) more ends = (refl, ends)
none-ends (Changed version (objects.Community community)) more ends = (refl, ends)
none-ends (Changed version (objects.Namespace namespace)) more ends = (refl, ends)
none-ends (Changed version (objects.Node node)) more ends = (refl, ends)
none-ends (Changed version (objects.Slice slice)) more ends = (refl, ends)
none-ends (Deleted kinds.Service key) more ends = (refl, undeleted (same_key key any-key) more ends)
none-ends (Deleted kinds.Pool key) more ends = (refl, ends)
none-ends (Deleted kinds.L2 key) more ends = (refl, ends)
none-ends (Deleted kinds.Bgp key) more ends = (refl, ends)
none-ends (Deleted kinds.Peer key) more ends = (refl, ends)
none-ends (Deleted kinds.Community key) more ends = (refl, ends)
none-ends (Deleted kinds.Namespace key) more ends = (refl, ends)
none-ends (Deleted kinds.Node key) more ends = (refl, ends)
none-ends (Deleted kinds.Slice key) more ends = (refl, ends)
none-ends (ListEnd groups.Config) more ends = (refl, ends)
none-ends (ListEnd groups.Service) more ends = absurd ends
none-ends (ListEnd groups.Endpoint) more ends = (refl, ends)
none-ends Expired more ends = (refl, ends)
none-ends (Members names) more ends = (refl, ends)
none-ends (Frame interface bytes) more ends = (refl, ends)
none-ends Ignored more ends = (refl, ends)

none-among : (lane : List Event) → EndsOnce true (notices_in any-key lane) → list_any (event_ends_list groups.Service) lane ≡ false
none-among [] ends = refl
none-among (event ∷ lane) ends =
    let here = none-ends event (notices_in any-key lane) ends in
    or_from (event_ends_list groups.Service event) (list_any (event_ends_list groups.Service) lane) here.0 (none-among lane here.1)

pub unlisted_by : (ended : Bool) (lane : List Event) → EndsOnce ended (notices_in any-key lane) → list_any (event_ends_list groups.Service) lane ≡ true → ended ≡ false
unlisted_by true lane ends some = absurd (true≢false (sym some ∙ none-among lane ends))
unlisted_by false lane ends some = refl

config-end : (event : Event) → event_ends_list groups.Config event ≡ true → event ≡ ends_config
config-end (Changed version object) e = absurd (true≢false (sym e))
config-end (Deleted kind key) e = absurd (true≢false (sym e))
config-end (ListEnd groups.Config) e = refl
config-end (ListEnd groups.Service) e = absurd (true≢false (sym e))
config-end (ListEnd groups.Endpoint) e = absurd (true≢false (sym e))
config-end Expired e = absurd (true≢false (sym e))
config-end (Members names) e = absurd (true≢false (sym e))
config-end (Frame interface bytes) e = absurd (true≢false (sym e))
config-end Ignored e = absurd (true≢false (sym e))

none-config : (lane : List Event) → NoneEnds lane → list_any (event_ends_list groups.Config) lane ≡ false
none-config [] none = refl
none-config (event ∷ lane) none =
    or_from (event_ends_list groups.Config event) (list_any (event_ends_list groups.Config) lane)
    (false_from_ne_true (event_ends_list groups.Config event) (λ e. none.0 (config-end event e))) (none-config lane none.1)

pub unconfigured_by : (ended : Bool) (lane : List Event) → ConfigEnds ended lane → list_any (event_ends_list groups.Config) lane ≡ true → ended ≡ false
unconfigured_by true lane ends some = absurd (true≢false (sym some ∙ none-config lane ends))
unconfigured_by false lane ends some = refl

pub unready_by : (config services : Bool) (c : Option ConfigValue) → services ≡ false → (config && services && is_some c) ≡ false
unready_by true true c e = absurd (true≢false e)
unready_by true false c e = refl
unready_by false services c e = refl

pub unready_first : (config services : Bool) (c : Option ConfigValue) → config ≡ false → (config && services && is_some c) ≡ false
unready_first true services c e = absurd (true≢false e)
unready_first false services c e = refl

pub orderly-in : (w : WorldValue) (s : State) → IsFollowed w s → IsOrderlyQueue s
orderly-in w s up = subst IsOrderlyQueue up.leads (queues_are_orderly w.class up.run up.is)

config_falls : (class : Option (List ℕ)) (store : StoreValue) (config services : List Event) (c : Option State) → c ≢ None → config ≢ []
    → AllByRecursion (IsOfGroup groups.Config) config
    → (let w : WorldValue = record { class = class; store = store; config_lane = config; service_lane = services; core = c } in
    IfSome c (IsFollowed w) → IsGood (after_take groups.Config w) → IsOwn (after_take groups.Config w) → steps_left (after_take groups.Config w) < steps_left w)
config_falls class store [] services c up some of followed next own = absurd (some refl)
config_falls class store (event ∷ lane) services None up some of followed next own = absurd (up refl)
config_falls class store (event ∷ lane) services (Some s) up some of followed next own =
    let w : WorldValue = record { class = class; store = store; config_lane = event ∷ lane; service_lane = services; core = Some s } in
    let t : State = core_take s event in
    config-fall w s event lane of.0 followed (orderly-in (after_take groups.Config w) t next.up)
    (λ ends. unready_first t.held.config_ended t.held.services_ended t.held.config (unconfigured_by t.held.config_ended lane own.config_ends ends))

service_falls : (class : Option (List ℕ)) (store : StoreValue) (config services : List Event) (c : Option State) → c ≢ None → services ≢ []
    → (let w : WorldValue = record { class = class; store = store; config_lane = config; service_lane = services; core = c } in
    IfSome c (IsFollowed w) → IsGood (after_take groups.Service w) → steps_left (after_take groups.Service w) < steps_left w)
service_falls class store config [] c up some followed next = absurd (some refl)
service_falls class store config (event ∷ lane) None up some followed next = absurd (up refl)
service_falls class store config (event ∷ lane) (Some s) up some followed next =
    let w : WorldValue = record { class = class; store = store; config_lane = config; service_lane = event ∷ lane; core = Some s } in
    let t : State = core_take s event in
    let after : IsFollowed (after_take groups.Service w) t = next.up in
    service-fall w s event lane refl followed (orderly-in (after_take groups.Service w) t after)
    (λ ends. unready_by t.held.config_ended t.held.services_ended t.held.config (unlisted_by t.held.services_ended lane (after.tracked any-key).ends ends))

turn_falls : (class : Option (List ℕ)) (store : StoreValue) (config services : List Event) (c : Option State) → c ≢ None
    → (let w : WorldValue = record { class = class; store = store; config_lane = config; service_lane = services; core = c } in
    IfSome c (λ s. core_turn s ≢ Idle) → IfSome c (IsFollowed w) → steps_left (after_turning c Delivered w) < steps_left w)
turn_falls class store config services None up busy good = absurd (up refl)
turn_falls class store config services (Some s) up busy good =
    let w : WorldValue = record { class = class; store = store; config_lane = config; service_lane = services; core = Some s } in
    turn-falls w s good (λ none. busy (ap (turn_of s) none))

-- each step leaves fewer
pub step-falls : (w : WorldValue) (step : Step) → IsGood w → IsOwn w → IsOwnStep step → IsEnabled step w → IsGood (world_step step w) → IsOwn (world_step step w)
    → steps_left (world_step step w) < steps_left w
step-falls w (Edits edit) good own is there next owned = absurd is
step-falls w (Take groups.Config) good own is there next owned =
    config_falls w.class w.store w.config_lane w.service_lane w.core there.0 there.1 own.config good.up next owned
step-falls w (Take groups.Service) good own is there next owned =
    service_falls w.class w.store w.config_lane w.service_lane w.core there.0 there.1 good.up next
step-falls w (Take groups.Endpoint) good own is there next owned = absurd (there.1 refl)
step-falls w (Turns outcome) good own is there next owned =
    subst (λ (o : Outcome). steps_left (after_turning w.core o w) < steps_left w) (sym is)
    (turn_falls w.class w.store w.config_lane w.service_lane w.core there.0 there.1 good.up)
step-falls w (Crash applied) good own is there next owned = absurd is
step-falls w (Restart order) good own is there next owned = absurd is
step-falls w (Expire group order) good own is there next owned = absurd is

pub steps-few : (w : WorldValue) → IsGood w → IsOwn w → (steps : List Step) → AreOwnSteps steps w → length steps ≤ steps_left w
steps-few w good own [] are = omega arith
steps-few w good own (step ∷ steps) are =
    let next = world_step step w in
    let move = steps_are_moves w step are.1 own in
    let kept = steps_keep_good w next move.0 move.1 good in
    let owned = steps_keep_own w step (own-terms step are.0) good own in
    let falls = step-falls w step good own are.0 are.1 kept owned in
    let ih = steps-few next kept owned steps are.2 in
    omega (arith, falls, ih)

most_by : (c : Option State) (w : WorldValue) → IfSome c (IsFollowed w) → steps_of c w ≤ most_steps c w
most_by None w up = omega arith
most_by (Some s) w up =
    let news = news-few w.store s w.service_lane in
    let late = late-few w.store s w.service_lane in
    let turns = turns-few (length s.held.services) (has_record s.held) s.queue (queue-few s (orderly-in w s up)) in
    most (length s.held.services + (length w.config_lane + length w.service_lane))
    (behind_end groups.Config w.config_lane + behind_end groups.Service w.service_lane) (length (doubts_in s))
    (length s.held.services + news_among w.store s w.service_lane) (behind_end groups.Config w.config_lane + late_among w.store s w.service_lane) (turns_in s)
    (length w.config_lane + length w.service_lane) (omega (arith, news)) (omega (arith, late)) (omega (arith, turns)) (omega arith)

pub steps_end : StepsEnd
steps_end w good own steps are =
    let few = steps-few w good own steps are in
    let most = most_by w.core w good.up in
    omega (arith, few, most)
