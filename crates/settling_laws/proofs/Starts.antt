-- A controller that is started settles.
use Rattle.std.proofs.Common.{◌≡◌, ◌≢◌, ℕ, ◌+◌, ◌*◌, ◌≤◌, Bool, true, false, cond, ◌||◌, List, [], ◌∷◌, ◌++◌, length, filter, map, Option, Some, None, Err, IfSome, inl, refl, sym, ap, subst, arith}
use Rattle.std.proofs.lemmas.Bool.{true≢false, or_right}
use Rattle.std.proofs.lemmas.Nat.{mul-le}
use Rattle.std.specs.List.{list_any}
use Rattle.kube_model.specs.declared.config_fault.ConfigFault.{ConfigFault}
use Rattle.kube_model.specs.declared.event.Event.{Event}
use Rattle.kube_model.specs.declared.event.ListGroup.{ListGroup}
use Rattle.kube_model.specs.declared.event.ListGroup.TheVariants as groups
use Rattle.object_history.specs.LookBack.{event_ends_list}
use Rattle.kube_model.specs.declared.put.Put.{Put}
use Rattle.status_store.specs.declared.change.Outcome.{Outcome}
use Rattle.status_store.specs.Changes.{StoreValue}
use Rattle.core_rules.specs.declared.turn.Turn.TheVariants.{Idle}
use Rattle.core_rules.specs.Core.{State, fresh, is_ready}
use Rattle.core_rules.specs.Take.{core_take}
use Rattle.core_rules.specs.Turn.{core_turn, after_turn, put_in, turn_of}
use Rattle.world_rules.specs.declared.step.ListOrder.TheVariants.{Ascending}
use Rattle.world_rules.specs.declared.step.Step.{Step}
use Rattle.world_rules.specs.declared.step.Step.TheVariants.{Edit as Edits, Take, Turn as Turns, Crash, Restart, Expire}
use Rattle.world_rules.specs.Good.{ConfigEnds, ends_config, IsFollowed, IsGood, IsOfGroup, IsOwn, notices_in}
use Rattle.world_rules.specs.Invariant.{ends_services}
use Rattle.world_rules.specs.Tracked.{EndsOnce}
use Rattle.world_rules.specs.World.{WorldValue, as_shown, is_of_group, listing, started, told, turned, after_turning, after_steps, world_step}
use Rattle.world_rules.proofs.Lanes.{listing-list}
use Rattle.world_rules.proofs.Own.{starts_are_own, steps_are_moves, steps_keep_own}
use Rattle.world_rules.proofs.Takes.{services-sorted, told-event}
use Rattle.world_rules.proofs.Worlds.{steps_keep_good}
use Rattle.settling_laws.specs.Configured.{IsConfiguredAsStored}
use Rattle.settling_laws.specs.StoredConfig.{config_in}
use Rattle.settling_laws.specs.Settling.{IsOwnStep, AreOwnSteps, IsSettledAsStored, StartsSettle, behind_end, doubts_in}
use Rattle.settling_laws.proofs.Copies.{starts_have_copies}
use Rattle.settling_laws.proofs.Awaiting.{starts_are_clear}
use Rattle.settling_laws.proofs.ConfigKept.{starts_have_config_copies}
use Rattle.settling_laws.proofs.ConfigRest.{Begins, begins-along, controllers_configure, none-in-force, start-begins}
use Rattle.settling_laws.proofs.Counts.{late-few, news-few, took-services}
use Rattle.settling_laws.proofs.Doubted.{took-doubts}
use Rattle.settling_laws.proofs.Ends.{any-key, orderly-in, steps-few, unconfigured_by, unlisted_by, unready_by, unready_first}
use Rattle.settling_laws.proofs.Left.{has_record, late_among, news_among, steps_for, steps_left, turns_for, turns_in}
use Rattle.settling_laws.proofs.Settles.{controllers_settle}

-- ---- a controller that is up stays so
some-apart : {X : Type 0} (x : X) → Some x ≢ None
some-apart x e = absurd (cc)

told_up : (c : Option State) (lane : List Event) → c ≢ None → told c lane ≢ None
told_up None lane up = absurd (up refl)
told_up (Some s) [] up = up
told_up (Some s) (event ∷ more) up = some-apart _

turned_up : (s : State) (p : Option Put) (outcome : Outcome) (w : WorldValue) → (turned s p outcome w).core ≢ None
turned_up s None outcome w = some-apart _
turned_up s (Some put) outcome w = some-apart _

turning_up : (c : Option State) (outcome : Outcome) (w : WorldValue) → c ≢ None → (after_turning c outcome w).core ≢ None
turning_up None outcome w up = absurd (up refl)
turning_up (Some s) outcome w up = turned_up (after_turn s) (put_in (core_turn s)) outcome w

step-up : (w : WorldValue) (step : Step) → IsOwnStep step → w.core ≢ None → (world_step step w).core ≢ None
step-up w (Edits edit) own up = absurd own
step-up w (Take groups.Config) own up = told_up w.core w.config_lane up
step-up w (Take groups.Service) own up = told_up w.core w.service_lane up
step-up w (Take groups.Endpoint) own up = up
step-up w (Turns outcome) own up = turning_up w.core outcome w up
step-up w (Crash applied) own up = absurd own
step-up w (Restart order) own up = absurd own
step-up w (Expire group order) own up = absurd own

pub steps-up : (w : WorldValue) (steps : List Step) → AreOwnSteps steps w → w.core ≢ None → (after_steps steps w).core ≢ None
steps-up w [] are up = up
steps-up w (step ∷ steps) are up = steps-up (world_step step w) steps are.2 (step-up w step are.0 up)

pub up_by : (P : State → Type 0) (c : Option State) → c ≢ None → IfSome c P → (s : State) × (c ≡ Some s) × P s
up_by P None up has = absurd (up refl)
up_by P (Some s) up has = (s, refl, has)

-- ---- how many steps there are
ends-behind : (group : ListGroup) (xs : List Event) (e : Event) → event_ends_list group e ≡ true → list_any (event_ends_list group) (xs ++ e ∷ []) ≡ true
ends-behind group [] e is = ap (λ (b : Bool). b || false) is
ends-behind group (x ∷ xs) e is = or_right (event_ends_list group x) (list_any (event_ends_list group) (xs ++ e ∷ [])) (ends-behind group xs e is)

none_late : (b : Bool) → b ≡ true → cond b 0 1 ≤ 0
none_late true e = omega arith
none_late false e = absurd (true≢false (sym e))

-- of a list the end alone comes late
one-behind : (group : ListGroup) (xs : List Event) (e : Event) → event_ends_list group e ≡ true → behind_end group (xs ++ e ∷ []) ≡ 1
one-behind group [] e is = refl
one-behind group (x ∷ xs) e is =
    let ih = one-behind group xs e is in
    let here = none_late (list_any (event_ends_list group) (xs ++ e ∷ [])) (ends-behind group xs e is) in
    omega (arith, ih, here)

left-few : (m late doubts turns pending most : ℕ) → m ≤ most → late ≤ 1 → doubts ≤ 0 → turns ≡ 0 → steps_for m late doubts turns pending ≤ pending + 4 * most
left-few m late doubts turns pending most a b c d =
    let e : m * (2 * late + doubts) ≤ most * 2 = mul-le m (2 * late + doubts) most 2 a (omega (arith, b, c)) in
    omega (arith, e, d)

module _ (class : Option (List ℕ)) (store : StoreValue) (most : ℕ) where
  -- both lists are still going to end, and nothing is pending after their ends
  abbrev before_ends : List Event → List Event → State → WorldValue
  before_ends config services s = record {
    class = class;
    store = store;
    config_lane = config ++ ends_config ∷ [];
    service_lane = services ++ ends_services ∷ [];
    core = Some s;
  }

  -- one of them has ended
  abbrev between : List Event → List Event → State → WorldValue
  between config services s = record { class = class; store = store; config_lane = config; service_lane = services; core = Some s }

  -- so few services are held or going to be shown, and no claim is in doubt
  abbrev IsFew : State → List Event → Type 0
  IsFew s services = (length s.held.services + length services ≤ most) × (length (doubts_in s) ≤ 0)

  unlisted : (w : WorldValue) (s : State) (services : List Event) → w.service_lane ≡ services ++ ends_services ∷ [] → IsFollowed w s → is_ready s.held ≡ false
  unlisted w s services lane up =
      let ends = subst (λ (l : List Event). EndsOnce s.held.services_ended (notices_in any-key l)) lane (up.tracked any-key).ends in
      unready_by s.held.config_ended s.held.services_ended s.held.config
      (unlisted_by s.held.services_ended (services ++ ends_services ∷ []) ends (ends-behind groups.Service services ends_services refl))

  unconfigured : (s : State) (config : List Event) → ConfigEnds s.held.config_ended (config ++ ends_config ∷ []) → is_ready s.held ≡ false
  unconfigured s config ends =
      unready_first s.held.config_ended s.held.services_ended s.held.config
      (unconfigured_by s.held.config_ended (config ++ ends_config ∷ []) ends (ends-behind groups.Config config ends_config refl))

  none-queued : (w : WorldValue) (s : State) → IsFollowed w s → is_ready s.held ≡ false → s.queue ≡ []
  none-queued w s up unready = (orderly-in w s up).empty_unready unready

  -- once the list of the configuration has ended, and before that of the services has
  configured-few : (s : State) (services : List Event) (steps : List Step) → IsFew s (services ++ ends_services ∷ [])
      → (let w = between [] (services ++ ends_services ∷ []) s in IsGood w → IsOwn w → AreOwnSteps steps w
      → length steps ≤ length w.service_lane + 4 * most)
  configured-few s services steps few good own are =
      let lane = services ++ ends_services ∷ [] in
      let w = between [] lane s in
      let steps_are = steps-few w good own steps are in
      let news = news-few store s lane in
      let late = late-few store s lane in
      let one = one-behind groups.Service services ends_services refl in
      let turns : turns_in s ≡ 0 =
      ap (turns_for (length s.held.services) (has_record s.held)) (none-queued w s good.up (unlisted w s services refl good.up)) in
      let left : steps_left w ≤ (0 + length lane) + 4 * most =
      left-few (length s.held.services + news_among store s lane) (0 + late_among store s lane) (length (doubts_in s)) (turns_in s)
      (0 + length lane) most (let held = few.0 in omega (arith, held, news)) (omega (arith, late, one)) few.1 turns in
      omega (arith, steps_are, left)

  -- and the other way round
  listed-few : (s : State) (config : List Event) (steps : List Step) → IsFew s []
      → (let w = between (config ++ ends_config ∷ []) [] s in IsGood w → IsOwn w → AreOwnSteps steps w
      → length steps ≤ length w.config_lane + 4 * most)
  listed-few s config steps few good own are =
      let lane = config ++ ends_config ∷ [] in
      let w = between lane [] s in
      let steps_are = steps-few w good own steps are in
      let one = one-behind groups.Config config ends_config refl in
      let turns : turns_in s ≡ 0 = ap (turns_for (length s.held.services) (has_record s.held)) (none-queued w s good.up (unconfigured s config own.config_ends)) in
      let left : steps_left w ≤ (length lane + 0) + 4 * most =
      left-few (length s.held.services + 0) (behind_end groups.Config lane + 0) (length (doubts_in s)) (turns_in s)
      (length lane + 0) most (let held = few.0 in omega (arith, held)) (omega (arith, one)) few.1 turns in
      omega (arith, steps_are, left)

  same-held : (s : State) (event : Event) → IsOfGroup groups.Config event → length (core_take s event).held.services ≡ length s.held.services
  same-held s event of = ap length (told-event s event (inl of)).0

  idle-none : (s : State) → s.queue ≡ [] → core_turn s ≡ Idle
  idle-none s none = ap (turn_of s) none

  -- While both lists are still going to end, each step is the taking of an event, since nothing is queued. After the end of the one, the end of the other
  -- alone comes late.
  both-few : (config services : List Event) (s : State) (steps : List Step) → IsFew s (services ++ ends_services ∷ [])
      → (let w = before_ends config services s in IsGood w → IsOwn w → AreOwnSteps steps w
      → length steps ≤ (length w.config_lane + length w.service_lane) + 4 * most)
  both-few config services s [] few good own are = omega arith
  both-few config services s (Edits edit ∷ steps) few good own are = absurd are.0
  both-few [] services s (Take groups.Config ∷ steps) few good own are =
      let w = before_ends [] services s in
      let next = world_step (Take groups.Config) w in
      let t : State = core_take s ends_config in
      let move = steps_are_moves w (Take groups.Config) are.1 own in
      let kept = steps_keep_good w next move.0 move.1 good in
      let owned = steps_keep_own w (Take groups.Config) tt good own in
      let held = same-held s ends_config refl in
      let doubts = took-doubts s (services-sorted w s good.up) ends_config in
      let few' : IsFew t (services ++ ends_services ∷ []) =
      ((let a = few.0 in omega (arith, a, held)), (let b = few.1 in omega (arith, b, doubts))) in
      let rest = configured-few t services steps few' kept owned are.2 in
      omega (arith, rest)
  both-few (event ∷ config) services s (Take groups.Config ∷ steps) few good own are =
      let w = before_ends (event ∷ config) services s in
      let next = world_step (Take groups.Config) w in
      let t : State = core_take s event in
      let move = steps_are_moves w (Take groups.Config) are.1 own in
      let kept = steps_keep_good w next move.0 move.1 good in
      let owned = steps_keep_own w (Take groups.Config) tt good own in
      let held = same-held s event own.config.0 in
      let doubts = took-doubts s (services-sorted w s good.up) event in
      let few' : IsFew t (services ++ ends_services ∷ []) =
      ((let a = few.0 in omega (arith, a, held)), (let b = few.1 in omega (arith, b, doubts))) in
      let rest = both-few config services t steps few' kept owned are.2 in
      omega (arith, rest)
  both-few config [] s (Take groups.Service ∷ steps) few good own are =
      let w = before_ends config [] s in
      let next = world_step (Take groups.Service) w in
      let t : State = core_take s ends_services in
      let move = steps_are_moves w (Take groups.Service) are.1 own in
      let kept = steps_keep_good w next move.0 move.1 good in
      let owned = steps_keep_own w (Take groups.Service) tt good own in
      let held = took-services s ends_services in
      let doubts = took-doubts s (services-sorted w s good.up) ends_services in
      let few' : IsFew t [] = ((let a = few.0 in omega (arith, a, held)), (let b = few.1 in omega (arith, b, doubts))) in
      let rest = listed-few t config steps few' kept owned are.2 in
      omega (arith, rest)
  both-few config (event ∷ services) s (Take groups.Service ∷ steps) few good own are =
      let w = before_ends config (event ∷ services) s in
      let next = world_step (Take groups.Service) w in
      let t : State = core_take s event in
      let move = steps_are_moves w (Take groups.Service) are.1 own in
      let kept = steps_keep_good w next move.0 move.1 good in
      let owned = steps_keep_own w (Take groups.Service) tt good own in
      let held = took-services s event in
      let doubts = took-doubts s (services-sorted w s good.up) event in
      let few' : IsFew t (services ++ ends_services ∷ []) =
      ((let a = few.0 in omega (arith, a, held)), (let b = few.1 in omega (arith, b, doubts))) in
      let rest = both-few config services t steps few' kept owned are.2 in
      omega (arith, rest)
  both-few config services s (Take groups.Endpoint ∷ steps) few good own are = absurd (are.1.1 refl)
  both-few config services s (Turns outcome ∷ steps) few good own are =
      let w = before_ends config services s in
      absurd (are.1.1 (idle-none s (none-queued w s good.up (unconfigured s config own.config_ends))))
  both-few config services s (Crash applied ∷ steps) few good own are = absurd are.0
  both-few config services s (Restart order ∷ steps) few good own are = absurd are.0
  both-few config services s (Expire group order ∷ steps) few good own are = absurd are.0

started-few : (class : Option (List ℕ)) (store : StoreValue) (steps : List Step)
    → (let w : WorldValue = started class store in IsGood w → IsOwn w → AreOwnSteps steps w → length steps ≤ length w.config_lane + 5 * length w.service_lane)
started-few class store steps good own are =
    let shows : ListGroup → List Event = λ group. map as_shown (filter (is_of_group group) store.objects) in
    let most = length (listing Ascending groups.Service store) in
    let few = both-few class store most (shows groups.Config) (shows groups.Service) (fresh class) steps (omega arith, omega arith) good own are in
    omega (arith, few)

-- what becomes of the core
abbrev Ends : WorldValue → State → Type 0
Ends end s =
    IsSettledAsStored end s × IsConfiguredAsStored end s × ((fault : ConfigFault) → config_in end.store ≡ Err fault → s.held.config ≡ None)

ends_by : (c : Option State) (end : WorldValue) → IfSome c (IsSettledAsStored end) → IfSome c (IsConfiguredAsStored end) → IfSome c (Begins end.config_lane)
    → IfSome c (Ends end)
ends_by None end settled configured begins = tt
ends_by (Some s) end settled configured begins = (
  settled,
  configured,
  λ fault bad. none-in-force end.store end.config_lane s fault settled.settled.config_taken configured.configured.objects_held bad begins,
)

pub starts_settle : StartsSettle
starts_settle class store good typed steps are =
    let w : WorldValue = started class store in
    let end : WorldValue = after_steps steps w in
    let own = starts_are_own class store good typed in
    let list : List Event = listing Ascending groups.Service store in
    let copies = starts_have_copies class store list good (listing-list Ascending store) in
    let clear = starts_are_clear.0 class store list in (
      started-few class store steps own.0 own.1 are,
      λ rest.
          let ends = up_by (Ends end) end.core (steps-up w steps are (some-apart _))
          (ends_by end.core end (controllers_settle w own.0 own.1 copies clear steps are rest)
          (controllers_configure w own.0 own.1 copies (starts_have_config_copies class store good) clear steps are rest)
          (begins-along w steps own.0 own.1 are (start-begins class store))) in
          (ends.0, ends.1, ends.2.0, ends.2.1, ends.2.2),
    )
