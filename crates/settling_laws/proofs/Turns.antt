-- A turn leaves fewer steps, whatever its put is answered.
use Rattle.std.proofs.Common.{◌≡◌, ◌≢◌, ℕ, ◌+◌, ◌*◌, ◌≤◌, ◌<◌, Bool, true, false, cond, not, eqb, ◌&&◌, ◌||◌, List, [], ◌∷◌, ◌++◌, length, filter}
use Rattle.std.proofs.Common.{Option, Some, None, option_map, is_some, refl, sym, ap, subst, ◌∙◌, arith, append-nil}
use Rattle.std.proofs.lemmas.Bool.{true≢false, false_from_ne_true}
use Rattle.std.proofs.lemmas.Bool.Decides.{nat_tests}
use Rattle.std.specs.List.{list_any}
use Rattle.std.specs.Option.{option_map_or}
use Rattle.kube_model.specs.declared.event.ListGroup.TheVariants as groups
use Rattle.std.specs.List.Sorted.{IsStrictlySortedBy}
use Rattle.std.specs.Map.{keys_of, set_value}
use Rattle.std.specs.BTreeMap.{is_at}
use Rattle.std.proofs.lemmas.List.{length-append}
use Rattle.std.proofs.lemmas.Map.{length-set_value}
use Rattle.kube_model.specs.declared.event.Event.{Event}
use Rattle.kube_model.specs.declared.event.Event.TheVariants.{Changed}
use Rattle.kube_model.specs.declared.object.Object.{Object}
use Rattle.kube_model.specs.declared.key.Key.{Key}
use Rattle.kube_model.specs.declared.put.Put.{Put}
use Rattle.kube_model.specs.declared.record.Record.{Record}
use Rattle.kube_model.specs.declared.reply.PutReply.{PutReply}
use Rattle.kube_model.specs.declared.reply.PutReply.TheVariants as replies
use Rattle.kube_model.specs.declared.service.Service.{Service}
use Rattle.kube_model.specs.Keys.{key_cmp, same_key, has_key}
use Rattle.kube_model.specs.Records.{empty_record, is_assigned, same_record}
use Rattle.kube_model.specs.Service.{is_handled, with_holding}
use Rattle.kube_model.proofs.KeyLaws.{key_cmp-total, same_key-is, same_key-itself, same_key-flip, is_eq-key_cmp}
use Rattle.versioned_map.specs.declared.map.Versioned.{Versioned}
use Rattle.versioned_map.specs.Objects.{held_at, amended_at}
use Rattle.versioned_map.proofs.HeldLaws.{held_at-amended}
use Rattle.status_store.specs.Changes.{StoreValue, with_record, recorded, with_put, is_at_version, delivered_reply, reply_to}
use Rattle.status_store.specs.Objects.{stored_at, with_stored}
use Rattle.status_store.specs.Places.{service_at}
use Rattle.status_store.specs.declared.change.Outcome.TheVariants.{Delivered}
use Rattle.status_store.proofs.StoredLaws.{found-stored}
use Rattle.sharing_terms.specs.declared.terms.Terms.{Terms}
use Rattle.claim_index.specs.Claims.{ClaimValue, has_claims, is_under, loses}
use Rattle.core_rules.specs.Core.{State, service_of, waits, waiting}
use Rattle.core_rules.specs.Keys.{is_free}
use Rattle.object_history.specs.Cache.{Cached}
use Rattle.object_history.specs.LookBack.{event_ends_list}
use Rattle.status_store.specs.declared.stored.Stored.{Stored}
use Rattle.world_rules.specs.Good.{stored_as, stored_of, held_as, held_of, IsFollowed}
use Rattle.world_rules.specs.Tracked.{Shown}
use Rattle.world_rules.specs.World.{WorldValue, as_shown, shown_stored, put_by, turned, after_turning}
use Rattle.world_rules.proofs.Storing.{service-at, stored_at-recorded}
use Rattle.world_rules.proofs.Takes.{services-sorted}
use Rattle.core_rules.specs.Turn.{core_turn, after_turn, put_in, rest_of}
use Rattle.core_rules.specs.Replied.{core_reply, replied, replied_to, put_terms}
use Rattle.core_rules.specs.Run.{Turned, Heard, IsRun, core_after}
use Rattle.core_rules.specs.Take.{Effect, Shows as ShowsService, effect_of}
use Rattle.core_laws.specs.Queue.{AreApart, IsOrderlyQueue}
use Rattle.core_laws.proofs.Queued.{queues_are_orderly}
use Rattle.core_laws.proofs.Puts.{IsWanted, wanted-of, held-of}
use Rattle.core_laws.proofs.QuietRuns.{wants-some}
use Rattle.core_laws.proofs.QueueOnce.{passing-found, waiting-new}
use Rattle.settling_laws.specs.Clear.{at_one_version, is_current}
use Rattle.settling_laws.specs.Settling.{behind_end, doubts_in, is_bare}
use Rattle.settling_laws.proofs.Left.{are_news, news_among, late_among, has_record, up_to_last, turns_for, turns_in, steps_for, steps_of, steps_left}
use Rattle.settling_laws.proofs.Numbers.{fewer-each, one-fewer, fall-turned}
use Rattle.settling_laws.proofs.Counts.{late-append, late-less, news-less, news-append, queue-few, turns-fewer, up-kept}
use Rattle.settling_laws.proofs.Doubted.{assigned-some, settled-doubts, settled-fewer}

some-is : {X : Type 0} (x y : X) → Some x ≡ Some y → x ≡ y
some-is x y e = cc

nothing-first : {X : Type 0} (x : X) (xs : List X) → x ∷ xs ≡ [] → ⊥
nothing-first x xs e = absurd (cc)

eqb-itself : (n : ℕ) → eqb n n ≡ true
eqb-itself n = grind (arith, nat_tests)

none-some : {X : Type 0} (x : X) → None ≡ Some x → ⊥
none-some x e = absurd (cc)

not-true : (b : Bool) → not b ≡ false → b ≡ true
not-true true e = refl
not-true false e = absurd (true≢false e)

-- ---- keys
rest-less : (queue : List Key) → queue ≢ [] → length (rest_of queue) + 1 ≤ length queue
rest-less [] some = absurd (some refl)
rest-less (key ∷ keys) some = omega arith

other-than : (keys : List Key) (k key : Key) → has_key keys k ≡ false → has_key keys key ≡ true → same_key k key ≡ false
other-than keys k key none there =
    false_from_ne_true (same_key k key) (λ same. true≢false (sym there ∙ ap (has_key keys) (sym (same_key-is k key same)) ∙ none))

rest-fewer : (held : ℕ) (test : Key → Bool) (queue : List Key) → queue ≢ [] → length queue ≤ held
    → turns_for held test (rest_of queue) + 1 ≤ turns_for held test queue
rest-fewer held test [] some few = absurd (some refl)
rest-fewer held test (k ∷ rest) some few =
    let same : rest ++ [] ≡ rest = append-nil rest in
    let kept = up-kept test test rest [] (λ key there. refl) (λ key there. absurd (true≢false (sym there))) in
    let as_many : length (rest ++ []) ≡ length rest = ap length same in
    let fewer = turns-fewer held test test k rest [] (omega (arith, as_many, few)) kept.0 kept.1 (λ _ _. refl) in
    subst (λ (keys : List Key). turns_for held test keys + 1 ≤ turns_for held test (k ∷ rest)) same fewer

-- who waits has no record
last-of : (t q h s : Bool) → (not t && (q && (h && s))) ≡ true → s ≡ true
last-of false true true s e = e
last-of true q h s e = absurd (cc)
last-of false false h s e = absurd (cc)
last-of false true false s e = absurd (cc)

none-recorded : (o : Option Service) (service : Service) → o ≡ Some service → same_record service.holding empty_record ≡ true
    → option_map_or (λ (x : Service). not (same_record x.holding empty_record)) o false ≡ false
none-recorded o service is bare =
    ap (λ (p : Option Service). option_map_or (λ (x : Service). not (same_record x.holding empty_record)) p false) is ∙ ap not bare

waiting-bare : (lost : Bool) (class : Option (List ℕ)) (told : Key → Bool) (queue awaiting : List Key) (held : Cached)
    → IsStrictlySortedBy key_cmp (keys_of held.services) → (key : Key) → has_key (waiting lost class told queue awaiting held.services) key ≡ true
    → has_record held key ≡ false
waiting-bare false class told queue awaiting held sorted key there = absurd (true≢false (sym there))
waiting-bare true class told queue awaiting held sorted key there =
    let found = passing-found (waits class told queue awaiting) held.services sorted key there in
    none-recorded (service_of held key) found.0 found.1
    (last-of (told key) (is_free queue awaiting key) (is_handled class found.0) (same_record found.0.holding empty_record) found.2)

-- a key that loses a claim has one
first-true : (a b : Bool) → (a && b) ≡ true → a ≡ true
first-true true b e = refl
first-true false b e = e

some_by : (a rest : Bool) (here : Bool) → (here ≡ true → a ≡ true) → (here || rest) ≡ true → (rest' : Bool) → (rest ≡ true → rest' ≡ true) → (a || rest') ≡ true
some_by true rest here of e rest' ih = refl
some_by false true here of e rest' ih = ih refl
some_by false false true of e rest' ih = absurd (true≢false (sym (of refl)))
some_by false false false of e rest' ih = absurd (true≢false (sym e))

loses-some : (key : Key) (holding : Record) (terms : Terms) (claims : List ClaimValue) → loses key holding terms claims ≡ true → has_claims key claims ≡ true
loses-some key holding terms [] e = e
loses-some key holding terms (c ∷ claims) e =
    some_by (same_key c.key key) (loses key holding terms claims) (same_key c.key key && not (is_under holding terms c))
    (λ here. first-true (same_key c.key key) (not (is_under holding terms c)) here) e (has_claims key claims)
    (λ there. loses-some key holding terms claims there)

-- ---- what is current
at_set : (b : Bool) (o : Option Stored) (p : Option (Versioned Service)) (g : Stored) (v : Versioned Service) → v.version ≡ g.version
    → (b ≡ false → at_one_version (option_map stored_as o) (option_map held_as p) ≡ true)
    → at_one_version (option_map stored_as (cond b (Some g) o)) (option_map held_as (cond b (Some v) p)) ≡ true
at_set true o p g v same else = ap (λ (n : ℕ). eqb n g.version) same ∙ eqb-itself g.version
at_set false o p g v same else = else refl

-- ---- a turn
module _ (w : WorldValue) (s : State) (up : IsFollowed w s) where
  abbrev es : List (Key × Versioned Service)
  es = s.held.services

  sorted : IsStrictlySortedBy key_cmp (keys_of es)
  sorted = services-sorted w s up

  orderly : IsOrderlyQueue s
  orderly = subst IsOrderlyQueue up.leads (queues_are_orderly w.class up.run up.is)

  few : length s.queue ≤ length es
  few = queue-few s orderly

  abbrev held-all : ℕ
  held-all = length es + news_among w.store s w.service_lane

  abbrev late : ℕ
  late = behind_end groups.Config w.config_lane + late_among w.store s w.service_lane

  abbrev weight : ℕ
  weight = 2 * late + length (doubts_in s)

  -- what is left behind a turn, in the world that it leads to
  module _ (t : State) (store : StoreValue) (lane : List Event) (all : length t.held.services + news_among store t lane ≤ held-all)
      (later : late_among store t lane ≤ late_among w.store s w.service_lane) (pending : length lane ≤ length w.service_lane + 1)
    where
      abbrev held-all' : ℕ
      held-all' = length t.held.services + news_among store t lane

      abbrev late' : ℕ
      late' = behind_end groups.Config w.config_lane + late_among store t lane

      abbrev weight' : ℕ
      weight' = 2 * late' + length (doubts_in t)

      abbrev FallsTo : Type 0
      FallsTo = steps_for held-all' late' (length (doubts_in t)) (turns_in t) (length w.config_lane + length lane) < steps_of (Some s) w

      turn-step : length (doubts_in t) ≤ length (doubts_in s) → turns_in t + 1 ≤ turns_in s → FallsTo
      turn-step doubts turns =
          let a = fewer-each held-all weight held-all' weight' all (omega (arith, later, doubts)) in
          fall-turned (held-all * weight) (turns_in s) (length w.config_lane + length w.service_lane) (held-all' * weight') (turns_in t)
          (length w.config_lane + length lane) (omega (arith, a, turns)) (omega (arith, pending))

      lost-step : length (doubts_in t) + 1 ≤ length (doubts_in s) → turns_in t ≤ length t.held.services → 1 ≤ turns_in s → FallsTo
      lost-step doubts turns some =
          let a = one-fewer held-all weight held-all' weight' all (omega (arith, later, doubts)) in
          fall-turned (held-all * weight) (turns_in s) (length w.config_lane + length w.service_lane) (held-all' * weight') (turns_in t)
          (length w.config_lane + length lane) (omega (arith, a, turns, some)) (omega (arith, pending))

  -- nothing is stored, and one key less is queued
  turned-fall : (t : State) → t.held ≡ s.held → t.claims ≡ s.claims → t.queue ≡ rest_of s.queue → s.queue ≢ [] → (more : List Event) → more ≡ []
      → steps_for (length t.held.services + news_among w.store t (w.service_lane ++ more))
      (behind_end groups.Config w.config_lane + late_among w.store t (w.service_lane ++ more)) (length (doubts_in t)) (turns_in t)
      (length w.config_lane + length (w.service_lane ++ more))
      < steps_of (Some s) w
  turned-fall t held claims queue some more none =
      let stays : (key : Key) → is_current w.store s key ≡ true → is_current w.store t key ≡ true =
      λ key e. ap (λ (c : Cached). at_one_version (stored_of w.store key) (option_map held_as (held_at key_cmp c.services key))) held ∙ e in
      let less = news-less w.store w.store s t stays w.service_lane in
      let later = late-less w.store w.store s t stays w.service_lane in
      let lane : w.service_lane ++ more ≡ w.service_lane = ap (λ (xs : List Event). w.service_lane ++ xs) none ∙ append-nil w.service_lane in
      let news : news_among w.store t (w.service_lane ++ more) ≡ news_among w.store t w.service_lane = ap (news_among w.store t) lane in
      let lates : late_among w.store t (w.service_lane ++ more) ≡ late_among w.store t w.service_lane = ap (late_among w.store t) lane in
      let pending : length (w.service_lane ++ more) ≡ length w.service_lane = ap length lane in
      let as_many : length t.held.services ≡ length es = ap (λ (c : Cached). length c.services) held in
      let doubts : length (doubts_in t) ≡ length (doubts_in s) =
      ap (λ (c : Cached). length (filter (λ (x : ClaimValue). option_map_or (λ (service : Service). same_record service.holding empty_record) (service_of c x.key) false)
      t.claims)) held
      ∙ ap (λ (cs : List ClaimValue). length (filter (λ (x : ClaimValue). is_bare s x.key) cs)) claims in
      let turns : turns_in t ≡ turns_for (length es) (has_record s.held) (rest_of s.queue) =
      ap (λ (c : Cached). turns_for (length c.services) (has_record c) t.queue) held ∙ ap (turns_for (length es) (has_record s.held)) queue in
      let fewer = rest-fewer (length es) (has_record s.held) s.queue some few in
      turn-step t w.store (w.service_lane ++ more) (omega (arith, as_many, news, less)) (omega (arith, lates, later)) (omega (arith, pending))
      (omega (arith, doubts)) (omega (arith, turns, fewer))

  -- ---- its put
  module _ (put : Put) (wants : put_in (core_turn s) ≡ Some put) where
    wanted : IsWanted s put (wants-some (core_turn s) put wants).0 s.queue
    wanted = let some = wants-some (core_turn s) put wants in wanted-of s s.queue put some.0 (sym some.1)

    some-queued : s.queue ≢ []
    some-queued none = nothing-first put.key wanted.rest (sym wanted.queue_is ∙ none)

    rest-is : rest_of s.queue ≡ wanted.rest
    rest-is = ap rest_of wanted.queue_is

    -- the queue after a reply is orderly
    orderly-next : (reply : PutReply) → IsOrderlyQueue (replied (after_turn s) put reply)
    orderly-next reply =
        let c : State = core_after w.class up.run in
        let out : is_some (put_in (core_turn c)) ≡ true = ap (λ (x : State). is_some (put_in (core_turn x))) up.leads ∙ ap is_some wants in
        let none : c.out ≡ None = ap (λ (x : State). x.out) up.leads ∙ up.none_out in
        let is : IsRun w.class (Heard reply ∷ Turned (core_turn c) ∷ up.run) = (out, ((none, refl), up.is)) in
        subst (λ (o : Option Put). IsOrderlyQueue (replied_to o (after_turn s) reply)) wants
        (subst (λ (x : State). IsOrderlyQueue (core_reply (after_turn x) reply)) up.leads
        (queues_are_orderly w.class (Heard reply ∷ Turned (core_turn c) ∷ up.run) is))

    -- the world after the reply, where the put was stored or not, by what was stored
    abbrev replied_world : Bool → Option Stored → PutReply → WorldValue
    replied_world b found reply = record w {
      store = record {
        objects = cond b (with_put (w.store.counter + 1) put found w.store.objects) w.store.objects;
        counter = cond b (w.store.counter + 1) w.store.counter;
      };
      service_lane = w.service_lane
          ++ cond b (shown_stored (stored_at (cond b (with_put (w.store.counter + 1) put found w.store.objects) w.store.objects) (service_at put.key))) [];
      core = Some (replied (after_turn s) put reply);
    }

    abbrev Falls : Bool → Option Stored → PutReply → Type 0
    Falls b found reply = steps_left (replied_world b found reply) < steps_of (Some s) w

    refused-falls : (found : Option Stored) → Falls false found replies.Stale × Falls false found replies.Missing
    refused-falls found = (
      turned-fall (replied (after_turn s) put replies.Stale) refl refl refl some-queued [] refl,
      turned-fall (replied (after_turn s) put replies.Missing) refl refl refl some-queued [] refl,
    )

    module _ (g : Stored) (found : stored_at w.store.objects (service_at put.key) ≡ Some g) (h : Versioned Service) (held : held_at key_cmp es put.key ≡ Some h)
      where
        abbrev next : ℕ
        next = w.store.counter + 1

        abbrev t : State
        t = replied (after_turn s) put (replies.Ok next)

        abbrev new : Versioned Service
        new = record { version = next; object = with_holding put.holding h.object }

        abbrev given : Stored
        given = recorded next put.holding g

        abbrev after : StoreValue
        after = record { objects = with_stored given w.store.objects; counter = next }

        services-now : t.held.services ≡ set_value (is_at (key_cmp put.key)) es new
        services-now = ap (amended_at key_cmp es put.key next (with_holding put.holding)) held

        stored-now : (key : Key) → stored_of after key ≡ option_map stored_as (cond (same_key put.key key) (Some given) (stored_at w.store.objects (service_at key)))
        stored-now key = ap (option_map stored_as) (stored_at-recorded w.store.objects g put.key key put.holding next found)

        at-now : (key : Key) → held_at key_cmp t.held.services key ≡ cond (same_key put.key key) (Some new) (held_at key_cmp es key)
        at-now key =
            ap (λ (o : Option (Versioned Service)). held_at key_cmp (amended_at key_cmp es put.key next (with_holding put.holding) o) key) held
            ∙ held_at-amended key_cmp-total es put.key key next (with_holding put.holding) h held
            ∙ ap (λ (b : Bool). cond b (Some new) (held_at key_cmp es key)) (is_eq-key_cmp put.key key)

        held-now : (key : Key) → held_of t key ≡ option_map held_as (cond (same_key put.key key) (Some new) (held_at key_cmp es key))
        held-now key = ap (option_map held_as) (at-now key)

        current-now : (key : Key) → (same_key put.key key ≡ false → is_current w.store s key ≡ true) → is_current after t key ≡ true
        current-now key else =
            ap (λ (a : Option Shown). at_one_version a (held_of t key)) (stored-now key)
            ∙ ap (at_one_version (option_map stored_as (cond (same_key put.key key) (Some given) (stored_at w.store.objects (service_at key))))) (held-now key)
            ∙ at_set (same_key put.key key) (stored_at w.store.objects (service_at key)) (held_at key_cmp es key) given new refl else

        -- what the put shows is no news
        echo-is : stored_at after.objects (service_at put.key) ≡ Some given
        echo-is = stored_at-recorded w.store.objects g put.key put.key put.holding next found
            ∙ ap (λ (b : Bool). cond b (Some given) (stored_at w.store.objects (service_at put.key))) (same_key-itself put.key)

        no-news : news_among after t (as_shown given ∷ []) ≡ 0
        no-news =
            let is = service-at g.object put.key (found-stored w.store.objects (service_at put.key) g found).1 in
            let effect : effect_of (as_shown given) ≡ ShowsService next (with_holding put.holding is.0) =
            ap (λ (x : Object). effect_of (Changed next (with_record put.holding x))) is.1 in
            let current : is_current after t is.0.key ≡ true =
            ap (is_current after t) is.2 ∙ current-now put.key (λ other. absurd (true≢false (sym (same_key-itself put.key) ∙ other))) in
            ap (λ (e : Effect). cond (are_news after t e) 1 0 + 0) effect ∙ ap (λ (b : Bool). cond (not b) 1 0 + 0) current

        no-late : late_among after t (as_shown given ∷ []) ≡ 0
        no-late =
            let is = service-at g.object put.key (found-stored w.store.objects (service_at put.key) g found).1 in
            let effect : effect_of (as_shown given) ≡ ShowsService next (with_holding put.holding is.0) =
            ap (λ (x : Object). effect_of (Changed next (with_record put.holding x))) is.1 in
            let current : is_current after t is.0.key ≡ true =
            ap (is_current after t) is.2 ∙ current-now put.key (λ other. absurd (true≢false (sym (same_key-itself put.key) ∙ other))) in
            ap (λ (e : Effect). cond (are_news after t e) 1 0 + 0) effect ∙ ap (λ (b : Bool). cond (not b) 1 0 + 0) current

        -- ---- the queue
        abbrev lost : Bool
        lost = loses put.key put.holding (put_terms s.held put) s.claims

        abbrev woken : List Key
        woken = waiting lost s.class (same_key put.key) wanted.rest s.awaiting es

        queue-now : t.queue ≡ wanted.rest ++ woken
        queue-now = ap (λ (keys : List Key). keys ++ waiting lost s.class (same_key put.key) keys s.awaiting es) rest-is

        rest-apart : has_key wanted.rest put.key ≡ false
        rest-apart = (subst AreApart wanted.queue_is orderly.once).0

        -- of others nothing changes
        else-record : (key : Key) → same_key put.key key ≡ false → has_record t.held key ≡ has_record s.held key
        else-record key other =
            ap (λ (o : Option (Versioned Service)). option_map_or (λ (x : Service). not (same_record x.holding empty_record))
            (option_map (λ (v : Versioned Service). v.object) o) false)
            (at-now key ∙ ap (λ (b : Bool). cond b (Some new) (held_at key_cmp es key)) other)

        else-bare : (key : Key) → same_key put.key key ≡ false → is_bare t key ≡ is_bare s key
        else-bare key other =
            ap (λ (o : Option (Versioned Service)). option_map_or (λ (x : Service). same_record x.holding empty_record)
            (option_map (λ (v : Versioned Service). v.object) o) false)
            (at-now key ∙ ap (λ (b : Bool). cond b (Some new) (held_at key_cmp es key)) other)

        own-bare : is_assigned put.holding ≡ true → is_bare t put.key ≡ false
        own-bare assigned =
            ap (λ (o : Option (Versioned Service)). option_map_or (λ (x : Service). same_record x.holding empty_record)
            (option_map (λ (v : Versioned Service). v.object) o) false)
            (at-now put.key ∙ ap (λ (b : Bool). cond b (Some new) (held_at key_cmp es put.key)) (same_key-itself put.key))
            ∙ assigned-some put.holding assigned

        kept : (list_any (has_record t.held) (wanted.rest ++ woken) ≡ list_any (has_record s.held) wanted.rest)
            × (up_to_last (has_record t.held) (wanted.rest ++ woken) ≡ up_to_last (has_record s.held) wanted.rest)
        kept = up-kept (has_record s.held) (has_record t.held) wanted.rest woken
            (λ key there. else-record key (other-than wanted.rest put.key key rest-apart there))
            (λ key there.
            else-record key ((waiting-new lost s.class (same_key put.key) wanted.rest s.awaiting es sorted).untold key there)
            ∙ waiting-bare lost s.class (same_key put.key) wanted.rest s.awaiting s.held sorted key there)

        as-many : length t.held.services ≡ length es
        as-many = ap length services-now ∙ length-set_value (is_at (key_cmp put.key)) es new

        few-now : length (wanted.rest ++ woken) ≤ length es
        few-now =
            let few = queue-few t (orderly-next (replies.Ok next)) in
            let same = ap length queue-now in
            omega (arith, few, same, as-many)

        turns-now : turns_in t ≡ turns_for (length es) (has_record t.held) (wanted.rest ++ woken)
        turns-now = ap (λ (n : ℕ). turns_for n (has_record t.held) t.queue) as-many ∙ ap (turns_for (length es) (has_record t.held)) queue-now

        turns-before : turns_in s ≡ turns_for (length es) (has_record s.held) (put.key ∷ wanted.rest)
        turns-before = ap (turns_for (length es) (has_record s.held)) wanted.queue_is

        fewer-turns : (has_record s.held put.key ≡ false → list_any (has_record s.held) wanted.rest ≡ false → woken ≡ []) → turns_in t + 1 ≤ turns_in s
        fewer-turns none =
            let a = turns-fewer (length es) (has_record s.held) (has_record t.held) put.key wanted.rest woken few-now kept.0 kept.1 none in
            omega (arith, a, turns-now, turns-before)

        fewer-doubts : length (doubts_in t) ≤ length (doubts_in s)
        fewer-doubts =
            settled-doubts s (is_bare t) put.key put.holding (put_terms s.held put)
            (λ key other. else-bare key (same_key-flip put.key key ∙ other)) own-bare

        -- where a claim is taken away of a service without a record
        bare-now : has_record s.held put.key ≡ false → is_bare s put.key ≡ true
        bare-now none = bare_by (service_of s.held put.key) wanted.service wanted.found none
          where
            bare_by : (o : Option Service) (service : Service) → o ≡ Some service
                → option_map_or (λ (x : Service). not (same_record x.holding empty_record)) o false ≡ false
                → option_map_or (λ (x : Service). same_record x.holding empty_record) o false ≡ true
            bare_by None service is e = absurd (none-some service is)
            bare_by (Some x) service is e = not-true (same_record x.holding empty_record) e

        one-doubt : lost ≡ true → has_record s.held put.key ≡ false → length (doubts_in t) + 1 ≤ length (doubts_in s)
        one-doubt loses none =
            settled-fewer s (is_bare t) put.key put.holding (put_terms s.held put)
            (λ key other. else-bare key (same_key-flip put.key key ∙ other)) own-bare (bare-now none)
            (loses-some put.key put.holding (put_terms s.held put) s.claims loses)

        abbrev echo : List Event
        echo = shown_stored (stored_at after.objects (service_at put.key))

        echo-shows : echo ≡ as_shown given ∷ []
        echo-shows = ap shown_stored echo-is

        all-now : length t.held.services + news_among after t (w.service_lane ++ echo) ≤ held-all
        all-now =
            let less = news-less w.store after s t (λ key e. current-now key (λ _. e)) w.service_lane in
            let more = news-append after t w.service_lane echo in
            let none : news_among after t echo ≡ 0 = ap (news_among after t) echo-shows ∙ no-news in
            omega (arith, less, more, none, as-many)

        late-now : late_among after t (w.service_lane ++ echo) ≤ late_among w.store s w.service_lane
        late-now =
            let less = late-less w.store after s t (λ key e. current-now key (λ _. e)) w.service_lane in
            let more = late-append after t w.service_lane echo (ap (list_any (event_ends_list groups.Service)) echo-shows) in
            let none : late_among after t echo ≡ 0 = ap (late_among after t) echo-shows ∙ no-late in
            omega (arith, less, more, none)

        pending-now : length (w.service_lane ++ echo) ≤ length w.service_lane + 1
        pending-now =
            let one : length echo ≡ 1 = ap length echo-shows in
            let both = length-append w.service_lane echo in
            omega (arith, one, both)

        some-turns : 1 ≤ turns_in s
        some-turns = let a = rest-fewer (length es) (has_record s.held) s.queue some-queued few in omega (arith, a)

        stored_by : (b r a : Bool) → lost ≡ b → has_record s.held put.key ≡ r → list_any (has_record s.held) wanted.rest ≡ a → Falls true (Some g) (replies.Ok next)
        stored_by false r a l k any =
            turn-step t after (w.service_lane ++ echo) all-now late-now pending-now fewer-doubts
            (fewer-turns (λ _ _. ap (λ (b : Bool). waiting b s.class (same_key put.key) wanted.rest s.awaiting es) l))
        stored_by true true a l k any =
            turn-step t after (w.service_lane ++ echo) all-now late-now pending-now fewer-doubts
            (fewer-turns (λ none _. absurd (true≢false (sym k ∙ none))))
        stored_by true false true l k any =
            turn-step t after (w.service_lane ++ echo) all-now late-now pending-now fewer-doubts
            (fewer-turns (λ _ none. absurd (true≢false (sym any ∙ none))))
        stored_by true false false l k any =
            let none : list_any (has_record t.held) t.queue ≡ false = ap (list_any (has_record t.held)) queue-now ∙ kept.0 ∙ any in
            let turns : turns_in t ≡ length t.queue =
            ap (λ (b : Bool). cond b (up_to_last (has_record t.held) t.queue + length t.held.services) (length t.queue)) none in
            let queued = ap length queue-now in
            lost-step t after (w.service_lane ++ echo) all-now late-now pending-now (one-doubt l k) (omega (arith, turns, queued, few-now, as-many)) some-turns

        stored-falls : Falls true (Some g) (replies.Ok next)
        stored-falls = stored_by lost (has_record s.held put.key) (list_any (has_record s.held) wanted.rest) refl refl refl

        delivered_on : (b : Bool) → Falls b (Some g) (cond b (replies.Ok next) replies.Stale)
        delivered_on true = stored-falls
        delivered_on false = (refused-falls (Some g)).0

    delivered_by : (found : Option Stored) → stored_at w.store.objects (service_at put.key) ≡ found → (h : Versioned Service) → held_at key_cmp es put.key ≡ Some h
        → Falls (is_at_version put.version found) found (delivered_reply w.store.counter put found)
    delivered_by None is h held = (refused-falls None).1
    delivered_by (Some g) is h held = delivered_on g is h held (eqb g.version put.version)

    held-some : (h : Versioned Service) × (held_at key_cmp es put.key ≡ Some h)
    held-some = let is = held-of (held_at key_cmp es put.key) wanted.service wanted.found in (is.0, is.1)

    pub put-falls : steps_left (put_by (after_turn s) put Delivered w) < steps_of (Some s) w
    put-falls =
        let falls = delivered_by (stored_at w.store.objects (service_at put.key)) refl held-some.0 held-some.1 in
        let same : replied_to (put_in (core_turn s)) (after_turn s) (reply_to put Delivered w.store) ≡ replied (after_turn s) put (reply_to put Delivered w.store) =
        ap (λ (o : Option Put). replied_to o (after_turn s) (reply_to put Delivered w.store)) wants in
        subst (λ (u : State). steps_of (Some u) (put_by (after_turn s) put Delivered w) < steps_of (Some s) w) (sym same) falls

  turn_by : (p : Option Put) → put_in (core_turn s) ≡ p → s.queue ≢ [] → steps_left (turned (after_turn s) p Delivered w) < steps_of (Some s) w
  turn_by None e some =
      let falls = turned-fall (after_turn s) refl refl refl some [] refl in
      subst (λ (lane : List Event). steps_for (length es + news_among w.store (after_turn s) lane)
      (behind_end groups.Config w.config_lane + late_among w.store (after_turn s) lane) (length (doubts_in (after_turn s))) (turns_in (after_turn s))
      (length w.config_lane + length lane) < steps_of (Some s) w) (append-nil w.service_lane) falls
  turn_by (Some put) e some = put-falls put e

  pub turn-falls : s.queue ≢ [] → steps_left (after_turning (Some s) Delivered w) < steps_of (Some s) w
  turn-falls some = turn_by (put_in (core_turn s)) refl some
