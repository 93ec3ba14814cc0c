-- Which services wait after a turn, and after the reply to a put.
use Rattle.std.proofs.Common.{◌≡◌, ℕ, Bool, true, false, cond, not, ◌&&◌, ◌||◌, List, [], ◌∷◌, ◌++◌, drop}
use Rattle.std.proofs.Common.{Option, Some, None, is_eq, option_map, refl, sym, ap, subst, ◌∙◌}
use Rattle.std.proofs.lemmas.Bool.{true≢false, and_from, or_from, false_from_ne_true}
use Rattle.std.specs.BTreeSet.{BTreeSet, IsOrdered, contains}
use Rattle.std.specs.List.Sorted.{IsStrictlySortedBy}
use Rattle.std.specs.Map.{keys_of}
use Rattle.kube_model.specs.declared.key.Key.{Key}
use Rattle.kube_model.specs.declared.put.Put.{Put}
use Rattle.kube_model.specs.declared.record.Record.{Record}
use Rattle.kube_model.specs.declared.reply.PutReply.{PutReply}
use Rattle.kube_model.specs.declared.reply.PutReply.TheVariants.{Ok as StoredReply, Stale, Missing, Unknown}
use Rattle.kube_model.specs.declared.service.Service.{Service}
use Rattle.kube_model.specs.Keys.{key_cmp, same_key, has_key}
use Rattle.kube_model.specs.Service.{with_holding}
use Rattle.kube_model.proofs.KeyLaws.{key_cmp-total, key_cmp-exact, is_eq-key_cmp, same_key-is, same_key-itself}
use Rattle.versioned_map.specs.declared.map.Versioned.{Versioned}
use Rattle.versioned_map.specs.Objects.{held_at, object_at, amended}
use Rattle.object_history.specs.Cache.{Cached, cached_after}
use Rattle.object_history.specs.Kinds.{service_resource}
use Rattle.object_history.specs.LookBack.{written_over}
use Rattle.object_history.specs.Observations.{Written}
use Rattle.object_history.proofs.Held.{amended_seen}
use Rattle.object_cache.specs.Stays.{passing}
use Rattle.claim_index.specs.Claims.{ClaimValue, settled, doubted, loses}
use Rattle.core_rules.specs.Core.{State, is_ready, service_of, waits, waiting}
use Rattle.core_rules.specs.Keys.{is_free}
use Rattle.core_rules.specs.Replied.{replied, stored, in_doubt, put_terms, core_reply}
use Rattle.core_rules.specs.Turn.{rest_of}
use Rattle.core_laws.proofs.Orderly.{IsInOrder}
use Rattle.core_laws.proofs.QueueOnce.{waiting-new}
use Rattle.core_laws.proofs.QuietRuns.{none-some}
use Rattle.core_laws.proofs.Ready.{IsIdle}
use Rattle.core_laws.proofs.Rows.{has_key-append, passing-has}
use Rattle.ctl_core.specs.Reached.{IsReached}
use Rattle.core_keys.specs.Lacking.{lacks_with, lacks_record}
use Rattle.core_keys.specs.Picked.{others_where}
use Rattle.ctl_core.specs.Waiting.{waits_at, AreWaiting, is_front_lacking}
use Rattle.ctl_core.proofs.Reaches.{reached-orderly, reached-idle, reached-sorted}
use Rattle.ctl_core.proofs.WaitingLaws.{others-waiting}

-- ---- a service waits where its key is free and it lacks a record
and-nothing : (b : Bool) → false ≡ (b && false)
and-nothing true = refl
and-nothing false = refl

waits-lacks : (class : Option (List ℕ)) (queue awaiting : List Key) (key : Key) (found : Option Service)
    → waits_at class queue awaiting key found ≡ (is_free queue awaiting key && lacks_record class found)
waits-lacks class queue awaiting key None = and-nothing (is_free queue awaiting key)
waits-lacks class queue awaiting key (Some service) = refl

-- ---- a turn
or-nothing : (b : Bool) → (b || false) ≡ b
or-nothing true = refl
or-nothing false = refl

-- the front key leaves the queue, and waits where its service lacks a record; the others wait as before
turned-by : (same ready front q a l : Bool) → ready ≡ true → (same ≡ true → (front ≡ l) × (q ≡ false) × (a ≡ false))
    → ((same && front) || (ready && ((not (same || q) && not a) && l))) ≡ (ready && ((not q && not a) && l))
turned-by true true front q a l r own = let is = own refl in or-nothing front ∙ is.0 ∙ sym (rw (is.1, is.2) refl)
turned-by true false front q a l r own = absurd (cc)
turned-by false ready front q a l r own = refl

ready-by : (b : Bool) (k : Key) (rest : List Key) → (b ≡ false → (k ∷ rest) ≡ []) → b ≡ true
ready-by true k rest empty = refl
ready-by false k rest empty = absurd (cc (empty refl))

-- the front key is neither among the others that are queued nor awaiting
front-is : (class : Option (List ℕ)) (held : Cached) (front k : Key) (rest awaiting : List Key) → IsInOrder (front ∷ rest) awaiting → same_key front k ≡ true
    → (lacks_record class (service_of held front) ≡ lacks_record class (service_of held k)) × (has_key rest k ≡ false) × (has_key awaiting k ≡ false)
front-is class held front k rest awaiting order same =
    let is : front ≡ k = same_key-is front k same in (
      ap (λ x. lacks_record class (service_of held x)) is,
      ap (has_key rest) (sym is) ∙ order.once.0,
      ap (has_key awaiting) (sym is) ∙ order.free front (ap (λ b. b || has_key rest front) (same_key-itself front)),
    )

pub waiting-turned : (class : Option (List ℕ)) (held : Cached) (queue awaiting : List Key) (before after : BTreeSet Key) → IsInOrder queue awaiting
    → (is_ready held ≡ false → queue ≡ [])
    → AreWaiting class held queue awaiting before
    → ((k : Key) → contains key_cmp after k ≡ (is_front_lacking class held.services queue k || contains key_cmp before k))
    → AreWaiting class held (rest_of queue) awaiting after
waiting-turned class held [] awaiting before after order empty w now k = now k ∙ w k
waiting-turned class held (front ∷ rest) awaiting before after order empty w now k =
    now k
    ∙ ap (λ b. (same_key front k && lacks_record class (service_of held front)) || b)
    (w k ∙ ap (λ b. is_ready held && b) (waits-lacks class (front ∷ rest) awaiting k (service_of held k)))
    ∙ turned-by (same_key front k) (is_ready held) (lacks_record class (service_of held front)) (has_key rest k) (has_key awaiting k)
    (lacks_record class (service_of held k))
    (ready-by (is_ready held) front rest empty) (front-is class held front k rest awaiting order)
    ∙ ap (λ b. is_ready held && b) (sym (waits-lacks class rest awaiting k (service_of held k)))

-- ---- a put that was refused, or of which nothing is known
-- a key that isn't free doesn't wait
awaits-by : (same ready q a l : Bool) → (not same && (ready && ((not q && not a) && l))) ≡ (ready && ((not q && not (a || (same || false))) && l))
awaits-by true false q a l = refl
awaits-by true true true a l = refl
awaits-by true true false true l = refl
awaits-by true true false false l = refl
awaits-by false ready q true l = refl
awaits-by false ready q false l = refl

queued-by : (same ready q a l : Bool) → (not same && (ready && ((not q && not a) && l))) ≡ (ready && ((not (q || (same || false)) && not a) && l))
queued-by true false q a l = refl
queued-by true true true a l = refl
queued-by true true false a l = refl
queued-by false ready true a l = refl
queued-by false ready false a l = refl

module _ (class : Option (List ℕ)) (held : Cached) (queue awaiting : List Key) (own : Key) (before after : BTreeSet Key)
    (w : AreWaiting class held queue awaiting before)
    (now : (k : Key) → contains key_cmp after k ≡ (not (same_key own k) && contains key_cmp before k)) where
  were : (k : Key)
      → contains key_cmp after k ≡ (not (same_key own k) && (is_ready held && (is_free queue awaiting k && lacks_record class (service_of held k))))
  were k = now k ∙ ap (λ b. not (same_key own k) && b) (w k ∙ ap (λ b. is_ready held && b) (waits-lacks class queue awaiting k (service_of held k)))

  -- the key awaits a newer event
  pub waiting-refused : AreWaiting class held queue (awaiting ++ own ∷ []) after
  waiting-refused k =
      were k
      ∙ awaits-by (same_key own k) (is_ready held) (has_key queue k) (has_key awaiting k) (lacks_record class (service_of held k))
      ∙ ap (λ b. is_ready held && ((not (has_key queue k) && not b) && lacks_record class (service_of held k))) (sym (has_key-append awaiting (own ∷ []) k))
      ∙ ap (λ b. is_ready held && b) (sym (waits-lacks class queue (awaiting ++ own ∷ []) k (service_of held k)))

  -- the key is queued
  pub waiting-in_doubt : AreWaiting class held (queue ++ own ∷ []) awaiting after
  waiting-in_doubt k =
      were k
      ∙ queued-by (same_key own k) (is_ready held) (has_key queue k) (has_key awaiting k) (lacks_record class (service_of held k))
      ∙ ap (λ b. is_ready held && ((not b && not (has_key awaiting k)) && lacks_record class (service_of held k))) (sym (has_key-append queue (own ∷ []) k))
      ∙ ap (λ b. is_ready held && b) (sym (waits-lacks class (queue ++ own ∷ []) awaiting k (service_of held k)))

-- ---- a record that was stored
over-by : (b : Bool) (found : Option (Versioned Service)) (version : ℕ) (holding : Record) (key : Key)
    → option_map (λ (h : Versioned Service). h.object)
    (option_map (written_over service_resource key (cond b (Some (version, with_holding holding)) None)) found)
    ≡ cond b (option_map (with_holding holding) (option_map (λ (h : Versioned Service). h.object) found))
    (option_map (λ (h : Versioned Service). h.object) found)
over-by true None version holding key = refl
over-by true (Some h) version holding key = refl
over-by false None version holding key = refl
over-by false (Some h) version holding key = refl

-- the service of the key has the record, and the others are as before
stored-at : (es : List (Key × Versioned Service)) (own key : Key) (version : ℕ) (holding : Record)
    → object_at key_cmp (amended key_cmp es own version (with_holding holding)) key
    ≡ cond (same_key own key) (option_map (with_holding holding) (object_at key_cmp es key)) (object_at key_cmp es key)
stored-at es own key version holding =
    ap (option_map (λ (h : Versioned Service). h.object))
    (amended_seen service_resource key_cmp-total key_cmp-exact key (held_at key_cmp es own) es own version (with_holding holding) refl)
    ∙ over-by (is_eq (key_cmp own key)) (held_at key_cmp es key) version holding key
    ∙ ap (λ b. cond b (option_map (with_holding holding) (object_at key_cmp es key)) (object_at key_cmp es key)) (is_eq-key_cmp own key)

lacks-stored : (class : Option (List ℕ)) (holding : Record) (found : Option Service)
    → lacks_record class (option_map (with_holding holding) found) ≡ lacks_with class holding found
lacks-stored class holding None = refl
lacks-stored class holding (Some service) = refl

-- where a claim is lost, each other key that waited is queued
released : (class : Option (List ℕ)) (own : Key) (queue awaiting : List Key) (es : List (Key × Versioned Service)) (key : Key) (found : Option Service)
    → object_at key_cmp es key ≡ found
    → same_key own key ≡ false → is_free queue awaiting key ≡ true → lacks_record class found ≡ true
    → has_key (passing (waits class (same_key own) queue awaiting) es) key ≡ true
released class own queue awaiting es key None is other free lacks = absurd (cc)
released class own queue awaiting es key (Some service) is other free lacks =
    passing-has (waits class (same_key own) queue awaiting) es key service is
    (and_from (not (same_key own key)) (is_free queue awaiting key && lacks_record class (Some service)) (ap not other)
    (and_from (is_free queue awaiting key) (lacks_record class (Some service)) free lacks))

own-by : (same lost ready q a l with_it was : Bool) → same ≡ true → ready ≡ true → q ≡ false → a ≡ false → l ≡ with_it
    → ((same || not lost) && cond same with_it was) ≡ (ready && ((not q && not a) && l))
own-by same lost ready q a l with_it was s r not_queued not_awaiting lacks = rw (s, r, not_queued, not_awaiting, lacks) refl

none-left : (q more a l : Bool) → ((not q && not a) ≡ true → l ≡ true → more ≡ true) → ((not (q || more) && not a) && l) ≡ false
none-left true more a l all = refl
none-left false true a l all = refl
none-left false false true l all = refl
none-left false false false true all = sym (all refl refl)
none-left false false false false all = refl

others-by : (lost ready q more a l : Bool) → (lost ≡ true → (not q && not a) ≡ true → l ≡ true → more ≡ true) → (lost ≡ false → more ≡ false)
    → (not lost && (ready && ((not q && not a) && l))) ≡ (ready && ((not (q || more) && not a) && l))
others-by true ready q more a l all none = and-nothing ready ∙ ap (λ b. ready && b) (sym (none-left q more a l (all refl)))
others-by false ready true more a l all none = refl
others-by false ready false more a l all none = ap (λ b. ready && ((not b && not a) && l)) (sym (none refl))

not-lost : (lost : Bool) (class : Option (List ℕ)) (told : Key → Bool) (queue awaiting : List Key) (es : List (Key × Versioned Service)) (key : Key)
    → lost ≡ false
    → has_key (waiting lost class told queue awaiting es) key ≡ false
not-lost true class told queue awaiting es key e = absurd (cc)
not-lost false class told queue awaiting es key e = refl

all-released : (lost : Bool) (class : Option (List ℕ)) (own : Key) (queue awaiting : List Key) (es : List (Key × Versioned Service)) (key : Key)
    → same_key own key ≡ false → lost ≡ true
    → is_free queue awaiting key ≡ true → lacks_record class (object_at key_cmp es key) ≡ true
    → has_key (waiting lost class (same_key own) queue awaiting es) key ≡ true
all-released true class own queue awaiting es key other e free lacks = released class own queue awaiting es key (object_at key_cmp es key) refl other free lacks
all-released false class own queue awaiting es key other e free lacks = absurd (cc)

module _ (class : Option (List ℕ)) (held : Cached) (queue awaiting : List Key) (put : Put) (version : ℕ) (lost : Bool)
    (before middle after : BTreeSet Key) where
  -- the others that wait, where a claim is lost
  abbrev pub others : List Key
  others = waiting lost class (same_key put.key) queue awaiting held.services

  -- what is held then
  abbrev pub stored_cache : Cached
  stored_cache = cached_after (Written put.key version put.holding) held

  module _ (sorted : IsStrictlySortedBy key_cmp (keys_of held.services)) (ready : is_ready held ≡ true) (unqueued : has_key queue put.key ≡ false)
      (unawaited : has_key awaiting put.key ≡ false)
      (w : AreWaiting class held queue awaiting before)
      (own : (k : Key) → contains key_cmp middle k
      ≡ cond (same_key put.key k) (lacks_with class put.holding (object_at key_cmp held.services put.key)) (contains key_cmp before k))
      (now : (k : Key) → contains key_cmp after k ≡ ((same_key put.key k || not lost) && contains key_cmp middle k)) where
    untold : has_key others put.key ≡ false
    untold =
        false_from_ne_true (has_key others put.key) (λ there.
        true≢false (sym (same_key-itself put.key) ∙ (waiting-new lost class (same_key put.key) queue awaiting held.services sorted).untold put.key there))

    own-lacks : lacks_record class (service_of stored_cache put.key) ≡ lacks_with class put.holding (service_of held put.key)
    own-lacks =
        ap (lacks_record class) (stored-at held.services put.key put.key version put.holding
        ∙ ap (λ b. cond b (option_map (with_holding put.holding) (service_of held put.key)) (service_of held put.key)) (same_key-itself put.key))
        ∙ lacks-stored class put.holding (service_of held put.key)

    own-waits : contains key_cmp after put.key ≡ (is_ready held && waits_at class (queue ++ others) awaiting put.key (service_of stored_cache put.key))
    own-waits =
        now put.key
        ∙ ap (λ b. (same_key put.key put.key || not lost) && b) (own put.key)
        ∙ own-by (same_key put.key put.key) lost (is_ready held) (has_key (queue ++ others) put.key) (has_key awaiting put.key)
        (lacks_record class (service_of stored_cache put.key))
        (lacks_with class put.holding (service_of held put.key)) (contains key_cmp before put.key)
        (same_key-itself put.key) ready (has_key-append queue others put.key ∙ or_from (has_key queue put.key) (has_key others put.key) unqueued untold)
        unawaited own-lacks
        ∙ ap (λ b. is_ready held && b) (sym (waits-lacks class (queue ++ others) awaiting put.key (service_of stored_cache put.key)))

    waits-by : (b : Bool) (k : Key) → b ≡ same_key put.key k
        → contains key_cmp after k ≡ (is_ready held && waits_at class (queue ++ others) awaiting k (service_of stored_cache k))
    waits-by true k b = subst (λ x. contains key_cmp after x ≡ (is_ready held && waits_at class (queue ++ others) awaiting x (service_of stored_cache x)))
        (same_key-is put.key k (sym b)) own-waits
    waits-by false k b =
        now k
        ∙ ap (λ c. (same_key put.key k || not lost) && c) (own k)
        ∙ ap (λ s. (s || not lost) && cond s (lacks_with class put.holding (service_of held put.key)) (contains key_cmp before k)) (sym b)
        ∙ ap (λ c. not lost && c) (w k ∙ ap (λ c. is_ready held && c) (waits-lacks class queue awaiting k (service_of held k)))
        ∙ others-by lost (is_ready held) (has_key queue k) (has_key others k) (has_key awaiting k) (lacks_record class (service_of held k))
        (all-released lost class put.key queue awaiting held.services k (sym b)) (not-lost lost class (same_key put.key) queue awaiting held.services k)
        ∙ ap (λ c. is_ready held && ((not c && not (has_key awaiting k)) && lacks_record class (service_of held k))) (sym (has_key-append queue others k))
        ∙ ap (λ (found : Option Service). is_ready held && (is_free (queue ++ others) awaiting k && lacks_record class found))
        (sym (stored-at held.services put.key k version put.holding
        ∙ ap (λ s. cond s (option_map (with_holding put.holding) (service_of held k)) (service_of held k)) (sym b)))
        ∙ ap (λ c. is_ready held && c) (sym (waits-lacks class (queue ++ others) awaiting k (service_of stored_cache k)))

    -- the key waits where its record was taken away; the others wait as before, and where a claim is lost they are queued
    pub waiting-stored : AreWaiting class stored_cache (queue ++ others) awaiting after
    waiting-stored k = waits-by (same_key put.key k) k refl

-- ---- of a reached core
ready-by_out : (b : Bool) (queue : List Key) (out : Option Put) (put : Put) → IsIdle b queue out → out ≡ Some put → b ≡ true
ready-by_out true queue out put idle is = refl
ready-by_out false queue out put idle is = absurd (none-some out put (idle refl).1 is)

drop-rest : (queue : List Key) → drop 1 queue ≡ rest_of queue
drop-rest [] = refl
drop-rest (k ∷ keys) = refl

module _ (s : State) (reached : IsReached s) where
  -- while a put is in flight it is ready
  pub ready-out : (put : Put) → s.out ≡ Some put → is_ready s.held ≡ true
  ready-out put is = ready-by_out (is_ready s.held) s.queue s.out put (reached-idle s reached) is

  -- after a turn
  pub turn-waits : (before after : BTreeSet Key) (queue : List Key) → AreWaiting s.class s.held s.queue s.awaiting before
      → ((k : Key) → contains key_cmp after k ≡ (is_front_lacking s.class s.held.services s.queue k || contains key_cmp before k)) → queue ≡ drop 1 s.queue
      → AreWaiting s.class s.held queue s.awaiting after
  turn-waits before after queue w now is =
      subst (λ (keys : List Key). AreWaiting s.class s.held keys s.awaiting after) (sym (is ∙ drop-rest s.queue))
      (waiting-turned s.class s.held s.queue s.awaiting before after (reached-orderly s reached).order (λ n. (reached-idle s reached n).0) w now)

  module _ (put : Put) (is_out : s.out ≡ Some put) where
    -- while a put is in flight the set has the keys of those that wait, in their order
    pub others-out : (lost : Bool) (set : BTreeSet Key) → AreWaiting s.class s.held s.queue s.awaiting set → IsOrdered key_cmp set
        → others_where lost put.key set.keys ≡ waiting lost s.class (same_key put.key) s.queue s.awaiting s.held.services
    others-out lost set w ordered =
        others-waiting s.class s.held s.queue s.awaiting set w ordered (reached-sorted s reached) (ready-out put is_out) lost put.key

    -- after the record was stored
    pub stored-waits : (version : ℕ) (lost : Bool) (before middle after : BTreeSet Key) (cache : Cached) (queue more : List Key)
        → AreWaiting s.class s.held s.queue s.awaiting before
        → ((k : Key) → contains key_cmp middle k
        ≡ cond (same_key put.key k) (lacks_with s.class put.holding (object_at key_cmp s.held.services put.key)) (contains key_cmp before k))
        → ((k : Key) → contains key_cmp after k ≡ ((same_key put.key k || not lost) && contains key_cmp middle k))
        → cache ≡ cached_after (Written put.key version put.holding) s.held → queue ≡ s.queue ++ more
        → more ≡ waiting lost s.class (same_key put.key) s.queue s.awaiting s.held.services
        → AreWaiting s.class cache queue s.awaiting after
    stored-waits version lost before middle after cache queue more w own now cache_is queue_is more_is =
        subst (λ (c : Cached). AreWaiting s.class c queue s.awaiting after) (sym cache_is)
        (subst (λ (keys : List Key). AreWaiting s.class (cached_after (Written put.key version put.holding) s.held) keys s.awaiting after)
        (sym (queue_is ∙ ap (λ (keys : List Key). s.queue ++ keys) more_is))
        (waiting-stored s.class s.held s.queue s.awaiting put version lost before middle after (reached-sorted s reached) (ready-out put is_out)
        ((reached-orderly s reached).out_queue put is_out) ((reached-orderly s reached).out_free put is_out) w own now))

-- what the state is then
pub stored-is : (s : State) (put : Put) (version : ℕ) (cache : Cached) (claims : List ClaimValue) (queue more : List Key)
    → cache ≡ cached_after (Written put.key version put.holding) s.held → claims ≡ settled put.key put.holding (put_terms s.held put) s.claims
    → queue ≡ s.queue ++ more
    → more ≡ waiting (loses put.key put.holding (put_terms s.held put) s.claims) s.class (same_key put.key) s.queue s.awaiting s.held.services
    → record s { held = cache; claims = claims; queue = queue; out = None } ≡ stored s put version
stored-is s put version cache claims queue more cache_is claims_is queue_is more_is = rw (cache_is, claims_is, queue_is, more_is) refl

pub in_doubt-is : (s : State) (put : Put) (claims : List ClaimValue) (queue : List Key)
    → claims ≡ doubted put.key put.holding (put_terms s.held put) s.claims → queue ≡ s.queue ++ put.key ∷ []
    → record s { claims = claims; queue = queue; out = None } ≡ in_doubt s put
in_doubt-is s put claims queue claims_are queue_is = rw (claims_are, queue_is) refl

-- the reply leaves no put out, whatever was
pub reply-is : (s : State) (put : Put) (out : Option Put) (reply : PutReply) → s.out ≡ Some put
    → replied (record s { out = out }) put reply ≡ core_reply s reply
reply-is s put out (StoredReply version) is = rw is refl
reply-is s put out Stale is = rw is refl
reply-is s put out Missing is = rw is refl
reply-is s put out Unknown is = rw is refl
