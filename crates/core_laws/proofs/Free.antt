-- No key is chosen for while it awaits a newer event.
use Rattle.std.proofs.Common.{◌≡◌, ℕ, Bool, true, false, cond, ◌||◌, List, [], ◌∷◌, ◌++◌, Option, Some, None, is_some, refl, sym, ap, subst, ◌∙◌}
use Rattle.std.proofs.lemmas.Bool.{true≢false, or_right, false_from_ne_true}
use Rattle.std.proofs.Math.Bool.{or-false}
use Rattle.kube_model.specs.declared.key.Key.{Key}
use Rattle.kube_model.specs.declared.put.Put.{Put}
use Rattle.kube_model.specs.declared.reason.Reason.{Reason}
use Rattle.kube_model.specs.declared.record.Record.{Record}
use Rattle.kube_model.specs.declared.reply.PutReply.{PutReply}
use Rattle.kube_model.specs.declared.reply.PutReply.TheVariants.{Ok as StoredReply, Stale, Missing, Unknown}
use Rattle.kube_model.specs.declared.service.Service.{Service}
use Rattle.object_history.specs.Observations.{Observation, WatchExpired}
use Rattle.object_history.specs.Cache.{cached, cached_after}
use Rattle.claim_index.specs.Claims.{loses}
use Rattle.kube_model.specs.Keys.{same_key, has_key}
use Rattle.kube_model.proofs.KeyLaws.{same_key-is, same_key-itself}
use Rattle.core_rules.specs.declared.turn.Turn.{Turn}
use Rattle.core_rules.specs.declared.turn.Turn.TheVariants.{NoPut, Wants}
use Rattle.core_rules.specs.Core.{State, is_ready, service_of, waiting}
use Rattle.core_rules.specs.Turn.{turn_of, turn_at, rest_of, put_in}
use Rattle.core_rules.specs.Replied.{replied_to, put_terms}
use Rattle.core_rules.specs.Run.{TranscriptEntry, Took, Expired, Turned, Heard, core_after, IsRun, observed}
use Rattle.core_rules.proofs.Runs.{core_holds_what_was_observed}
use Rattle.core_laws.specs.Queue.{AreApart}
use Rattle.core_laws.specs.Waits.{is_turn_of, TurnsAreOfFreeKeys}
use Rattle.core_laws.proofs.Awaiting.{awaiting-is}
use Rattle.core_laws.proofs.QueueOnce.{waiting-new}
use Rattle.core_laws.proofs.Orderly.{AreAdded, IsInOrder, added, new-added, empty-order, sorted-services, took-order}
use Rattle.core_laws.proofs.Kept.{kept_at}
use Rattle.core_laws.proofs.Puts.{IsWanted, wanted-of}
use Rattle.core_laws.proofs.QuietRuns.{wants-some, none-some}
use Rattle.core_laws.proofs.Rows.{has_key-append}

pub record IsOrderly (queue awaiting : List Key) (out : Option Put) : Type 0 where
  pub order : IsInOrder queue awaiting
  pub out_queue : (put : Put) → out ≡ Some put → has_key queue put.key ≡ false
  pub out_free : (put : Put) → out ≡ Some put → has_key awaiting put.key ≡ false

not-out : (queue awaiting : List Key) (out : Option Put) → out ≡ None → IsInOrder queue awaiting → IsOrderly queue awaiting out
not-out queue awaiting out n o = record { order = o; out_queue = λ put e. absurd (none-some out put n e); out_free = λ put e. absurd (none-some out put n e) }

-- ---- an expired watch
expired-order : (b : Bool) (queue awaiting : List Key) → IsInOrder queue awaiting → IsInOrder (cond b queue []) awaiting
expired-order true queue awaiting o = o
expired-order false queue awaiting o = empty-order awaiting

-- ---- a turn
rest-order : (queue awaiting : List Key) → IsInOrder queue awaiting → IsInOrder (rest_of queue) awaiting
rest-order [] awaiting o = o
rest-order (k ∷ keys) awaiting o = record { once = o.once.1; free = λ key there. o.free key (or_right (same_key k key) (has_key keys key) there) }

turned-orderly : (s : State) → IsInOrder s.queue s.awaiting → IsOrderly (rest_of s.queue) s.awaiting (put_in (turn_of s s.queue))
turned-orderly s o =
    let wanted = λ (put : Put) (e : put_in (turn_of s s.queue) ≡ Some put).
    (let wants = wants-some (turn_of s s.queue) put e in wanted-of s s.queue put wants.0 (sym wants.1)) in
    record {
      order = rest-order s.queue s.awaiting o;
      out_queue = λ put e.
          (let w : IsWanted s put (wants-some (turn_of s s.queue) put e).0 s.queue = wanted put e in
          ap (λ (q : List Key). has_key (rest_of q) put.key) w.queue_is ∙ (subst AreApart w.queue_is o.once).0);
      out_free = λ put e.
          (let w : IsWanted s put (wants-some (turn_of s s.queue) put e).0 s.queue = wanted put e in
          o.free put.key (ap (λ (q : List Key). has_key q put.key) w.queue_is ∙ ap (λ b. b || has_key w.rest put.key) (same_key-itself put.key)));
    }

-- ---- a reply
one-added : (k : Key) (queue awaiting : List Key) → has_key queue k ≡ false → has_key awaiting k ≡ false → AreAdded (k ∷ []) queue awaiting
one-added k queue awaiting q a =
    record {
      once = (refl, tt);
      unqueued = λ key there. subst (λ x. has_key queue x ≡ false) (same_key-is k key (sym (or-false (same_key k key)) ∙ there)) q;
      unawaited = λ key there. subst (λ x. has_key awaiting x ≡ false) (same_key-is k key (sym (or-false (same_key k key)) ∙ there)) a;
    }

or-none : (a b : Bool) → a ≡ false → b ≡ false → (a || (b || false)) ≡ false
or-none true b x y = absurd (cc)
or-none false true x y = absurd (cc)
or-none false false x y = refl

refused-order : (queue awaiting : List Key) (k : Key) → IsInOrder queue awaiting → has_key queue k ≡ false → IsInOrder queue (awaiting ++ k ∷ [])
refused-order queue awaiting k o q =
    record {
      once = o.once;
      free = λ key there.
          has_key-append awaiting (k ∷ []) key
          ∙ or-none (has_key awaiting key) (same_key k key) (o.free key there)
          (false_from_ne_true (same_key k key) (λ same. true≢false (sym there ∙ subst (λ x. has_key queue x ≡ false) (same_key-is k key same) q)));
    }

heard-orderly : (out : Option Put) (reply : PutReply) (s : State) (observations : List Observation) → s.held ≡ cached observations → s.out ≡ out
    → is_some out ≡ true → IsOrderly s.queue s.awaiting s.out
    → IsOrderly (replied_to out s reply).queue (replied_to out s reply).awaiting (replied_to out s reply).out
heard-orderly None reply s observations e o there i = absurd (cc)
heard-orderly (Some put) (StoredReply version) s observations e o there i =
    not-out _ _ None refl
    (added s.queue (waiting (loses put.key put.holding (put_terms s.held put) s.claims) s.class (same_key put.key) s.queue s.awaiting s.held.services)
    s.awaiting i.order
    (new-added _ s.queue s.awaiting (same_key put.key) (waiting-new (loses put.key put.holding (put_terms s.held put) s.claims) s.class (same_key put.key)
    s.queue s.awaiting s.held.services (sorted-services s observations e))))
heard-orderly (Some put) Stale s observations e o there i = not-out _ _ None refl (refused-order s.queue s.awaiting put.key i.order (i.out_queue put o))
heard-orderly (Some put) Missing s observations e o there i = not-out _ _ None refl (refused-order s.queue s.awaiting put.key i.order (i.out_queue put o))
heard-orderly (Some put) Unknown s observations e o there i =
    not-out _ _ None refl (added s.queue (put.key ∷ []) s.awaiting i.order (one-added put.key s.queue s.awaiting (i.out_queue put o) (i.out_free put o)))

pub runs-orderly : (class : Option (List ℕ)) (run : List TranscriptEntry) → IsRun class run
    → IsOrderly (core_after class run).queue (core_after class run).awaiting (core_after class run).out
runs-orderly class [] is = not-out [] [] None refl (empty-order [])
runs-orderly class (Took event ∷ earlier) is =
    not-out _ _ (core_after class (Took event ∷ earlier)).out
    ((core_holds_what_was_observed class (Took event ∷ earlier) is).1 ∙ sym (core_holds_what_was_observed class earlier is.1).1 ∙ is.0)
    (took-order (core_after class earlier) (observed earlier) (core_holds_what_was_observed class earlier is.1).0 (runs-orderly class earlier is.1).order event)
runs-orderly class (Expired group ∷ earlier) is =
    not-out _ _ (core_after class earlier).out is.0
    (expired-order (is_ready (cached_after (WatchExpired group) (core_after class earlier).held)) (core_after class earlier).queue
    (core_after class earlier).awaiting (runs-orderly class earlier is.1).order)
runs-orderly class (Turned turn ∷ earlier) is = turned-orderly (core_after class earlier) (runs-orderly class earlier is.1).order
runs-orderly class (Heard reply ∷ earlier) is =
    heard-orderly (core_after class earlier).out reply (core_after class earlier) (observed earlier) (core_holds_what_was_observed class earlier is.1).0 refl
    is.0 (runs-orderly class earlier is.1)

-- ---- the law
turn-by : (b : Bool) (k key : Key) (pending : Option Reason) (version : ℕ) (holding : Record)
    → is_turn_of (cond b (NoPut k pending) (Wants (record { key = k; version = version; holding = holding }) pending)) key ≡ same_key k key
turn-by true k key pending version holding = refl
turn-by false k key pending version holding = refl

turn-key : (found : Option Service) (s : State) (k key : Key) → is_turn_of (turn_at s k found) key ≡ same_key k key
turn-key None s k key = refl
turn-key (Some service) s k key = turn-by (kept_at s service) k key _ _ _

front-there : (queue : List Key) (s : State) (key : Key) → is_turn_of (turn_of s queue) key ≡ true → has_key queue key ≡ true
front-there [] s key e = absurd (cc)
front-there (k ∷ keys) s key e = ap (λ b. b || has_key keys key) (sym (turn-key (service_of s.held k) s k key) ∙ e)

pub turns_are_of_free_keys : TurnsAreOfFreeKeys
turns_are_of_free_keys class turn earlier is key e =
    let s = core_after class earlier in
    sym (awaiting-is class earlier is.1 key)
    ∙ (runs-orderly class earlier is.1).order.free key (front-there s.queue s key (ap (λ (t : Turn). is_turn_of t key) (sym is.0.1) ∙ e))
