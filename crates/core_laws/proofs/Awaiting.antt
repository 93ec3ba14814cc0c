-- Which keys wait for a newer event, by the look back.
use Rattle.std.proofs.Common.{◌≡◌, ℕ, Bool, true, false, cond, leb, eqb, not, ◌&&◌, ◌||◌, List, [], ◌∷◌, filter, Option, Some, None, refl, sym, ap, subst, ◌∙◌}
use Rattle.kube_model.specs.declared.event.Event.{Event}
use Rattle.kube_model.specs.declared.event.Event.TheVariants.{ListEnd}
use Rattle.kube_model.specs.declared.event.ListGroup.TheVariants as groups
use Rattle.kube_model.specs.declared.key.Key.{Key}
use Rattle.kube_model.specs.declared.put.Put.{Put}
use Rattle.kube_model.specs.declared.reply.PutReply.{PutReply}
use Rattle.kube_model.specs.declared.reply.PutReply.TheVariants.{Ok as StoredReply, Stale, Missing, Unknown}
use Rattle.versioned_map.specs.Objects.{version_at}
use Rattle.kube_model.specs.Keys.{key_cmp, same_key, has_key, without}
use Rattle.object_history.specs.Kinds.{service_resource}
use Rattle.object_history.specs.LookBack.{last_shown}
use Rattle.kube_model.proofs.KeyLaws.{same_key-is, same_key-flip}
use Rattle.core_rules.specs.Core.{State}
use Rattle.core_rules.specs.Take.{core_by, core_take, effect_of, is_unlisted}
use Rattle.core_rules.specs.Replied.{replied_to}
use Rattle.core_rules.specs.Run.{TranscriptEntry, Took, Expired, Turned, Heard, core_after, IsRun, observed, version_shown}
use Rattle.core_rules.proofs.Claims.{version-held, ended-version}
use Rattle.core_rules.proofs.Effects.{by_effect}
use Rattle.core_rules.proofs.Runs.{core_holds_what_was_observed}
use Rattle.core_laws.specs.Waits.{awaits_told, awaits_heard, awaits_shown}
use Rattle.core_laws.proofs.Rows.{has_key-append}

either-same : (b : Bool) → false ≡ cond b false false
either-same true = refl
either-same false = refl

kept-by : (x y z : Bool) (k key : Key) (keys less : List Key) → y ≡ same_key k key → (y ≡ true → x ≡ z) → has_key less key ≡ cond z false (has_key keys key)
    → has_key (cond (not x) (k ∷ less) less) key ≡ cond z false (y || has_key keys key)
kept-by true true z k key keys less s same ih = rw ih (rw (← same refl) refl)
kept-by true false z k key keys less s same ih = ih
kept-by false true z k key keys less s same ih =
    let no : z ≡ false = sym (same refl) in
    ap (λ b. b || has_key less key) (sym s) ∙ sym (ap (λ b. cond b false true) no)
kept-by false false z k key keys less s same ih = ap (λ b. b || has_key less key) (sym s) ∙ ih

pub has_key-kept : (test : Key → Bool) (keys : List Key) (key : Key) → has_key (filter (λ k. not (test k)) keys) key ≡ cond (test key) false (has_key keys key)
has_key-kept test [] key = either-same (test key)
has_key-kept test (k ∷ keys) key = kept-by (test k) (same_key k key) (test key) k key keys (filter (λ k. not (test k)) keys) refl
    (λ s. ap test (same_key-is k key s)) (has_key-kept test keys key)

pub has_key-without : (own : Key) (keys : List Key) (key : Key) → has_key (without own keys) key ≡ cond (same_key own key) false (has_key keys key)
has_key-without own keys key = has_key-kept (λ k. same_key k own) keys key ∙ ap (λ b. cond b false (has_key keys key)) (same_key-flip key own)

shown-by : (same newer late : Bool) (own key : Key) (keys : List Key) (before : Bool) → same ≡ same_key own key → has_key keys key ≡ before
    → (same ≡ true → newer ≡ late)
    → has_key (cond newer (without own keys) keys) key ≡ cond (same && late) false before
shown-by true true late own key keys before s a e =
    has_key-without own keys key ∙ ap (λ b. cond b false (has_key keys key)) (sym s) ∙ ap (λ b. cond b false before) (e refl)
shown-by true false late own key keys before s a e = a ∙ ap (λ b. cond b false before) (e refl)
shown-by false true late own key keys before s a e = has_key-without own keys key ∙ ap (λ b. cond b false (has_key keys key)) (sym s) ∙ a
shown-by false false late own key keys before s a e = a

took-awaits : (s : State) (key : Key) (v : ℕ) (before : Bool) → version_at key_cmp s.held.services key ≡ v → has_key s.awaiting key ≡ before
    → is_unlisted (core_take s (ListEnd groups.Service)).held.services key ≡ eqb v 0
    → (event : Event) → has_key (core_take s event).awaiting key ≡ awaits_told key (effect_of event) v before
took-awaits s key v before version a ends = by_effect (λ event c. has_key (core_by c s event).awaiting key ≡ awaits_told key c v before)
    (λ at service. shown-by (same_key service.key key) (not (leb at (version_at key_cmp s.held.services service.key))) (not (leb at v)) service.key key
    s.awaiting before refl a
    (λ same. ap (λ n. not (leb at n)) (ap (version_at key_cmp s.held.services) (same_key-is service.key key same) ∙ version)))
    (λ gone. has_key-without gone s.awaiting key ∙ ap (cond (same_key gone key) false) a)
    (has_key-kept (is_unlisted (core_take s (ListEnd groups.Service)).held.services) s.awaiting key ∙ ap (λ b. cond b false (has_key s.awaiting key)) ends
    ∙ ap (cond (eqb v 0) false) a)
    (λ event c. a)
    a
    (λ event. a)

or-end : (a b : Bool) → (a || (b || false)) ≡ (a || b)
or-end true b = refl
or-end false true = refl
or-end false false = refl

heard-awaits : (out : Option Put) (reply : PutReply) (s : State) (key : Key) (before : Bool) → has_key s.awaiting key ≡ before
    → has_key (replied_to out s reply).awaiting key ≡ awaits_heard key out reply before
heard-awaits None reply s key before a = a
heard-awaits (Some put) (StoredReply version) s key before a = a
heard-awaits (Some put) Stale s key before a =
    has_key-append s.awaiting (put.key ∷ []) key ∙ or-end (has_key s.awaiting key) (same_key put.key key) ∙ ap (λ b. b || same_key put.key key) a
heard-awaits (Some put) Missing s key before a =
    has_key-append s.awaiting (put.key ∷ []) key ∙ or-end (has_key s.awaiting key) (same_key put.key key) ∙ ap (λ b. b || same_key put.key key) a
heard-awaits (Some put) Unknown s key before a = a

pub awaiting-is : (class : Option (List ℕ)) (run : List TranscriptEntry) → IsRun class run → (key : Key)
    → has_key (core_after class run).awaiting key ≡ awaits_shown key run
awaiting-is class [] is key = refl
awaiting-is class (Took event ∷ earlier) is key =
    took-awaits (core_after class earlier) key (version_shown key earlier) (awaits_shown key earlier) (version-held class earlier is.1 key)
    (awaiting-is class earlier is.1 key)
    (ap (λ n. eqb n 0) (version-held class (Took (ListEnd groups.Service) ∷ earlier) (is.0, is.1) key)
    ∙ ended-version key (last_shown service_resource key (observed earlier)))
    event
awaiting-is class (Expired group ∷ earlier) is key = awaiting-is class earlier is.1 key
awaiting-is class (Turned turn ∷ earlier) is key = awaiting-is class earlier is.1 key
awaiting-is class (Heard reply ∷ earlier) is key =
    subst (λ out. has_key (replied_to (core_after class earlier).out (core_after class earlier) reply).awaiting key
    ≡ awaits_heard key out reply (awaits_shown key earlier))
    (core_holds_what_was_observed class earlier is.1).1
    (heard-awaits (core_after class earlier).out reply (core_after class earlier) key (awaits_shown key earlier) (awaiting-is class earlier is.1 key))
