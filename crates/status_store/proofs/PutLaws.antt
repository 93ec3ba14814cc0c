-- What a put changes and what it leaves, and when each reply comes, from what it makes of the store.
use Rattle.std.proofs.Common.{◌≡◌, ◌≢◌, ◌↔◌, ℕ, ◌+◌, Bool, true, false, cond, eqb, List, Option, Some, None}
use Rattle.std.proofs.Common.{IsTrue, refl, sym, ap, subst, ◌∙◌, inl, inr, ⊎_elim}
use Rattle.std.proofs.lemmas.Bool.{true≢false, and_parts, and_from, eqb-true}
use Rattle.kube_model.specs.declared.put.Put.{Put}
use Rattle.kube_model.specs.declared.reply.PutReply.TheVariants as replies
use Rattle.status_store.specs.declared.change.Outcome.{Outcome}
use Rattle.status_store.specs.declared.change.Outcome.TheVariants.{Delivered, Lost, Refused}
use Rattle.status_store.specs.declared.stored.Stored.{Stored}
use Rattle.status_store.specs.Places.{Place, place_of, service_at}
use Rattle.status_store.specs.Objects.{IsStored, IsAbsent, SameElsewhere, stored_at, with_stored}
use Rattle.status_store.specs.Changes.{StoreValue, IsWellFormed, IsLost, arrives, IsCurrent, IsOutdated, IsStale, IsMade}
use Rattle.status_store.specs.Changes.{RecordsPut, recorded, is_at_version, is_made, with_put, after_put, delivered_reply, reply_to}
use Rattle.status_store.proofs.ChangeLaws.{version-same, other-version, version-other, place_of-with_record, stored_as}
use Rattle.status_store.proofs.StoredLaws.{stored-found, found-stored, absent-found, found-absent, stored-with_stored, elsewhere-with_stored, elsewhere-itself}

module _ (s : StoreValue) (put : Put) (kept : IsWellFormed s) where
  -- the service is stored at the put's version exactly where the look-up finds it so
  current_by : (found : Option Stored) → found ≡ stored_at s.objects (service_at put.key) → is_at_version put.version found ≡ true → IsCurrent s.objects put
  current_by None is e = absurd (true≢false (sym e))
  current_by (Some held) is e = (held, found-stored s.objects (service_at put.key) held (sym is), eqb-true held.version put.version e)

  is-current : is_at_version put.version (stored_at s.objects (service_at put.key)) ≡ true → IsCurrent s.objects put
  is-current e = current_by (stored_at s.objects (service_at put.key)) refl e

  current-is : IsCurrent s.objects put → is_at_version put.version (stored_at s.objects (service_at put.key)) ≡ true
  current-is current =
      ap (is_at_version put.version) (stored-found s.objects (service_at put.key) current.0 kept.ascending current.1)
      ∙ version-same current.0.version put.version current.2

  made-is : (outcome : Outcome) → IsMade put outcome s.objects → is_made put outcome s.objects ≡ true
  made-is outcome made =
      and_from (arrives outcome) (is_at_version put.version (stored_at s.objects (service_at put.key))) made.0 (current-is made.1)

  is-made : (outcome : Outcome) → is_made put outcome s.objects ≡ true → IsMade put outcome s.objects
  is-made outcome e =
      let parts = and_parts (arrives outcome) (is_at_version put.version (stored_at s.objects (service_at put.key))) e in
      (parts.0, is-current parts.1)

  -- ---- what changes
  abbrev put_with : Bool → StoreValue
  put_with b =
      stored_as (cond b (with_put (s.counter + 1) put (stored_at s.objects (service_at put.key)) s.objects) s.objects) (cond b (s.counter + 1) s.counter)

  pub put-counter : (outcome : Outcome) → IsMade put outcome s.objects → (after_put put outcome s).counter ≡ s.counter + 1
  put-counter outcome made = ap (λ (b : Bool). cond b (s.counter + 1) s.counter) (made-is outcome made)

  unchanged_by : (b : Bool) → (b ≡ true → ⊥) → put_with b ≡ s
  unchanged_by true none = absurd (none refl)
  unchanged_by false none = refl

  pub put-unchanged : (outcome : Outcome) → ¬ (IsMade put outcome s.objects) → after_put put outcome s ≡ s
  put-unchanged outcome none = unchanged_by (is_made put outcome s.objects) (λ e. none (is-made outcome e))

  place-recorded : (held : Stored) → IsStored s.objects (service_at put.key) held
      → place_of (recorded (s.counter + 1) put.holding held).object ≡ service_at put.key
  place-recorded held stored = place_of-with_record put.holding held.object ∙ stored.1

  recorded-stored : (held : Stored) → IsStored s.objects (service_at put.key) held
      → IsStored (with_stored (recorded (s.counter + 1) put.holding held) s.objects) (service_at put.key) (recorded (s.counter + 1) put.holding held)
  recorded-stored held stored = ((stored-with_stored s.objects (recorded (s.counter + 1) put.holding held)).0, place-recorded held stored)

  pub put-record : (outcome : Outcome) → IsMade put outcome s.objects → RecordsPut put s (after_put put outcome s)
  put-record outcome made held stored =
      let made' = made-is outcome made in
      let found = stored-found s.objects (service_at put.key) held kept.ascending stored in
      let is : (after_put put outcome s).objects ≡ with_stored (recorded (s.counter + 1) put.holding held) s.objects =
      ap (λ (b : Bool). cond b (with_put (s.counter + 1) put (stored_at s.objects (service_at put.key)) s.objects) s.objects) made'
      ∙ ap (λ (f : Option Stored). with_put (s.counter + 1) put f s.objects) found in
      subst (λ (l : List Stored). IsStored l (service_at put.key) (recorded (s.counter + 1) put.holding held)) (sym is) (recorded-stored held stored)

  others_by : (b : Bool) (found : Option Stored) → found ≡ stored_at s.objects (service_at put.key)
      → SameElsewhere (service_at put.key) s.objects (cond b (with_put (s.counter + 1) put found s.objects) s.objects)
  others_by false found is = elsewhere-itself (service_at put.key) s.objects
  others_by true None is = elsewhere-itself (service_at put.key) s.objects
  others_by true (Some held) is =
      let new : Stored = recorded (s.counter + 1) put.holding held in
      subst (λ (place : Place). SameElsewhere place s.objects (with_stored new s.objects))
      (place-recorded held (found-stored s.objects (service_at put.key) held (sym is))) (elsewhere-with_stored s.objects new kept.ascending)

  pub put-others : (outcome : Outcome) → SameElsewhere (service_at put.key) s.objects (after_put put outcome s).objects
  put-others outcome = others_by (is_made put outcome s.objects) (stored_at s.objects (service_at put.key)) refl

  -- ---- when each reply comes

  known_by : (found : Option Stored) → delivered_reply s.counter put found ≢ replies.Unknown
  known_by None e = cc
  known_by (Some held) e = known_on (eqb held.version put.version) e
    where
      known_on : (b : Bool) → cond b (replies.Ok (s.counter + 1)) replies.Stale ≢ replies.Unknown
      known_on true e = cc
      known_on false e = cc

  pub reply-unknown : (outcome : Outcome) → (reply_to put outcome s ≡ replies.Unknown) ↔ IsLost outcome
  reply-unknown Delivered = (λ e. known_by (stored_at s.objects (service_at put.key)) e, λ none. absurd none)
  reply-unknown (Lost applied) = (λ e. tt, λ lost. refl)
  reply-unknown Refused = (λ e. absurd (cc), λ none. absurd none)

  missing_on : (b : Bool) → cond b (replies.Ok (s.counter + 1)) replies.Stale ≢ replies.Missing
  missing_on true e = cc
  missing_on false e = cc

  missing_by : (found : Option Stored) → delivered_reply s.counter put found ≡ replies.Missing → found ≡ None
  missing_by None e = refl
  missing_by (Some held) e = absurd (missing_on (eqb held.version put.version) e)

  pub reply-missing : (outcome : Outcome) → (reply_to put outcome s ≡ replies.Missing) ↔ ((outcome ≡ Delivered) × IsAbsent s.objects (service_at put.key))
  reply-missing Delivered = (
    λ e. (refl, found-absent s.objects (service_at put.key) kept.ascending (missing_by (stored_at s.objects (service_at put.key)) e)),
    λ both. ap (delivered_reply s.counter put) (absent-found s.objects (service_at put.key) kept.ascending both.1),
  )
  reply-missing (Lost applied) = (λ e. absurd (cc), λ both. absurd (cc))
  reply-missing Refused = (λ e. absurd (cc), λ both. absurd (cc))

  stale_on : (b : Bool) → cond b (replies.Ok (s.counter + 1)) replies.Stale ≡ replies.Stale → b ≡ false
  stale_on true e = absurd (cc)
  stale_on false e = refl

  stale_by : (found : Option Stored) → found ≡ stored_at s.objects (service_at put.key) → delivered_reply s.counter put found ≡ replies.Stale
      → IsOutdated s.objects put
  stale_by None is e = absurd (cc)
  stale_by (Some held) is e =
      (held, found-stored s.objects (service_at put.key) held (sym is), other-version held.version put.version (stale_on (eqb held.version put.version) e))

  pub reply-stale : (outcome : Outcome) → (reply_to put outcome s ≡ replies.Stale) ↔ IsStale put outcome s.objects
  reply-stale Delivered = (
    λ e. inr (refl, stale_by (stored_at s.objects (service_at put.key)) refl e),
    λ either. ⊎_elim (λ no. absurd (cc)) (λ both.
        let found = stored-found s.objects (service_at put.key) both.1.0 kept.ascending both.1.1 in
        ap (delivered_reply s.counter put) found
        ∙ ap (λ (b : Bool). cond b (replies.Ok (s.counter + 1)) replies.Stale) (version-other both.1.0.version put.version both.1.2)) either,
  )
  reply-stale (Lost applied) = (λ e. absurd (cc), λ either. ⊎_elim (λ no. absurd (cc)) (λ both. let no = both.0 in absurd (cc)) either)
  reply-stale Refused = (λ e. inl refl, λ either. refl)

  ok_on : (b : Bool) (version : ℕ) → cond b (replies.Ok (s.counter + 1)) replies.Stale ≡ replies.Ok version → (b ≡ true) × (version ≡ s.counter + 1)
  ok_on true version e = (refl, cc)
  ok_on false version e = absurd (cc)

  ok_by : (found : Option Stored) (version : ℕ) → found ≡ stored_at s.objects (service_at put.key) → delivered_reply s.counter put found ≡ replies.Ok version
      → IsCurrent s.objects put × (version ≡ s.counter + 1)
  ok_by None version is e = absurd (cc)
  ok_by (Some held) version is e =
      let ok = ok_on (eqb held.version put.version) version e in
      (current_by (Some held) is ok.0, ok.1)

  pub reply-ok : (outcome : Outcome) (version : ℕ)
      → (reply_to put outcome s ≡ replies.Ok version) ↔ ((outcome ≡ Delivered) × IsCurrent s.objects put × (version ≡ s.counter + 1))
  reply-ok Delivered version = (
    λ e. let ok = ok_by (stored_at s.objects (service_at put.key)) version refl e in (refl, ok.0, ok.1),
    λ all.
        let current = all.1 in
        let found = stored-found s.objects (service_at put.key) current.0 kept.ascending current.1 in
        ap (delivered_reply s.counter put) found
        ∙ ap (λ (b : Bool). cond b (replies.Ok (s.counter + 1)) replies.Stale) (version-same current.0.version put.version current.2)
        ∙ ap (λ (n : ℕ). replies.Ok n) (sym all.2),
  )
  reply-ok (Lost applied) version = (λ e. absurd (cc), λ all. absurd (cc))
  reply-ok Refused version = (λ e. absurd (cc), λ all. absurd (cc))

-- all that the clauses of a put say
pub record PutFacts (s : StoreValue) (put : Put) (outcome : Outcome) : Type 0 where
  pub unknown : (reply_to put outcome s ≡ replies.Unknown) ↔ IsLost outcome
  pub missing : (reply_to put outcome s ≡ replies.Missing) ↔ ((outcome ≡ Delivered) × IsAbsent s.objects (service_at put.key))
  pub stale : (reply_to put outcome s ≡ replies.Stale) ↔ IsStale put outcome s.objects
  pub stored : (version : ℕ) → (reply_to put outcome s ≡ replies.Ok version) ↔ ((outcome ≡ Delivered) × IsCurrent s.objects put × (version ≡ s.counter + 1))
  pub recorded : IsMade put outcome s.objects → RecordsPut put s (after_put put outcome s)
  pub counter : IsMade put outcome s.objects → (after_put put outcome s).counter ≡ s.counter + 1
  pub others : SameElsewhere (service_at put.key) s.objects (after_put put outcome s).objects
  pub unchanged : ¬ (IsMade put outcome s.objects) → after_put put outcome s ≡ s

facts-kept : (s : StoreValue) (put : Put) (outcome : Outcome) → IsWellFormed s → PutFacts s put outcome
facts-kept s put outcome kept = record {
  unknown = reply-unknown s put kept outcome;
  missing = reply-missing s put kept outcome;
  stale = reply-stale s put kept outcome;
  stored = reply-ok s put kept outcome;
  recorded = put-record s put kept outcome;
  counter = put-counter s put kept outcome;
  others = put-others s put kept outcome;
  unchanged = put-unchanged s put kept outcome;
}

-- a put that doesn't arrive is told apart before the store is looked at
pub put-facts : (s : StoreValue) (put : Put) (outcome : Outcome) → (IsTrue (arrives outcome) → IsWellFormed s) → PutFacts s put outcome
put-facts s put Delivered kept = facts-kept s put Delivered (kept refl)
put-facts s put (Lost true) kept = facts-kept s put (Lost true) (kept refl)
put-facts s put (Lost false) kept = record {
  unknown = (λ e. tt, λ lost. refl);
  missing = (λ e. absurd (cc), λ both. absurd (cc));
  stale = (λ e. absurd (cc), λ either. ⊎_elim (λ no. absurd (cc)) (λ both. let no = both.0 in absurd (cc)) either);
  stored = λ version. (λ e. absurd (cc), λ all. absurd (cc));
  recorded = λ made. absurd (true≢false (sym made.0));
  counter = λ made. absurd (true≢false (sym made.0));
  others = elsewhere-itself (service_at put.key) s.objects;
  unchanged = λ none. refl;
}
put-facts s put Refused kept = record {
  unknown = (λ e. absurd (cc), λ none. absurd none);
  missing = (λ e. absurd (cc), λ both. absurd (cc));
  stale = (λ e. inl refl, λ either. refl);
  stored = λ version. (λ e. absurd (cc), λ all. absurd (cc));
  recorded = λ made. absurd (true≢false (sym made.0));
  counter = λ made. absurd (true≢false (sym made.0));
  others = elsewhere-itself (service_at put.key) s.objects;
  unchanged = λ none. refl;
}
