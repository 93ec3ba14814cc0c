-- What edits and puts make of a store.
use Rattle.std.proofs.Common.{◌≡◌, ◌≢◌, ℕ, ◌+◌, ◌<◌, Bool, true, false, cond, eqb, List, [], ◌∷◌, length}
use Rattle.std.proofs.Common.{get_or, set, Option, is_some, refl, ap, subst, ◌∙◌, arith}
use Rattle.std.specs.List.{insert, remove}
use Rattle.std.proofs.lemmas.Bool.Decides.{nat_tests}
use Rattle.kube_model.specs.declared.key.Key.{Key}
use Rattle.kube_model.specs.declared.object.Kind.{Kind}
use Rattle.kube_model.specs.declared.object.Object.{Object}
use Rattle.kube_model.specs.declared.object.Object.TheVariants as objects
use Rattle.kube_model.specs.declared.put.Put.{Put}
use Rattle.kube_model.specs.declared.record.Record.{Record}
use Rattle.kube_model.specs.declared.reply.PutReply.TheVariants as replies
use Rattle.kube_model.specs.Records.{empty_record}
use Rattle.status_store.specs.declared.change.Edit.TheVariants.{Set, Reset, Delete}
use Rattle.status_store.specs.declared.change.Outcome.TheVariants.{Delivered}
use Rattle.status_store.specs.declared.stored.Stored.{Stored}
use Rattle.status_store.specs.Places.{Place, place_of, service_at}
use Rattle.status_store.specs.Objects.{stored_at, with_stored, without_stored, IsAt, IsGapFor}
use Rattle.status_store.specs.Changes.{StoreValue, IsWellFormed, record_of, with_record, kept_record, reset_as, edited}
use Rattle.status_store.specs.Changes.{recorded, is_at_version, with_put, after_put, delivered_reply, reply_to}
use Rattle.status_store.proofs.ListLaws.{ascending-with_stored, ascending-without_stored, counted-less, counted-with_stored, counted-without_stored}
use Rattle.status_store.proofs.Searching.{with_stored-at, without_stored-at, stored_at-at, with_stored-gap, stored_at-gap, without_stored-gap}

-- ---- tests of versions

pub version-same : (a b : ℕ) → a ≡ b → eqb a b ≡ true
version-same a b e = grind (arith, nat_tests)

pub other-version : (a b : ℕ) → eqb a b ≡ false → a ≢ b
other-version a b e same = grind (arith, nat_tests)

pub version-other : (a b : ℕ) → a ≢ b → eqb a b ≡ false
version-other a b apart = grind (arith, nat_tests)

-- ---- what holds of every store still holds

pub kept-with_stored : (s : StoreValue) (added : Stored) → added.version ≡ s.counter + 1 → IsWellFormed s
    → IsWellFormed (record { objects = with_stored added s.objects; counter = s.counter + 1 })
kept-with_stored s added next kept = record {
  ascending = ascending-with_stored s.objects added kept.ascending;
  counted =
      counted-with_stored (s.counter + 1) s.objects added (omega arith, omega arith)
      (counted-less s.counter (s.counter + 1) s.objects (omega arith) kept.counted);
}

pub kept-without_stored : (s : StoreValue) (place : Place) → IsWellFormed s
    → IsWellFormed (record { objects = without_stored place s.objects; counter = s.counter + 1 })
kept-without_stored s place kept = record {
  ascending = ascending-without_stored s.objects place kept.ascending;
  counted =
      counted-without_stored (s.counter + 1) s.objects place
      (counted-less s.counter (s.counter + 1) s.objects (omega arith) kept.counted);
}

-- ---- edits at a place of the list

pub place_of-with_record : (holding : Record) (object : Object) → place_of (with_record holding object) ≡ place_of object
place_of-with_record holding (objects.Service service) = refl
place_of-with_record holding (objects.Pool pool) = refl
place_of-with_record holding (objects.L2 adv) = refl
place_of-with_record holding (objects.Bgp adv) = refl
place_of-with_record holding (objects.Peer peer) = refl
place_of-with_record holding (objects.Community community) = refl
place_of-with_record holding (objects.Namespace namespace) = refl
place_of-with_record holding (objects.Node node) = refl
place_of-with_record holding (objects.Slice slice) = refl

-- what is stored where an object with this record is set
abbrev pub set_with : ℕ → Object → Record → Stored
set_with counter object holding = record { version = counter + 1; object = with_record holding object }

abbrev pub stored_as : List Stored → ℕ → StoreValue
stored_as objects counter = record { objects = objects; counter = counter }

-- an object is set with the record of what stands there, and with none where nothing does
pub set-at : (s : StoreValue) (object : Object) (at : ℕ) (d : Stored) → IsWellFormed s → IsAt s.objects (place_of object) at
    → edited (Set object) s ≡ edited (Reset (with_record (record_of (get_or s.objects at d).object) object)) s
set-at s object at d kept is_at =
    ap (λ (found : Option Stored). stored_as (with_stored (set_with s.counter object (kept_record found)) s.objects) (s.counter + 1))
    (stored_at-at s.objects (place_of object) at d kept.ascending is_at)

pub set-gap : (s : StoreValue) (object : Object) (at : ℕ) → IsGapFor s.objects (place_of object) at
    → edited (Set object) s ≡ edited (Reset (with_record empty_record object)) s
set-gap s object at gap =
    ap (λ (found : Option Stored). stored_as (with_stored (set_with s.counter object (kept_record found)) s.objects) (s.counter + 1))
    (stored_at-gap s.objects (place_of object) at gap)

-- what is stored where an object is set with its own record
pub reset-at : (s : StoreValue) (object : Object) (at : ℕ) → IsWellFormed s → IsAt s.objects (place_of object) at
    → with_stored (reset_as s object) s.objects ≡ set s.objects at (reset_as s object)
reset-at s object at kept is_at = with_stored-at s.objects (place_of object) at (reset_as s object) kept.ascending is_at refl

pub reset-gap : (s : StoreValue) (object : Object) (at : ℕ) → IsGapFor s.objects (place_of object) at
    → with_stored (reset_as s object) s.objects ≡ insert s.objects at (reset_as s object)
reset-gap s object at gap = with_stored-gap s.objects (place_of object) at (reset_as s object) gap refl

-- something stands there
pub one-at : (objects : List Stored) (at : ℕ) → at < length objects → Stored
one-at [] at lt = absurd (omega arith)
one-at (held ∷ more) at lt = held

pub deleted-at : (s : StoreValue) (kind : Kind) (key : Key) (at : ℕ) (d : Stored) → IsWellFormed s → IsAt s.objects (kind, key) at
    → edited (Delete kind key) s ≡ stored_as (remove s.objects at) (s.counter + 1)
deleted-at s kind key at d kept is_at =
    ap (λ (found : Option Stored). stored_as (without_stored (kind, key) s.objects) (cond (is_some found) (s.counter + 1) s.counter))
    (stored_at-at s.objects (kind, key) at d kept.ascending is_at)
    ∙ ap (λ (l : List Stored). stored_as l (s.counter + 1)) (without_stored-at s.objects (kind, key) at kept.ascending is_at)

pub deleted-gap : (s : StoreValue) (kind : Kind) (key : Key) (at : ℕ) → IsGapFor s.objects (kind, key) at → edited (Delete kind key) s ≡ s
deleted-gap s kind key at gap =
    ap (λ (found : Option Stored). stored_as (without_stored (kind, key) s.objects) (cond (is_some found) (s.counter + 1) s.counter))
    (stored_at-gap s.objects (kind, key) at gap)
    ∙ ap (λ (l : List Stored). stored_as l s.counter) (without_stored-gap s.objects (kind, key) at gap)

pub is_there-at : (s : StoreValue) (place : Place) (at : ℕ) (d : Stored) → IsWellFormed s → IsAt s.objects place at → is_some (stored_at s.objects place) ≡ true
is_there-at s place at d kept is_at = ap is_some (stored_at-at s.objects place at d kept.ascending is_at)

pub is_there-gap : (s : StoreValue) (place : Place) (at : ℕ) → IsGapFor s.objects place at → is_some (stored_at s.objects place) ≡ false
is_there-gap s place at gap = ap is_some (stored_at-gap s.objects place at gap)

pub kept-removed : (s : StoreValue) (place : Place) (at : ℕ) → IsWellFormed s → IsAt s.objects place at
    → IsWellFormed (stored_as (remove s.objects at) (s.counter + 1))
kept-removed s place at kept is_at =
    subst (λ (l : List Stored). IsWellFormed (stored_as l (s.counter + 1))) (without_stored-at s.objects place at kept.ascending is_at)
    (kept-without_stored s place kept)

pub kept-written : (s : StoreValue) (at : ℕ) (added : Stored) → IsWellFormed s → IsAt s.objects (place_of added.object) at → added.version ≡ s.counter + 1
    → IsWellFormed (stored_as (set s.objects at added) (s.counter + 1))
kept-written s at added kept is_at next =
    subst (λ (l : List Stored). IsWellFormed (stored_as l (s.counter + 1)))
    (with_stored-at s.objects (place_of added.object) at added kept.ascending is_at refl)
    (kept-with_stored s added next kept)

pub kept-inserted : (s : StoreValue) (at : ℕ) (added : Stored) → IsWellFormed s → IsGapFor s.objects (place_of added.object) at → added.version ≡ s.counter + 1
    → IsWellFormed (stored_as (insert s.objects at added) (s.counter + 1))
kept-inserted s at added kept gap next =
    subst (λ (l : List Stored). IsWellFormed (stored_as l (s.counter + 1))) (with_stored-gap s.objects (place_of added.object) at added gap refl)
    (kept-with_stored s added next kept)

-- ---- puts at a place of the list

-- what is stored after a delivered put, where what is stored is given
abbrev pub put_on : StoreValue → Put → Option Stored → StoreValue
put_on s put found =
    stored_as (cond (is_at_version put.version found) (with_put (s.counter + 1) put found s.objects) s.objects)
    (cond (is_at_version put.version found) (s.counter + 1) s.counter)

pub after_put-on : (s : StoreValue) (put : Put) → after_put put Delivered s ≡ put_on s put (stored_at s.objects (service_at put.key))
after_put-on s put = refl

same_version : (b : Bool) (s : StoreValue) (put : Put) (held : Stored) → b ≡ true
    → stored_as (cond b (with_stored (recorded (s.counter + 1) put.holding held) s.objects) s.objects) (cond b (s.counter + 1) s.counter)
    ≡ stored_as (with_stored (recorded (s.counter + 1) put.holding held) s.objects) (s.counter + 1)
same_version b s put held e = rw e refl

other_version : (b : Bool) (s : StoreValue) (put : Put) (held : Stored) → b ≡ false
    → stored_as (cond b (with_stored (recorded (s.counter + 1) put.holding held) s.objects) s.objects) (cond b (s.counter + 1) s.counter) ≡ s
other_version b s put held e = rw e refl

pub put-at : (s : StoreValue) (put : Put) (at : ℕ) (d : Stored) → IsWellFormed s → IsAt s.objects (service_at put.key) at
    → eqb (get_or s.objects at d).version put.version ≡ true
    → after_put put Delivered s ≡ stored_as (set s.objects at (recorded (s.counter + 1) put.holding (get_or s.objects at d))) (s.counter + 1)
put-at s put at d kept is_at e =
    let held : Stored = get_or s.objects at d in
    ap (put_on s put) (stored_at-at s.objects (service_at put.key) at d kept.ascending is_at)
    ∙ same_version (eqb held.version put.version) s put held e
    ∙ ap (λ (l : List Stored). stored_as l (s.counter + 1))
    (with_stored-at s.objects (service_at put.key) at (recorded (s.counter + 1) put.holding held) kept.ascending is_at
    (place_of-with_record put.holding held.object ∙ is_at.there d))

pub put-stale : (s : StoreValue) (put : Put) (at : ℕ) (d : Stored) → IsWellFormed s → IsAt s.objects (service_at put.key) at
    → eqb (get_or s.objects at d).version put.version ≡ false → after_put put Delivered s ≡ s
put-stale s put at d kept is_at e =
    let held : Stored = get_or s.objects at d in
    ap (put_on s put) (stored_at-at s.objects (service_at put.key) at d kept.ascending is_at) ∙ other_version (eqb held.version put.version) s put held e

pub put-gap : (s : StoreValue) (put : Put) (at : ℕ) → IsGapFor s.objects (service_at put.key) at → after_put put Delivered s ≡ s
put-gap s put at gap = ap (put_on s put) (stored_at-gap s.objects (service_at put.key) at gap)

pub reply-at : (s : StoreValue) (put : Put) (at : ℕ) (d : Stored) (b : Bool) → IsWellFormed s → IsAt s.objects (service_at put.key) at
    → eqb (get_or s.objects at d).version put.version ≡ b → reply_to put Delivered s ≡ cond b (replies.Ok (s.counter + 1)) replies.Stale
reply-at s put at d b kept is_at e =
    ap (delivered_reply s.counter put) (stored_at-at s.objects (service_at put.key) at d kept.ascending is_at)
    ∙ ap (λ (same : Bool). cond same (replies.Ok (s.counter + 1)) replies.Stale) e

pub reply-gap : (s : StoreValue) (put : Put) (at : ℕ) → IsGapFor s.objects (service_at put.key) at → reply_to put Delivered s ≡ replies.Missing
reply-gap s put at gap = ap (delivered_reply s.counter put) (stored_at-gap s.objects (service_at put.key) at gap)
