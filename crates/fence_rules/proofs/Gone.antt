-- A put that is gone stays so.
use Rattle.std.proofs.Common.{◌≡◌, ℕ, ◌+◌, ◌≤◌, Bool, true, false, cond, [], ◌∷◌, Option, Some, None, option_map, is_some, is_eq}
use Rattle.std.proofs.Common.{⊎_elim, refl, sym, ap, subst, ◌∙◌, arith}
use Rattle.std.proofs.lemmas.Bool.{true≢false, eqb-true}
use Rattle.std.specs.List.{Contains}
use Rattle.mlb_base.proofs.Among.{contains-none, contains-cons}
use Rattle.kube_model.specs.declared.key.Key.{Key}
use Rattle.kube_model.specs.declared.object.Kind.{Kind}
use Rattle.kube_model.specs.declared.put.Put.{Put}
use Rattle.status_store.specs.declared.change.Outcome.TheVariants.{Delivered}
use Rattle.status_store.specs.declared.change.Edit.TheVariants.{Delete}
use Rattle.status_store.specs.declared.stored.Stored.{Stored}
use Rattle.status_store.specs.Places.{place_cmp, service_at}
use Rattle.status_store.specs.Objects.{is_of, stored_at, with_stored}
use Rattle.status_store.specs.Changes.{StoreValue, IsWellFormed, after_put, edited, is_at_version, is_made, recorded, with_put}
use Rattle.status_store.proofs.ChangeLaws.{place_of-with_record, version-other}
use Rattle.status_store.proofs.ListLaws.{stored_at-with_stored, stored_at-without_stored}
use Rattle.status_store.proofs.StoredLaws.{found-stored, is_of-by}
use Rattle.world_rules.specs.Good.{stored_as}
use Rattle.world_rules.specs.Moves.{Move, Sets, Deletes, Tells, Takes, Turns, Stops, Starts, ConfigExpires, ServicesExpire, EndsLater, Lands, after_move, stored_with}
use Rattle.world_rules.specs.Tracked.{version_at}
use Rattle.world_rules.specs.World.{WorldValue}
use Rattle.world_rules.proofs.Lanes.{counted-at}
use Rattle.fence_rules.specs.Cluster.{AreGone, IsEdit, IsGone, Named, name_of}

-- what is stored with this object
abbrev with_next : StoreValue → Stored → StoreValue
with_next store added = record { objects = with_stored added store.objects; counter = store.counter + 1 }

with-by : (b : Bool) (version counter : ℕ) (added : Stored) (found : Option Stored) → added.version ≡ counter + 1 → version ≤ counter
    → is_at_version version found ≡ false → is_at_version version (cond b (Some added) found) ≡ false
with-by true version counter added found e le gone = version-other added.version version (λ same. omega (arith, same, e, le))
with-by false version counter added found e le gone = gone

gone-with : (store : StoreValue) (added : Stored) (n : Key × ℕ) → added.version ≡ store.counter + 1 → IsGone store n → IsGone (with_next store added) n
gone-with store added (key, version) e gone = (
  omega (arith, gone.0),
  subst (λ (o : Option Stored). is_at_version version o ≡ false) (sym (stored_at-with_stored store.objects added (service_at key)))
      (with-by (is_of (service_at key) added) version store.counter added (stored_at store.objects (service_at key)) e gone.0 gone.1),
)

without-by : (b : Bool) (version : ℕ) (found : Option Stored) → is_at_version version found ≡ false → is_at_version version (cond b None found) ≡ false
without-by true version found gone = refl
without-by false version found gone = gone

more-by : (b : Bool) (version n : ℕ) → version ≤ n → version ≤ cond b (n + 1) n
more-by true version n le = omega (arith, le)
more-by false version n le = le

gone-without : (store : StoreValue) (kind : Kind) (gone_key : Key) (n : Key × ℕ) → IsWellFormed store → IsGone store n
    → IsGone (edited (Delete kind gone_key) store) n
gone-without store kind gone_key (key, version) kept gone = (
  more-by (is_some (stored_at store.objects (kind, gone_key))) version store.counter gone.0,
  subst (λ (o : Option Stored). is_at_version version o ≡ false) (sym (stored_at-without_stored store.objects (kind, gone_key) (service_at key) kept.ascending))
      (without-by (is_eq (place_cmp (kind, gone_key) (service_at key))) version (stored_at store.objects (service_at key)) gone.1),
)

pub gone-edit : (move : Move) (w : WorldValue) (n : Key × ℕ) → IsEdit move → IsWellFormed w.store → IsGone w.store n → IsGone (after_move move w).store n
gone-edit (Sets object holding) w n is kept gone = gone-with w.store (stored_with w.store object holding) n refl gone
gone-edit (Deletes kind key) w n is kept gone = gone-without w.store kind key n kept gone
gone-edit (Tells event) w n is kept gone = absurd is
gone-edit Takes w n is kept gone = absurd is
gone-edit (Turns outcome) w n is kept gone = absurd is
gone-edit (Stops applied) w n is kept gone = absurd is
gone-edit (Starts list) w n is kept gone = absurd is
gone-edit ConfigExpires w n is kept gone = absurd is
gone-edit (ServicesExpire list) w n is kept gone = absurd is
gone-edit (EndsLater before event behind) w n is kept gone = absurd is
gone-edit (Lands put) w n is kept gone = absurd is

-- what a put leaves, where it is made or isn't
abbrev put_by : Bool → Put → Option Stored → StoreValue → StoreValue
put_by made put found store = record {
  objects = cond made (with_put (store.counter + 1) put found store.objects) store.objects;
  counter = cond made (store.counter + 1) store.counter;
}

gone-later : (store : StoreValue) (n : Key × ℕ) → IsGone store n → IsGone (record { objects = store.objects; counter = store.counter + 1 }) n
gone-later store (key, version) gone = (omega (arith, gone.0), gone.1)

gone-put_by : (made : Bool) (put : Put) (found : Option Stored) (store : StoreValue) (n : Key × ℕ) → IsGone store n → IsGone (put_by made put found store) n
gone-put_by true put None store n gone = gone-later store n gone
gone-put_by true put (Some held) store n gone = gone-with store (recorded (store.counter + 1) put.holding held) n refl gone
gone-put_by false put found store n gone = gone

pub gone-put : (put : Put) (store : StoreValue) (n : Key × ℕ) → IsGone store n → IsGone (after_put put Delivered store) n
gone-put put store n gone = gone-put_by (is_made put Delivered store.objects) put (stored_at store.objects (service_at put.key)) store n gone

-- a put that was carried out is gone
carried_by : (found : Option Stored) (made : Bool) (put : Put) (store : StoreValue) → stored_at store.objects (service_at put.key) ≡ found
    → made ≡ is_at_version put.version found → made ≡ true → version_at (option_map stored_as found) ≤ store.counter
    → IsGone (put_by made put found store) (name_of put)
carried_by None made put store is e was le = absurd (true≢false (sym was ∙ e))
carried_by (Some held) false put store is e was le = absurd (true≢false (sym was))
carried_by (Some held) true put store is e was le =
    let added = recorded (store.counter + 1) put.holding held in
    let at : held.version ≡ put.version = eqb-true held.version put.version (sym e) in
    let given : held.version ≤ store.counter = le in
    let here : is_of (service_at put.key) added ≡ true =
    is_of-by (service_at put.key) added
    (place_of-with_record put.holding held.object ∙ (found-stored store.objects (service_at put.key) held is).1) in (
      omega (arith, at, given),
      subst (λ (o : Option Stored). is_at_version put.version o ≡ false)
          (sym (stored_at-with_stored store.objects added (service_at put.key)
          ∙ ap (λ (b : Bool). cond b (Some added) (stored_at store.objects (service_at put.key))) here))
          (version-other (store.counter + 1) put.version (λ same. omega (arith, same, at, given))),
    )

pub gone-carried : (put : Put) (store : StoreValue) → IsWellFormed store → is_made put Delivered store.objects ≡ true
    → IsGone (after_put put Delivered store) (name_of put)
gone-carried put store kept made =
    carried_by (stored_at store.objects (service_at put.key)) (is_made put Delivered store.objects) put store refl refl made
    (counted-at store.counter store.objects (service_at put.key) kept.counted).0

-- one that is gone isn't made
pub gone-unmade : (put : Put) (store : StoreValue) → IsGone store (name_of put) → is_made put Delivered store.objects ≡ true → ⊥
gone-unmade put store gone made = true≢false (sym made ∙ gone.1)

-- ---- of a list of names
pub gone-all : (old new : StoreValue) → ((n : Key × ℕ) → IsGone old n → IsGone new n) → (named : Named) → AreGone old named → AreGone new named
gone-all old new keeps [] gone = tt
gone-all old new keeps (n ∷ named) gone = (keeps n gone.0, gone-all old new keeps named gone.1)

pub gone-among : (store : StoreValue) (named : Named) (n : Key × ℕ) → AreGone store named → Contains named n → IsGone store n
gone-among store [] n gone has = absurd (contains-none n has)
gone-among store (m ∷ named) n gone has =
    ⊎_elim (λ (e : m ≡ n). subst (IsGone store) e gone.0) (λ later. gone-among store named n gone.1 later) (contains-cons m named n has)
