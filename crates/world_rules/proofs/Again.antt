-- What was read last of the services leaves the core as it is, where it is read once more.
use Rattle.std.proofs.Common.{◌≡◌, ℕ, ◌+◌, ◌≤◌, Bool, true, false, cond, eqb, leb, not, ◌||◌, ◌&&◌, List, [], ◌∷◌, ◌++◌, filter, Option, Some, None, option_map, is_some, ◌⊎◌}
use Rattle.std.proofs.Common.{refl, sym, ap, subst, ◌∙◌, arith, leb-true, append-nil}
use Rattle.std.proofs.lemmas.Bool.{and_right, eqb-true, true≢false}
use Rattle.std.proofs.lemmas.Bool.Decides.{nat_tests}
use Rattle.std.specs.List.{AllByRecursion, list_any}
use Rattle.std.specs.List.Sorted.{IsStrictlySortedBy}
use Rattle.std.specs.Map.{keys_of, remove_entry, set_value}
use Rattle.std.specs.BTreeMap.{is_at}
use Rattle.std.specs.Option.{option_map_or}
use Rattle.kube_model.specs.declared.event.Event.{Event}
use Rattle.kube_model.specs.declared.event.Event.TheVariants.{Deleted, ListEnd}
use Rattle.kube_model.specs.declared.event.ListGroup.TheVariants as groups
use Rattle.kube_model.specs.declared.key.Key.{Key}
use Rattle.kube_model.specs.declared.object.Kind.{Kind}
use Rattle.kube_model.specs.declared.object.Kind.TheVariants as kinds
use Rattle.kube_model.specs.declared.object.Object.{Object}
use Rattle.kube_model.specs.declared.put.Put.{Put}
use Rattle.kube_model.specs.declared.record.Record.{Record}
use Rattle.kube_model.specs.declared.reply.PutReply.{PutReply}
use Rattle.kube_model.specs.declared.reply.PutReply.TheVariants.{Ok as StoredReply, Stale, Missing, Unknown}
use Rattle.kube_model.specs.declared.service.Service.{Service}
use Rattle.kube_model.specs.Keys.{key_cmp, same_key, has_key, without}
use Rattle.kube_model.specs.Service.{with_holding}
use Rattle.kube_model.proofs.KeyLaws.{same_key-is, same_key-itself, is_eq-key_cmp, key_cmp-total}
use Rattle.std.specs.Ordering.{is_eq}
use Rattle.versioned_map.specs.declared.map.Versioned.{Versioned}
use Rattle.versioned_map.specs.Objects.{held_at, object_at, version_at, amended_at, is_listed, listed}
use Rattle.versioned_map.proofs.HeldLaws.{held_at-shown, held_at-amended, held_at-removed}
use Rattle.object_history.specs.Cache.{Cached, cached_after}
use Rattle.object_history.specs.Observations.{Watched}
use Rattle.status_store.specs.declared.change.Edit.TheVariants.{Delete}
use Rattle.status_store.specs.declared.change.Outcome.{Outcome}
use Rattle.status_store.specs.declared.change.Outcome.TheVariants.{Delivered, Lost, Refused}
use Rattle.status_store.specs.declared.stored.Stored.{Stored}
use Rattle.status_store.specs.Objects.{AreCounted, stored_at, with_stored}
use Rattle.status_store.specs.Places.{Place, service_at}
use Rattle.status_store.specs.Changes.{StoreValue, after_put, delivered_reply, edited, is_made, recorded, reply_to, with_put}
use Rattle.status_store.proofs.ListLaws.{counted-less, counted-with_stored, counted-without_stored}
use Rattle.claim_index.specs.Claims.{ClaimValue, claims_of, has_claims, others}
use Rattle.core_rules.specs.Core.{State, is_ready, waiting}
use Rattle.core_rules.specs.Take.{Effect, Shows, Drops, EndsServices, Configures, Expires, Nothing, effect_of, core_take, shows}
use Rattle.core_rules.specs.Take.{have_claims, is_unlisted, listed_and_free, listed_claims, listed_keys, with_services_listed, without_service}
use Rattle.core_rules.specs.Turn.{core_turn, after_turn, put_in}
use Rattle.core_rules.specs.Replied.{core_reply, replied, replied_to}
use Rattle.core_rules.specs.Run.{TranscriptEntry, core_after, IsRun}
use Rattle.core_laws.specs.Queue.{IsHeld}
use Rattle.core_laws.proofs.Puts.{IsWanted, wanted-of}
use Rattle.core_laws.proofs.Queued.{runs-held}
use Rattle.core_laws.proofs.QuietRuns.{wants-some}
use Rattle.world_rules.specs.Good.{IsOfGroup, stored_as}
use Rattle.world_rules.specs.Moves.{IsOld, stored_with}
use Rattle.world_rules.specs.Tracked.{version_at as version_shown}
use Rattle.world_rules.proofs.Following.{leb-older}
use Rattle.world_rules.proofs.Lanes.{counted-at}
use Rattle.world_rules.proofs.Storing.{more-by}
use Rattle.world_rules.proofs.Takes.{HasSameServices, by_service, shown-old, told-event}
use Rattle.world_rules.proofs.Unheld.{IsFreeUnlessHeld, runs-free}

abbrev Services : Type 0
Services = List (Key × Versioned Service)

-- the entry was shown since the watch of its list expired
abbrev IsListed : Key × Versioned Service → Type 0
IsListed e = is_listed e ≡ true

-- what an event of the services tells is what is held: the service at that version or a later one, or not at all, or its list has ended
abbrev pub IsTold : Effect → Services → Bool → Type 0
IsTold (Shows version service) services ended = version ≤ version_at key_cmp services service.key
IsTold (Drops key) services ended = held_at key_cmp services key ≡ None
IsTold EndsServices services ended = (ended ≡ true) × AllByRecursion IsListed services
IsTold Configures services ended = ⊥
IsTold Expires services ended = ⊥
IsTold Nothing services ended = ⊥

abbrev pub TellsHeld : State → Event → Type 0
TellsHeld s event = IsTold (effect_of event) s.held.services s.held.services_ended

-- so it is of what was read last of the services
abbrev pub KeepsLast : List Event → State → Type 0
KeepsLast last s = AllByRecursion (λ event. IsOfGroup groups.Service event × TellsHeld s event) last

told-as : (effect : Effect) (services services' : Services) (ended ended' : Bool) → services' ≡ services → ended' ≡ ended → IsTold effect services ended
    → IsTold effect services' ended'
told-as effect services services' ended ended' same also told =
    subst (λ (b : Bool). IsTold effect services' b) (sym also) (subst (λ (es : Services). IsTold effect es ended) (sym same) told)

abbrev version_in : Option (Versioned Service) → ℕ
version_in found = option_map_or (λ (v : Versioned Service). v.version) found 0

-- ---- it is read
shown_by : (old here : Bool) (version : ℕ) (service : Service) (found : Option (Versioned Service)) → leb version (version_in found) ≡ old → here ≡ true
    → version ≤ version_in (cond old found (cond here (Some (record { version = version; object = service })) found))
shown_by true here version service found e is = leb-true version (version_in found) e
shown_by false true version service found e is = omega arith
shown_by false false version service found e is = absurd (cc)

shown-held : (s : State) (version : ℕ) (service : Service) → TellsHeld (core_take s (shows version service)) (shows version service)
shown-held s version service =
    let entries = s.held.services in
    let found = held_at key_cmp entries service.key in
    let new : Versioned Service = record { version = version; object = service } in
    subst (λ (o : Option (Versioned Service)). version ≤ version_in o) (sym (held_at-shown key_cmp-total entries service.key service.key version service))
    (shown_by (leb version (version_in found)) (is_eq (key_cmp service.key service.key)) version service found refl
    (is_eq-key_cmp service.key service.key ∙ same_key-itself service.key))

dropped-held : (s : State) → IsStrictlySortedBy key_cmp (keys_of s.held.services) → (key : Key)
    → TellsHeld (core_take s (Deleted kinds.Service key)) (Deleted kinds.Service key)
dropped-held s sorted key =
    held_at-removed key_cmp-total s.held.services key key sorted
    ∙ ap (λ (b : Bool). cond b None (held_at key_cmp s.held.services key)) (is_eq-key_cmp key key ∙ same_key-itself key)

listed_by : (b : Bool) (e : Key × Versioned Service) (es : Services) → is_listed e ≡ b → AllByRecursion IsListed es
    → AllByRecursion IsListed (cond b (e ∷ es) es)
listed_by true e es is all = (is, all)
listed_by false e es is all = all

all-listed : (es : Services) → AllByRecursion IsListed (listed es)
all-listed [] = tt
all-listed (e ∷ es) = listed_by (is_listed e) e (listed es) refl (all-listed es)

pub read-last : (s : State) → IsStrictlySortedBy key_cmp (keys_of s.held.services) → (event : Event) → IsOfGroup groups.Service event
    → KeepsLast (event ∷ []) (core_take s event)
read-last s sorted event of = (
  (
    of,
    by_service (λ (e : Event). TellsHeld (core_take s e) e) (λ version service. shown-held s version service) (λ key. dropped-held s sorted key)
        (refl, all-listed s.held.services) event of,
  ),
  tt,
)

-- something is told besides
same-last : (s t : State) (last : List Event) → HasSameServices t s → KeepsLast last s → KeepsLast last t
same-last s t [] same keeps = tt
same-last s t (event ∷ more) same keeps = (
  (keeps.0.0, told-as (effect_of event) s.held.services t.held.services s.held.services_ended t.held.services_ended same.0 same.1 keeps.0.1),
  same-last s t more same keeps.1,
)

pub told-last : (s : State) (event : Event) (last : List Event) → IsOfGroup groups.Config event ⊎ IsOld event (Some s) → KeepsLast last s
    → KeepsLast last (core_take s event)
told-last s event last of keeps = same-last s (core_take s event) last (told-event s event of) keeps

-- ---- a put is answered
amended_by : (b : Bool) (key other : Key) (v : ℕ) (held : Versioned Service) (new : Service) (found : Option (Versioned Service)) → is_eq (key_cmp key other) ≡ b
    → (b ≡ true → version_in found ≤ v) → version_in found ≤ version_in (cond b (Some (record { version = v; object = new })) found)
amended_by true key other v held new found e le = le refl
amended_by false key other v held new found e le = omega arith

amended-later : (entries : Services) (key other : Key) (v : ℕ) (holding : Record) (found : Option (Versioned Service))
    → held_at key_cmp entries key ≡ found → version_in found ≤ v
    → version_at key_cmp entries other ≤ version_at key_cmp (amended_at key_cmp entries key v (with_holding holding) found) other
amended-later entries key other v holding None is le = omega arith
amended-later entries key other v holding (Some held) is le =
    let same = is_eq (key_cmp key other) in
    let here : same ≡ true → version_in (held_at key_cmp entries other) ≤ v = λ e.
    subst (λ (k : Key). version_in (held_at key_cmp entries k) ≤ v) (same_key-is key other (sym (is_eq-key_cmp key other) ∙ e))
    (subst (λ (o : Option (Versioned Service)). version_in o ≤ v) (sym is) le) in
    subst (λ (o : Option (Versioned Service)). version_at key_cmp entries other ≤ version_in o)
    (sym (held_at-amended key_cmp-total entries key other v (with_holding holding) held is))
    (amended_by same key other v held (with_holding holding held.object) (held_at key_cmp entries other) refl here)

-- what isn't held still isn't
none_by : (b : Bool) (key other : Key) (entries : Services) (held new : Versioned Service) → is_eq (key_cmp key other) ≡ b
    → held_at key_cmp entries key ≡ Some held → held_at key_cmp entries other ≡ None
    → cond b (Some new) (held_at key_cmp entries other) ≡ None
none_by true key other entries held new e is none =
    absurd (let no : Some held ≡ None =
    sym is ∙ ap (held_at key_cmp entries) (same_key-is key other (sym (is_eq-key_cmp key other) ∙ e)) ∙ none in cc)
none_by false key other entries held new e is none = none

amended-none : (entries : Services) (key other : Key) (v : ℕ) (holding : Record) (found : Option (Versioned Service)) → held_at key_cmp entries key ≡ found
    → held_at key_cmp entries other ≡ None → held_at key_cmp (amended_at key_cmp entries key v (with_holding holding) found) other ≡ None
amended-none entries key other v holding None is none = none
amended-none entries key other v holding (Some held) is none =
    held_at-amended key_cmp-total entries key other v (with_holding holding) held is
    ∙ none_by (is_eq (key_cmp key other)) key other entries held _ refl is none

-- and each is listed, where the version isn't 0
set_by : (b : Bool) (key : Key) (new : Versioned Service) (e : Key × Versioned Service) (es set : Services) → IsListed (key, new) → IsListed e
    → AllByRecursion IsListed es → AllByRecursion IsListed set → AllByRecursion IsListed (cond b ((key, new) ∷ es) (e ∷ set))
set_by true key new e es set at is all rest = (at, all)
set_by false key new e es set at is all rest = (is, rest)

set-listed : (key : Key) (new : Versioned Service) (es : Services) → ((k : Key) → IsListed (k, new)) → AllByRecursion IsListed es
    → AllByRecursion IsListed (set_value (is_at (key_cmp key)) es new)
set-listed key new [] at all = tt
set-listed key new (e ∷ es) at all =
    set_by (is_at (key_cmp key) e.0) e.0 new e es (set_value (is_at (key_cmp key)) es new) (at e.0) all.0 all.1 (set-listed key new es at all.1)

later-listed : (v : ℕ) → 1 ≤ v → not (eqb v 0) ≡ true
later-listed v le = grind (arith, nat_tests)

amended-listed : (entries : Services) (key : Key) (v : ℕ) (holding : Record) (found : Option (Versioned Service)) → 1 ≤ v → AllByRecursion IsListed entries
    → AllByRecursion IsListed (amended_at key_cmp entries key v (with_holding holding) found)
amended-listed entries key v holding None le all = all
amended-listed entries key v holding (Some held) le all =
    set-listed key (record { version = v; object = with_holding holding held.object }) entries (λ k. later-listed v le) all

-- a put that is stored is so at a version that is none of those before
abbrev IsLater : State → Put → ℕ → Type 0
IsLater s put version = (version_at key_cmp s.held.services put.key ≤ version) × (1 ≤ version)

stored-told : (effect : Effect) (s : State) (put : Put) (version : ℕ) → IsLater s put version → IsTold effect s.held.services s.held.services_ended
    → (let t = replied s put (StoredReply version) in IsTold effect t.held.services t.held.services_ended)
stored-told (Shows v service) s put version later told =
    let le = amended-later s.held.services put.key service.key version put.holding (held_at key_cmp s.held.services put.key) refl later.0 in
    omega (arith, le, told)
stored-told (Drops key) s put version later told =
    amended-none s.held.services put.key key version put.holding (held_at key_cmp s.held.services put.key) refl told
stored-told EndsServices s put version later told =
    (told.0, amended-listed s.held.services put.key version put.holding (held_at key_cmp s.held.services put.key) later.1 told.1)
stored-told Configures s put version later told = told
stored-told Expires s put version later told = told
stored-told Nothing s put version later told = told

replied-told : (effect : Effect) (s : State) (put : Put) (reply : PutReply) → ((version : ℕ) → reply ≡ StoredReply version → IsLater s put version)
    → IsTold effect s.held.services s.held.services_ended
    → (let t = replied s put reply in IsTold effect t.held.services t.held.services_ended)
replied-told effect s put (StoredReply version) later told = stored-told effect s put version (later version refl) told
replied-told effect s put Stale later told = told
replied-told effect s put Missing later told = told
replied-told effect s put Unknown later told = told

replied-last : (last : List Event) (s : State) (put : Put) (reply : PutReply) → ((version : ℕ) → reply ≡ StoredReply version → IsLater s put version)
    → KeepsLast last s → KeepsLast last (replied s put reply)
replied-last [] s put reply later keeps = tt
replied-last (event ∷ more) s put reply later keeps =
    ((keeps.0.0, replied-told (effect_of event) s put reply later keeps.0.1), replied-last more s put reply later keeps.1)

stored_by : (b : Bool) (counter : ℕ) (put : Put) (held : Stored) (version : ℕ) → eqb held.version put.version ≡ b → held.version ≤ counter
    → cond b (StoredReply (counter + 1)) Stale ≡ StoredReply version → (put.version ≤ version) × (1 ≤ version)
stored_by true counter put held version same le e =
    let is : held.version ≡ put.version = eqb-true held.version put.version same in
    let at : counter + 1 ≡ version = cc in
    (omega (arith, is, at, le), omega (arith, at))
stored_by false counter put held version same le e = absurd (cc)

delivered-newer : (found : Option Stored) (counter : ℕ) (put : Put) (version : ℕ) → version_shown (option_map stored_as found) ≤ counter
    → delivered_reply counter put found ≡ StoredReply version → (put.version ≤ version) × (1 ≤ version)
delivered-newer None counter put version le e = absurd (cc)
delivered-newer (Some held) counter put version le e = stored_by (eqb held.version put.version) counter put held version refl le e

-- a put that was stored was made at an earlier version
reply-newer : (outcome : Outcome) (store : StoreValue) (put : Put) (version : ℕ) → AreCounted store.counter store.objects
    → reply_to put outcome store ≡ StoredReply version → (put.version ≤ version) × (1 ≤ version)
reply-newer Delivered store put version counted e =
    delivered-newer (stored_at store.objects (service_at put.key)) store.counter put version
    (counted-at store.counter store.objects (service_at put.key) counted).0 e
reply-newer (Lost applied) store put version counted e = absurd (cc)
reply-newer Refused store put version counted e = absurd (cc)

pub answered-last : (s : State) (put : Put) (outcome : Outcome) (store : StoreValue) (last : List Event) → put_in (core_turn s) ≡ Some put
    → AreCounted store.counter store.objects → KeepsLast last s → KeepsLast last (core_reply (after_turn s) (reply_to put outcome store))
answered-last s put outcome store last wants counted keeps =
    let some = wants-some (core_turn s) put wants in
    let wanted : IsWanted s put some.0 s.queue = wanted-of s s.queue put some.0 (sym some.1) in
    let reply = reply_to put outcome store in
    let later : (v : ℕ) → reply ≡ StoredReply v → IsLater s put v = λ v e.
    let newer = reply-newer outcome store put v counted e in
    (subst (λ (n : ℕ). n ≤ v) wanted.version_is newer.0, newer.1) in
    let now : core_reply (after_turn s) reply ≡ replied (after_turn s) put reply =
    ap (λ (o : Option Put). replied_to o (after_turn s) reply) wants in
    subst (KeepsLast last) (sym now) (replied-last last (after_turn s) put reply later (same-last s (after_turn s) last (refl, refl, refl) keeps))

-- ---- it is read once more
claim_by : (b more : Bool) (c : ClaimValue) (kept cs : List ClaimValue) → b ≡ false → kept ≡ cs → more ≡ false
    → (cond (not b) (c ∷ kept) kept ≡ c ∷ cs) × ((b || more) ≡ false)
claim_by true more c kept cs isnt same none = absurd (true≢false isnt)
claim_by false more c kept cs isnt same none = (ap (λ (rs : List ClaimValue). c ∷ rs) same, none)

no-claim : (b : Bool) (c : ClaimValue) (cs : List ClaimValue) → cond b (c ∷ cs) cs ≡ [] → (b ≡ false) × (cs ≡ [])
no-claim true c cs none = absurd (cc)
no-claim false c cs none = (refl, none)

unless : (b : Bool) → (b ≡ true → ⊥) → b ≡ false
unless true isnt = absurd (isnt refl)
unless false isnt = refl

-- where none of these keys has a claim, no claim goes with them
claims-stay : (gone : Key → Bool) (claims : List ClaimValue) → ((key : Key) → gone key ≡ true → claims_of key claims ≡ [])
    → (filter (λ (c : ClaimValue). not (gone c.key)) claims ≡ claims) × (list_any (λ (c : ClaimValue). gone c.key) claims ≡ false)
claims-stay gone [] none = (refl, refl)
claims-stay gone (c ∷ cs) none =
    let rest = claims-stay gone cs (λ key is. (no-claim (same_key c.key key) c (claims_of key cs) (none key is)).1) in
    let here : gone c.key ≡ true → ⊥ = λ is.
    true≢false (sym (same_key-itself c.key) ∙ (no-claim (same_key c.key c.key) c (claims_of c.key cs) (none c.key is)).0) in
    claim_by (gone c.key) (list_any (λ (d : ClaimValue). gone d.key) cs) c (filter (λ (d : ClaimValue). not (gone d.key)) cs) cs (unless (gone c.key) here)
    rest.0 rest.1

key_by : (b : Bool) (k : Key) (kept ks : List Key) → b ≡ false → kept ≡ ks → cond (not b) (k ∷ kept) kept ≡ k ∷ ks
key_by true k kept ks isnt same = absurd (true≢false isnt)
key_by false k kept ks isnt same = ap (λ (rs : List Key). k ∷ rs) same

neither : (a b : Bool) → (a || b) ≡ false → (a ≡ false) × (b ≡ false)
neither true b e = absurd (true≢false e)
neither false b e = (refl, e)

-- where none of these keys is among them, none goes
keys-stay : (gone : Key → Bool) (keys : List Key) → ((key : Key) → gone key ≡ true → has_key keys key ≡ false)
    → filter (λ (k : Key). not (gone k)) keys ≡ keys
keys-stay gone [] none = refl
keys-stay gone (k ∷ ks) none =
    let here : gone k ≡ true → ⊥ = λ is. true≢false (sym (same_key-itself k) ∙ (neither (same_key k k) (has_key ks k) (none k is)).0) in
    key_by (gone k) k (filter (λ (x : Key). not (gone x)) ks) ks (unless (gone k) here)
    (keys-stay gone ks (λ key is. (neither (same_key k key) (has_key ks key) (none key is)).1))

-- a core and what it holds, with parts that are their own
state-same : (s : State) (held : Cached) (claims : List ClaimValue) (awaiting queue : List Key) → held ≡ s.held → claims ≡ s.claims → awaiting ≡ s.awaiting
    → queue ≡ s.queue
    → (let t : State = record s { held = held; claims = claims; awaiting = awaiting; queue = queue } in t ≡ s)
state-same s held claims awaiting queue h c a q = rw (h, c, a, q) refl

held-same : (c : Cached) (services : Services) (ended : Bool) → services ≡ c.services → ended ≡ c.services_ended
    → (let d : Cached = record c { services = services; services_ended = ended } in d ≡ c)
held-same c services ended s e = rw (s, e) refl

removed_by : (b : Bool) (e : Key × Versioned Service) (es removed : Services) (rest : Option (Versioned Service)) → cond b (Some e.1) rest ≡ None
    → (rest ≡ None → removed ≡ es) → cond b es (e ∷ removed) ≡ e ∷ es
removed_by true e es removed rest none same = absurd (cc)
removed_by false e es removed rest none same = ap (λ (rs : Services). e ∷ rs) (same none)

removed-none : (es : Services) (key : Key) → held_at key_cmp es key ≡ None → remove_entry (is_at (key_cmp key)) es ≡ es
removed-none [] key none = refl
removed-none (e ∷ es) key none =
    removed_by (is_at (key_cmp key) e.0) e es (remove_entry (is_at (key_cmp key)) es) (held_at key_cmp es key) none (removed-none es key)

kept-listed : (es : Services) → AllByRecursion IsListed es → listed es ≡ es
kept-listed [] all = refl
kept-listed (e ∷ es) all =
    ap (λ (b : Bool). cond b (e ∷ listed es) (listed es)) all.0 ∙ ap (λ (rs : Services). e ∷ rs) (kept-listed es all.1)

found_by : (b zero : Bool) (e : Key × Versioned Service) (rest : Option (Versioned Service)) → eqb e.1.version 0 ≡ zero → not zero ≡ true
    → eqb (version_in (cond b (Some e.1) rest)) 0 ≡ true → (eqb (version_in rest) 0 ≡ true → rest ≡ None) → cond b (Some e.1) rest ≡ None
found_by true true e rest is at none later = absurd (true≢false (sym at))
found_by true false e rest is at none later = absurd (true≢false (sym none ∙ is))
found_by false zero e rest is at none later = later none

-- what has no version isn't held
unlisted-none : (es : Services) → AllByRecursion IsListed es → (key : Key) → is_unlisted es key ≡ true → held_at key_cmp es key ≡ None
unlisted-none [] all key none = refl
unlisted-none (e ∷ es) all key none =
    found_by (is_at (key_cmp key) e.0) (eqb e.1.version 0) e (held_at key_cmp es key) refl all.0 none (unlisted-none es all.1 key)

-- what becomes ready was ready
none_free : (x z : Bool) (s : State) → listed_and_free (x && true && z) (x && z) false s ≡ []
none_free true true s = refl
none_free true false s = refl
none_free false z s = refl

free_by : (x y z lost : Bool) (s : State) → y ≡ true → lost ≡ false → listed_and_free (x && y && z) (x && z) lost s ≡ []
free_by x y z lost s e l = rw (e, l) (none_free x z s)

module _ (s : State) (free : (key : Key) → IsFreeUnlessHeld s key) (queued : (key : Key) → has_key s.queue key ≡ true → IsHeld s key) where
  unqueued : (key : Key) → held_at key_cmp s.held.services key ≡ None → has_key s.queue key ≡ false
  unqueued key none =
      unless (has_key s.queue key)
      (λ there. true≢false (sym (queued key there)
      ∙ ap (λ (o : Option (Versioned Service)). is_some (option_map (λ (h : Versioned Service). h.object) o)) none))

  dropped-same : (key : Key) → TellsHeld s (Deleted kinds.Service key) → core_take s (Deleted kinds.Service key) ≡ s
  dropped-same gone none =
      let here : (key : Key) → same_key key gone ≡ true → held_at key_cmp s.held.services key ≡ None = λ key is.
      ap (held_at key_cmp s.held.services) (same_key-is key gone is) ∙ none in
      let claims = claims-stay (λ key. same_key key gone) s.claims (λ key is. (free key (here key is)).0) in
      state-same s (cached_after (Watched (Deleted kinds.Service gone)) s.held) (others gone s.claims) (without gone s.awaiting)
      (without gone s.queue ++ waiting (is_ready s.held && has_claims gone s.claims) s.class (same_key gone) s.queue s.awaiting s.held.services)
      (held-same s.held (remove_entry (is_at (key_cmp gone)) s.held.services) s.held.services_ended (removed-none s.held.services gone none) refl)
      claims.0
      (keys-stay (λ key. same_key key gone) s.awaiting (λ key is. (free key (here key is)).1))
      (ap (λ (b : Bool). without gone s.queue ++ waiting b s.class (same_key gone) s.queue s.awaiting s.held.services)
      (and_right (is_ready s.held) (has_claims gone s.claims) claims.1)
      ∙ append-nil (without gone s.queue)
      ∙ keys-stay (λ key. same_key key gone) s.queue (λ key is. unqueued key (here key is)))

  ended-same : TellsHeld s (ListEnd groups.Service) → core_take s (ListEnd groups.Service) ≡ s
  ended-same is =
      let services = s.held.services in
      let after = listed services in
      let same : after ≡ services = kept-listed services is.1 in
      let none : (key : Key) → is_unlisted services key ≡ true → held_at key_cmp services key ≡ None = unlisted-none services is.1 in
      let claims = claims-stay (is_unlisted services) s.claims (λ key un. (free key (none key un)).0) in
      let queue = keys-stay (is_unlisted services) s.queue (λ key un. unqueued key (none key un)) in
      state-same s (cached_after (Watched (ListEnd groups.Service)) s.held) (listed_claims after s.claims) (listed_keys after s.awaiting)
      (listed_keys after s.queue
      ++ listed_and_free (is_ready s.held) (s.held.config_ended && is_some s.held.config) (have_claims services s.claims) s)
      (held-same s.held after true same (sym is.0))
      (ap (λ (es : Services). listed_claims es s.claims) same ∙ claims.0)
      (ap (λ (es : Services). listed_keys es s.awaiting) same
      ∙ keys-stay (is_unlisted services) s.awaiting (λ key un. (free key (none key un)).1))
      (ap (λ (ks : List Key). listed_keys after s.queue ++ ks)
      (free_by s.held.config_ended s.held.services_ended (is_some s.held.config) (have_claims services s.claims) s is.0 claims.1)
      ∙ append-nil (listed_keys after s.queue) ∙ ap (λ (es : Services). listed_keys es s.queue) same ∙ queue)

  told-same : (event : Event) → IsOfGroup groups.Service event → TellsHeld s event → core_take s event ≡ s
  told-same = by_service (λ (e : Event). TellsHeld s e → core_take s e ≡ s)
      (λ version service le. shown-old s version service (leb-older version (version_at key_cmp s.held.services service.key) le))
      dropped-same ended-same

-- so the core of a run is as it is
pub read-again : (class : Option (List ℕ)) (run : List TranscriptEntry) → IsRun class run → (event : Event) → IsOfGroup groups.Service event
    → TellsHeld (core_after class run) event → IsOld event (Some (core_after class run))
read-again class run is = told-same (core_after class run) (runs-free class run is) (runs-held class run is).queued

-- ---- versions that are stored are none past the counter
abbrev pub AreCountedIn : StoreValue → Type 0
AreCountedIn store = AreCounted store.counter store.objects

-- something is stored at the next version
counted-more : (store : StoreValue) (added : Stored) → added.version ≡ store.counter + 1 → AreCountedIn store
    → AreCounted (store.counter + 1) (with_stored added store.objects)
counted-more store added next counted =
    counted-with_stored (store.counter + 1) store.objects added (omega (arith, next), omega (arith, next))
    (counted-less store.counter (store.counter + 1) store.objects (omega arith) counted)

pub counted-set : (store : StoreValue) (object : Object) (holding : Record) → AreCountedIn store
    → AreCounted (store.counter + 1) (with_stored (stored_with store object holding) store.objects)
counted-set store object holding counted = counted-more store (stored_with store object holding) refl counted

pub counted-deleted : (store : StoreValue) (kind : Kind) (key : Key) → AreCountedIn store → AreCountedIn (edited (Delete kind key) store)
counted-deleted store kind key counted =
    let place : Place = (kind, key) in
    let b = is_some (stored_at store.objects place) in
    counted-without_stored (cond b (store.counter + 1) store.counter) store.objects place
    (counted-less store.counter (cond b (store.counter + 1) store.counter) store.objects (more-by b store.counter) counted)

counted_by : (b : Bool) (put : Put) (found : Option Stored) (store : StoreValue) → AreCountedIn store
    → AreCounted (cond b (store.counter + 1) store.counter) (cond b (with_put (store.counter + 1) put found store.objects) store.objects)
counted_by false put found store counted = counted
counted_by true put None store counted = counted-less store.counter (store.counter + 1) store.objects (omega arith) counted
counted_by true put (Some held) store counted = counted-more store (recorded (store.counter + 1) put.holding held) refl counted

pub counted-put : (put : Put) (outcome : Outcome) (store : StoreValue) → AreCountedIn store → AreCountedIn (after_put put outcome store)
counted-put put outcome store counted =
    counted_by (is_made put outcome store.objects) put (stored_at store.objects (service_at put.key)) store counted
