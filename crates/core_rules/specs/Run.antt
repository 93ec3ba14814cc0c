-- Runs of the core, and what a look back over them shows. The newest stands first.
use Rattle.std.specs.Prelude.{◌≡◌, ℕ, true, ◌&&◌, ◌==◌, not, nat_le, if◌then◌else◌, List, [], ◌∷◌, Option, Some, None, is_some, ⊤}
use Rattle.kube_model.specs.declared.event.Event.{Event}
use Rattle.kube_model.specs.declared.event.ListGroup.{ListGroup}
use Rattle.kube_model.specs.declared.key.Key.{Key}
use Rattle.kube_model.specs.declared.put.Put.{Put}
use Rattle.kube_model.specs.declared.reply.PutReply.{PutReply}
use Rattle.kube_model.specs.declared.reply.PutReply.TheVariants.{Ok as StoredReply, Stale, Missing, Unknown}
use Rattle.object_history.specs.Cache.{cached}
use Rattle.object_history.specs.Observations.{Observation, Watched, WatchExpired, Written}
use Rattle.object_history.specs.Kinds.{service_resource}
use Rattle.object_history.specs.LookBack.{last_shown, version_last_shown}
use Rattle.std.specs.List.{Contains}
use Rattle.std.specs.Option.{option_map_or}
use Rattle.sharing_terms.specs.declared.terms.Terms.{Terms}
use Rattle.sharing_terms.specs.Marked.{IsMarkOf}
use Rattle.sharing_terms.specs.Terms.{terms_of}
use Rattle.claim_index.specs.Claims.{ClaimValue, claims_of, claim_of, terms_under, added}
use Rattle.kube_model.specs.Keys.{same_key}
use Rattle.core_rules.specs.declared.turn.Turn.{Turn}
use Rattle.core_rules.specs.Core.{State, fresh, no_terms, shown_terms}
use Rattle.core_rules.specs.Take.{Effect, Shows, Drops, EndsServices, Configures, Expires, Nothing, effect_of, core_take, core_expired}
use Rattle.core_rules.specs.Turn.{core_turn, after_turn, put_in}
use Rattle.core_rules.specs.Replied.{core_reply}

-- what arrives at a core, and what it was made to do
pub data TranscriptEntry : Type 0 where
  Took : (event : Event) → TranscriptEntry  -- an event was taken
  Expired : (group : ListGroup) → TranscriptEntry  -- the watch of one list has expired
  Turned : (turn : Turn) → TranscriptEntry  -- a turn was made, and came to this
  Heard : (reply : PutReply) → TranscriptEntry  -- the put that was out was answered

abbrev pub entered : TranscriptEntry → State → State
entered (Took event) s = core_take s event
entered (Expired group) s = core_expired s group
entered (Turned turn) s = after_turn s
entered (Heard reply) s = core_reply s reply

abbrev pub core_after : Option (List ℕ) → List TranscriptEntry → State
core_after class [] = fresh class
core_after class (e ∷ earlier) = entered e (core_after class earlier)

-- events are taken and turns are made while no put is in flight; a reply comes to a put in flight; each turn is the core's
abbrev pub MayEnter : TranscriptEntry → State → Type 0
MayEnter (Took event) s = s.out ≡ None
MayEnter (Expired group) s = s.out ≡ None
MayEnter (Turned turn) s = (s.out ≡ None) × (turn ≡ core_turn s)
MayEnter (Heard reply) s = is_some s.out ≡ true

abbrev pub IsRun : Option (List ℕ) → List TranscriptEntry → Type 0
IsRun class [] = ⊤
IsRun class (e ∷ earlier) = MayEnter e (core_after class earlier) × IsRun class earlier

-- ---- the look back
-- the put that has no reply yet
abbrev pub put_out : List TranscriptEntry → Option Put
put_out [] = None
put_out (Took event ∷ earlier) = put_out earlier
put_out (Expired group ∷ earlier) = put_out earlier
put_out (Turned turn ∷ earlier) = put_in turn
put_out (Heard reply ∷ earlier) = None

abbrev pub told_by : Effect → Event → List Observation → List Observation
told_by (Shows version service) event earlier = Watched event ∷ earlier
told_by (Drops key) event earlier = Watched event ∷ earlier
told_by EndsServices event earlier = Watched event ∷ earlier
told_by Configures event earlier = Watched event ∷ earlier
told_by Expires event earlier = Watched event ∷ earlier
told_by Nothing event earlier = earlier

abbrev pub heard_of : Put → PutReply → List Observation → List Observation
heard_of put (StoredReply version) earlier = Written put.key version put.holding ∷ earlier
heard_of put Stale earlier = earlier
heard_of put Missing earlier = earlier
heard_of put Unknown earlier = earlier

abbrev pub heard_by : Option Put → PutReply → List Observation → List Observation
heard_by None reply earlier = earlier
heard_by (Some put) reply earlier = heard_of put reply earlier

-- what observed to what is held
abbrev pub observed : List TranscriptEntry → List Observation
observed [] = []
observed (Took event ∷ earlier) = told_by (effect_of event) event (observed earlier)
observed (Expired group ∷ earlier) = WatchExpired group ∷ observed earlier
observed (Turned turn ∷ earlier) = observed earlier
observed (Heard reply ∷ earlier) = heard_by (put_out earlier) reply (observed earlier)

-- the version that was last shown for the key, and 0 where none was
abbrev pub version_shown : Key → List TranscriptEntry → ℕ
version_shown key run = version_last_shown service_resource key (observed run)

-- the terms of the key's service, as the last newer event shows it
abbrev pub terms_shown : Key → List TranscriptEntry → Terms
terms_shown key run = option_map_or (λ h. terms_of h.object) (last_shown service_resource key (observed run)) no_terms

abbrev pub claims_told : Key → Effect → ℕ → List ClaimValue → List ClaimValue
claims_told key (Shows version service) shown before =
    if same_key service.key key && not (nat_le version shown) then claim_of service.key service.holding (shown_terms service) else before
claims_told key (Drops k) shown before = if same_key k key then [] else before
claims_told key EndsServices shown before = if shown == 0 then [] else before
claims_told key Configures shown before = before
claims_told key Expires shown before = before
claims_told key Nothing shown before = before

abbrev pub claims_replied : Key → Put → PutReply → Terms → List ClaimValue → List ClaimValue
claims_replied key put (StoredReply version) adopted before =
    if same_key put.key key then claim_of put.key put.holding (terms_under put.holding adopted) else before
claims_replied key put Stale adopted before = before
claims_replied key put Missing adopted before = before
claims_replied key put Unknown adopted before = if same_key put.key key then added put.key put.holding (terms_under put.holding adopted) before else before

abbrev pub claims_heard : Key → Option Put → PutReply → Terms → List ClaimValue → List ClaimValue
claims_heard key None reply adopted before = before
claims_heard key (Some put) reply adopted before = claims_replied key put reply adopted before

-- The records that the key has, or may have: that of its last newer event or of its last put that was answered ok, whichever came
-- later, and those of the puts since then that were answered unknown; none after its deletion. Each is claimed under the terms of its
-- mark, and where it is the mark of none under those of the service as the last newer event showed it.
abbrev pub claims_shown : Key → List TranscriptEntry → List ClaimValue
claims_shown key [] = []
claims_shown key (Took event ∷ earlier) = claims_told key (effect_of event) (version_shown key earlier) (claims_shown key earlier)
claims_shown key (Expired group ∷ earlier) = claims_shown key earlier
claims_shown key (Turned turn ∷ earlier) = claims_shown key earlier
claims_shown key (Heard reply ∷ earlier) = claims_heard key (put_out earlier) reply (terms_shown key earlier) (claims_shown key earlier)

-- ---- laws
-- whatever arrives, the core holds what observed
abbrev pub HoldsWhatWasObserved : Type 0
HoldsWhatWasObserved = (class : Option (List ℕ)) (run : List TranscriptEntry) → IsRun class run
    → ((core_after class run).held ≡ cached (observed run)) × ((core_after class run).out ≡ put_out run)

-- whatever arrives, where the record of a claim is marked, the claim's terms are those of the mark
abbrev pub ClaimsAreByMark : Type 0
ClaimsAreByMark = (class : Option (List ℕ)) (run : List TranscriptEntry) → (c : ClaimValue) → Contains (core_after class run).claims c
    → (t : Terms) → IsMarkOf t c.holding.mark → c.terms ≡ t

-- whatever arrives, each key has the claims that the look back shows
abbrev pub ClaimsAreShown : Type 0
ClaimsAreShown = (class : Option (List ℕ)) (run : List TranscriptEntry) → IsRun class run → (key : Key)
    → claims_of key (core_after class run).claims ≡ claims_shown key run
