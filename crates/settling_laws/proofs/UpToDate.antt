-- Where the list of the configuration has ended, to compile once more changes nothing.
use Rattle.std.proofs.Common.{◌≡◌, ℕ, Bool, true, false, cond, not, leb, ◌&&◌, ◌||◌, List, [], ◌∷◌, Option, Result, Ok, Err, refl, sym, ap, ◌∙◌}
use Rattle.std.proofs.lemmas.Bool.{true≢false}
use Rattle.kube_model.specs.declared.config_fault.ConfigFault.{ConfigFault}
use Rattle.kube_model.specs.declared.event.Event.TheVariants.{Changed, Deleted, ListEnd, Expired, Members, Frame, Ignored}
use Rattle.kube_model.specs.declared.event.ListGroup.TheVariants as groups
use Rattle.kube_model.specs.declared.key.Key.{Key}
use Rattle.kube_model.specs.declared.object.Kind.{Kind}
use Rattle.kube_model.specs.declared.object.Kind.TheVariants as kinds
use Rattle.kube_model.specs.declared.object.Object.{Object}
use Rattle.kube_model.specs.declared.object.Object.TheVariants as objects
use Rattle.versioned_map.specs.declared.map.Versioned.{Versioned}
use Rattle.versioned_map.specs.Objects.{version_at, shown}
use Rattle.kube_labels.specs.Names.{name_cmp}
use Rattle.pool_config.specs.ConfigValue.{ConfigValue}
use Rattle.pool_config.specs.declared.object_set.ObjectSet.{ObjectSet}
use Rattle.pool_config.specs.Compile.{compiled}
use Rattle.pool_config.specs.Objects.{set_shows}
use Rattle.object_history.specs.Observations.{Observation, Watched, WatchExpired, Written}
use Rattle.object_history.specs.Cache.{Cached, compiles, objects_after, ended_after, in_force, cached}

-- to compile what is held once more changes nothing
abbrev pub IsUpToDate : Cached → Type 0
IsUpToDate s = s.config_ended ≡ true → in_force s.config (compiled s.objects) ≡ s.config

-- an observation that has nothing compiled leaves the objects as they are
abbrev Stays : Observation → ObjectSet → Bool → Type 0
Stays observation held ended =
    compiles held ended observation ≡ false → ended_after groups.Config observation ended ≡ true → (ended ≡ true) × (objects_after observation held ≡ held)

older : (b : Bool) → (not b && true) ≡ false → b ≡ true
older true e = refl
older false e = absurd (true≢false e)

shown-same : {T : Type 0} (entries : List (List ℕ × Versioned T)) (name : List ℕ) (version : ℕ) (object : T)
    → leb version (version_at name_cmp entries name) ≡ true → shown name_cmp entries name version object ≡ entries
shown-same entries name version object e = rw e refl

object-stays : (version : ℕ) (object : Object) (held : ObjectSet) → (set_shows held version object && true) ≡ false
    → objects_after (Watched (Changed version object)) held ≡ held
object-stays version (objects.Pool pool) held e =
    ap (λ (x : List (List ℕ × Versioned _)). record held { pools = x }) (shown-same held.pools pool.name version pool (older _ e))
object-stays version (objects.L2 adv) held e =
    ap (λ (x : List (List ℕ × Versioned _)). record held { l2s = x }) (shown-same held.l2s adv.name version adv (older _ e))
object-stays version (objects.Bgp adv) held e =
    ap (λ (x : List (List ℕ × Versioned _)). record held { bgps = x }) (shown-same held.bgps adv.name version adv (older _ e))
object-stays version (objects.Peer peer) held e =
    ap (λ (x : List (List ℕ × Versioned _)). record held { peers = x }) (shown-same held.peers peer.name version peer (older _ e))
object-stays version (objects.Community community) held e =
    ap (λ (x : List (List ℕ × Versioned _)). record held { communities = x }) (shown-same held.communities community.name version community (older _ e))
object-stays version _ held e = refl

shown-stays : (ended : Bool) (version : ℕ) (object : Object) (held : ObjectSet) → Stays (Watched (Changed version object)) held ended
shown-stays false version object held e t = absurd (true≢false (sym t))
shown-stays true version object held e t = (refl, object-stays version object held e)

deleted-stays : (ended : Bool) (kind : Kind) (key : Key) (held : ObjectSet) → Stays (Watched (Deleted kind key)) held ended
deleted-stays false kind key held e t = absurd (true≢false (sym t))
deleted-stays true kinds.Service key held e t = (refl, refl)
deleted-stays true kinds.Namespace key held e t = (refl, refl)
deleted-stays true kinds.Node key held e t = (refl, refl)
deleted-stays true kinds.Slice key held e t = (refl, refl)
deleted-stays true _ key held e t = absurd (true≢false e)

listed-stays : (ends ended : Bool) (held listed : ObjectSet) → ends ≡ false → (ends || ended) ≡ true → (ended ≡ true) × (cond ends listed held ≡ held)
listed-stays true ended held listed e t = absurd (true≢false e)
listed-stays false ended held listed e t = (t, refl)

expired-stays : (ends ended : Bool) (held listed : ObjectSet) → cond ends false ended ≡ true → (ended ≡ true) × (cond ends listed held ≡ held)
expired-stays true ended held listed t = absurd (true≢false (sym t))
expired-stays false ended held listed t = (t, refl)

stays : (observation : Observation) (held : ObjectSet) (ended : Bool) → Stays observation held ended
stays (Watched (Changed version object)) held ended = shown-stays ended version object held
stays (Watched (Deleted kind key)) held ended = deleted-stays ended kind key held
stays (Watched (ListEnd groups.Config)) held ended = λ e t. absurd (true≢false e)
stays (Watched (ListEnd _)) held ended = λ e t. (t, refl)
stays (Watched Expired) held ended = λ e t. absurd (true≢false (sym t))
stays (Watched (Members names)) held ended = λ e t. (t, refl)
stays (Watched (Frame interface bytes)) held ended = λ e t. (t, refl)
stays (Watched Ignored) held ended = λ e t. (t, refl)
stays (WatchExpired groups.Config) held ended = λ e t. absurd (true≢false (sym t))
stays (WatchExpired _) held ended = λ e t. (t, refl)
stays (Written key version holding) held ended = λ e t. (t, refl)

again : (before : Option ConfigValue) (made : Result ConfigValue ConfigFault) → in_force (in_force before made) made ≡ in_force before made
again before (Ok config) = refl
again before (Err fault) = refl

after_by : (due : Bool) (observation : Observation) (s : Cached) → compiles s.objects s.config_ended observation ≡ due → IsUpToDate s
    → ended_after groups.Config observation s.config_ended ≡ true
    → (let made = compiled (objects_after observation s.objects) in
    let now : Option ConfigValue = cond due (in_force s.config made) s.config in in_force now made ≡ now)
after_by true observation s due is ended = again s.config (compiled (objects_after observation s.objects))
after_by false observation s due is ended =
    let same = stays observation s.objects s.config_ended due ended in
    ap (λ (held : ObjectSet). in_force s.config (compiled held)) same.1 ∙ is same.0

pub up_to_date : (observations : List Observation) → IsUpToDate (cached observations)
up_to_date [] ended = absurd (true≢false (sym ended))
up_to_date (observation ∷ earlier) ended =
    after_by (compiles (cached earlier).objects (cached earlier).config_ended observation) observation (cached earlier) refl (up_to_date earlier) ended
