-- Keys that are queued before others leave the queue stay in it.
use Rattle.std.proofs.Common.{◌≡◌, ℕ, Bool, true, false, cond, eqb, not, ◌&&◌, List, [], ◌∷◌, ◌++◌, filter, Option, Some, is_some, is_eq, refl, sym, ap, ◌∙◌}
use Rattle.std.proofs.lemmas.Bool.{and_parts}
use Rattle.std.proofs.lemmas.List.Elements.{filter-append}
use Rattle.std.specs.Cmp.{tied_itself}
use Rattle.std.specs.BTreeMap.{is_at}
use Rattle.std.specs.Option.{option_map_or}
use Rattle.std.specs.Prelude.{⊤}
use Rattle.kube_model.specs.declared.event.Event.TheVariants.{Deleted, ListEnd}
use Rattle.kube_model.specs.declared.event.ListGroup.TheVariants as groups
use Rattle.kube_model.specs.declared.key.Key.{Key}
use Rattle.kube_model.specs.declared.object.Kind.TheVariants as kinds
use Rattle.kube_model.specs.declared.service.Service.{Service}
use Rattle.kube_model.specs.Keys.{key_cmp, same_key, without}
use Rattle.kube_model.proofs.KeyLaws.{key_cmp-total, same_key-flip}
use Rattle.versioned_map.specs.declared.map.Versioned.{Versioned}
use Rattle.versioned_map.specs.Objects.{held_at, is_listed, listed}
use Rattle.object_history.specs.Cache.{Cached, cached_after}
use Rattle.object_history.specs.Observations.{Watched}
use Rattle.object_cache.specs.Stays.{passing}
use Rattle.claim_index.specs.Claims.{ClaimValue, others, has_claims}
use Rattle.core_rules.specs.Core.{State, is_ready, is_free_with, all_free, waits, waiting}
use Rattle.core_rules.specs.Take.{no_key, is_unlisted, listed_keys, listed_claims, have_claims, listed_and_free, without_service, with_services_listed}

-- ---- those that pass a test, of which all are kept
module _ (keep : Key → Bool) (test : Key → Service → Bool) where
  -- each entry that passes has a key that is kept
  abbrev KeepsPassing : List (Key × Versioned Service) → Type 0
  KeepsPassing [] = ⊤
  KeepsPassing (e ∷ es) = (test e.0 e.1.object ≡ true → keep e.0 ≡ true) × KeepsPassing es

  kept-by : (b : Bool) (e : Key × Versioned Service) (es : List (Key × Versioned Service)) → b ≡ test e.0 e.1.object
      → (test e.0 e.1.object ≡ true → keep e.0 ≡ true)
      → filter keep (passing test es) ≡ passing test es
      → passing test (e ∷ es) ≡ cond b (e.0 ∷ passing test es) (passing test es)
      → filter keep (passing test (e ∷ es)) ≡ passing test (e ∷ es)
  kept-by true e es b keeps ih is =
      let here : keep e.0 ≡ true = keeps (sym b) in
      ap (filter keep) is ∙ ap (λ c. cond c (e.0 ∷ filter keep (passing test es)) (filter keep (passing test es))) here ∙ ap (λ (ks : List Key). e.0 ∷ ks) ih
      ∙ sym is
  kept-by false e es b keeps ih is = ap (filter keep) is ∙ ih ∙ sym is

  passing-by : (b : Bool) (e : Key × Versioned Service) (es : List (Key × Versioned Service)) → b ≡ test e.0 e.1.object
      → passing test (e ∷ es) ≡ cond b (e.0 ∷ passing test es) (passing test es)
  passing-by true e es b = rw (← b) refl
  passing-by false e es b = rw (← b) refl

  all-kept : (es : List (Key × Versioned Service)) → KeepsPassing es → filter keep (passing test es) ≡ passing test es
  all-kept [] keeps = refl
  all-kept (e ∷ es) keeps = kept-by (test e.0 e.1.object) e es refl keeps.0 (all-kept es keeps.1) (passing-by (test e.0 e.1.object) e es refl)

  keeps-each : ((key : Key) (service : Service) → test key service ≡ true → keep key ≡ true) → (es : List (Key × Versioned Service)) → KeepsPassing es
  keeps-each each [] = tt
  keeps-each each (e ∷ es) = (each e.0 e.1.object, keeps-each each es)

-- ---- a service is deleted
untold : (told : Bool) (rest : Bool) → (not told && rest) ≡ true → not told ≡ true
untold told rest e = (and_parts (not told) rest e).0

others-kept : (class : Option (List ℕ)) (gone : Key) (queue awaiting : List Key) (es : List (Key × Versioned Service))
    → without gone (passing (waits class (same_key gone) queue awaiting) es) ≡ passing (waits class (same_key gone) queue awaiting) es
others-kept class gone queue awaiting es =
    all-kept (λ k. not (same_key k gone)) (waits class (same_key gone) queue awaiting) es
    (keeps-each (λ k. not (same_key k gone)) (waits class (same_key gone) queue awaiting)
    (λ key service e. ap not (same_key-flip key gone) ∙ untold (same_key gone key) _ e) es)

waiting-kept : (lost : Bool) (class : Option (List ℕ)) (gone : Key) (queue awaiting : List Key) (es : List (Key × Versioned Service))
    → without gone (waiting lost class (same_key gone) queue awaiting es) ≡ waiting lost class (same_key gone) queue awaiting es
waiting-kept true class gone queue awaiting es = others-kept class gone queue awaiting es
waiting-kept false class gone queue awaiting es = refl

-- the others that wait stay queued
pub without-queued : (lost : Bool) (class : Option (List ℕ)) (gone : Key) (queue awaiting : List Key) (es : List (Key × Versioned Service))
    → without gone (queue ++ waiting lost class (same_key gone) queue awaiting es) ≡ without gone queue ++ waiting lost class (same_key gone) queue awaiting es
without-queued lost class gone queue awaiting es =
    filter-append (λ k. not (same_key k gone)) queue (waiting lost class (same_key gone) queue awaiting es)
    ∙ ap (λ (ks : List Key). without gone queue ++ ks) (waiting-kept lost class gone queue awaiting es)

-- ---- the list of services has ended
abbrev AreAllListed : List (Key × Versioned Service) → Type 0
AreAllListed [] = ⊤
AreAllListed (e ∷ es) = (is_listed e ≡ true) × AreAllListed es

listed-by : (b : Bool) (e : Key × Versioned Service) (es : List (Key × Versioned Service)) → b ≡ is_listed e → AreAllListed es
    → AreAllListed (cond b (e ∷ es) es)
listed-by true e es b all = (sym b, all)
listed-by false e es b all = all

all-listed : (es : List (Key × Versioned Service)) → AreAllListed (listed es)
all-listed [] = tt
all-listed (e ∷ es) = listed-by (is_listed e) e (listed es) refl (all-listed es)

held-listed-by : (b : Bool) (e : Key × Versioned Service) (found : Option (Versioned Service)) → is_listed e ≡ true
    → (is_some found ≡ true → not (eqb (option_map_or (λ (h : Versioned Service). h.version) found 0) 0) ≡ true)
    → is_some (cond b (Some e.1) found) ≡ true → not (eqb (option_map_or (λ (h : Versioned Service). h.version) (cond b (Some e.1) found) 0) 0) ≡ true
held-listed-by true e found here ih there = here
held-listed-by false e found here ih there = ih there

held-listed : (es : List (Key × Versioned Service)) → AreAllListed es → (key : Key) → is_some (held_at key_cmp es key) ≡ true → not (is_unlisted es key) ≡ true
held-listed [] all key there = absurd (cc)
held-listed (e ∷ es) all key there = held-listed-by (is_at (key_cmp key) e.0) e (held_at key_cmp es key) all.0 (held-listed es all.1 key) there

some-first : (b : Bool) (v : Versioned Service) (found : Option (Versioned Service)) → is_some found ≡ true → is_some (cond b (Some v) found) ≡ true
some-first true v found there = refl
some-first false v found there = there

module _ (services : List (Key × Versioned Service)) (test : Key → Service → Bool) where
  keeps-held : (es : List (Key × Versioned Service)) → ((key : Key) → is_some (held_at key_cmp es key) ≡ true → not (is_unlisted services key) ≡ true)
      → KeepsPassing (λ k. not (is_unlisted services k)) test es
  keeps-held [] all = tt
  keeps-held (e ∷ es) all = (
    λ _. all e.0 (ap (λ r. is_some (cond (is_eq r) (Some e.1) (held_at key_cmp es e.0))) (tied_itself key_cmp-total e.0)),
    keeps-held es (λ key there. all key (some-first (is_at (key_cmp key) e.0) e.1 (held_at key_cmp es key) there)),
  )

passing-listed : (test : Key → Service → Bool) (es : List (Key × Versioned Service))
    → listed_keys (listed es) (passing test (listed es)) ≡ passing test (listed es)
passing-listed test es =
    all-kept (λ k. not (is_unlisted (listed es) k)) test (listed es) (keeps-held (listed es) test (listed es) (held-listed (listed es) (all-listed es)))

waiting-listed : (lost : Bool) (class : Option (List ℕ)) (queue awaiting : List Key) (es : List (Key × Versioned Service))
    → listed_keys (listed es) (waiting lost class no_key queue awaiting (listed es)) ≡ waiting lost class no_key queue awaiting (listed es)
waiting-listed true class queue awaiting es = passing-listed (waits class no_key queue awaiting) es
waiting-listed false class queue awaiting es = refl

free-listed : (queue awaiting : List Key) (es : List (Key × Versioned Service))
    → listed_keys (listed es) (all_free queue awaiting (listed es)) ≡ all_free queue awaiting (listed es)
free-listed queue awaiting es =
    filter-append (λ k. not (is_unlisted (listed es) k)) (passing (is_free_with queue awaiting true) (listed es))
    (passing (is_free_with queue awaiting false) (listed es))
    ∙ ap (λ (ks : List Key). ks ++ listed_keys (listed es) (passing (is_free_with queue awaiting false) (listed es)))
    (passing-listed (is_free_with queue awaiting true) es)
    ∙ ap (λ (ks : List Key). passing (is_free_with queue awaiting true) (listed es) ++ ks) (passing-listed (is_free_with queue awaiting false) es)

more-listed : (was now lost : Bool) (s : State) → listed_keys (listed s.held.services) (listed_and_free was now lost s) ≡ listed_and_free was now lost s
more-listed was false lost s = refl
more-listed true true lost s = waiting-listed lost s.class s.queue s.awaiting s.held.services
more-listed false true lost s = free-listed s.queue s.awaiting s.held.services

-- those that are queued then were listed
pub listed-queued : (was now lost : Bool) (s : State)
    → listed_keys (listed s.held.services) (s.queue ++ listed_and_free was now lost s)
    ≡ listed_keys (listed s.held.services) s.queue ++ listed_and_free was now lost s
listed-queued was now lost s =
    filter-append (λ k. not (is_unlisted (listed s.held.services) k)) s.queue (listed_and_free was now lost s)
    ∙ ap (λ (ks : List Key). listed_keys (listed s.held.services) s.queue ++ ks) (more-listed was now lost s)

-- ---- what is left once those that wait were queued
pub service-dropped : (s : State) (key : Key) (held : Cached) (more queued queue awaiting : List Key) (claims : List ClaimValue)
    → more ≡ waiting (is_ready s.held && has_claims key s.claims) s.class (same_key key) s.queue s.awaiting s.held.services
    → held ≡ cached_after (Watched (Deleted kinds.Service key)) s.held → queued ≡ s.queue ++ more
    → claims ≡ others key s.claims → awaiting ≡ without key s.awaiting → queue ≡ without key queued
    → record s { held = held; claims = claims; awaiting = awaiting; queue = queue } ≡ without_service s key
service-dropped s key held more queued queue awaiting claims more_is held_is queued_is claims_is awaiting_is queue_is =
    rw (claims_is, awaiting_is, queue_is, queued_is, held_is, more_is)
    (ap (λ (ks : List Key). record s {
      held = cached_after (Watched (Deleted kinds.Service key)) s.held;
      claims = others key s.claims;
      awaiting = without key s.awaiting;
      queue = ks;
    })
    (without-queued (is_ready s.held && has_claims key s.claims) s.class key s.queue s.awaiting s.held.services))

pub services-listed : (s : State) (held : Cached) (more queued queue awaiting : List Key) (claims : List ClaimValue)
    → more ≡ listed_and_free (is_ready s.held) (s.held.config_ended && is_some s.held.config) (have_claims s.held.services s.claims) s
    → held ≡ cached_after (Watched (ListEnd groups.Service)) s.held → queued ≡ s.queue ++ more
    → claims ≡ listed_claims held.services s.claims → awaiting ≡ listed_keys held.services s.awaiting → queue ≡ listed_keys held.services queued
    → record s { held = held; claims = claims; awaiting = awaiting; queue = queue } ≡ with_services_listed s
services-listed s held more queued queue awaiting claims more_is held_is queued_is claims_is awaiting_is queue_is =
    rw (claims_is, awaiting_is, queue_is, queued_is, held_is, more_is)
    (ap (λ (ks : List Key). record s {
      held = cached_after (Watched (ListEnd groups.Service)) s.held;
      claims = listed_claims (listed s.held.services) s.claims;
      awaiting = listed_keys (listed s.held.services) s.awaiting;
      queue = ks;
    })
    (listed-queued (is_ready s.held) (s.held.config_ended && is_some s.held.config) (have_claims s.held.services s.claims) s))
