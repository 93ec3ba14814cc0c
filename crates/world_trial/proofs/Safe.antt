-- Every world of a trial is one that `World` makes, and so safe.
use Rattle.std.proofs.Common.{◌≡◌, true, ◌<◌, ◌+◌, ◌%◌, ℕ, nat_lt, List, [], ◌∷◌, Option, Some, None, is_some, codes, refl, arith}
use Rattle.std.proofs.lemmas.Bool.{cond_both}
use Rattle.std.proofs.lemmas.Str.{IsUtf8-from_is_utf8, IsUtf8-nil}
use Rattle.std.specs.List.Sorted.{IsStrictlySortedBy}
use Rattle.std.specs.Prelude.{IfSome, IsUtf8}
use Rattle.std.specs.Str.{is_utf8, chars}
use Rattle.kube_labels.specs.Pairs.{IsAscending}
use Rattle.kube_model.specs.declared.object.Object.TheVariants as objects
use Rattle.sharing_terms.specs.Marked.{AreTexts}
use Rattle.status_store.specs.declared.change.Edit.{Edit}
use Rattle.status_store.specs.declared.change.Edit.TheVariants.{Set, Reset, Delete}
use Rattle.status_store.specs.Changes.{empty_store}
use Rattle.ctl_world.proofs.TermLaws.{terms-are}
use Rattle.world_rules.specs.declared.step.Step.{Step}
use Rattle.world_rules.specs.declared.step.Step.TheVariants.{Edit as Edits, Take, Turn, Crash, Restart, Expire}
use Rattle.world_rules.specs.Good.{IsGood, IsOwn}
use Rattle.world_rules.specs.Safe.{HasTerms, SetsTerms, StepsTerms}
use Rattle.world_rules.specs.World.{WorldValue, world_step, store_of}
use Rattle.world_rules.proofs.Storing.{good-store_of}
use Rattle.world_rules.proofs.Own.{starts_are_own, steps_are_moves, steps_keep_own, stores_have_terms}
use Rattle.world_rules.proofs.Worlds.{steps_keep_good}
use Rattle.world_trial.specs.Begun.{first_pools, first_world}
use Rattle.world_trial.specs.Draws.{draws}
use Rattle.world_trial.specs.Run.{is_made, after, step_in, after_draw, after_draws, trial_world}
use Rattle.world_trial.specs.Services.{share_key_of, selector_of, numbered, service_of}
use Rattle.world_trial.proofs.Making.{made-is}
use Rattle.world_trial.proofs.Sets.{EditSets, Sets, step-sets}

-- ---- services

-- the texts that the services have
default-text : is_utf8 (codes "default") ≡ true
unfolding is_utf8 chars lib.Utf8.encode
default-text = refl

key-text : is_utf8 (codes "k") ≡ true
unfolding is_utf8 chars lib.Utf8.encode
key-text = refl

name-text : is_utf8 (codes "app") ≡ true
unfolding is_utf8 chars lib.Utf8.encode
name-text = refl

value-text : is_utf8 (codes "a") ≡ true
unfolding is_utf8 chars lib.Utf8.encode
value-text = refl

share_key-text : (z : ℕ) → IsUtf8 (share_key_of z)
share_key-text z = cond_both (nat_lt z 2) [] (codes "k") IsUtf8 (λ _. IsUtf8-nil) (λ _. IsUtf8-from_is_utf8 (codes "k") key-text)

selector-ascends : (z : ℕ) → IsAscending (selector_of z)
unfolding IsStrictlySortedBy
selector-ascends z = cond_both (nat_lt z 6) [] ((codes "app", codes "a") ∷ []) IsAscending (λ _. tt) (λ _. (tt, tt))

selector-texts : (z : ℕ) → AreTexts (selector_of z)
selector-texts z =
    cond_both (nat_lt z 6) [] ((codes "app", codes "a") ∷ []) AreTexts (λ _. tt)
    (λ _. ((IsUtf8-from_is_utf8 (codes "app") name-text, IsUtf8-from_is_utf8 (codes "a") value-text), tt))

small-port : (z : ℕ) → 80 + z % 3 < 65536
small-port z = omega arith

service-terms : (y z : ℕ) → HasTerms (objects.Service (service_of y z))
unfolding service_of numbered
service-terms y z =
    terms-are (service_of y z) (share_key-text z) (IsUtf8-from_is_utf8 (codes "default") default-text) (small-port z, tt) (selector-ascends z)
    (selector-texts z)

-- ---- steps

edit-typed : (edit : Edit) → EditSets HasTerms edit → SetsTerms edit
edit-typed (Set object) t = t.0
edit-typed (Reset object) t = t.1
edit-typed (Delete kind key) t = tt

typed : (step : Step) → Sets HasTerms step → StepsTerms step
typed (Edits edit) t = edit-typed edit t
typed (Take group) t = tt
typed (Turn outcome) t = tt
typed (Crash applied) t = tt
typed (Restart order) t = tt
typed (Expire group order) t = tt

-- ---- worlds

abbrev IsMade : WorldValue → Type 0
IsMade w = IsGood w × IsOwn w

step-made : (step : Step) (w : WorldValue) → StepsTerms step → is_made step w ≡ true → IsMade w → IsMade (world_step step w)
step-made step w typed made both =
    let move = steps_are_moves w step ((made-is step w both.0.stored.kept).0 made).0 both.1 in
    (steps_keep_good w (world_step step w) move.0 move.1 both.0, steps_keep_own w step typed both.0 both.1)

made-after : (step : Option Step) (w : WorldValue) → IfSome step (Sets HasTerms) → IsMade w → IsMade (after step w)
made-after None w sets both = both
made-after (Some step) w sets both =
    cond_both (is_made step w) (world_step step w) w IsMade (λ made. step-made step w (typed step sets) made both) (λ _. both)

made-draw : (x : ℕ) (w : WorldValue) → IsMade w → IsMade (after_draw x w)
unfolding after_draw
made-draw x w both = made-after (step_in x w) w (step-sets HasTerms (λ y z few. service-terms y z) x (is_some w.core)) both

made-draws : (xs : List ℕ) (w : WorldValue) → IsMade w → IsMade (after_draws xs w)
made-draws [] w both = both
made-draws (x ∷ xs) w both = made-draws xs (after_draw x w) (made-draw x w both)

made-first : IsMade first_world
unfolding first_world
made-first = starts_are_own None (store_of first_pools empty_store) (good-store_of first_pools) (stores_have_terms first_pools (tt, (tt, tt))).0

pub good-trial : (seed n : ℕ) → IsGood (trial_world seed n)
good-trial seed n = (made-draws (draws seed n) first_world made-first).0
