-- Runs one after the other are safe.
use Rattle.std.proofs.Common.{◌≡◌, ℕ, Bool, List, [], ◌∷◌, ◌++◌, Option, Some, None, IfSome, refl, subst}
use Rattle.std.specs.List.{AllByRecursion}
use Rattle.kube_model.specs.declared.put.Put.{Put}
use Rattle.core_laws.specs.Shared.{AllShowTerms}
use Rattle.core_rules.specs.Core.{State}
use Rattle.core_rules.specs.Run.{TranscriptEntry, put_out}
use Rattle.world_rules.specs.Chain.{IsBetween, late_along, ended_in, left_by, late_left, store_behind, IsStage}
use Rattle.world_rules.specs.Chain.{ChainsAreSafe}
use Rattle.world_rules.specs.Explaining.{IsAboutToPut}
use Rattle.world_rules.specs.Good.{IsFollowed, IsGood, IsGoodStore}
use Rattle.world_rules.specs.Moves.{Move, Sets, Deletes, Tells, Takes, Turns, Stops, Starts, ConfigExpires, ServicesExpire, EndsLater, Lands}
use Rattle.world_rules.specs.Moves.{after_move, run_along, begun, puts_in}
use Rattle.world_rules.specs.World.{WorldValue, reached}
use Rattle.world_rules.proofs.Explaining.{runs_are_safe_in_worlds, world-shown}
use Rattle.world_rules.proofs.Landing.{AreExpected, none-expected, unclaimed, stopped_by}
use Rattle.world_rules.proofs.Turns.{reached_by}
use Rattle.world_rules.proofs.Worlds.{starts_are_good, good-moves, late-moves, safe-along}

-- nothing is shown to a controller that is down
between-shown : (moves : List Move) (w : WorldValue) (earlier : List TranscriptEntry) → AllByRecursion IsBetween moves → AllShowTerms earlier
    → AllShowTerms (run_along moves w earlier)
between-shown [] w earlier all shown = shown
between-shown (Sets object holding ∷ moves) w earlier all shown = between-shown moves (after_move (Sets object holding) w) earlier all.1 shown
between-shown (Deletes kind key ∷ moves) w earlier all shown = between-shown moves (after_move (Deletes kind key) w) earlier all.1 shown
between-shown (Tells event ∷ moves) w earlier all shown = absurd all.0
between-shown (Takes ∷ moves) w earlier all shown = absurd all.0
between-shown (Turns outcome ∷ moves) w earlier all shown = absurd all.0
between-shown (Stops applied ∷ moves) w earlier all shown = absurd all.0
between-shown (Starts list ∷ moves) w earlier all shown = absurd all.0
between-shown (ConfigExpires ∷ moves) w earlier all shown = absurd all.0
between-shown (ServicesExpire list ∷ moves) w earlier all shown = absurd all.0
between-shown (EndsLater before event behind ∷ moves) w earlier all shown = absurd all.0
between-shown (Lands put ∷ moves) w earlier all shown = between-shown moves (after_move (Lands put) w) earlier all.1 shown

-- the store that a stopped controller leaves, and the puts that are under way then
abbrev IsLeft : WorldValue → Option Put → Bool → List Put → Type 0
IsLeft w found applied late = IsGoodStore (reached found applied w.store) × AreExpected (reached found applied w.store) None (puts_in found ++ late)

about-left : (w : WorldValue) (put : Put) (applied : Bool) (late : List Put) (class : Option (List ℕ)) (run : List TranscriptEntry)
    → IsAboutToPut class w.core put run → IsGood w → AreExpected w.store w.core late → IsLeft w (Some put) applied late
about-left w put applied late class run about good e =
    let s = about.state in
    let up : IsFollowed w s = subst (λ (c : Option State). IfSome c (IsFollowed w)) about.up good.up in
    let here : AreExpected w.store (Some s) late = subst (λ (c : Option State). AreExpected w.store c late) about.up e in
    (reached_by (Some put) applied w s about.wants up good, stopped_by (Some put) w s applied late about.wants up here)

left-good : (w : WorldValue) (found : Option Put) (applied : Bool) (late : List Put) (class : Option (List ℕ)) (run : List TranscriptEntry)
    → ((put : Put) → found ≡ Some put → IsAboutToPut class w.core put run) → IsGood w → AreExpected w.store w.core late → IsLeft w found applied late
left-good w None applied late class run about good e = (good.stored, unclaimed w.store w.core late e)
left-good w (Some put) applied late class run about good e = about-left w put applied late class run (about put refl) good e

pub chains_are_safe : ChainsAreSafe
chains_are_safe store [] good all = good
chains_are_safe store (stage ∷ more) good all =
    let is : IsStage store stage = all.0 in
    let ex = is.explained good in
    let w0 = begun stage.class store stage.list in
    let w = ended_in stage store in
    let safe = runs_are_safe_in_worlds stage.class stage.run is.is_run is.typed store stage.list stage.moves ex in
    let shown : AllShowTerms (run_along stage.moves w0 []) =
    world-shown stage.class stage.run is.is_run is.typed store stage.list stage.moves ex in
    let begins : IsGood w0 = starts_are_good stage.class store stage.list ex.good ex.listed in
    let none = none-expected store w0.core in
    let good_end : IsGood w = good-moves stage.moves w0 [] [] ex.may shown begins none in
    let late_end = late-moves stage.moves w0 [] [] ex.may shown begins none in
    let left = left-good w (put_out stage.run) stage.applied (late_along stage.moves w0 []) stage.class stage.run safe.0.about good_end late_end in
    let down : IsGood (left_by stage store) = record { stored = left.0; up = tt } in
    let unshown : AllShowTerms (run_along stage.between (left_by stage store) []) = between-shown stage.between (left_by stage store) [] is.down tt in (
      record {
        run = safe.0;
        along = safe.1;
        behind = safe-along stage.between (left_by stage store) (late_left stage store) [] is.may unshown down left.1;
      },
      chains_are_safe (store_behind stage store) more
          (good-moves stage.between (left_by stage store) (late_left stage store) [] is.may unshown down left.1).stored all.1,
    )
