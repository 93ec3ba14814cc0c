-- The options that say a run, those that say a trial, and those that say a run over two lanes.
use Rattle.std.proofs.Common.{◌≡◌, ◌≢◌, ℕ, ◌<◌, ◌≤◌, ◌^◌, false, List, [], ◌∷◌, Option, Some, None, decimal, refl, ap, ◌∙◌, subst, sym, inl, inr, ◌⊎◌}
use Rattle.std.specs.Prelude.{map}
use Rattle.std.specs.List.{AllByRecursion}
use Rattle.std.specs.Str.{bytes_eq}
use Rattle.command_options.specs.Options.{CommandOption, AreOptions}
use Rattle.command_options.specs.Values.{values_of}
use Rattle.command_options.specs.Lanes.{LaneNames}
use Rattle.command_options.proofs.Tables.{values-own, values-other}
use Rattle.command_options.proofs.Values.{absent, of-values}
use Rattle.controller_words.specs.Words.{Run, Trial, Lanes, Say, IsKnown, AreTrial, AreLanes, RunsAreSaid, TrialsAreSaid, LanesAreSaid, option_of}
use Rattle.controller_words.specs.Words.{run_options, class_option, trial_option, steps_option, config_option, service_option, most_steps}

all-of : {A : Type 0} {P Q R : A → Type 0} → ((a : A) → P a → Q a → R a) → (xs : List A) → AllByRecursion P xs → AllByRecursion Q xs → AllByRecursion R xs
all-of each [] ps qs = tt
all-of each (x ∷ xs) ps qs = (each x ps.0 qs.0, all-of each xs ps.1 qs.1)

-- ---- options of some names
-- the option has none of these names
abbrev HasNone : List (List ℕ) → CommandOption → Type 0
HasNone names o = AllByRecursion (λ name. o.name ≢ name) names

-- options of these names don't stand
abbrev StandNone : List (List ℕ) → List CommandOption → Type 0
StandNone names options = AllByRecursion (λ name. values_of name options ≡ []) names

have-none : (names : List (List ℕ)) (options : List CommandOption) → StandNone names options → AllByRecursion (HasNone names) options
have-none [] options none = each options where
  each : (options : List CommandOption) → AllByRecursion (HasNone []) options
  each [] = tt
  each (o ∷ options) = (tt, each options)
have-none (name ∷ names) options none = all-of (λ o p q. (p, q)) options (absent name options none.0) (have-none names options none.1)

abbrev HasEither : List ℕ → List ℕ → CommandOption → Type 0
HasEither one other o = (o.name ≡ one) ⊎ (o.name ≡ other)

swapped : (one other : List ℕ) (options : List CommandOption) → AllByRecursion (HasEither one other) options → AllByRecursion (HasEither other one) options
swapped one other [] are = tt
swapped one other (o ∷ options) (inl is, are) = (inr is, swapped one other options are)
swapped one other (o ∷ options) (inr is, are) = (inl is, swapped one other options are)

is-other : (one other : List ℕ) (o : CommandOption) → HasEither one other o → o.name ≢ one → o.name ≡ other
is-other one other o (inl is) not = absurd (not is)
is-other one other o (inr is) not = is

-- the first option is the one, and the only other after it is the other
two-first : (one other x y : List ℕ) (o : CommandOption) (options : List CommandOption) → bytes_eq one other ≡ false → o.name ≡ one
    → AllByRecursion (HasEither one other) options
    → values_of one (o ∷ options) ≡ x ∷ [] → values_of other (o ∷ options) ≡ y ∷ [] → o ∷ options ≡ option_of one x ∷ option_of other y ∷ []
two-first one other x y o options differ is are ones others =
    subst (λ (n : List ℕ). values_of one (option_of n o.value ∷ options) ≡ x ∷ [] → values_of other (option_of n o.value ∷ options) ≡ y ∷ []
    → option_of n o.value ∷ options ≡ option_of one x ∷ option_of other y ∷ [])
    (sym is)
    (λ first second.
    let both : o.value ∷ values_of one options ≡ x ∷ [] = sym (values-own one o.value options) ∙ first in
    let value : o.value ≡ x = cc in
    let none : values_of one options ≡ [] = cc in
    let rest : values_of other options ≡ y ∷ [] = sym (values-other one other o.value options differ) ∙ second in
    let last : options ≡ option_of other y ∷ [] =
    of-values other options (all-of (is-other one other) options are (absent one options none)) ∙ ap (map (option_of other)) rest in
    ap (λ (v : List ℕ). option_of one v ∷ options) value ∙ ap (λ (os : List CommandOption). option_of one x ∷ os) last)
    ones others

abbrev AreTwo : List ℕ → List ℕ → List ℕ → List ℕ → List CommandOption → Type 0
AreTwo one other x y options = (options ≡ option_of one x ∷ option_of other y ∷ []) ⊎ (options ≡ option_of other y ∷ option_of one x ∷ [])

two-by : (one other x y : List ℕ) (o : CommandOption) (options : List CommandOption) → bytes_eq one other ≡ false → bytes_eq other one ≡ false
    → HasEither one other o → AllByRecursion (HasEither one other) options
    → values_of one (o ∷ options) ≡ x ∷ [] → values_of other (o ∷ options) ≡ y ∷ [] → AreTwo one other x y (o ∷ options)
two-by one other x y o options differ apart (inl is) are ones others = inl (two-first one other x y o options differ is are ones others)
two-by one other x y o options differ apart (inr is) are ones others =
    inr (two-first other one y x o options apart is (swapped one other options are) others ones)

-- options of two names, of which one of each stands, are these two in either order
two-options : (one other x y : List ℕ) (options : List CommandOption) → bytes_eq one other ≡ false → bytes_eq other one ≡ false
    → AllByRecursion (HasEither one other) options → values_of one options ≡ x ∷ [] → values_of other options ≡ y ∷ [] → AreTwo one other x y options
two-options one other x y [] differ apart are ones others = absurd (let wrong : [] ≡ x ∷ [] = ones in cc)
two-options one other x y (o ∷ options) differ apart are ones others = two-by one other x y o options differ apart are.0 are.1 ones others

abbrev AreSpelled : List ℕ → List ℕ → List ℕ → List ℕ → List (List ℕ) → Type 0
AreSpelled one other x y words = AreOptions (option_of one x ∷ option_of other y ∷ []) words ⊎ AreOptions (option_of other y ∷ option_of one x ∷ []) words

two-spelled : (one other x y : List ℕ) (options : List CommandOption) (words : List (List ℕ)) → AreOptions options words → AreTwo one other x y options
    → AreSpelled one other x y words
two-spelled one other x y options words spelled (inl are) = inl (subst (λ (os : List CommandOption). AreOptions os words) are spelled)
two-spelled one other x y options words spelled (inr are) = inr (subst (λ (os : List CommandOption). AreOptions os words) are spelled)

-- ---- options of the table
is-class : (o : CommandOption) → IsKnown o → HasNone (trial_option ∷ steps_option ∷ config_option ∷ service_option ∷ []) o → o.name ≡ class_option
is-class o (inl is) (trial, (steps, (config, (service, end)))) = is
is-class o (inr (inl is)) (trial, (steps, (config, (service, end)))) = absurd (trial is)
is-class o (inr (inr (inl is))) (trial, (steps, (config, (service, end)))) = absurd (steps is)
is-class o (inr (inr (inr (inl is)))) (trial, (steps, (config, (service, end)))) = absurd (config is)
is-class o (inr (inr (inr (inr is)))) (trial, (steps, (config, (service, end)))) = absurd (service is)

is-trial : (o : CommandOption) → IsKnown o → HasNone (class_option ∷ config_option ∷ service_option ∷ []) o → HasEither trial_option steps_option o
is-trial o (inl is) (class, (config, (service, end))) = absurd (class is)
is-trial o (inr (inl is)) (class, (config, (service, end))) = inl is
is-trial o (inr (inr (inl is))) (class, (config, (service, end))) = inr is
is-trial o (inr (inr (inr (inl is)))) (class, (config, (service, end))) = absurd (config is)
is-trial o (inr (inr (inr (inr is)))) (class, (config, (service, end))) = absurd (service is)

is-lane : (o : CommandOption) → IsKnown o → HasNone (class_option ∷ trial_option ∷ steps_option ∷ []) o → HasEither config_option service_option o
is-lane o (inl is) (class, (trial, (steps, end))) = absurd (class is)
is-lane o (inr (inl is)) (class, (trial, (steps, end))) = absurd (trial is)
is-lane o (inr (inr (inl is))) (class, (trial, (steps, end))) = absurd (steps is)
is-lane o (inr (inr (inr (inl is)))) (class, (trial, (steps, end))) = inl is
is-lane o (inr (inr (inr (inr is)))) (class, (trial, (steps, end))) = inr is

-- known options, of which none of these names stands, are each what is left
left : {P : CommandOption → Type 0} (names : List (List ℕ)) → ((o : CommandOption) → IsKnown o → HasNone names o → P o) → (options : List CommandOption)
    → AllByRecursion IsKnown options → StandNone names options → AllByRecursion P options
left names is options known none = all-of is options known (have-none names options none)

-- ---- a run
says-run : (words : List (List ℕ)) (class : Option (List ℕ)) → Say words (Run class) → AreOptions (run_options class) words
says-run words class say =
    let (classes, seeds, counts, (config, service)) = say.ask in
    let each =
    left (trial_option ∷ steps_option ∷ config_option ∷ service_option ∷ []) is-class say.options say.known (seeds, (counts, (config, (service, tt)))) in
    subst (λ (os : List CommandOption). AreOptions os words) (of-values class_option say.options each ∙ ap (map (option_of class_option)) classes) say.spelled

run-says : (words : List (List ℕ)) (class : Option (List ℕ)) → AreOptions (run_options class) words → Say words (Run class)
run-says words None are = record { options = []; spelled = are; known = tt; ask = (refl, refl, refl, (refl, refl)) }
run-says words (Some class) are =
    record { options = option_of class_option class ∷ []; spelled = are; known = (inl refl, tt); ask = (refl, refl, refl, (refl, refl)) }

pub runs_are_said : RunsAreSaid
runs_are_said words class = (says-run words class, run-says words class)

-- ---- a trial
says-trial : (words : List (List ℕ)) (seed steps : ℕ) → Say words (Trial seed steps) → (seed < 2 ^ 64) × (steps ≤ most_steps) × AreTrial words seed steps
says-trial words seed steps say =
    let (classes, seeds, counts, wide, few, (config, service)) = say.ask in
    let each = left (class_option ∷ config_option ∷ service_option ∷ []) is-trial say.options say.known (classes, (config, (service, tt))) in
    let two = two-options trial_option steps_option (decimal seed) (decimal steps) say.options refl refl each seeds counts in
    (wide, few, two-spelled trial_option steps_option (decimal seed) (decimal steps) say.options words say.spelled two)

trial-says : (words : List (List ℕ)) (seed steps : ℕ) → seed < 2 ^ 64 → steps ≤ most_steps → AreTrial words seed steps → Say words (Trial seed steps)
trial-says words seed steps wide few (inl are) = record {
  options = option_of trial_option (decimal seed) ∷ option_of steps_option (decimal steps) ∷ [];
  spelled = are;
  known = (inr (inl refl), (inr (inr (inl refl)), tt));
  ask = (refl, refl, refl, wide, few, (refl, refl));
}
trial-says words seed steps wide few (inr are) = record {
  options = option_of steps_option (decimal steps) ∷ option_of trial_option (decimal seed) ∷ [];
  spelled = are;
  known = (inr (inr (inl refl)), (inr (inl refl), tt));
  ask = (refl, refl, refl, wide, few, (refl, refl));
}

pub trials_are_said : TrialsAreSaid
trials_are_said words seed steps = (says-trial words seed steps, λ (wide, few, are). trial-says words seed steps wide few are)

-- ---- a run over two lanes
says-lanes : (words : List (List ℕ)) (files : LaneNames) → Say words (Lanes None files) → (files.first ≢ files.second) × AreLanes words files
says-lanes words files say =
    let (classes, seeds, counts, (config, service, apart)) = say.ask in
    let each = left (class_option ∷ trial_option ∷ steps_option ∷ []) is-lane say.options say.known (classes, (seeds, (counts, tt))) in
    let two = two-options config_option service_option files.first files.second say.options refl refl each config service in
    (apart, two-spelled config_option service_option files.first files.second say.options words say.spelled two)

lanes-say : (words : List (List ℕ)) (files : LaneNames) → files.first ≢ files.second → AreLanes words files → Say words (Lanes None files)
lanes-say words files apart (inl are) = record {
  options = option_of config_option files.first ∷ option_of service_option files.second ∷ [];
  spelled = are;
  known = (inr (inr (inr (inl refl))), (inr (inr (inr (inr refl))), tt));
  ask = (refl, refl, refl, (refl, refl, apart));
}
lanes-say words files apart (inr are) = record {
  options = option_of service_option files.second ∷ option_of config_option files.first ∷ [];
  spelled = are;
  known = (inr (inr (inr (inr refl))), (inr (inr (inr (inl refl))), tt));
  ask = (refl, refl, refl, (refl, refl, apart));
}

pub lanes_are_said : LanesAreSaid
lanes_are_said words files = (says-lanes words files, λ (apart, are). lanes-say words files apart are)
