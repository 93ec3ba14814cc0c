-- What the words say is what is read of them.
use Rattle.std.proofs.Common.{◌≡◌, ℕ, ◌+◌, ◌^◌, ◌<◌, ◌≤◌, List, [], ◌∷◌, Option, Some, None, decimal, refl, sym, ap, ◌∙◌, arith, inl, inr}
use Rattle.std.specs.Prelude.{option_and_then}
use Rattle.std.specs.List.{AllByRecursion, AllZip}
use Rattle.std.specs.Option.{option_map, option_to_list}
use Rattle.command_options.specs.Options.{CommandOption}
use Rattle.command_options.specs.Values.{values_of, once, text_of, taken_in}
use Rattle.command_options.specs.Lanes.{LaneNames, LanesGiven, MayNameLanes, lanes_of}
use Rattle.command_options.proofs.Values.{folded, through, Reads, once-read, read-once, once-text, text-once}
use Rattle.command_options.proofs.NamedLanes.{given_lanes, given-lanes, named-give, give-named, named-lanes}
use Rattle.command_options.proofs.Tables.{Keeps, Table, Part, Gives, words-give, give-words, named-or, named-last, part-of-part}
use Rattle.controller_words.specs.Words.{AskedValue, Run, Trial, Lanes, Say, Ask, IsKnown, class_option}
use Rattle.controller_words.specs.Words.{trial_option, steps_option, config_option, service_option, most_steps}
use Rattle.controller_words.specs.Reading.{Given, nothing_given, seed_of, steps_of, with_lanes, with_option, asked_by, finished, asked_in, number_below}
use Rattle.controller_words.proofs.NumberTexts.{number-is, number-read}

-- ---- the table of the options
data Named : Type 0 where
  Class : Named
  Seed : Named
  Steps : Named
  Config : Named
  Service : Named

abbrev named : List Named
named = Class ∷ Seed ∷ Steps ∷ Config ∷ Service ∷ []

abbrev Value : Named → Type 0
Value Seed = Option ℕ
Value Steps = Option ℕ
Value Class = Option (List ℕ)
Value Config = Option (List ℕ)
Value Service = Option (List ℕ)

abbrev name : Named → List ℕ
name Class = class_option
name Seed = trial_option
name Steps = steps_option
name Config = config_option
name Service = service_option

abbrev part : (i : Named) → Given → Value i
part Class g = g.class
part Seed g = g.seed
part Steps g = g.steps
part Config g = g.lanes.first
part Service g = g.lanes.second

abbrev with_part : (i : Named) → Value i → Given → Given
with_part Class class g = record { class = class; seed = g.seed; steps = g.steps; lanes = g.lanes }
with_part Seed seed g = record { class = g.class; seed = seed; steps = g.steps; lanes = g.lanes }
with_part Steps steps g = record { class = g.class; seed = g.seed; steps = steps; lanes = g.lanes }
with_part Config file g = with_lanes (record { first = file; second = g.lanes.second }) g
with_part Service file g = with_lanes (record { first = g.lanes.first; second = file }) g

abbrev take : (i : Named) → List ℕ → Value i → Option (Value i)
take Class = once text_of
take Seed = once seed_of
take Steps = once steps_of
take Config = once text_of
take Service = once text_of

at : (i : Named) (P : Named → Type 0) → AllByRecursion P named → P i
at Class P ps = ps.0
at Seed P ps = ps.1.0
at Steps P ps = ps.1.1.0
at Config P ps = ps.1.1.1.0
at Service P ps = ps.1.1.1.1.0

taken : (i : Named) (value : List ℕ) (g : Given) → with_option (name i) value g ≡ option_map (λ a. with_part i a g) (take i value (part i g))
taken Class value g = refl
taken Seed value g = refl
taken Steps value g = refl
taken Config value g = part-of-part (λ lanes. with_lanes lanes g) (λ file. record { first = file; second = g.lanes.second }) (once text_of value g.lanes.first)
taken Service value g = part-of-part (λ lanes. with_lanes lanes g) (λ file. record { first = g.lanes.first; second = file }) (once text_of value g.lanes.second)

is : (o : CommandOption) (g h : Given) → with_option o.name o.value g ≡ Some h → IsKnown o
is o g h =
    named-or o.name class_option _ _ h
    (named-or o.name trial_option _ _ h (named-or o.name steps_option _ _ h (named-or o.name config_option _ _ h (named-last o.name service_option _ h))))

which : (o : CommandOption) → IsKnown o → (i : Named) × (o.name ≡ name i)
which o (inl is) = (Class, is)
which o (inr (inl is)) = (Seed, is)
which o (inr (inr (inl is))) = (Steps, is)
which o (inr (inr (inr (inl is)))) = (Config, is)
which o (inr (inr (inr (inr is)))) = (Service, is)

own : (i : Named) (a : Value i) (g : Given) → part i (with_part i a g) ≡ a
own Class a g = refl
own Seed a g = refl
own Steps a g = refl
own Config a g = refl
own Service a g = refl

others : (i : Named) (a : Value i) (g : Given) → AllByRecursion (Keeps IsKnown with_option named name part with_part take i a g) named
others Class a g = (inl refl, (inr (refl, refl), (inr (refl, refl), (inr (refl, refl), (inr (refl, refl), (tt))))))
others Seed a g = (inr (refl, refl), (inl refl, (inr (refl, refl), (inr (refl, refl), (inr (refl, refl), (tt))))))
others Steps a g = (inr (refl, refl), (inr (refl, refl), (inl refl, (inr (refl, refl), (inr (refl, refl), (tt))))))
others Config a g = (inr (refl, refl), (inr (refl, refl), (inr (refl, refl), (inl refl, (inr (refl, refl), (tt))))))
others Service a g = (inr (refl, refl), (inr (refl, refl), (inr (refl, refl), (inr (refl, refl), (inl refl, (tt))))))

same : (g h : Given) → ((i : Named) → part i g ≡ part i h) → g ≡ h
same g h is =
    ap (λ (x : Option (List ℕ)). with_part Class x g) (is Class)
    ∙ ap (λ (x : Option ℕ). with_part Class h.class (with_part Seed x g)) (is Seed)
    ∙ ap (λ (x : Option ℕ). with_part Class h.class (with_part Seed h.seed (with_part Steps x g))) (is Steps)
    ∙ ap (λ (x : Option (List ℕ)). with_lanes (record { first = x; second = g.lanes.second }) h) (is Config)
    ∙ ap (λ (x : Option (List ℕ)). with_lanes (record { first = h.lanes.first; second = x }) h) (is Service)

table : Table IsKnown with_option named name part with_part take
table = record { taken = taken; is = is; which = which; own = own; others = others; same = same }

abbrev Give : List CommandOption → Given → Given → Type 0
Give options g h = Gives IsKnown with_option named name part with_part take options g h

-- the values of the option give its part, where nothing was given before
abbrev Stands : List CommandOption → Given → Named → Type 0
Stands options h i = Part IsKnown with_option named name part with_part take options nothing_given h i

-- ---- what is given for what is asked for
abbrev given : AskedValue → Given
given (Run class) = record { class = class; seed = None; steps = None; lanes = given_lanes None }
given (Trial seed steps) = record { class = None; seed = Some seed; steps = Some steps; lanes = given_lanes None }
given (Lanes class files) = record { class = class; seed = None; steps = None; lanes = given_lanes (Some files) }

given-finished : (options : List CommandOption) (asked : AskedValue) → Ask options asked → finished (given asked) ≡ Some asked
given-finished options (Run class) ask = refl
given-finished options (Trial seed steps) ask = refl
given-finished options (Lanes class files) (classes, seeds, counts, lanes) =
    ap (option_and_then (asked_by class None None)) (named-lanes config_option service_option options (Some files) lanes)

asked-by : (class : Option (List ℕ)) (seed steps : Option ℕ) (lanes : Option LaneNames) (asked : AskedValue) → asked_by class seed steps lanes ≡ Some asked
    → record { class = class; seed = seed; steps = steps; lanes = given_lanes lanes } ≡ given asked
asked-by class None None None asked e = let same : Run class ≡ asked = cc in ap given same
asked-by class None None (Some files) asked e = let same : Lanes class files ≡ asked = cc in ap given same
asked-by class None (Some steps) lanes asked e = absurd (cc)
asked-by class (Some seed) None lanes asked e = absurd (cc)
asked-by None (Some seed) (Some steps) None asked e = let same : Trial seed steps ≡ asked = cc in ap given same
asked-by None (Some seed) (Some steps) (Some files) asked e = absurd (cc)
asked-by (Some class) (Some seed) (Some steps) lanes asked e = absurd (cc)

asked-of : (g : Given) (asked : AskedValue) → finished g ≡ Some asked → g ≡ given asked
asked-of g asked e =
    let (lanes, are, by) = through (asked_by g.class g.seed g.steps) (lanes_of g.lanes) asked e in
    ap (λ (x : LanesGiven). with_lanes x g) (given-lanes g.lanes lanes are) ∙ asked-by g.class g.seed g.steps lanes asked by

-- a value that stands once and reads as this number
number-once : (bound : ℕ) (values : List (List ℕ)) (n : ℕ) → folded (once (number_below bound)) values None ≡ Some (Some n)
    → (n < bound) × (values ≡ decimal n ∷ [])
number-once bound values n e = by values (once-read (number_below bound) values (Some n) e) where
  by : (values : List (List ℕ)) → AllZip (Reads (number_below bound)) values (n ∷ []) → (n < bound) × (values ≡ decimal n ∷ [])
  by [] zip = absurd zip
  by (value ∷ []) zip = let (below, writes) = number-is bound value n zip.0 in (below, ap (λ (v : List ℕ). v ∷ []) writes)
  by (value ∷ more ∷ values) zip = absurd zip.1

once-number : (bound : ℕ) (values : List (List ℕ)) (n : ℕ) → bound ≤ 2 ^ 64 → n < bound → values ≡ decimal n ∷ []
    → folded (once (number_below bound)) values None ≡ Some (Some n)
once-number bound values n wide below are =
    let read : number_below bound (decimal n) ≡ Some n = number-read bound (decimal n) n wide below refl in
    read-once (number_below bound) values (Some n) (rw are (read, tt))

-- no value reads as none
none-stand : {A : Type 0} (read : List ℕ → Option A) (values : List (List ℕ)) → folded (once read) values None ≡ Some None → values ≡ []
none-stand read values e = by values (once-read read values None e) where
  by : (values : List (List ℕ)) → AllZip (Reads read) values [] → values ≡ []
  by [] zip = refl
  by (value ∷ values) zip = absurd zip

stand-none : {A : Type 0} (read : List ℕ → Option A) (values : List (List ℕ)) → values ≡ [] → folded (once read) values None ≡ Some None
stand-none read values are = read-once read values None (rw are tt)

-- a run, over these lanes or with none over one stream
run-gives : (options : List CommandOption) (class : Option (List ℕ)) (lanes : Option LaneNames) → AllByRecursion IsKnown options
    → values_of class_option options ≡ option_to_list class → values_of trial_option options ≡ [] → values_of steps_option options ≡ []
    → MayNameLanes config_option service_option options lanes
    → Give options nothing_given (record { class = class; seed = None; steps = None; lanes = given_lanes lanes })
run-gives options class lanes known classes seeds counts files =
    let (config, service) = named-give config_option service_option options lanes files in
    record {
      known = known;
      parts = λ i. elim i as (Stands options (record { class = class; seed = None; steps = None; lanes = given_lanes lanes })) [
        | Class ↦ text-once (values_of class_option options) class classes
        | Seed ↦ stand-none seed_of (values_of trial_option options) seeds
        | Steps ↦ stand-none steps_of (values_of steps_option options) counts
        | Config ↦ config
        | Service ↦ service
      ];
    }

gives-run : (options : List CommandOption) (class : Option (List ℕ)) (lanes found : Option LaneNames)
    → Give options nothing_given (record { class = class; seed = None; steps = None; lanes = given_lanes lanes }) → lanes_of (given_lanes lanes) ≡ Some found
    → (values_of class_option options ≡ option_to_list class) × (values_of trial_option options ≡ []) × (values_of steps_option options ≡ [])
    × MayNameLanes config_option service_option options lanes
gives-run options class lanes found gives are = (
  once-text (values_of class_option options) class (gives.parts Class),
  none-stand seed_of (values_of trial_option options) (gives.parts Seed),
  none-stand steps_of (values_of steps_option options) (gives.parts Steps),
  give-named config_option service_option options lanes found (gives.parts Config, gives.parts Service) are,
)

ask-gives : (options : List CommandOption) (asked : AskedValue) → AllByRecursion IsKnown options → Ask options asked → Give options nothing_given (given asked)
ask-gives options (Run class) known (classes, seeds, counts, lanes) = run-gives options class None known classes seeds counts lanes
ask-gives options (Lanes class files) known (classes, seeds, counts, lanes) = run-gives options class (Some files) known classes seeds counts lanes
ask-gives options (Trial seed steps) known (classes, seeds, counts, wide, few, lanes) =
    let (config, service) = named-give config_option service_option options None lanes in
    record {
      known = known;
      parts = λ i. elim i as (Stands options (given (Trial seed steps))) [
        | Class ↦ text-once (values_of class_option options) None classes
        | Seed ↦ once-number (2 ^ 64) (values_of trial_option options) seed (omega arith) wide seeds
        | Steps ↦ once-number (most_steps + 1) (values_of steps_option options) steps (omega arith) (omega arith) counts
        | Config ↦ config
        | Service ↦ service
      ];
    }

gives-ask : (options : List CommandOption) (asked : AskedValue) → Give options nothing_given (given asked) → finished (given asked) ≡ Some asked
    → Ask options asked
gives-ask options (Run class) gives e = gives-run options class None None gives refl
gives-ask options (Lanes class files) gives e =
    let (found, are, by) = through (asked_by class None None) (lanes_of (given_lanes (Some files))) (Lanes class files) e in
    gives-run options class (Some files) found gives are
gives-ask options (Trial seed steps) gives e =
    let (wide, written) = number-once (2 ^ 64) (values_of trial_option options) seed (gives.parts Seed) in
    let (few, counted) = number-once (most_steps + 1) (values_of steps_option options) steps (gives.parts Steps) in (
      once-text (values_of class_option options) None (gives.parts Class),
      written,
      counted,
      wide,
      omega arith,
      give-named config_option service_option options None None (gives.parts Config, gives.parts Service) refl,
    )

-- ---- words
pub say-read : (words : List (List ℕ)) (asked : AskedValue) → Say words asked → asked_in words ≡ Some asked
say-read words asked say =
    ap (option_and_then finished)
    (give-words IsKnown with_option named name part with_part take at table words say.options nothing_given (given asked) say.spelled
    (ask-gives say.options asked say.known say.ask))
    ∙ given-finished say.options asked say.ask

pub read-say : (words : List (List ℕ)) (asked : AskedValue) → asked_in words ≡ Some asked → Say words asked
read-say words asked e =
    let (h, found, end) = through finished (taken_in with_option words nothing_given) asked e in
    let is : h ≡ given asked = asked-of h asked end in
    let (options, spelled, gives) =
    words-give IsKnown with_option named name part with_part take at table words nothing_given (given asked) (found ∙ ap (λ (x : Given). Some x) is) in
    record { options = options; spelled = spelled; known = gives.known; ask = gives-ask options asked gives (ap finished (sym is) ∙ end) }
