-- What the options of two lanes' files give.
use Rattle.std.proofs.Common.{◌≡◌, ◌≢◌, ℕ, Bool, true, false, cond, List, Option, Some, None, refl, sym, ap, ◌∙◌}
use Rattle.std.specs.Str.{bytes_eq}
use Rattle.std.proofs.lemmas.Bool.{false_from_ne_true}
use Rattle.std.proofs.lemmas.Slice.Eq.{bytes_eq-Decides}
use Rattle.command_options.specs.Options.{CommandOption}
use Rattle.command_options.specs.Values.{values_of, once, text_of}
use Rattle.command_options.specs.Lanes.{LaneNames, LanesGiven, MayNameLanes, lanes_by, lanes_of, no_lanes}
use Rattle.command_options.proofs.Values.{folded, once-text, text-once}

-- what was given where both files are named, or none is
abbrev pub given_lanes : Option LaneNames → LanesGiven
given_lanes None = no_lanes
given_lanes (Some files) = record { first = Some files.first; second = Some files.second }

by-bytes : (first second : List ℕ) (lanes : Option LaneNames) (b : Bool) → bytes_eq first second ≡ b
    → cond b None (Some (Some (record { first = first; second = second }))) ≡ Some lanes
    → (record { first = Some first; second = Some second } ≡ given_lanes lanes) × (first ≢ second)
by-bytes first second lanes true t e = absurd (cc)
by-bytes first second lanes false t e =
    let same : Some (record { first = first; second = second }) ≡ lanes = cc in
    (ap given_lanes same, λ is. let named : true ≡ false = sym ((bytes_eq-Decides first second).1 is) ∙ t in absurd (cc))

given-by : (first second : Option (List ℕ)) (lanes : Option LaneNames) → lanes_by first second ≡ Some lanes
    → record { first = first; second = second } ≡ given_lanes lanes
given-by None None lanes e = let same : None ≡ lanes = cc in ap given_lanes same
given-by None (Some second) lanes e = absurd (cc)
given-by (Some first) None lanes e = absurd (cc)
given-by (Some first) (Some second) lanes e = (by-bytes first second lanes (bytes_eq first second) refl e).0

-- what gives the files is just their names
pub given-lanes : (g : LanesGiven) (lanes : Option LaneNames) → lanes_of g ≡ Some lanes → g ≡ given_lanes lanes
given-lanes g lanes e = given-by g.first g.second lanes e

-- after nothing, the options of these names give the files
abbrev pub GiveLanes : List ℕ → List ℕ → List CommandOption → Option LaneNames → Type 0
GiveLanes first second options lanes =
    (folded (once text_of) (values_of first options) None ≡ Some (given_lanes lanes).first)
    × (folded (once text_of) (values_of second options) None ≡ Some (given_lanes lanes).second)

pub named-give : (first second : List ℕ) (options : List CommandOption) (lanes : Option LaneNames) → MayNameLanes first second options lanes
    → GiveLanes first second options lanes
named-give first second options None (none, nothing) = (text-once (values_of first options) None none, text-once (values_of second options) None nothing)
named-give first second options (Some files) (one, other, apart) =
    (text-once (values_of first options) (Some files.first) one, text-once (values_of second options) (Some files.second) other)

-- files that were given are named, where they are files at all
pub give-named : (first second : List ℕ) (options : List CommandOption) (lanes found : Option LaneNames) → GiveLanes first second options lanes
    → lanes_of (given_lanes lanes) ≡ Some found → MayNameLanes first second options lanes
give-named first second options None found (none, nothing) e =
    (once-text (values_of first options) None none, once-text (values_of second options) None nothing)
give-named first second options (Some files) found (one, other) e = (
  once-text (values_of first options) (Some files.first) one,
  once-text (values_of second options) (Some files.second) other,
  (by-bytes files.first files.second found (bytes_eq files.first files.second) refl e).1,
)

-- the names that the options have give these files
pub named-lanes : (first second : List ℕ) (options : List CommandOption) (lanes : Option LaneNames) → MayNameLanes first second options lanes
    → lanes_of (given_lanes lanes) ≡ Some lanes
named-lanes first second options None named = refl
named-lanes first second options (Some files) (one, other, apart) =
    let differ : bytes_eq files.first files.second ≡ false = false_from_ne_true _ (λ t. apart ((bytes_eq-Decides files.first files.second).0 t)) in
    rw differ refl
