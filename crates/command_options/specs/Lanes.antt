-- The files of a program's two lanes, each named by the value of an option.
use Rattle.std.specs.Prelude.{◌≡◌, ◌≢◌, ℕ, if◌then◌else◌, List, [], ◌∷◌, Option, Some, None}
use Rattle.std.specs.Option.{option_map}
use Rattle.std.specs.Str.{bytes_eq}
use Rattle.command_options.specs.Options.{CommandOption}
use Rattle.command_options.specs.Values.{values_of, once, text_of}
use Rattle.command_options.specs.declared.lanes.LaneFiles.{LaneFiles}
use Rattle.command_options.specs.declared.lanes.GivenLanes.{GivenLanes}

-- the names of the two files
pub record LaneNames : Type 0 where
  pub first : List ℕ
  pub second : List ℕ

-- the options of these names stand once each, and their values are just the names of the files, which differ
abbrev pub NameLanes : List ℕ → List ℕ → List CommandOption → LaneNames → Type 0
NameLanes first second options files =
    (values_of first options ≡ files.first ∷ []) × (values_of second options ≡ files.second ∷ []) × (files.first ≢ files.second)

-- neither option stands
abbrev pub NameNoLanes : List ℕ → List ℕ → List CommandOption → Type 0
NameNoLanes first second options = (values_of first options ≡ []) × (values_of second options ≡ [])

-- both options stand and name the files, or with no files neither stands
abbrev pub MayNameLanes : List ℕ → List ℕ → List CommandOption → Option LaneNames → Type 0
MayNameLanes first second options None = NameNoLanes first second options
MayNameLanes first second options (Some files) = NameLanes first second options files

-- ---- the files as a function of what the options said
-- two files where both are named and the names differ, and none where none is named
abbrev pub lanes_by : Option (List ℕ) → Option (List ℕ) → Option (Option LaneNames)
lanes_by None None = Some None
lanes_by None (Some second) = None
lanes_by (Some first) None = None
lanes_by (Some first) (Some second) = if bytes_eq first second then None else Some (Some (record { first = first; second = second }))

-- what options said so far
pub record LanesGiven : Type 0 where
  pub first : Option (List ℕ)
  pub second : Option (List ℕ)

abbrev pub no_lanes : LanesGiven
no_lanes = record { first = None; second = None }

abbrev pub with_first : List ℕ → LanesGiven → Option LanesGiven
with_first name g = option_map (λ first. record { first = first; second = g.second }) (once text_of name g.first)

abbrev pub with_second : List ℕ → LanesGiven → Option LanesGiven
with_second name g = option_map (λ second. record { first = g.first; second = second }) (once text_of name g.second)

abbrev pub lanes_of : LanesGiven → Option (Option LaneNames)
lanes_of g = lanes_by g.first g.second

-- ---- the files as contracts see them
abbrev pub lane_seen : LaneFiles → LaneNames
lane_seen files = record { first = files.first.now; second = files.second.now }

abbrev pub given_seen : GivenLanes → LanesGiven
given_seen g = record { first = option_map (λ t. t.now) g.first; second = option_map (λ t. t.now) g.second }
