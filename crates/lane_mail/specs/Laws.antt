-- What holds of the lists of two lanes.
use Rattle.std.specs.Prelude.{◌≡◌, List, All}
use Rattle.lane_mail.specs.declared.lane.Lane.{Lane}
use Rattle.lane_mail.specs.declared.lane.Lane.TheVariants.{First, Second}
use Rattle.lane_mail.specs.Lanes.{of_lane}
use Rattle.lane_mail.specs.Merges.{IsMerge}

-- a list is a merge of what it has of each lane
abbrev pub LanesAreMerged : Type 0 → Type 0
LanesAreMerged T = (lane_of : T → Lane) (list : List T) → IsMerge list (of_lane lane_of First list) (of_lane lane_of Second list)

-- and where it is a merge of two lists, each of one lane, it has just them
abbrev pub MergesAreSplit : Type 0 → Type 0
MergesAreSplit T =
    (lane_of : T → Lane) (list firsts seconds : List T) → All (λ x. lane_of x ≡ First) firsts → All (λ x. lane_of x ≡ Second) seconds
    → IsMerge list firsts seconds → (of_lane lane_of First list ≡ firsts) × (of_lane lane_of Second list ≡ seconds)
