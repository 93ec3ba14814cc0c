-- What contracts see of a board.
use Rattle.std.specs.Prelude.{◌≡◌, List, [], ◌∷◌, ◌++◌, map, Result, MatchResult}

-- the writer
pub record Boarded (E : Type 0) : Type 0 where
  -- the events that a responder may see
  pub published : List E
  -- those that none sees yet
  pub pending : List E

-- the responder
pub record Sight (E : Type 0) : Type 0 where
  -- the events that it has seen
  pub seen : List E
  -- the most that it was told of
  pub told : List E

-- an event, with the list that it ends
pub record Ending (E : Type 0) : Type 0 where
  pub event : E
  pub front : List E

-- the list ends by the event
abbrev pub EndsBy : {E : Type 0} → List E → E → Type 0
EndsBy {E} front event = (earlier : List E) × (front ≡ earlier ++ event ∷ [])

-- one event more
abbrev pub with_event : {E : Type 0} → List E → Ending E → List E
with_event list ending = list ++ ending.event ∷ []

abbrev pub events_of : {E : Type 0} → List (Ending E) → List E
events_of endings = map (λ ending. ending.event) endings

-- all that was behind is published, or all stays
abbrev pub Publishes : {E X Y : Type 0} → Result X Y → List E → List (Ending E) → List E → List (Ending E) → Type 0
Publishes result published behind published' behind' =
    MatchResult result (λ _. (published' ≡ published ++ events_of behind) × (behind' ≡ [])) (λ _. (published' ≡ published) × (behind' ≡ behind))
