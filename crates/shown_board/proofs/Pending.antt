-- What is published, and what is pending by the operations after that.
use Rattle.std.proofs.Common.{◌≡◌, List, [], ◌∷◌, ◌++◌, sym, ap, ◌∙◌, append_assoc, Result, Ok, Err, MatchResult, fold}
use Rattle.std.proofs.lemmas.List.{append-nil, map-append}
use Rattle.shown_board.specs.Boarded.{Boarded, Ending, Publishes, events_of}

-- an operation more
pub events-more : {E : Type 0} (endings : List (Ending E)) (ending : Ending E) → events_of (endings ++ ending ∷ []) ≡ events_of endings ++ ending.event ∷ []
events-more endings ending = map-append (λ (e : Ending _). e.event) endings (ending ∷ [])

-- the whole list has its event, too
pub whole-more : {E : Type 0} (published : List E) (endings : List (Ending E)) (ending : Ending E) (whole longer : List E)
    → published ++ events_of endings ≡ whole → longer ≡ whole ++ ending.event ∷ []
    → published ++ events_of (endings ++ ending ∷ []) ≡ longer
whole-more {E} published endings ending whole longer all more =
    ap (λ (events : List E). published ++ events) (events-more endings ending)
    ∙ sym (append_assoc published (events_of endings) (ending.event ∷ []))
    ∙ ap (λ (events : List E). events ++ ending.event ∷ []) all
    ∙ sym more

module _ {E X Y : Type 0} (published : List E) (behind : List (Ending E)) (published' : List E) (behind' : List (Ending E)) where
  -- the whole list stays as what is behind is published
  pub whole-stays : (result : Result X Y) → Publishes result published behind published' behind'
      → published' ++ events_of behind' ≡ published ++ events_of behind
  whole-stays (Ok x) done =
      ap (λ (endings : List (Ending E)). published' ++ events_of endings) done.1 ∙ append-nil published' ∙ done.0
  whole-stays (Err y) same = rw (same.0, same.1)

  -- what a contract sees of it
  pub published-by : (result : Result X Y) → Publishes result published behind published' behind'
      → MatchResult result (λ _. (published' ≡ published ++ events_of behind) × (events_of behind' ≡ []))
      (λ _. ◌≡◌ {A = Boarded E} (record { published = published'; pending = events_of behind' })
      (record { published = published; pending = events_of behind }))
  published-by (Ok x) done = (done.0, ap (λ (endings : List (Ending E)). events_of endings) done.1)
  published-by (Err y) same = λ i. record { published = same.0 i; pending = events_of (same.1 i) }

-- what a writer publishes, its value lists
pub publishes-by : {E V S X Y : Type 0} (list : V → List E) (state : V → S) (applied : S → Ending E → S)
    (takes_in : (old new : V) (endings : List (Ending E)) → state new ≡ fold applied (state old) endings → list new ≡ list old ++ events_of endings)
    (value value' : V) (behind behind' : List (Ending E)) (result : Result X Y)
    → MatchResult result (λ _. (state value' ≡ fold applied (state value) behind) × (behind' ≡ [])) (λ _. (value' ≡ value) × (behind' ≡ behind))
    → Publishes result (list value) behind (list value') behind'
publishes-by list state applied takes_in value value' behind behind' (Ok x) done = (takes_in value value' behind done.0, done.1)
publishes-by list state applied takes_in value value' behind behind' (Err y) same = (ap list same.0, same.1)
