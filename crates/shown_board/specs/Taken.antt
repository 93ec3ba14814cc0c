-- Events that are taken in one after the other stand after the list.
use Rattle.std.proofs.Common.{◌≡◌, List, [], ◌∷◌, ◌++◌, fold, sym, ◌∙◌, append_assoc}
use Rattle.std.proofs.lemmas.List.{append-nil}
use Rattle.shown_board.specs.Boarded.{Ending, with_event, events_of}

pub taken_in : {E : Type 0} (list : List E) (endings : List (Ending E)) → fold with_event list endings ≡ list ++ events_of endings
taken_in list [] = sym (append-nil list)
taken_in list (ending ∷ endings) = taken_in (list ++ ending.event ∷ []) endings ∙ append_assoc list (ending.event ∷ []) (events_of endings)

pub all_taken : {E : Type 0} (old new : List E) (endings : List (Ending E)) → new ≡ fold with_event old endings → new ≡ old ++ events_of endings
all_taken old new endings is = is ∙ taken_in old endings
