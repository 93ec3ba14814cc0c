-- The rule of the list: its word is the number of its entries.
use Rattle.std.specs.Prelude.{◌≡◌, ℕ, ◌==◌, true, List, [], ◌∷◌, ◌++◌, length, ⊤, MatchBool}
use Rattle.logbook.specs.Pages.{Cell, Step, View, Book, Named}

-- a book has two words, of which the second stays at 0
abbrev pub IsCounted : {E : Type 0} → List Cell → List E → Type 0
IsCounted cells log = cells ≡ (length log, true) ∷ (0, true) ∷ []

abbrev pub word_of : Book → Named
word_of b = record { tracked = true; key = 0; book = b }

-- the entry was added to all that had been seen; or the list was longer
abbrev pub Adds : {E : Type 0} → Step E → View E ℕ → ℕ → View E ℕ → Type 0
Adds s v found w = MatchBool (found == s.old) (w.0 ≡ v.0 ++ s.ask ∷ []) ⊤
