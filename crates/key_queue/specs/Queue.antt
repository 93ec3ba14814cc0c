-- Lists of keys in which each key stands once.
use Rattle.std.specs.Prelude.{◌≡◌, Bool, false, if◌then◌else◌, List, [], ◌∷◌, ◌++◌, fold, reverse}
use Rattle.std.specs.List.{list_any, AllByRecursion, IsDistinct}

-- the keys of a queue, of which those at the front are kept in reverse
abbrev pub in_order : {K : Type 0} → List K → List K → List K
in_order front back = reverse front ++ back

module _ {K : Type 0} (eq : K → K → Bool) where
  -- the keys after this one came: it goes to the back, where it isn't among them
  abbrev pub queued : List K → K → List K
  queued keys key = if list_any (eq key) keys then keys else keys ++ key ∷ []

  -- the keys after each of these came in turn
  abbrev pub queued_all : List K → List K → List K
  queued_all keys more = fold queued keys more

  -- each key stands once: none is equal to a later one
  abbrev pub AreDistinct : List K → Type 0
  AreDistinct keys = IsDistinct eq keys

  -- more keys, each once, of which none is among the keys
  pub record AreNew (keys more : List K) : Type 0 where
    pub absent : AllByRecursion (λ k. list_any (eq k) keys ≡ false) more
    pub distinct : AreDistinct more
