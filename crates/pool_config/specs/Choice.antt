-- Which pools an advertisement chooses, and which nodes it, or a peer, selects.
use Rattle.std.specs.Prelude.{◌≡◌, ℕ, Bool, ◌&&◌, ◌||◌, List, [], ◌⊎◌, IsTrue}
use Rattle.kube_labels.specs.SelectorValue.{SelectorValue}
use Rattle.kube_labels.specs.Selectors.{matches, any_matches}
use Rattle.mlb_base.specs.Items.{Has, IsIn, is_nil}
use Rattle.kube_labels.specs.Names.{has_text}

-- an advertisement with these pool names and pool selectors chooses the pool of this name and these labels: it names it, or one of
-- its pool selectors matches the labels; where it has neither, it chooses every pool
abbrev pub Chooses : List (List ℕ) → List SelectorValue → List ℕ → List (List ℕ × List ℕ) → Type 0
Chooses names selectors name labels =
    IsIn names name ⊎ Has (λ selector. IsTrue (matches selector labels)) selectors ⊎ ((names ≡ []) × (selectors ≡ []))

-- the same as a test
abbrev pub chooses : List (List ℕ) → List SelectorValue → List ℕ → List (List ℕ × List ℕ) → Bool
chooses names selectors name labels =
    has_text names name || (any_matches selectors labels || (is_nil names && is_nil selectors))

-- node selectors select the node of these labels: one of them matches, or there is none
abbrev pub Selects : List SelectorValue → List (List ℕ × List ℕ) → Type 0
Selects selectors labels = Has (λ selector. IsTrue (matches selector labels)) selectors ⊎ (selectors ≡ [])

-- the same as a test
abbrev pub selects : List SelectorValue → List (List ℕ × List ℕ) → Bool
selects selectors labels = any_matches selectors labels || is_nil selectors
