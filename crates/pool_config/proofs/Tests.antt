-- Tests, and what they decide.
use Rattle.std.proofs.Common.{◌≡◌, ℕ, Bool, true, List, Decides}
use Rattle.std.proofs.lemmas.Bool.Decides.{Decides-and, Decides-or, Decides-at}
use Rattle.std.proofs.lemmas.Slice.Eq.{bytes_eq-Decides}
use Rattle.std.specs.Str.{bytes_eq}
use Rattle.kube_labels.specs.SelectorValue.{SelectorValue}
use Rattle.kube_labels.specs.Selectors.{matches}
use Rattle.mlb_base.specs.Items.{IsIn}
use Rattle.mlb_base.proofs.Lists.{Decides-has, Decides-nil}
use Rattle.mlb_base.proofs.Bools.{Decides-itself}
use Rattle.kube_labels.specs.Names.{has_text}
use Rattle.pool_config.specs.Choice.{Chooses, chooses, Selects, selects}

pub Decides-in : (xs : List (List ℕ)) (t : List ℕ) → Decides (has_text xs t) (IsIn xs t)
Decides-in xs t = Decides-has (λ y. bytes_eq y t) (λ y. y ≡ t) (λ y. bytes_eq-Decides y t) xs

pub chooses-Decides : (names : List (List ℕ)) (selectors : List SelectorValue) (name : List ℕ) (labels : List (List ℕ × List ℕ))
    → Decides (chooses names selectors name labels) (Chooses names selectors name labels)
chooses-Decides names selectors name labels =
    let h = Decides-or _ _ (Decides-in names name) (Decides-or _ _ (Decides-has (λ s. matches s labels) (λ s. matches s labels ≡ true) (λ s. Decides-itself _)
    selectors) (Decides-and _ _ (Decides-nil names) (Decides-nil selectors))) in
    h

pub selects-Decides : (selectors : List SelectorValue) (labels : List (List ℕ × List ℕ)) → Decides (selects selectors labels) (Selects selectors labels)
selects-Decides selectors labels =
    Decides-or _ _ (Decides-has (λ s. matches s labels) (λ s. matches s labels ≡ true) (λ s. Decides-itself _) selectors) (Decides-nil selectors)

pub chosen : (names : List (List ℕ)) (selectors : List SelectorValue) (name : List ℕ) (labels : List (List ℕ × List ℕ)) (r : Bool)
    → r ≡ chooses names selectors name labels → Decides r (Chooses names selectors name labels)
chosen names selectors name labels r e = Decides-at _ _ e (chooses-Decides names selectors name labels)

pub selected : (selectors : List SelectorValue) (labels : List (List ℕ × List ℕ)) (r : Bool) → r ≡ selects selectors labels
    → Decides r (Selects selectors labels)
selected selectors labels r e = Decides-at _ _ e (selects-Decides selectors labels)
