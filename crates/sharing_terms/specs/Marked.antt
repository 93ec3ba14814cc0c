-- Which terms there are, and which text is the mark of which.
use Rattle.std.specs.Prelude.{◌≡◌, ℕ, ◌<◌, List, ⊤}
use Rattle.std.specs.List.{AllByRecursion}
use Rattle.std.specs.Str.{IsUtf8}
use Rattle.kube_labels.specs.Pairs.{IsAscending}
use Rattle.kube_model.specs.declared.port.Port.{Port}
use Rattle.sharing_terms.specs.declared.terms.Terms.{Terms}
use Rattle.sharing_terms.specs.declared.terms.Backend.{Backend}
use Rattle.sharing_terms.specs.declared.terms.Backend.TheVariants.{Cluster, Local}
use Rattle.sharing_terms.specs.Marks.{mark_of}
use Rattle.sharing_terms.specs.Ports.{AreAscending}

-- each number has 16 bits
abbrev pub AreSmall : List Port → Type 0
AreSmall ports = AllByRecursion (λ p. p.port < 65536) ports

-- each name and each value is a text
abbrev pub AreTexts : List (List ℕ × List ℕ) → Type 0
AreTexts pairs = AllByRecursion (λ p. IsUtf8 p.0 × IsUtf8 p.1) pairs

-- the namespace and the pairs are texts, and the pairs ascend by their names
abbrev pub IsBackend : Backend → Type 0
IsBackend Cluster = ⊤
IsBackend (Local namespace selector) = IsUtf8 namespace × IsAscending selector × AreTexts selector

-- What each value of the type is: its texts are texts, and its ports and pairs ascend.
pub record AreTerms (t : Terms) : Type 0 where
  pub key : IsUtf8 t.key
  pub ports : AreAscending t.ports
  pub numbers : AreSmall t.ports
  pub backend : IsBackend t.backend

-- The text is the mark of the terms.
pub record IsMarkOf (t : Terms) (text : List ℕ) : Type 0 where
  pub terms : AreTerms t
  pub mark : mark_of t ≡ text
