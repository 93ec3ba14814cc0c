-- What the words ask for is found where they are of the table, and nowhere else.
use Rattle.std.proofs.Common.{◌≡◌, ◌⊎◌, inl, inr, ℕ, List, [], ◌∷◌, Bool, true, false, Option, Some, None, refl, sym, ap, ◌∙◌, codes}
use Rattle.std.specs.Prelude.{OnSome, IfSome, IfNone, if◌then◌else◌}
use Rattle.std.specs.Str.{bytes_eq}
use Rattle.std.proofs.lemmas.Bool.{true≢false}
use Rattle.std.proofs.lemmas.Slice.Eq.{bytes_eq-Decides}
use Rattle.pool_config.specs.Objects.{no_objects}
use Rattle.admit_run.specs.declared.work.Work.{Work}
use Rattle.admit_run.specs.declared.work.Work.TheVariants.{Judging, Explaining}
use Rattle.admit_run.specs.Words.{AskAnswers, AskExplained, AreKnown, begun_by, asked_by}

-- these are known words, and ask for this
abbrev Asks : List (List ℕ) → Work → Type 0
Asks words work = AreKnown words × (work ≡ begun_by words)

abbrev if_explained : Bool → Option Work
if_explained b = if b then Some Explaining else None

first_word : (w v : List ℕ) (more : List (List ℕ)) → w ∷ more ≡ v ∷ [] → w ≡ v
first_word w v more e = cc

asks_one : (word : List ℕ) (b : Bool) → bytes_eq word (codes "--explain") ≡ b → (work : Work) → Some work ≡ if_explained b → Asks (word ∷ []) work
asks_one word true is work e =
    (inr (ap (λ (w : List ℕ). w ∷ []) ((bytes_eq-Decides word (codes "--explain")).0 is)), cc)
asks_one word false is work e = absurd (cc)

asks_where : (words : List (List ℕ)) (work : Work) → Some work ≡ asked_by words → Asks words work
asks_where [] work e = (inl refl, cc)
asks_where (word ∷ []) work e = asks_one word (bytes_eq word (codes "--explain")) refl work e
asks_where (word ∷ other ∷ more) work e = absurd (cc)

pub known_where : (words : List (List ℕ)) (found : Option Work) → found ≡ asked_by words → OnSome found (AreKnown words)
known_where words None e = tt
known_where words (Some work) e = (asks_where words work e).0

pub begun_where : (words : List (List ℕ)) (found : Option Work) → found ≡ asked_by words → IfSome found (λ work. work ≡ begun_by words)
begun_where words None e = tt
begun_where words (Some work) e = (asks_where words work e).1

one_unknown : (word : List ℕ) (b : Bool) → bytes_eq word (codes "--explain") ≡ b → None ≡ if_explained b → AskExplained (word ∷ []) → ⊥
one_unknown word true is e ask = cc
one_unknown word false is e ask =
    true≢false (sym ((bytes_eq-Decides word (codes "--explain")).1 (first_word word (codes "--explain") [] ask)) ∙ is)

unknown_by : (words : List (List ℕ)) → None ≡ asked_by words → AreKnown words → ⊥
unknown_by [] e known = cc
unknown_by (word ∷ []) e (inl none) = cc
unknown_by (word ∷ []) e (inr ask) = one_unknown word (bytes_eq word (codes "--explain")) refl e ask
unknown_by (word ∷ other ∷ more) e (inl none) = cc
unknown_by (word ∷ other ∷ more) e (inr ask) = cc

pub unknown_where : (words : List (List ℕ)) (found : Option Work) → found ≡ asked_by words → IfNone found (¬ (AreKnown words))
unknown_where words None e = unknown_by words e
unknown_where words (Some work) e = tt
