-- Values and options that are taken one after the other.
use Rattle.std.proofs.Common.{◌≡◌, ◌≢◌, ℕ, Bool, true, false, List, [], ◌∷◌, Option, Some, None, refl, sym, ap, ◌∙◌, subst}
use Rattle.std.specs.Prelude.{IfSome, IfNone, map, option_and_then}
use Rattle.std.specs.List.{AllByRecursion, AllZip}
use Rattle.std.specs.Option.{option_map, option_to_list}
use Rattle.std.specs.Str.{bytes_eq}
use Rattle.std.proofs.lemmas.Bool.{false≢true}
use Rattle.std.proofs.lemmas.List.Elements.{same_from_all_zip}
use Rattle.std.proofs.lemmas.Slice.Eq.{bytes_eq-Decides}
use Rattle.command_options.specs.Options.{CommandOption, First, options_in, first_of}
use Rattle.command_options.specs.Values.{values_of, once, text_of, taken_by, taken_in}
use Rattle.command_options.proofs.Reading.{read-first, behind}

-- what the values leave of what was held, each taken by the step
abbrev pub folded : {A : Type 0} → (List ℕ → A → Option A) → List (List ℕ) → A → Option A
folded step [] held = Some held
folded step (value ∷ values) held = option_and_then (folded step values) (step value held)

-- what was answered was answered of a value
pub through : {A B : Type 0} (f : A → Option B) (x : Option A) (y : B) → option_and_then f x ≡ Some y → (a : A) × (x ≡ Some a) × (f a ≡ Some y)
through f None y e = absurd (cc)
through f (Some a) y e = (a, refl, e)

mapped : {A B C : Type 0} (f : B → Option C) (set : A → B) (x : Option A) (y : C) → option_and_then f (option_map set x) ≡ Some y
    → (a : A) × (x ≡ Some a) × (f (set a) ≡ Some y)
mapped f set None y e = absurd (cc)
mapped f set (Some a) y e = (a, refl, e)

-- the value is taken first, and the others after it
pub goes : {A : Type 0} (step : List ℕ → A → Option A) (value : List ℕ) (values : List (List ℕ)) (held next : A) (end : Option A)
    → step value held ≡ Some next → folded step values next ≡ end → folded step (value ∷ values) held ≡ end
goes step value values held next end taken rest = ap (option_and_then (folded step values)) taken ∙ rest

pub zip-each : {A B : Type 0} {R S : A → B → Type 0} → ((a : A) (b : B) → R a b → S a b) → (xs : List A) (ys : List B) → AllZip R xs ys → AllZip S xs ys
zip-each each [] [] zip = tt
zip-each each [] (y ∷ ys) zip = absurd zip
zip-each each (x ∷ xs) [] zip = absurd zip
zip-each each (x ∷ xs) (y ∷ ys) zip = (each x y zip.0, zip-each each xs ys zip.1)

-- ---- values that stand at most once
module _ {A : Type 0} (read : List ℕ → Option A) where
  abbrev pub Reads : List ℕ → A → Type 0
  Reads value a = read value ≡ Some a

  pub once-read : (values : List (List ℕ)) (held : Option A) → folded (once read) values None ≡ Some held → AllZip Reads values (option_to_list held)
  once-read [] None e = tt
  once-read [] (Some a) e = absurd (cc)
  once-read (value ∷ []) held e =
      let (a, is, some) = mapped (λ (x : Option A). Some x) (λ (x : A). Some x) (read value) held e in
      let same : Some a ≡ held = cc in
      subst (λ (h : Option A). AllZip Reads (value ∷ []) (option_to_list h)) same (is, tt)
  once-read (value ∷ more ∷ values) held e =
      let (a, is, none) = mapped (folded (once read) (more ∷ values)) (λ (x : A). Some x) (read value) held e in
      absurd (cc)

  pub read-once : (values : List (List ℕ)) (held : Option A) → AllZip Reads values (option_to_list held) → folded (once read) values None ≡ Some held
  read-once [] None zip = refl
  read-once [] (Some a) zip = absurd zip
  read-once (value ∷ values) None zip = absurd zip
  read-once (value ∷ []) (Some a) zip = rw (zip.0) refl
  read-once (value ∷ more ∷ values) (Some a) zip = absurd zip.1

-- texts as they are
texts-same : (values texts : List (List ℕ)) → AllZip (Reads text_of) values texts → values ≡ texts
texts-same values texts zip = sym (same_from_all_zip (Reads text_of) values texts zip (λ x y e. let same : x ≡ y = cc in sym same))

same-texts : (values texts : List (List ℕ)) → values ≡ texts → AllZip (Reads text_of) values texts
same-texts values texts e = subst (λ (ts : List (List ℕ)). AllZip (Reads text_of) values ts) e (each values) where
  each : (values : List (List ℕ)) → AllZip (Reads text_of) values values
  each [] = tt
  each (value ∷ values) = (refl, each values)

-- the text that stands at most once
pub once-text : (values : List (List ℕ)) (held : Option (List ℕ)) → folded (once text_of) values None ≡ Some held → values ≡ option_to_list held
once-text values held e = texts-same values (option_to_list held) (once-read text_of values held e)

pub text-once : (values : List (List ℕ)) (held : Option (List ℕ)) → values ≡ option_to_list held → folded (once text_of) values None ≡ Some held
text-once values held e = read-once text_of values held (same-texts values (option_to_list held) e)

-- ---- options by their names
absent_by : (b : Bool) (name : List ℕ) (o : CommandOption) (options : List CommandOption) → bytes_eq o.name name ≡ b → values_of name (o ∷ options) ≡ []
    → (values_of name options ≡ [] → AllByRecursion (λ p. p.name ≢ name) options) → AllByRecursion (λ p. p.name ≢ name) (o ∷ options)
absent_by true name o options t none rest = let stands : o.value ∷ values_of name options ≡ [] = rw t at none in absurd (cc)
absent_by false name o options t none rest =
    (λ is. absurd (false≢true (sym t ∙ (bytes_eq-Decides o.name name).1 is)), rest (rw t at none))

-- no option has the name, where it has no values
pub absent : (name : List ℕ) (options : List CommandOption) → values_of name options ≡ [] → AllByRecursion (λ o. o.name ≢ name) options
absent name [] none = tt
absent name (o ∷ options) none = absent_by (bytes_eq o.name name) name o options refl none (absent name options)

-- options that all have the name are those of its values
pub of-values : (name : List ℕ) (options : List CommandOption) → AllByRecursion (λ o. o.name ≡ name) options
    → options ≡ map (λ value. record { name = name; value = value }) (values_of name options)
of-values name [] are = refl
of-values name (o ∷ options) are =
    let same : bytes_eq o.name name ≡ true = (bytes_eq-Decides o.name name).1 are.0 in
    let first : o ≡ record { name = name; value = o.value } = ap (λ (n : List ℕ). record { name = n; value = o.value }) are.0 in
    let rest : options ≡ map (λ value. record { name = name; value = value }) (values_of name options) = of-values name options are.1 in
    ap (λ (p : CommandOption). p ∷ options) first
    ∙ ap (λ (l : List CommandOption). record { name = name; value = o.value } ∷ l) rest
    ∙ rw same refl

-- ---- options that are taken by a step
module _ {G : Type 0} (step : List ℕ → List ℕ → G → Option G) where
  -- what is taken first is set, and the others come after it
  pub sets : {A : Type 0} (set : A → G) (taken : Option A) (a : A) (options : List CommandOption) (h : G) → taken ≡ Some a
      → taken_by step options (set a) ≡ Some h → option_and_then (taken_by step options) (option_map set taken) ≡ Some h
  sets set taken a options h is rest = ap (λ x. option_and_then (taken_by step options) (option_map set x)) is ∙ rest

  none-behind : (x : Option G) → option_and_then {T = G} {U = G} (λ g. None) x ≡ None
  none-behind None = refl
  none-behind (Some g) = refl

  -- the first option is taken, and the others after it
  next-taken : (found : Option (List CommandOption)) (o : CommandOption) (g : G)
      → option_and_then (λ options. taken_by step options g) (option_map (λ more. o ∷ more) found)
      ≡ option_and_then (λ h. option_and_then (λ options. taken_by step options h) found) (step o.name o.value g)
  next-taken None o g = sym (none-behind (step o.name o.value g))
  next-taken (Some options) o g = refl

  -- the words give what those after the first option give to what is given with it
  goes-by : (words : List (List ℕ)) (first : First) (g : G) → first_of words ≡ Some first
      → taken_in step words g ≡ option_and_then (taken_in step first.rest) (step first.option.name first.option.value g)
  goes-by [] first g is = absurd (cc)
  goes-by (word ∷ rest) first g is =
      ap (λ (x : Option (List CommandOption)). option_and_then (λ options. taken_by step options g) x) (read-first word rest ∙ ap behind is)
      ∙ next-taken (options_in first.rest) first.option g

  pub goes-on : (words : List (List ℕ)) (first : First) (g next : G) → first_of words ≡ Some first → step first.option.name first.option.value g ≡ Some next
      → taken_in step words g ≡ taken_in step first.rest next
  goes-on words first g next is e = goes-by words first g is ∙ ap (option_and_then (taken_in step first.rest)) e

  pub goes-nowhere : (words : List (List ℕ)) (first : First) (g : G) → first_of words ≡ Some first → step first.option.name first.option.value g ≡ None
      → taken_in step words g ≡ None
  goes-nowhere words first g is e = goes-by words first g is ∙ ap (option_and_then (taken_in step first.rest)) e

-- ---- what a call answers of words that are read as what they say
module _ {X S : Type 0} (seen : X → S) (Say : List (List ℕ) → S → Type 0) (read : List (List ℕ) → Option S) (words : List (List ℕ)) where
  pub answer-said : ((s : S) → read words ≡ Some s → Say words s) → (answer : Option X) → option_map seen answer ≡ read words
      → IfSome answer (λ x. Say words (seen x))
  answer-said says None is = tt
  answer-said says (Some x) is = says (seen x) (sym is)

  pub answer-unknown : ((s : S) → Say words s → read words ≡ Some s) → (answer : Option X) → option_map seen answer ≡ read words
      → IfNone answer (¬ ((s : S) × Say words s))
  answer-unknown reads None is = λ known. let none : None ≡ Some known.0 = is ∙ reads known.0 known.1 in absurd (cc)
  answer-unknown reads (Some x) is = tt
