-- Words say what is read of them, and nothing else.
use Rattle.std.proofs.Common.{◌≡◌, ℕ, Bool, true, false, cond, ◌&&◌, List, [], ◌∷◌, Option, Some, None, refl, sym, ap, ◌∙◌, subst}
use Rattle.std.specs.Str.{bytes_eq}
use Rattle.std.specs.Option.{option_map}
use Rattle.std.specs.Prelude.{IfSome, IfNone}
use Rattle.std.proofs.lemmas.Slice.Eq.{bytes_eq-Decides}
use Rattle.command_options.specs.Options.{is_value}
use Rattle.fenced_run.specs.declared.words.FenceWords.{FenceWords}
use Rattle.fenced_run.specs.Words.{AreKnown, IsClass, Said, Say, class_in, class_option, class_words, fence_option, said_by, said_in, said_seen}

-- ---- what is said is read

class-read : (class : Option (List ℕ)) → IsClass class → class_in (class_words class) ≡ Some class
class-read None is = refl
class-read (Some c) is = ap (λ (b : Bool). cond (bytes_eq class_option class_option && b) (Some (Some c)) None) is

first-read : (name : List ℕ) (class : Option (List ℕ)) → is_value name ≡ true → IsClass class
    → said_in (fence_option ∷ name ∷ class_words class) ≡ Some (record { name = name; class = class })
first-read name class named classed =
    ap (λ (b : Bool). cond (bytes_eq fence_option fence_option && b) (said_by name (class_in (class_words class))) None) named
    ∙ ap (said_by name) (class-read class classed)

say-read : (words : List (List ℕ)) (name : List ℕ) (class : Option (List ℕ)) → Say words name class
    → said_in words ≡ Some (record { name = name; class = class })
say-read words name class say =
    subst (λ (ws : List (List ℕ)). said_in ws ≡ Some (record { name = name; class = class })) (sym say.words_are)
    (first-read name class say.named say.classed)

-- ---- what is read is said

option-class : (o c : List ℕ) (class : Option (List ℕ)) (same value : Bool) → bytes_eq o class_option ≡ same → is_value c ≡ value
    → cond (same && value) (Some (Some c)) None ≡ Some class → (o ∷ c ∷ [] ≡ class_words class) × IsClass class
option-class o c class true true s v e =
    let is : Some c ≡ class = cc in
    subst (λ (k : Option (List ℕ)). (o ∷ c ∷ [] ≡ class_words k) × IsClass k) is
    (ap (λ (w : List ℕ). w ∷ c ∷ []) ((bytes_eq-Decides o class_option).0 s), v)
option-class o c class true false s v e = absurd (cc)
option-class o c class false value s v e = absurd (cc)

read-class : (rest : List (List ℕ)) (class : Option (List ℕ)) → class_in rest ≡ Some class → (rest ≡ class_words class) × IsClass class
read-class [] class e =
    let is : None ≡ class = cc in
    subst (λ (k : Option (List ℕ)). ([] ≡ class_words k) × IsClass k) is (refl, tt)
read-class (o ∷ []) class e = absurd (cc)
read-class (o ∷ c ∷ []) class e = option-class o c class (bytes_eq o class_option) (is_value c) refl refl e
read-class (o ∷ c ∷ more ∷ rest) class e = absurd (cc)

with-class : (o n : List ℕ) (rest : List (List ℕ)) (said : Said) (found : Option (Option (List ℕ))) → o ≡ fence_option → is_value n ≡ true
    → class_in rest ≡ found → said_by n found ≡ Some said → Say (o ∷ n ∷ rest) said.name said.class
with-class o n rest said None is named found e = absurd (cc)
with-class o n rest said (Some class) is named found e =
    let made : Said = record { name = n; class = class } in
    let same : made ≡ said = cc in
    let read = read-class rest class found in
    subst (λ (s : Said). Say (o ∷ n ∷ rest) s.name s.class) same
    (record {
      words_are = ap (λ (w : List ℕ). w ∷ n ∷ rest) is ∙ ap (λ (ws : List (List ℕ)). fence_option ∷ n ∷ ws) read.0;
      named = named;
      classed = read.1;
    })

by-first : (o n : List ℕ) (rest : List (List ℕ)) (said : Said) (same value : Bool) → bytes_eq o fence_option ≡ same → is_value n ≡ value
    → cond (same && value) (said_by n (class_in rest)) None ≡ Some said → Say (o ∷ n ∷ rest) said.name said.class
by-first o n rest said true true s v e = with-class o n rest said (class_in rest) ((bytes_eq-Decides o fence_option).0 s) v refl e
by-first o n rest said true false s v e = absurd (cc)
by-first o n rest said false value s v e = absurd (cc)

read-say : (words : List (List ℕ)) (said : Said) → said_in words ≡ Some said → Say words said.name said.class
read-say [] said e = absurd (cc)
read-say (o ∷ []) said e = absurd (cc)
read-say (o ∷ n ∷ rest) said e = by-first o n rest said (bytes_eq o fence_option) (is_value n) refl refl e

-- ---- of an answer

pub answer_said : (words : List (List ℕ)) (answer : Option FenceWords) → option_map said_seen answer ≡ said_in words
    → IfSome answer (λ said. Say words said.name.now (option_map (λ c. c.now) said.class))
answer_said words None is = tt
answer_said words (Some said) is = read-say words (said_seen said) (sym is)

apart : (said : Said) → None ≡ Some said → ⊥
apart said e = absurd (cc)

pub answer_unknown : (words : List (List ℕ)) (answer : Option FenceWords) → option_map said_seen answer ≡ said_in words
    → IfNone answer (¬ (AreKnown words))
answer_unknown words None is = λ known. apart (record { name = known.0; class = known.1 }) (is ∙ say-read words known.0 known.1 known.2)
answer_unknown words (Some said) is = tt

-- words say one thing alone
pub one_said : (words : List (List ℕ)) (name other : List ℕ) (class another : Option (List ℕ)) → Say words name class → Say words other another
    → (name ≡ other) × (class ≡ another)
one_said words name other class another one two =
    let first : Said = record { name = name; class = class } in
    let second : Said = record { name = other; class = another } in
    let same : first ≡ second = let e : Some first ≡ Some second = sym (say-read words name class one) ∙ say-read words other another two in cc in
    (ap (λ (s : Said). s.name) same, ap (λ (s : Said). s.class) same)
