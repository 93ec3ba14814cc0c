-- Options of a table, each taken into a part of its own of what is given.
use Rattle.std.proofs.Common.{◌≡◌, ◌⊎◌, ℕ, Bool, true, false, cond, List, [], ◌∷◌, ◌++◌, Option, Some, None, refl, sym, ap, ◌∙◌, subst, inl, inr}
use Rattle.std.specs.Prelude.{option_and_then}
use Rattle.std.specs.List.{AllByRecursion}
use Rattle.std.specs.Option.{option_map}
use Rattle.std.specs.Str.{bytes_eq}
use Rattle.std.proofs.lemmas.Option.{same_Some}
use Rattle.std.proofs.lemmas.Slice.Eq.{bytes_eq-Decides}
use Rattle.command_options.specs.Options.{CommandOption, AreOptions, options_in}
use Rattle.command_options.specs.Values.{values_of, taken_by, taken_in}
use Rattle.command_options.proofs.Reading.{options_are_read}
use Rattle.command_options.proofs.Values.{folded, through, goes, sets}

-- an option with this name and value, and the others
abbrev pub ahead : List ℕ → List ℕ → List CommandOption → List CommandOption
ahead name value options = record { name = name; value = value } ∷ options

-- the values of the option ahead are one more, and those of others stay
pub values-own : (name value : List ℕ) (options : List CommandOption) → values_of name (ahead name value options) ≡ value ∷ values_of name options
values-own name value options = let same : bytes_eq name name ≡ true = (bytes_eq-Decides name name).1 refl in rw same refl

pub values-other : (other name value : List ℕ) (options : List CommandOption) → bytes_eq other name ≡ false
    → values_of name (ahead other value options) ≡ values_of name options
values-other other name value options differ = rw differ refl

-- ---- options of known names
-- the option has this name, or is taken after
pub named-or : {G P : Type 0} (name known : List ℕ) (taken behind : Option G) (h : G) → (behind ≡ Some h → P) → cond (bytes_eq name known) taken behind ≡ Some h
    → (name ≡ known) ⊎ P
named-or {G} {P} name known taken behind h later e = by (bytes_eq name known) refl e where
  by : (b : Bool) → bytes_eq name known ≡ b → cond b taken behind ≡ Some h → (name ≡ known) ⊎ P
  by true t f = inl ((bytes_eq-Decides name known).0 t)
  by false t f = inr (later f)

-- it has this name, if it is taken
pub named-last : {G : Type 0} (name known : List ℕ) (taken : Option G) (h : G) → cond (bytes_eq name known) taken None ≡ Some h → name ≡ known
named-last {G} name known taken h e = by (bytes_eq name known) refl e where
  by : (b : Bool) → bytes_eq name known ≡ b → cond b taken None ≡ Some h → name ≡ known
  by true t f = (bytes_eq-Decides name known).0 t
  by false t f = absurd (cc)

-- what is set in a part of a part
pub part-of-part : {A B C : Type 0} (outer : B → C) (inner : A → B) (x : Option A) → option_map outer (option_map inner x) ≡ option_map (λ a. outer (inner a)) x
part-of-part outer inner None = refl
part-of-part outer inner (Some a) = refl

-- ---- the options of a table
-- The options i of a table, each of a name, with the part of what is given that it is taken into, and what it reads its values as; all of
-- them, and the step that takes an option where it is one of the table.
module _ {G I : Type 0} {A : I → Type 0} (Is : CommandOption → Type 0) (step : List ℕ → List ℕ → G → Option G) (all : List I)
    (name : I → List ℕ) (part : (i : I) → G → A i) (with_part : (i : I) → A i → G → G) (take : (i : I) → List ℕ → A i → Option (A i)) where
  -- the part j, where the option i was taken: its own, or another, which stays
  abbrev pub Keeps : (i : I) → A i → G → I → Type 0
  Keeps i a g j = (i ≡ j) ⊎ ((bytes_eq (name i) (name j) ≡ false) × (part j (with_part i a g) ≡ part j g))

  pub record Table : Type 0 where
    pub taken : (i : I) (value : List ℕ) (g : G) → step (name i) value g ≡ option_map (λ a. with_part i a g) (take i value (part i g))
    pub is : (o : CommandOption) (g h : G) → step o.name o.value g ≡ Some h → Is o
    pub which : (o : CommandOption) → Is o → (i : I) × (o.name ≡ name i)
    pub own : (i : I) (a : A i) (g : G) → part i (with_part i a g) ≡ a
    pub others : (i : I) (a : A i) (g : G) → AllByRecursion (Keeps i a g) all
    pub same : (g h : G) → ((i : I) → part i g ≡ part i h) → g ≡ h

  -- after what was given in the part i, the option's values give this
  abbrev pub Part : List CommandOption → G → G → I → Type 0
  Part options g h i = folded (take i) (values_of (name i) options) (part i g) ≡ Some (part i h)

  -- After what was given, the options give this.
  pub record Gives (options : List CommandOption) (g h : G) : Type 0 where
    pub known : AllByRecursion Is options
    pub parts : (i : I) → Part options g h i

  module _ (at : (i : I) (P : I → Type 0) → AllByRecursion P all → P i) (t : Table) where
    -- ---- what was given is what the options give
    part-own : (i : I) (a : A i) (value : List ℕ) (options : List CommandOption) (g h : G) → take i value (part i g) ≡ Some a
        → Part options (with_part i a g) h i → Part (ahead (name i) value options) g h i
    part-own i a value options g h took more =
        let rest : folded (take i) (values_of (name i) options) a ≡ Some (part i h) =
        subst (λ (x : A i). folded (take i) (values_of (name i) options) x ≡ Some (part i h)) (t.own i a g) more in
        ap (λ (vs : List (List ℕ)). folded (take i) vs (part i g)) (values-own (name i) value options)
        ∙ goes (take i) value (values_of (name i) options) (part i g) a (Some (part i h)) took rest

    part-ahead : (i : I) (a : A i) (value : List ℕ) (options : List CommandOption) (g h : G) → take i value (part i g) ≡ Some a → (j : I) → Keeps i a g j
        → Part options (with_part i a g) h j → Part (ahead (name i) value options) g h j
    part-ahead i a value options g h took j (inl is) =
        subst (λ (k : I). Part options (with_part i a g) h k → Part (ahead (name i) value options) g h k) is (part-own i a value options g h took)
    part-ahead i a value options g h took j (inr (differ, kept)) =
        λ more. ap (λ (vs : List (List ℕ)). folded (take j) vs (part j g)) (values-other (name i) (name j) value options differ)
        ∙ subst (λ (x : A j). folded (take j) (values_of (name j) options) x ≡ Some (part j h)) kept more

    first-gives : (i : I) (value : List ℕ) (options : List CommandOption) (g h : G) → Is (record { name = name i; value = value })
        → option_and_then (taken_by step options) (step (name i) value g) ≡ Some h
        → ((next : G) → taken_by step options next ≡ Some h → Gives options next h) → Gives (ahead (name i) value options) g h
    first-gives i value options g h is e rest =
        let (a, took, end) =
        through (λ (x : A i). taken_by step options (with_part i x g)) (take i value (part i g)) h (mapped-through i value options g ∙ e) in
        let more = rest (with_part i a g) end in
        record { known = (is, more.known); parts = λ j. part-ahead i a value options g h took j (at j (Keeps i a g) (t.others i a g)) (more.parts j) }
      where
        behind : (i : I) (options : List CommandOption) (g : G) (x : Option (A i))
            → option_and_then (λ a. taken_by step options (with_part i a g)) x ≡ option_and_then (taken_by step options) (option_map (λ a. with_part i a g) x)
        behind i options g None = refl
        behind i options g (Some a) = refl

        mapped-through : (i : I) (value : List ℕ) (options : List CommandOption) (g : G) → option_and_then (λ a. taken_by step options (with_part i a g))
            (take i value (part i g)) ≡ option_and_then (taken_by step options) (step (name i) value g)
        mapped-through i value options g = behind i options g (take i value (part i g)) ∙ ap (option_and_then (taken_by step options)) (sym (t.taken i value g))

    given-gives : (options : List CommandOption) (g h : G) → taken_by step options g ≡ Some h → Gives options g h
    given-gives [] g h e =
        let is : g ≡ h = cc in
        record { known = tt; parts = λ i. ap (λ (x : G). Some (part i x)) is }
    given-gives (o ∷ options) g h e =
        let (next, took, end) = through (taken_by step options) (step o.name o.value g) h e in
        let is = t.is o g next took in
        let (i, named) = t.which o is in
        let first : Gives (ahead (name i) o.value options) g h =
        first-gives i o.value options g h (subst (λ (n : List ℕ). Is (record { name = n; value = o.value })) named is)
        (subst (λ (n : List ℕ). option_and_then (taken_by step options) (step n o.value g) ≡ Some h) named e) (λ next. given-gives options next h) in
        subst (λ (n : List ℕ). Gives (ahead n o.value options) g h) (sym named) first

    -- ---- and the other way round
    own-part : (i : I) (value : List ℕ) (options : List CommandOption) (g h : G) → Part (ahead (name i) value options) g h i
        → (a : A i) × (take i value (part i g) ≡ Some a) × (folded (take i) (values_of (name i) options) a ≡ Some (part i h))
    own-part i value options g h gives =
        through (folded (take i) (values_of (name i) options)) (take i value (part i g)) (part i h)
        (ap (λ (vs : List (List ℕ)). folded (take i) vs (part i g)) (sym (values-own (name i) value options)) ∙ gives)

    part-behind : (i : I) (a : A i) (value : List ℕ) (options : List CommandOption) (g h : G) → folded (take i) (values_of (name i) options) a ≡ Some (part i h)
        → (j : I) → Keeps i a g j → Part (ahead (name i) value options) g h j → Part options (with_part i a g) h j
    part-behind i a value options g h end j (inl is) =
        subst (λ (k : I). Part (ahead (name i) value options) g h k → Part options (with_part i a g) h k) is
        (λ gives. subst (λ (x : A i). folded (take i) (values_of (name i) options) x ≡ Some (part i h)) (sym (t.own i a g)) end)
    part-behind i a value options g h end j (inr (differ, kept)) =
        λ gives. subst (λ (x : A j). folded (take j) (values_of (name j) options) x ≡ Some (part j h)) (sym kept)
        (ap (λ (vs : List (List ℕ)). folded (take j) vs (part j g)) (sym (values-other (name i) (name j) value options differ)) ∙ gives)

    gives-first : (i : I) (value : List ℕ) (options : List CommandOption) (g h : G) → Gives (ahead (name i) value options) g h
        → ((next : G) → Gives options next h → taken_by step options next ≡ Some h) → taken_by step (ahead (name i) value options) g ≡ Some h
    gives-first i value options g h gives rest =
        let (a, took, end) = own-part i value options g h (gives.parts i) in
        ap (option_and_then (taken_by step options)) (t.taken i value g)
        ∙ sets step (λ (x : A i). with_part i x g) (take i value (part i g)) a options h took
        (rest (with_part i a g)
        (record { known = gives.known.1; parts = λ j. part-behind i a value options g h end j (at j (Keeps i a g) (t.others i a g)) (gives.parts j) }))

    gives-given : (options : List CommandOption) (g h : G) → Gives options g h → taken_by step options g ≡ Some h
    gives-given [] g h gives = ap (λ (x : G). Some x) (t.same g h (λ i. same_Some (part i g) (part i h) (gives.parts i)))
    gives-given (o ∷ options) g h gives =
        let (i, named) = t.which o gives.known.0 in
        ap (λ (n : List ℕ). taken_by step (ahead n o.value options) g) named
        ∙ gives-first i o.value options g h (subst (λ (n : List ℕ). Gives (ahead n o.value options) g h) named gives) (λ next. gives-given options next h)

    -- ---- the words
    pub words-give : (words : List (List ℕ)) (g h : G) → taken_in step words g ≡ Some h
        → (options : List CommandOption) × AreOptions options words × Gives options g h
    words-give words g h e =
        let (options, read, gave) = through (λ (os : List CommandOption). taken_by step os g) (options_in words) h e in
        (options, (options_are_read words options).0 read, given-gives options g h gave)

    pub give-words : (words : List (List ℕ)) (options : List CommandOption) (g h : G) → AreOptions options words → Gives options g h
        → taken_in step words g ≡ Some h
    give-words words options g h spelled gives =
        ap (λ (found : Option (List CommandOption)). option_and_then (λ os. taken_by step os g) found) ((options_are_read words options).1 spelled)
        ∙ gives-given options g h gives

    -- ---- words in two parts
    taken-over : (front back : List CommandOption) (g : G) → taken_by step (front ++ back) g ≡ option_and_then (taken_by step back) (taken_by step front g)
    taken-over [] back g = refl
    taken-over (o ∷ front) back g = by (step o.name o.value g) (taken-over front back) where
      by : (x : Option G) → ((next : G) → taken_by step (front ++ back) next ≡ option_and_then (taken_by step back) (taken_by step front next))
          → option_and_then (taken_by step (front ++ back)) x ≡ option_and_then (taken_by step back) (option_and_then (taken_by step front) x)
      by None later = refl
      by (Some next) later = later next

    pub parts-give : (before behind : List (List ℕ)) (g h : G) → option_and_then (taken_in step behind) (taken_in step before g) ≡ Some h
        → (front : List CommandOption) × (back : List CommandOption) × AreOptions front before × AreOptions back behind × Gives (front ++ back) g h
    parts-give before behind g h e =
        let (mid, first, second) = through (taken_in step behind) (taken_in step before g) h e in
        let (front, read, gave) = through (λ (os : List CommandOption). taken_by step os g) (options_in before) mid first in
        let (back, read', gave') = through (λ (os : List CommandOption). taken_by step os mid) (options_in behind) h second in (
          front,
          back,
          (options_are_read before front).0 read,
          (options_are_read behind back).0 read',
          given-gives (front ++ back) g h (taken-over front back g ∙ ap (option_and_then (taken_by step back)) gave ∙ gave'),
        )

    pub give-parts : (before behind : List (List ℕ)) (front back : List CommandOption) (g h : G) → AreOptions front before → AreOptions back behind
        → Gives (front ++ back) g h → option_and_then (taken_in step behind) (taken_in step before g) ≡ Some h
    give-parts before behind front back g h spelled spelled' gives =
        ap (λ (found : Option (List CommandOption)). option_and_then (taken_in step behind) (option_and_then (λ os. taken_by step os g) found))
        ((options_are_read before front).1 spelled)
        ∙ behind-is (taken_by step front g)
        ∙ sym (taken-over front back g)
        ∙ gives-given (front ++ back) g h gives
      where
        behind-is : (x : Option G) → option_and_then (taken_in step behind) x ≡ option_and_then (taken_by step back) x
        behind-is None = refl
        behind-is (Some next) =
            ap (λ (found : Option (List CommandOption)). option_and_then (λ os. taken_by step os next) found) ((options_are_read behind back).1 spelled')
