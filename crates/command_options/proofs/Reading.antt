-- Words are read as the options that they are.
use Rattle.std.proofs.Common.{◌≡◌, ◌≢◌, ℕ, suc, ◌+◌, Bool, true, false, cond, ltb, eqb-true, List, [], ◌∷◌, ◌++◌}
use Rattle.std.proofs.Common.{length, Option, Some, None, refl, sym, ap, ◌∙◌, subst, arith, inl, inr}
use Rattle.std.proofs.lemmas.Bool.{false≢true, true≢false, eqb-false, ne_eqb, lt-ltb}
use Rattle.std.proofs.lemmas.Bool.Decides.{nat_tests}
use Rattle.std.specs.Option.{option_map}
use Rattle.std.specs.List.{AllByRecursion, position_or_len, before_first, after_first}
use Rattle.command_options.specs.Options.{CommandOption, First, is_given, is_value, AreOptions, is_equals}
use Rattle.command_options.proofs.Firsts.{before-cons, after-cons}
use Rattle.command_options.specs.Options.{has_equals, first_of, with_option, options_in, OptionsAreRead}

-- ---- a text round its first `=`
-- The text is the part before it, `=`, and the part after it.
record Splits (text : List ℕ) : Type 0 where
  joined : text ≡ before_first is_equals text ++ 61 ∷ after_first is_equals text
  lacks : AllByRecursion (λ c. c ≢ 61) (before_first is_equals text)

-- counts of bytes, and of one more
one_fewer : (a b : ℕ) (r : Bool) → ltb (1 + a) (suc b) ≡ r → ltb a b ≡ r
one_fewer a b r e = grind (arith, nat_tests)

one_more : (a b : ℕ) (r : Bool) → ltb a b ≡ r → ltb (1 + a) (suc b) ≡ r
one_more a b r e = grind (arith, nat_tests)

has-cons : (c : ℕ) (text : List ℕ) (r : Bool) → is_equals c ≡ false → has_equals (c ∷ text) ≡ r → has_equals text ≡ r
has-cons c text r e h =
    let later : ltb (1 + position_or_len is_equals text) (suc (length text)) ≡ r = rw e at h in
    one_fewer (position_or_len is_equals text) (length text) r later

cons-has : (c : ℕ) (text : List ℕ) (r : Bool) → is_equals c ≡ false → has_equals text ≡ r → has_equals (c ∷ text) ≡ r
cons-has c text r e h = rw e (one_more (position_or_len is_equals text) (length text) r h)

has-first : (c : ℕ) (text : List ℕ) → is_equals c ≡ true → has_equals (c ∷ text) ≡ true
has-first c text e = rw e (lt-ltb 0 (suc (length text)) (omega arith))

split_by : (b : Bool) (c : ℕ) (text : List ℕ) → is_equals c ≡ b → has_equals (c ∷ text) ≡ true → (has_equals text ≡ true → Splits text) → Splits (c ∷ text)
split_by true c text t e rest =
    let is : c ≡ 61 = eqb-true c 61 t in
    subst (λ (x : ℕ). Splits (x ∷ text)) (sym is) (record { joined = refl; lacks = tt })
split_by false c text t e rest =
    let s = rest (has-cons c text true t e) in
    record {
      joined = rw (before-cons is_equals c text t, after-cons is_equals c text t) (ap (λ (l : List ℕ). c ∷ l) s.joined);
      lacks = subst (λ (l : List ℕ). AllByRecursion (λ x. x ≢ 61) l) (sym (before-cons is_equals c text t)) (eqb-false c 61 t, s.lacks);
    }

splits : (text : List ℕ) → has_equals text ≡ true → Splits text
splits [] e = absurd (false≢true e)
splits (c ∷ text) e = split_by (is_equals c) c text refl e (splits text)

-- a name, `=` and a value
pub record Joins (name value : List ℕ) : Type 0 where
  pub has : has_equals (name ++ 61 ∷ value) ≡ true
  pub before : before_first is_equals (name ++ 61 ∷ value) ≡ name
  pub after : after_first is_equals (name ++ 61 ∷ value) ≡ value

pub joins : (name value : List ℕ) → AllByRecursion (λ c. c ≢ 61) name → Joins name value
joins [] value lacks = record { has = has-first 61 value refl; before = refl; after = refl }
joins (c ∷ name) value lacks =
    let j = joins name value lacks.1 in
    let text = name ++ 61 ∷ value in
    let e : is_equals c ≡ false = ne_eqb c 61 lacks.0 in
    record {
      has = cons-has c text true e j.has;
      before = before-cons is_equals c text e ∙ ap (λ (l : List ℕ). c ∷ l) j.before;
      after = after-cons is_equals c text e ∙ j.after;
    }

-- a name alone
lacking : (name : List ℕ) → AllByRecursion (λ c. c ≢ 61) name → has_equals name ≡ false
lacking [] lacks = refl
lacking (c ∷ name) lacks = cons-has c name false (ne_eqb c 61 lacks.0) (lacking name lacks.1)

lacks_by : (b : Bool) (c : ℕ) (text : List ℕ) → is_equals c ≡ b → has_equals (c ∷ text) ≡ false → (has_equals text ≡ false → AllByRecursion (λ x. x ≢ 61) text)
    → AllByRecursion (λ x. x ≢ 61) (c ∷ text)
lacks_by true c text t e rest = absurd (true≢false (sym (has-first c text t) ∙ e))
lacks_by false c text t e rest = (eqb-false c 61 t, rest (has-cons c text false t e))

lacks-of : (text : List ℕ) → has_equals text ≡ false → AllByRecursion (λ c. c ≢ 61) text
lacks-of [] e = tt
lacks-of (c ∷ text) e = lacks_by (is_equals c) c text refl e (lacks-of text)

-- ---- words that are read
abbrev value_in : List ℕ → List ℕ
value_in word = after_first is_equals word

abbrev name_in : List ℕ → List ℕ
name_in word = before_first is_equals word

joined-read : (word : List ℕ) (rest : List (List ℕ)) → has_equals word ≡ true
    → options_in (word ∷ rest) ≡ with_option (is_given (value_in word)) (name_in word) (value_in word) (options_in rest)
joined-read word [] e = rw e refl
joined-read word (value ∷ rest) e = rw e refl

apart-read : (word value : List ℕ) (rest : List (List ℕ)) → has_equals word ≡ false
    → options_in (word ∷ value ∷ rest) ≡ with_option (is_value value) word value (options_in rest)
apart-read word value rest e = rw e refl

-- The first option passed, and the others were read.
record Passed (passes : Bool) (name value : List ℕ) (others : Option (List CommandOption)) (options : List CommandOption) : Type 0 where
  passed : passes ≡ true
  more : List CommandOption
  read : others ≡ Some more
  are : options ≡ record { name = name; value = value } ∷ more

passed : (passes : Bool) (name value : List ℕ) (others : Option (List CommandOption)) (options : List CommandOption)
    → with_option passes name value others ≡ Some options → Passed passes name value others options
passed false name value others options e = absurd (cc)
passed true name value None options e = absurd (cc)
passed true name value (Some more) options e =
    record { passed = refl; more = more; read = refl; are = (let it : record { name = name; value = value } ∷ more ≡ options = cc in sym it) }

abbrev joined_name : List ℕ → List ℕ → List ℕ
joined_name name value = name ++ 61 ∷ value

of-joined : (word : List ℕ) (rest : List (List ℕ)) (options : List CommandOption) → has_equals word ≡ true
    → Passed (is_given (value_in word)) (name_in word) (value_in word) (options_in rest) options
    → ((more : List CommandOption) → options_in rest ≡ Some more → AreOptions more rest) → AreOptions options (word ∷ rest)
of-joined word rest options e p read =
    let s = splits word e in
    subst (λ (os : List CommandOption). AreOptions os (word ∷ rest)) (sym p.are)
    (rest, s.lacks, inl (ap (λ (w : List ℕ). w ∷ rest) s.joined, p.passed), read p.more p.read)

of-apart : (word value : List ℕ) (rest : List (List ℕ)) (options : List CommandOption) → has_equals word ≡ false
    → Passed (is_value value) word value (options_in rest) options
    → ((more : List CommandOption) → options_in rest ≡ Some more → AreOptions more rest) → AreOptions options (word ∷ value ∷ rest)
of-apart word value rest options e p read =
    subst (λ (os : List CommandOption). AreOptions os (word ∷ value ∷ rest)) (sym p.are)
    (rest, lacks-of word e, inr (refl, p.passed), read p.more p.read)

last_by : (b : Bool) (word : List ℕ) (options : List CommandOption) → has_equals word ≡ b → options_in (word ∷ []) ≡ Some options
    → ((more : List CommandOption) → options_in [] ≡ Some more → AreOptions more []) → AreOptions options (word ∷ [])
last_by true word options t e read = of-joined word [] options t (passed _ _ _ _ options (sym (joined-read word [] t) ∙ e)) read
last_by false word options t e read = let none : None ≡ Some options = rw t at e in absurd (cc)

first_by : (b : Bool) (word value : List ℕ) (rest : List (List ℕ)) (options : List CommandOption) → has_equals word ≡ b
    → options_in (word ∷ value ∷ rest) ≡ Some options
    → ((more : List CommandOption) → options_in (value ∷ rest) ≡ Some more → AreOptions more (value ∷ rest))
    → ((more : List CommandOption) → options_in rest ≡ Some more → AreOptions more rest) → AreOptions options (word ∷ value ∷ rest)
first_by true word value rest options t e near far =
    of-joined word (value ∷ rest) options t (passed _ _ _ _ options (sym (joined-read word (value ∷ rest) t) ∙ e)) near
first_by false word value rest options t e near far = of-apart word value rest options t (passed _ _ _ _ options (sym (apart-read word value rest t) ∙ e)) far

read-are : (words : List (List ℕ)) (options : List CommandOption) → options_in words ≡ Some options → AreOptions options words
read-are [] [] e = refl
read-are [] (o ∷ options) e = absurd (cc)
read-are (word ∷ []) options e = last_by (has_equals word) word options refl e (read-are [])
read-are (word ∷ value ∷ rest) options e = first_by (has_equals word) word value rest options refl e (read-are (value ∷ rest)) (read-are rest)

are-read : (options : List CommandOption) (words : List (List ℕ)) → AreOptions options words → options_in words ≡ Some options
are-read [] words is = rw is refl
are-read (o ∷ options) words (rest, lacks, inl one, more) =
    let j = joins o.name o.value lacks in
    let read : options_in rest ≡ Some options = are-read options rest more in
    rw (one.0) (joined-read (joined_name o.name o.value) rest j.has ∙ rw (j.before, j.after, one.1, read) refl)
are-read (o ∷ options) words (rest, lacks, inr two, more) =
    let read : options_in rest ≡ Some options = are-read options rest more in
    rw (two.0) (apart-read o.name o.value rest (lacking o.name lacks) ∙ rw (two.1, read) refl)

pub options_are_read : OptionsAreRead
options_are_read words options = (read-are words options, are-read options words)

-- ---- the first option and the others
abbrev pub behind : Option First → Option (List CommandOption)
behind None = None
behind (Some first) = option_map (λ more. first.option ∷ more) (options_in first.rest)

with-first : (passes : Bool) (name value : List ℕ) (rest : List (List ℕ)) → with_option passes name value (options_in rest)
    ≡ behind (cond passes (Some (record { option = record { name = name; value = value }; rest = rest })) None)
with-first true name value rest = refl
with-first false name value rest = refl

one_first : (b : Bool) (word : List ℕ) → has_equals word ≡ b → options_in (word ∷ []) ≡ behind (first_of (word ∷ []))
one_first true word t = rw t (with-first (is_given (value_in word)) (name_in word) (value_in word) [])
one_first false word t = rw t refl

two_first : (b : Bool) (word value : List ℕ) (rest : List (List ℕ)) → has_equals word ≡ b
    → options_in (word ∷ value ∷ rest) ≡ behind (first_of (word ∷ value ∷ rest))
two_first true word value rest t = rw t (with-first (is_given (value_in word)) (name_in word) (value_in word) (value ∷ rest))
two_first false word value rest t = rw t (with-first (is_value value) word value rest)

-- words are read as their first option and what the words after it are read as
pub read-first : (word : List ℕ) (words : List (List ℕ)) → options_in (word ∷ words) ≡ behind (first_of (word ∷ words))
read-first word [] = one_first (has_equals word) word refl
read-first word (value ∷ rest) = two_first (has_equals word) word value rest refl
