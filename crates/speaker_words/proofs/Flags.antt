-- The flag among the words.
use Rattle.std.proofs.Common.{◌≡◌, ◌≢◌, ℕ, ◌<◌, ◌≤◌, Bool, true, false, cond, nat_lt, List, [], ◌∷◌, ◌++◌, length, Some, None}
use Rattle.std.proofs.Common.{String, string_bytes, refl, sym, ap, ◌∙◌, inl, inr, arith}
use Rattle.std.proofs.lemmas.Bool.{false≢true}
use Rattle.std.proofs.lemmas.Bool.Decides.{nat_tests}
use Rattle.std.proofs.lemmas.List.{length-map}
use Rattle.std.proofs.lemmas.Slice.Eq.{bytes_eq-Decides}
use Rattle.std.specs.List.{AllByRecursion, list_any, position, position_or_len, before_first, after_first}
use Rattle.command_options.specs.Options.{CommandOption, AreOptions, is_value, has_equals, texts_of}
use Rattle.command_options.proofs.Firsts.{Lack, any-by, found, lack-by, place-map}
use Rattle.command_options.proofs.Reading.{joins}
use Rattle.speaker_words.specs.Reading.{is_flag}
use Rattle.speaker_words.specs.Words.{IsKnown, responder_flag}

-- ---- the first flag
module _ {Z : Type 0} where
  place-is : (words : List (String Z)) → position_or_len is_flag (texts_of words) ≡ position_or_len (λ word. is_flag (string_bytes word)) words
  place-is words = place-map (λ word. string_bytes word) is_flag words

  -- It stands there.
  pub record StandsAt (words : List (String Z)) (at : ℕ) : Type 0 where
    pub place : position_or_len is_flag (texts_of words) ≡ at
    pub there : list_any is_flag (texts_of words) ≡ true

  pub stands-at : (words : List (String Z)) (at : ℕ) → position (λ word. is_flag (string_bytes word)) words ≡ Some at → StandsAt words at
  stands-at words at is = by (nat_lt (position_or_len (λ word. is_flag (string_bytes word)) words) (length words)) refl is where
    place : ℕ
    place = position_or_len (λ word. is_flag (string_bytes word)) words

    by : (b : Bool) → nat_lt place (length words) ≡ b → cond b (Some place) None ≡ Some at → StandsAt words at
    by false t e = absurd (cc)
    by true t e =
        let same : place ≡ at = cc in
        let within : place < length words = grind (arith, nat_tests) in
        record {
          place = place-is words ∙ same;
          there = any-by is_flag (texts_of words) (omega (arith, place-is words, length-map words (λ word. string_bytes word), within));
        }

  pub none-stands : (words : List (String Z)) → position (λ word. is_flag (string_bytes word)) words ≡ None → Lack is_flag (texts_of words)
  none-stands words is = by (nat_lt (position_or_len (λ word. is_flag (string_bytes word)) words) (length words)) refl is where
    place : ℕ
    place = position_or_len (λ word. is_flag (string_bytes word)) words

    by : (b : Bool) → nat_lt place (length words) ≡ b → cond b (Some place) None ≡ None → Lack is_flag (texts_of words)
    by true t e = absurd (cc)
    by false t e =
        let all : length words ≤ place = grind (arith, nat_tests) in
        lack-by is_flag (texts_of words) (omega (arith, place-is words, length-map words (λ word. string_bytes word), all))

-- it, and what stands round it
pub split-by : (words : List (List ℕ)) → list_any is_flag words ≡ true → words ≡ before_first is_flag words ++ responder_flag ∷ after_first is_flag words
split-by words e =
    let first = found is_flag words e in
    first.split
    ∙ ap (λ (w : List ℕ). before_first is_flag words ++ w ∷ after_first is_flag words) ((bytes_eq-Decides first.one responder_flag).0 first.passes)

-- ---- the words of known options
unlike : (word : List ℕ) → word ≢ responder_flag → is_flag word ≡ false
unlike word differ = by (is_flag word) refl where
  by : (b : Bool) → is_flag word ≡ b → is_flag word ≡ false
  by true e = absurd (differ ((bytes_eq-Decides word responder_flag).0 e))
  by false e = e

-- a word with a `=` isn't the flag, nor is a value in a word of its own, nor the name of a known option
joined-unlike : (name value : List ℕ) → AllByRecursion (λ c. c ≢ 61) name → is_flag (name ++ 61 ∷ value) ≡ false
joined-unlike name value lacks = unlike (name ++ 61 ∷ value) (λ same. false≢true (sym none ∙ ap has_equals (sym same) ∙ (joins name value lacks).has)) where
  none : has_equals responder_flag ≡ false
  none = refl

value-unlike : (value : List ℕ) → is_value value ≡ true → is_flag value ≡ false
value-unlike value is = unlike value (λ same. let wrong : false ≡ true = ap is_value (sym same) ∙ is in false≢true wrong)

name-unlike : (o : CommandOption) → IsKnown o → is_flag o.name ≡ false
name-unlike o (inl is) = rw is refl
name-unlike o (inr (inl is)) = rw is refl
name-unlike o (inr (inr (inl is))) = rw is refl
name-unlike o (inr (inr (inr (inl is)))) = rw is refl
name-unlike o (inr (inr (inr (inr (inl is))))) = rw is refl
name-unlike o (inr (inr (inr (inr (inr (inl is)))))) = rw is refl
name-unlike o (inr (inr (inr (inr (inr (inr is)))))) = rw is refl

pub options-lack : (options : List CommandOption) (words : List (List ℕ)) → AreOptions options words → AllByRecursion IsKnown options → Lack is_flag words
options-lack [] words spelled known = rw spelled tt
options-lack (o ∷ options) words (rest, lacks, inl joined, more) known =
    rw (joined.0) (joined-unlike o.name o.value lacks, options-lack options rest more known.1)
options-lack (o ∷ options) words (rest, lacks, inr apart, more) known =
    rw (apart.0) (name-unlike o known.0, (value-unlike o.value apart.1, options-lack options rest more known.1))
