-- The keys and the strings among the tokens of a UTF-8 text are UTF-8.
use Rattle.std.proofs.Common.{◌≡◌, ℕ, ◌+◌, ◌<◌, suc, Bool, true, false, cond, ◌==◌, List, [], ◌∷◌, length}
use Rattle.std.proofs.Common.{drop, get_or, Option, Some, None, IfSome, refl, subst, arith}
use Rattle.std.proofs.lemmas.Bool.{cond_both, eqb-true}
use Rattle.std.proofs.lemmas.Str.{IsUtf8-drop, IsCharBoundary-after_ascii}
use Rattle.std.specs.List.{AllByRecursion}
use Rattle.std.specs.Bool.{⊤}
use Rattle.std.specs.Str.{IsUtf8}
use Rattle.json.specs.Token.{Token, begin_object, end_object, begin_array, end_array, key, string, number, boolean, null, bad}
use Rattle.json.specs.Text.{content, plain}
use Rattle.json.specs.Ascii as ascii
use Rattle.json.specs.Word.{is_operator, is_space, head, literal, number_before, after_number, word}
use Rattle.json.specs.Lex.{Lexeme, token, comma, colon, Class, quote, backslash, operator, space, other, class, operator_lexeme}
use Rattle.json.specs.Lex.{string_token, Mode, between, in_word, in_string, in_escape, lex_byte, lex, Place, fresh, after_value}
use Rattle.json.specs.Lex.{after_comma, after_key, begins_colon, may_begin, may_close, if_allowed, place_token, punctuate, tokens}
use Rattle.json_text_laws.proofs.Content.{content_text}

abbrev pub TokenText : Token → Type 0
TokenText (key s) = IsUtf8 s
TokenText (string s) = IsUtf8 s
TokenText t = ⊤

abbrev LexemeText : Lexeme → Type 0
LexemeText (token t) = TokenText t
LexemeText comma = ⊤
LexemeText colon = ⊤

-- ---- lexemes

literal_text : (name : List ℕ) (t : Token) (xs : List ℕ) → TokenText t → TokenText (literal name t xs)
literal_text name t xs h = cond_both _ t bad TokenText (λ _. h) (λ _. tt)

number_text : (xs : List ℕ) (rest : Option (List ℕ)) → TokenText (number_before xs rest)
number_text xs None = tt
number_text xs (Some rest) = cond_both _ (number _) bad TokenText (λ _. tt) (λ _. tt)

word_by : (a b c : Bool) (t u v w : Token) → TokenText t → TokenText u → TokenText v → TokenText w → TokenText (cond a t (cond b u (cond c v w)))
word_by true b c t u v w h i j k = h
word_by false true c t u v w h i j k = i
word_by false false true t u v w h i j k = j
word_by false false false t u v w h i j k = k

word_text : (xs : List ℕ) → TokenText (word xs)
unfolding word
word_text xs =
    word_by (head xs == 116) (head xs == 102) (head xs == 110)
    (literal ascii.true_text (boolean true) xs) (literal ascii.false_text (boolean false) xs) (literal ascii.null_text null xs)
    (number_before xs (after_number xs))
    (literal_text ascii.true_text (boolean true) xs tt) (literal_text ascii.false_text (boolean false) xs tt) (literal_text ascii.null_text null xs tt)
    (number_text xs (after_number xs))

operator_by : (a b c d e : Bool)
    → LexemeText (cond a (token begin_object) (cond b (token end_object) (cond c (token begin_array) (cond d (token end_array) (cond e comma colon)))))
operator_by true b c d e = tt
operator_by false true c d e = tt
operator_by false false true d e = tt
operator_by false false false true e = tt
operator_by false false false false true = tt
operator_by false false false false false = tt

operator_text : (x : ℕ) → LexemeText (operator_lexeme x)
operator_text x = operator_by (x == ascii.open_brace) (x == ascii.close_brace) (x == ascii.open_bracket) (x == ascii.close_bracket) (x == ascii.comma)

string_text : (r : Option (List ℕ)) → IfSome r IsUtf8 → TokenText (string_token r)
string_text None h = tt
string_text (Some s) h = h

quote_by : (a b c d : Bool) → cond a quote (cond b backslash (cond c operator (cond d space other))) ≡ quote → a ≡ true
quote_by true b c d e = refl
quote_by false true c d e = absurd cc
quote_by false false true d e = absurd cc
quote_by false false false true e = absurd cc
quote_by false false false false e = absurd cc

quote_is : (x : ℕ) → class x ≡ quote → x ≡ 34
quote_is x e = eqb-true x 34 (quote_by (x == 34) (x == 92) (is_operator x) (is_space x) e)

-- what follows each ASCII byte is UTF-8
abbrev Parted : List ℕ → Type 0
Parted xs = (i : ℕ) → i < length xs → get_or xs i 0 < 128 → IsUtf8 (drop (suc i) xs)

parted : (xs : List ℕ) → IsUtf8 xs → Parted xs
parted xs u i within low =
    let next : i + 1 ≡ suc i = omega arith in
    subst (λ k. IsUtf8 (drop k xs)) next (IsUtf8-drop xs (i + 1) u (IsCharBoundary-after_ascii xs i u within low))

byte_text : (m : Mode) (c : Class) (x : ℕ) (xs : List ℕ) (k : Mode → List Lexeme) → (c ≡ quote → IsUtf8 xs)
    → ((next : Mode) → AllByRecursion LexemeText (k next)) → AllByRecursion LexemeText (lex_byte m c x xs k)
byte_text between quote x xs k behind rest = (string_text (content plain xs) (content_text xs (behind refl)), rest in_string)
byte_text between backslash x xs k behind rest = (tt, rest in_word)
byte_text between operator x xs k behind rest = (operator_text x, rest between)
byte_text between space x xs k behind rest = rest between
byte_text between other x xs k behind rest = (word_text (x ∷ xs), rest in_word)
byte_text in_word quote x xs k behind rest = rest in_word
byte_text in_word backslash x xs k behind rest = rest in_word
byte_text in_word operator x xs k behind rest = (operator_text x, rest between)
byte_text in_word space x xs k behind rest = rest between
byte_text in_word other x xs k behind rest = rest in_word
byte_text in_string quote x xs k behind rest = rest between
byte_text in_string backslash x xs k behind rest = rest in_escape
byte_text in_string operator x xs k behind rest = rest in_string
byte_text in_string space x xs k behind rest = rest in_string
byte_text in_string other x xs k behind rest = rest in_string
byte_text in_escape c x xs k behind rest = rest in_string

lexed : (m : Mode) (xs : List ℕ) → Parted xs → AllByRecursion LexemeText (lex m xs)
unfolding lex
lexed m [] h = tt
lexed m (x ∷ xs) h =
    byte_text m (class x) x xs (λ next. lex next xs)
    (λ e. let is = quote_is x e in h 0 (omega arith) (omega arith))
    (λ next. lexed next xs (λ i within low. h (suc i) (omega arith) low))

-- ---- tokens

allowed : (b : Bool) (t : Token) (k : Place → List Token) (next : Place) → TokenText t → ((p : Place) → AllByRecursion TokenText (k p))
    → AllByRecursion TokenText (if_allowed b t k next)
allowed true t k next h rest = (h, rest next)
allowed false t k next h rest = (tt, tt)

placed : (p : Place) (t : Token) (b : Bool) (k : Place → List Token) → TokenText t → ((p : Place) → AllByRecursion TokenText (k p))
    → AllByRecursion TokenText (place_token p t b k)
placed p begin_object b k h rest = allowed (may_begin p) begin_object k fresh tt rest
placed p end_object b k h rest = allowed (may_close p) end_object k after_value tt rest
placed p begin_array b k h rest = allowed (may_begin p) begin_array k fresh tt rest
placed p end_array b k h rest = allowed (may_close p) end_array k after_value tt rest
placed p (key s) b k h rest = (tt, tt)
placed p (string s) true k h rest = allowed (may_begin p) (key s) k after_key h rest
placed p (string s) false k h rest = allowed (may_begin p) (string s) k after_value h rest
placed p (number s) b k h rest = allowed (may_begin p) (number s) k after_value tt rest
placed p (boolean v) b k h rest = allowed (may_begin p) (boolean v) k after_value tt rest
placed p null b k h rest = allowed (may_begin p) null k after_value tt rest
placed p bad b k h rest = (tt, tt)

punctuated : (p : Place) (ls : List Lexeme) → AllByRecursion LexemeText ls → AllByRecursion TokenText (punctuate p ls)
unfolding punctuate
punctuated fresh [] h = tt
punctuated after_value [] h = tt
punctuated after_comma [] h = (tt, tt)
punctuated after_key [] h = (tt, tt)
punctuated fresh (token t ∷ ls) h = placed fresh t (begins_colon ls) (λ next. punctuate next ls) h.0 (λ next. punctuated next ls h.1)
punctuated after_value (token t ∷ ls) h = placed after_value t (begins_colon ls) (λ next. punctuate next ls) h.0 (λ next. punctuated next ls h.1)
punctuated after_comma (token t ∷ ls) h = placed after_comma t (begins_colon ls) (λ next. punctuate next ls) h.0 (λ next. punctuated next ls h.1)
punctuated after_key (token t ∷ ls) h = placed after_key t (begins_colon ls) (λ next. punctuate next ls) h.0 (λ next. punctuated next ls h.1)
punctuated fresh (comma ∷ ls) h = (tt, tt)
punctuated after_value (comma ∷ ls) h = punctuated after_comma ls h.1
punctuated after_comma (comma ∷ ls) h = (tt, tt)
punctuated after_key (comma ∷ ls) h = (tt, tt)
punctuated fresh (colon ∷ ls) h = (tt, tt)
punctuated after_value (colon ∷ ls) h = (tt, tt)
punctuated after_comma (colon ∷ ls) h = (tt, tt)
punctuated after_key (colon ∷ ls) h = punctuated fresh ls h.1

pub tokens_texts : (text : List ℕ) → IsUtf8 text → AllByRecursion TokenText (tokens text)
tokens_texts text u = punctuated fresh (lex between text) (lexed between text (parted text u))
