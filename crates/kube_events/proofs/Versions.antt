-- A version is a decimal number without leading zeros.
use Rattle.std.proofs.Common.{◌≡◌, ◌≢◌, ℕ, ◌^◌, ◌<◌, ◌≤◌, Bool, true, false, List, [], ◌∷◌, length, get_or, Option}
use Rattle.std.proofs.Common.{Some, None, Result, Ok, Err, refl, sym, ap, ◌∙◌, inl, inr, eqb, ltb, cond, ◌&&◌, not}
use Rattle.std.specs.List.{list_all}
use Rattle.std.specs.Char.{is_ascii_digit}
use Rattle.std.specs.Str.{all_ascii_digits}
use Rattle.std.specs.Str.Parse.{ParsesUnsigned, digits_value}
use Rattle.std.proofs.lemmas.Str.Parse.{IsNumeralModel, numerals_by_value, tells_all_ascii_digits, parse_digits}
use Rattle.std.proofs.lemmas.Bool.{lt-ltb, ne_eqb, le-ltb, cases_lt}
use Rattle.kube_events.specs.Named.{version_named}

pub own : IsNumeralModel (λ ds. all_ascii_digits ds ≡ true) (digits_value 10)
own = numerals_by_value _ tells_all_ascii_digits

pub same_test : (bs : List ℕ) → list_all is_ascii_digit bs ≡ all_ascii_digits bs
same_test [] = refl
same_test (b ∷ bs) = rw (same_test bs) refl

pub chosen : (a b c d : Bool) (x : Option ℕ) → a ≡ true → b ≡ false → c ≡ true → d ≡ true → cond (a && not b && c && d) x None ≡ x
chosen a b c d x ea eb ec ed = rw (ea, eb, ec, ed) refl

unchosen : (a b c d : Bool) (x : Option ℕ) → d ≡ false → cond (a && not b && c && d) x None ≡ None
unchosen true true true d x e = refl
unchosen true true false d x e = refl
unchosen true false true d x e = rw e refl
unchosen true false false d x e = refl
unchosen false true true d x e = refl
unchosen false true false d x e = refl
unchosen false false true d x e = refl
unchosen false false false d x e = refl

pub reads : {E : Type 0} (text : List ℕ) (number : ℕ) (r : Result ℕ E) → r ≡ Ok number → ParsesUnsigned 64 10 text r → list_all is_ascii_digit text ≡ true
    → 0 < length text → get_or text 0 0 ≢ 48 → Some number ≡ version_named text
reads text number r e h digits long first =
    let whole = parse_digits own 64 text r h (sym (same_test text) ∙ digits) in
    let p : ((0 < length text) × (digits_value 10 text < 2 ^ 64)) × (number ≡ digits_value 10 text) = rw e at whole in
    sym (chosen (ltb 0 (length text)) (eqb (get_or text 0 0) 48) (list_all is_ascii_digit text) (ltb (digits_value 10 text) (2 ^ 64))
    (Some (digits_value 10 text)) (lt-ltb _ _ long) (ne_eqb _ _ first) digits (lt-ltb _ _ p.0.1)
    ∙ ap (λ (n : ℕ). Some n) (sym p.1))

pub refuses : {E : Type 0} (text : List ℕ) (fault : E) (r : Result ℕ E) → r ≡ Err fault → ParsesUnsigned 64 10 text r → list_all is_ascii_digit text ≡ true
    → 0 < length text → None ≡ version_named text
refuses text fault r e h digits long =
    let whole = parse_digits own 64 text r h (sym (same_test text) ∙ digits) in
    let p : ¬ ((0 < length text) × (digits_value 10 text < 2 ^ 64)) = rw e at whole in
    let large : 2 ^ 64 ≤ digits_value 10 text = elim (cases_lt (digits_value 10 text) (2 ^ 64)) [ inl lt ↦ absurd (p (long, lt)) | inr le ↦ le ] in
    sym (unchosen (ltb 0 (length text)) (eqb (get_or text 0 0) 48) (list_all is_ascii_digit text) (ltb (digits_value 10 text) (2 ^ 64))
    (Some (digits_value 10 text)) (le-ltb _ _ large))
