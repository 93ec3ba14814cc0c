-- The texts that are large communities are those of the form `large:A:B:C`.
use Rattle.std.proofs.Common.{◌≡◌, ℕ, ◌^◌, ◌<◌, Bool, true, false, List, [], ◌∷◌, ◌++◌, ◌↔◌, Option, Some, None}
use Rattle.std.proofs.Common.{length, drop, decimal, cond, refl, sym, ◌∙◌, ap, subst, arith, Decides, is_none}
use Rattle.std.proofs.lemmas.Bool.Decides.{Decides-eqb}
use Rattle.std.proofs.lemmas.Bool.{false≢true}
use Rattle.std.proofs.lemmas.Slice.Eq.{starts_is}
use Rattle.std.specs.List.{before_first, after_first}
use Rattle.std.proofs.lemmas.Fmt.{decimal_nonempty}
use Rattle.large_numbers.specs.declared.numbers.LargeCommunity.{LargeCommunity}
use Rattle.pool_config.specs.Faults.{IsNoLarge}
use Rattle.pool_config.specs.Large.{IsLargeText, begins_large, large_mark, large_of, local_of, pair, with_global, word_of, words_of}
use Rattle.pool_config.specs.Numbers.{is_colon}
use Rattle.pool_config.proofs.NumberTexts.{before_decimal, behind_decimal, below_decimal, below_some, cut_at_colon}

-- ---- what is written is read
word-is : (text : List ℕ) (a : ℕ) → text ≡ decimal a → a < 2 ^ 32 → word_of text ≡ Some a
word-is text a e fits = ap word_of e ∙ below_decimal (2 ^ 32) (omega arith) a fits

local_written : (b c : ℕ) → b < 2 ^ 32 → c < 2 ^ 32 → local_of (decimal b ++ 58 ∷ decimal c) ≡ Some (b, c)
local_written b c fb fc =
    ap (λ v. pair v (word_of (after_first is_colon (decimal b ++ 58 ∷ decimal c))))
    (word-is (before_first is_colon (decimal b ++ 58 ∷ decimal c)) b (before_decimal b (decimal c) (omega arith)) fb)
    ∙ ap (pair (Some b)) (word-is (after_first is_colon (decimal b ++ 58 ∷ decimal c)) c (behind_decimal b (decimal c) (omega arith)) fc)

words-before : (a : ℕ) (local : List ℕ) (l : ℕ × ℕ) → a < 2 ^ 32 → local_of local ≡ Some l
    → words_of (decimal a ++ 58 ∷ local) ≡ Some (record { global = a; first = l.0; second = l.1 })
words-before a local l fits is =
    ap (λ v. with_global v (local_of (after_first is_colon (decimal a ++ 58 ∷ local))))
    (word-is (before_first is_colon (decimal a ++ 58 ∷ local)) a (before_decimal a local (omega arith)) fits)
    ∙ ap (with_global (Some a)) (ap local_of (behind_decimal a local (omega arith)) ∙ is)

words_written : (a b c : ℕ) → a < 2 ^ 32 → b < 2 ^ 32 → c < 2 ^ 32
    → words_of (decimal a ++ 58 ∷ (decimal b ++ 58 ∷ decimal c)) ≡ Some (record { global = a; first = b; second = c })
words_written a b c fa fb fc = words-before a (decimal b ++ 58 ∷ decimal c) (b, c) fa (local_written b c fb fc)

-- after the mark stands what is behind the first colon
behind_mark : (rest : List ℕ) → after_first is_colon (large_mark ++ rest) ≡ rest
behind_mark rest = refl

begins_marked : (rest : List ℕ) → begins_large (large_mark ++ rest) ≡ true
begins_marked rest = refl

large-behind : (text rest : List ℕ) (c : LargeCommunity) → text ≡ large_mark ++ rest → words_of rest ≡ Some c → large_of text ≡ Some c
large-behind text rest c is found =
    let begins : begins_large text ≡ true = ap begins_large is ∙ begins_marked rest in
    let behind : after_first is_colon text ≡ rest = ap (after_first is_colon) is ∙ behind_mark rest in
    ap (λ b. cond b (words_of (after_first is_colon text)) None) begins ∙ ap words_of behind ∙ found

large_written : (text : List ℕ) (c : LargeCommunity) → IsLargeText text c → large_of text ≡ Some c
large_written text c is =
    large-behind text (decimal c.global ++ 58 ∷ (decimal c.first ++ 58 ∷ decimal c.second)) c is.spelled
    (words_written c.global c.first c.second is.global is.first is.second)

-- ---- what is read was written so
begins_form : (text : List ℕ) → begins_large text ≡ true → text ≡ large_mark ++ drop 6 text
begins_form text e = (starts_is Decides-eqb text large_mark (begins_large text) refl).0 e

cut-is : (xs ys xs' ys' : List ℕ) → xs ≡ xs' → ys ≡ ys' → xs ++ 58 ∷ ys ≡ xs' ++ 58 ∷ ys'
cut-is xs ys xs' ys' p q = ap (λ l. l ++ 58 ∷ ys) p ∙ ap (λ l. xs' ++ 58 ∷ l) q

some-by : (xs : List ℕ) (d : ℕ) → xs ≡ decimal d → d < 2 ^ 64 → 0 < length xs
some-by xs d is fits = subst (λ (l : List ℕ). 0 < length l) (sym is) (decimal_nonempty d fits)

behind_some : (xs ys : List ℕ) → 0 < length (xs ++ 58 ∷ ys)
behind_some [] ys = omega arith
behind_some (x ∷ xs) ys = omega arith

local_form : (text : List ℕ) (l : ℕ × ℕ) → local_of text ≡ Some l → (l.0 < 2 ^ 32) × (l.1 < 2 ^ 32) × (text ≡ decimal l.0 ++ 58 ∷ decimal l.1)
local_form text l e = go (word_of (before_first is_colon text)) refl (word_of (after_first is_colon text)) refl e
  where
    go : (x : Option ℕ) → word_of (before_first is_colon text) ≡ x → (y : Option ℕ) → word_of (after_first is_colon text) ≡ y
        → pair x y ≡ Some l → (l.0 < 2 ^ 32) × (l.1 < 2 ^ 32) × (text ≡ decimal l.0 ++ 58 ∷ decimal l.1)
    go None hx y hy found = absurd (let h : None ≡ Some l = found in cc)
    go (Some b) hx None hy found = absurd (let h : None ≡ Some l = found in cc)
    go (Some b) hx (Some c) hy found =
        let (fb, one) = below_some (2 ^ 32) (omega arith) (before_first is_colon text) b hx in
        let (fc, two) = below_some (2 ^ 32) (omega arith) (after_first is_colon text) c hy in
        let within : 0 < length (after_first is_colon text) = some-by (after_first is_colon text) c two (omega arith) in
        let whole : text ≡ decimal b ++ 58 ∷ decimal c =
        cut_at_colon text within ∙ cut-is (before_first is_colon text) (after_first is_colon text) (decimal b) (decimal c) one two in
        let is : (b, c) ≡ l = (let h : Some (b, c) ≡ Some l = found in cc) in
        subst (λ (k : ℕ × ℕ). (k.0 < 2 ^ 32) × (k.1 < 2 ^ 32) × (text ≡ decimal k.0 ++ 58 ∷ decimal k.1)) is (fb, fc, whole)

words_form : (text : List ℕ) (c : LargeCommunity) → words_of text ≡ Some c
    → (c.global < 2 ^ 32) × (c.first < 2 ^ 32) × (c.second < 2 ^ 32) × (text ≡ decimal c.global ++ 58 ∷ (decimal c.first ++ 58 ∷ decimal c.second))
words_form text c e = go (word_of (before_first is_colon text)) refl (local_of (after_first is_colon text)) refl e
  where
    go : (x : Option ℕ) → word_of (before_first is_colon text) ≡ x → (y : Option (ℕ × ℕ)) → local_of (after_first is_colon text) ≡ y
        → with_global x y ≡ Some c → (c.global < 2 ^ 32) × (c.first < 2 ^ 32) × (c.second < 2 ^ 32)
        × (text ≡ decimal c.global ++ 58 ∷ (decimal c.first ++ 58 ∷ decimal c.second))
    go None hx y hy found = absurd (let h : None ≡ Some c = found in cc)
    go (Some a) hx None hy found = absurd (let h : None ≡ Some c = found in cc)
    go (Some a) hx (Some l) hy found =
        let (fa, one) = below_some (2 ^ 32) (omega arith) (before_first is_colon text) a hx in
        let (fb, fc, inner) = local_form (after_first is_colon text) l hy in
        let within : 0 < length (after_first is_colon text) = subst (λ (xs : List ℕ). 0 < length xs) (sym inner) (behind_some (decimal l.0) (decimal l.1)) in
        let whole : text ≡ decimal a ++ 58 ∷ (decimal l.0 ++ 58 ∷ decimal l.1) = cut_at_colon text within
        ∙ cut-is (before_first is_colon text) (after_first is_colon text) (decimal a) (decimal l.0 ++ 58 ∷ decimal l.1) one inner in
        let is : record { global = a; first = l.0; second = l.1 } ≡ c =
        (let h : Some (record { global = a; first = l.0; second = l.1 }) ≡ Some c = found in cc) in
        subst (λ (k : LargeCommunity). (k.global < 2 ^ 32) × (k.first < 2 ^ 32) × (k.second < 2 ^ 32)
        × (text ≡ decimal k.global ++ 58 ∷ (decimal k.first ++ 58 ∷ decimal k.second))) is (fa, fb, fc, whole)

large_form : (text : List ℕ) (c : LargeCommunity) → large_of text ≡ Some c → IsLargeText text c
large_form text c e = go (begins_large text) refl e
  where
    go : (b : Bool) → begins_large text ≡ b → cond b (words_of (after_first is_colon text)) None ≡ Some c → IsLargeText text c
    go false begins found = absurd (let h : None ≡ Some c = found in cc)
    go true begins found =
        let form = begins_form text begins in
        let behind : after_first is_colon text ≡ drop 6 text = ap (after_first is_colon) form ∙ behind_mark (drop 6 text) in
        let (global, first, second, spelled) = words_form (after_first is_colon text) c found in
        record { global = global; first = first; second = second; spelled = form ∙ ap (λ (rest : List ℕ). large_mark ++ rest) (sym behind ∙ spelled) }

pub large_texts_are_read : (text : List ℕ) (c : LargeCommunity) → (large_of text ≡ Some c) ↔ IsLargeText text c
large_texts_are_read text c = (large_form text c, large_written text c)

-- a text that is none
pub no_large : (text : List ℕ) → large_of text ≡ None → IsNoLarge text
no_large text none = λ c is. absurd (let h : None ≡ Some c = sym none ∙ large_written text c is in cc)

pub no_large-Decides : (text : List ℕ) → Decides (is_none (large_of text)) (IsNoLarge text)
no_large-Decides text = go (large_of text) refl
  where
    go : (r : Option LargeCommunity) → large_of text ≡ r → Decides (is_none r) (IsNoLarge text)
    go None e = (λ _. no_large text e, λ _. refl)
    go (Some c) e = (λ f. absurd (false≢true f), λ none. absurd (none c (large_form text c e)))
