-- Marks that are read.
use Rattle.std.proofs.Common.{◌≡◌, ℕ, Bool, true, false, cond, List, [], ◌∷◌, ◌++◌, Some, None, refl, ap}
use Rattle.std.proofs.Common.{append_assoc, append-nil, eqb, drop, drop-cons, add-one, get_or, length, ◌<◌, ◌+◌, suc}
use Rattle.std.proofs.lemmas.Bool.{false_from_ne_true, eq-eqb}
use Rattle.std.proofs.lemmas.Str.{IsUtf8-from_is_utf8, is_utf8-from_IsUtf8}
use Rattle.std.specs.Str.{IsUtf8, is_utf8}
use Rattle.sharing_terms.specs.Spelled.{text_of_bytes, pieces, extended}

pub text-some : (bytes text : List ℕ) → text ≡ bytes → IsUtf8 bytes → Some text ≡ text_of_bytes bytes
text-some bytes text is h = let passes = is_utf8-from_IsUtf8 bytes h in rw (passes, is) refl

pub text-none : (bytes : List ℕ) → ¬ (IsUtf8 bytes) → None ≡ text_of_bytes bytes
text-none bytes h = let fails = false_from_ne_true (is_utf8 bytes) (λ e. h (IsUtf8-from_is_utf8 bytes e)) in rw fails refl

-- pieces, the first of which goes on after these bytes
abbrev pub prefixed : List ℕ → List (List ℕ) → List (List ℕ)
prefixed front [] = front ∷ []
prefixed front (piece ∷ pieces) = (front ++ piece) ∷ pieces

prefixed_by : (b : Bool) (c : ℕ) (text : List (List ℕ)) → prefixed [] text ≡ text
    → prefixed [] (cond b ([] ∷ text) (extended c text)) ≡ cond b ([] ∷ text) (extended c text)
prefixed_by true c text e = refl
prefixed_by false c [] e = refl
prefixed_by false c (piece ∷ text) e = refl

pub prefixed-nil : (byte : ℕ) (text : List ℕ) → prefixed [] (pieces byte text) ≡ pieces byte text
prefixed-nil byte [] = refl
prefixed-nil byte (c ∷ text) = prefixed_by (eqb c byte) c (pieces byte text) (prefixed-nil byte text)

prefixed-extended : (piece : List ℕ) (c : ℕ) (ps : List (List ℕ)) → prefixed (piece ++ c ∷ []) ps ≡ prefixed piece (extended c ps)
prefixed-extended piece c [] = refl
prefixed-extended piece c (p ∷ ps) = ap (λ (x : List ℕ). x ∷ ps) (append_assoc piece (c ∷ []) p)

-- a piece ends
pub cut-next : (done all : List (List ℕ)) (piece text : List ℕ) (byte i d : ℕ) → i < length text → get_or text i d ≡ byte
    → done ++ prefixed piece (pieces byte (drop i text)) ≡ all → (done ++ piece ∷ []) ++ prefixed [] (pieces byte (drop (i + 1) text)) ≡ all
cut-next done all piece text byte i d lt is e =
    let there = rw (drop-cons text i d lt) at e in
    let tested : eqb (get_or text i d) byte ≡ true = eq-eqb (get_or text i d) byte is in
    let cut = rw (tested, append-nil piece) at there in
    rw (add-one, prefixed-nil byte (drop (suc i) text), append_assoc done (piece ∷ []) (pieces byte (drop (suc i) text))) cut

-- a piece goes on
pub grow-next : (done all : List (List ℕ)) (piece text : List ℕ) (byte i d : ℕ) → i < length text → eqb (get_or text i d) byte ≡ false
    → done ++ prefixed piece (pieces byte (drop i text)) ≡ all → done ++ prefixed (piece ++ get_or text i d ∷ []) (pieces byte (drop (i + 1) text)) ≡ all
grow-next done all piece text byte i d lt tested e =
    let there = rw (drop-cons text i d lt) at e in
    let grown = rw tested at there in
    rw (add-one, prefixed-extended piece (get_or text i d) (pieces byte (drop (suc i) text))) grown
