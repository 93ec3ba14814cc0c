-- Lines that aren't those of puts.
use Rattle.std.proofs.Common.{◌≡◌, ◌≢◌, ℕ, suc, zero, ◌/◌, ◌%◌, ◌+◌, ◌==◌, Bool, true, false, cond, not, eqb, List, [], ◌∷◌, ◌++◌, ◌&&◌, codes, decimal, refl, sym, ap, ◌∙◌, arith}
use Rattle.std.proofs.lemmas.Bool.{and_from, and_parts}
use Rattle.std.proofs.lemmas.List.Folds.{list_all-append}
use Rattle.hex.specs.Hex.{encode_with}
use Rattle.json.specs.Print.{quoted}
use Rattle.std.proofs.lemmas.Bool.Decides.{nat_tests}
use Rattle.core.specs.Fmt.{digits, digits_onto, digit_glyph}
use Rattle.kube_lines.specs.Apart.{is_plain}
use Rattle.kube_lines.specs.OutputLines.{accepted_text, pending_text, put_text, refused_text, took_text}
use Rattle.kube_lines.proofs.Apart.{lines-read}
use Rattle.kube_model.specs.declared.config_fault.ConfigFault.{ConfigFault}
use Rattle.kube_model.specs.declared.key.Key.{Key}
use Rattle.kube_model.specs.declared.put.Put.{Put}
use Rattle.kube_model.specs.declared.reason.Reason.{Reason}
use Rattle.kube_model.specs.declared.status.LaneName.{LaneName}
use Rattle.kube_model.specs.LineWords.{reason_text}
use Rattle.kube_model.specs.Status.{lane_text}
use Rattle.line_exchanges.specs.Exchanges.{IsOther}

-- ---- no line end stands in a text in quotes
abbrev is_inner : ℕ → Bool
is_inner b = not (b == 10)

pub plain-append : (xs ys : List ℕ) → is_plain xs ≡ true → is_plain ys ≡ true → is_plain (xs ++ ys) ≡ true
plain-append xs ys x y = list_all-append is_inner xs ys ∙ and_from (is_plain xs) (is_plain ys) x y

-- as it stands in a line that is known to be one
pub quoted-plain : (s rest : List ℕ) → is_plain rest ≡ true → is_plain (quoted s ++ rest) ≡ true
unfolding encode_with
quoted-plain s rest more =
    let ends : List ℕ = codes "}" ++ [] in
    let both = sym (list_all-append is_inner (quoted s) ends) ∙ (lines-read.update s []).one in
    plain-append (quoted s) rest (and_parts (is_plain (quoted s)) (is_plain ends) both).0 more

-- ---- nor in a number
glyph-plain : (d : ℕ) → not (digit_glyph false d == 10) ≡ true
glyph-plain d = grind (arith, nat_tests)

either-plain : (b : Bool) (xs ys : List ℕ) → is_plain xs ≡ true → is_plain ys ≡ true → is_plain (cond b xs ys) ≡ true
either-plain true xs ys x y = x
either-plain false xs ys x y = y

onto-plain : (k n : ℕ) (acc : List ℕ) → is_plain acc ≡ true → is_plain (digits_onto k 10 false n acc) ≡ true
onto-plain zero n acc plain = plain
onto-plain (suc k) n acc plain =
    let one = and_from (not (digit_glyph false (n % 10) == 10)) (is_plain acc) (glyph-plain (n % 10)) plain in
    either-plain (n / 10 == 0) (digit_glyph false (n % 10) ∷ acc) (digits_onto k 10 false (n / 10) (digit_glyph false (n % 10) ∷ acc)) one
    (onto-plain k (n / 10) (digit_glyph false (n % 10) ∷ acc) one)

pub digits-plain : (n : ℕ) → is_plain (decimal n) ≡ true
unfolding digits
digits-plain n = onto-plain 64 n [] refl

-- ---- other lines
-- the first letter of the first member's name
abbrev letter : List ℕ → ℕ
letter [] = 0
letter (a ∷ []) = 0
letter (a ∷ b ∷ []) = 0
letter (a ∷ b ∷ c ∷ text) = c

pub other-accepted : IsOther accepted_text
other-accepted = (lines-read.accepted.one, λ put is. let e : 111 ≡ 97 = ap letter is in omega (arith, e))

pub other-refused : (fault : ConfigFault) → IsOther (refused_text fault)
other-refused fault = ((lines-read.refused fault).one, λ put is. let e : 102 ≡ 97 = ap letter is in omega (arith, e))

pub other-pending : (key : Key) (reason : Reason) → IsOther (pending_text key reason)
other-pending key reason = (
  quoted-plain key.name _ (quoted-plain key.namespace _ (quoted-plain (reason_text reason) _ refl)),
  λ put is. let e : 110 ≡ 97 = ap letter is in omega (arith, e),
)

pub other-took : (lane : LaneName) (n : ℕ) → IsOther (took_text lane n)
other-took lane n = (
  quoted-plain (lane_text lane) _ (plain-append (decimal n) _ (digits-plain n) refl),
  λ put is. let e : 108 ≡ 97 = ap letter is in omega (arith, e),
)
