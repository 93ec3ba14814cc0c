-- The tests of families and addresses decide that they are one.
use Rattle.std.proofs.Common.{◌≡◌, ℕ, true, eqb, eqb-true, List, [], ◌∷◌, refl, sym, ap, ◌∙◌, subst}
use Rattle.std.proofs.lemmas.Bool.{and_parts, and_from, eq-eqb, true≢false}
use Rattle.std.specs.Cmp.Lexicographic.{pointwise}
use Rattle.std.specs.List.{Contains}
use Rattle.std.proofs.lemmas.Bool.Decides.{same_from_decides}
use Rattle.mlb_base.proofs.Among.{any-contains, any-found}
use Rattle.ip_ranges.specs.declared.family.Family.{Family}
use Rattle.ip_ranges.specs.declared.family.Family.TheVariants.{V4, V6}
use Rattle.ip_ranges.specs.Values.{AddressValue, same_family, same_address, has_address}

pub same_family-is : (f g : Family) → same_family f g ≡ true → f ≡ g
same_family-is V4 V4 e = refl
same_family-is V4 V6 e = absurd (true≢false (sym e))
same_family-is V6 V4 e = absurd (true≢false (sym e))
same_family-is V6 V6 e = refl

pub same_family-itself : (f : Family) → same_family f f ≡ true
same_family-itself V4 = refl
same_family-itself V6 = refl

pub same_address-is : (a b : AddressValue) → same_address a b ≡ true → a ≡ b
same_address-is a b e =
    let parts = and_parts (same_family a.family b.family) (eqb a.number b.number) e in
    let families : a.family ≡ b.family = same_family-is a.family b.family parts.0 in
    let numbers : a.number ≡ b.number = eqb-true a.number b.number parts.1 in
    let family : Family → AddressValue = λ f. record { family = f; number = a.number } in
    let number : ℕ → AddressValue = λ n. record { family = b.family; number = n } in
    ap family families ∙ ap number numbers

pub same_address-itself : (a : AddressValue) → same_address a a ≡ true
same_address-itself a = and_from (same_family a.family a.family) (eqb a.number a.number) (same_family-itself a.family) (eq-eqb a.number a.number refl)

pub same_address-flip : (a b : AddressValue) → same_address a b ≡ same_address b a
same_address-flip a b =
    same_from_decides {P = a ≡ b} (same_address a b) (same_address b a)
    (λ e. same_address-is a b e, λ is. subst (λ (x : AddressValue). same_address a x ≡ true) is (same_address-itself a))
    (λ e. sym (same_address-is b a e), λ is. subst (λ (x : AddressValue). same_address x a ≡ true) is (same_address-itself a))

pub has_address-is : (addresses : List AddressValue) (a : AddressValue) → has_address addresses a ≡ true → Contains addresses a
has_address-is addresses a e =
    let found = any-found (same_address a) addresses e in
    subst (λ b. Contains addresses b) (sym (same_address-is a found.0 found.2)) found.1

pub has_address-from : (addresses : List AddressValue) (a : AddressValue) → Contains addresses a → has_address addresses a ≡ true
has_address-from addresses a found = any-contains (same_address a) addresses a found (same_address-itself a)

-- lists of addresses that are the same, one by one
pub addresses-is : (xs ys : List AddressValue) → pointwise same_address xs ys ≡ true → xs ≡ ys
addresses-is [] [] e = refl
addresses-is [] (y ∷ ys) e = absurd (true≢false (sym e))
addresses-is (x ∷ xs) [] e = absurd (true≢false (sym e))
addresses-is (x ∷ xs) (y ∷ ys) e =
    let parts = and_parts (same_address x y) (pointwise same_address xs ys) e in
    let first : AddressValue → List AddressValue = λ a. a ∷ xs in
    let rest : List AddressValue → List AddressValue = λ more. y ∷ more in
    ap first (same_address-is x y parts.0) ∙ ap rest (addresses-is xs ys parts.1)

pub addresses-itself : (xs : List AddressValue) → pointwise same_address xs xs ≡ true
addresses-itself [] = refl
addresses-itself (x ∷ xs) = and_from (same_address x x) (pointwise same_address xs xs) (same_address-itself x) (addresses-itself xs)
