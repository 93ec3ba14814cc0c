-- Two sets of ports that are walked side by side, ascending.
use Rattle.std.proofs.Common.{◌≡◌, Bool, true, false, ◌||◌, length, List, [], ◌∷◌, Ordering, Less, Equal, Greater, refl, sym, ap, subst, ◌∙◌, arith}
use Rattle.std.specs.List.{AllByRecursion, IsFirstAndRest, list_any}
use Rattle.std.specs.List.Sorted.{IsStrictlySortedBy}
use Rattle.std.specs.Ordering.{ordering_reverse}
use Rattle.kube_model.specs.declared.port.Port.{Port}
use Rattle.kube_model.specs.contracts.port.PortOrd.TheImpl as derived
use Rattle.sharing_terms.specs.Ports.{port_cmp, AreAscending}
use Rattle.sharing_terms.specs.Sharing.{same_port, has_port}
use Rattle.sharing_terms.proofs.PortSets.{port_cmp-is, port_cmp-total}
use Rattle.sharing_terms.proofs.SharingLaws.{same_port-is}

-- the order that the code goes by
pub compared : (p q : Port) (r order : Ordering) → r ≡ derived.cmp-value.it p q → r ≡ order → port_cmp p q ≡ order
compared p q r order given is = ap (λ (cmp : Port → Port → Ordering). cmp p q) (sym port_cmp-is) ∙ sym given ∙ is

reverse-self : (r : Ordering) → r ≡ ordering_reverse r → r ≡ Less → ⊥
reverse-self Less e less = absurd (cc)
reverse-self Equal e less = absurd (cc)
reverse-self Greater e less = absurd (cc)

below-itself : (p : Port) → port_cmp p p ≡ Less → ⊥
below-itself p less = reverse-self (port_cmp p p) (port_cmp-total.antisymm p p) less

apart-by : (p q : Port) (b : Bool) → same_port p q ≡ b → (p ≡ q → ⊥) → b ≡ false
apart-by p q true same apart = absurd (apart (same_port-is p q same))
apart-by p q false same apart = refl

below-apart : (p q : Port) → port_cmp p q ≡ Less → same_port p q ≡ false
below-apart p q less = apart-by p q (same_port p q) refl (λ same. below-itself p (ap (port_cmp p) same ∙ less))

above-apart : (p q : Port) → port_cmp q p ≡ Less → same_port p q ≡ false
above-apart p q less = apart-by p q (same_port p q) refl (λ same. below-itself q (ap (port_cmp q) (sym same) ∙ less))

-- a port below the first is below all
further : (p q : Port) (ys : List Port) → port_cmp p q ≡ Less → AllByRecursion (λ y. port_cmp q y ≡ Less) ys → AllByRecursion (λ y. port_cmp p y ≡ Less) ys
further p q [] less above = tt
further p q (y ∷ ys) less above = (port_cmp-total.trans p q y less above.0, further p q ys less above.1)

-- a port below all is none of them
below-all : (p : Port) (ys : List Port) → AllByRecursion (λ y. port_cmp p y ≡ Less) ys → has_port ys p ≡ false
below-all p [] above = refl
below-all p (y ∷ ys) above = rw (below-apart p y above.0) (below-all p ys above.1)

-- so is none of ports that are above it
above-all : (q : Port) (ys xs : List Port) → AllByRecursion (λ x. port_cmp q x ≡ Less) xs → list_any (has_port (q ∷ ys)) xs ≡ list_any (has_port ys) xs
above-all q ys [] above = refl
above-all q ys (x ∷ xs) above = rw (above-apart x q above.0) (ap (λ (more : Bool). has_port ys x || more) (above-all q ys xs above.1))

ascending-rest : (p : Port) (ps : List Port) → AreAscending (p ∷ ps) → AreAscending ps
unfolding IsStrictlySortedBy
ascending-rest p ps up = up.1

ascending-first : (p : Port) (ps : List Port) → AreAscending (p ∷ ps) → AllByRecursion (λ y. port_cmp p y ≡ Less) ps
unfolding IsStrictlySortedBy
ascending-first p ps up = up.0

less-passed : (p q : Port) (xs ys : List Port) → port_cmp p q ≡ Less → AreAscending (q ∷ ys)
    → list_any (has_port (q ∷ ys)) (p ∷ xs) ≡ list_any (has_port (q ∷ ys)) xs
less-passed p q xs ys less up = rw (below-all p (q ∷ ys) (less, further p q ys less (ascending-first q ys up))) refl

greater-passed : (p q : Port) (xs ys : List Port) → port_cmp p q ≡ Greater → AreAscending (p ∷ xs)
    → list_any (has_port (q ∷ ys)) (p ∷ xs) ≡ list_any (has_port ys) (p ∷ xs)
greater-passed p q xs ys greater up =
    let less : port_cmp q p ≡ Less = port_cmp-total.antisymm q p ∙ ap ordering_reverse greater in
    above-all q ys (p ∷ xs) (less, further q p xs less (ascending-first p xs up))

-- what is behind the first of an ascending list
pub ascending-behind : (list rest : List Port) (port : Port) → IsFirstAndRest list port rest → AreAscending list → AreAscending rest
ascending-behind list rest port first up = ascending-rest port rest (subst AreAscending first.0 up)

-- the steps of the walk: the lower port is passed
module _ (left right after behind : List Port) (port other : Port) (first : IsFirstAndRest left port after) (second : IsFirstAndRest right other behind) where
  lists-are : list_any (has_port right) left ≡ list_any (has_port (other ∷ behind)) (port ∷ after)
  lists-are = ap (λ (ys : List Port). list_any (has_port ys) left) second.0 ∙ ap (list_any (has_port (other ∷ behind))) first.0

  pub left-passed : port_cmp port other ≡ Less → AreAscending right → list_any (has_port right) after ≡ list_any (has_port right) left
  left-passed less up =
      ap (λ (ys : List Port). list_any (has_port ys) after) second.0
      ∙ sym (less-passed port other after behind less (subst AreAscending second.0 up))
      ∙ sym lists-are

  pub right-passed : port_cmp port other ≡ Greater → AreAscending left → list_any (has_port behind) left ≡ list_any (has_port right) left
  right-passed greater up =
      ap (list_any (has_port behind)) first.0
      ∙ sym (greater-passed port other after behind greater (subst AreAscending first.0 up))
      ∙ sym lists-are

any-none : (ports : List Port) → list_any (has_port []) ports ≡ false
any-none [] = refl
any-none (p ∷ ports) = any-none ports

-- with no ports nothing is shared
pub none-shared : (left right : List Port) → length right ≡ 0 → list_any (has_port right) left ≡ false
none-shared left [] none = any-none left
none-shared left (q ∷ right) none = absurd (omega (arith, none))
