-- Tables of cases, and the first of a list.
use Rattle.std.proofs.Common.{◌≡◌, Bool, true, false, cond, List, [], ◌∷◌, Option, Some, None, find, inl, inr, refl, sym, ◌∙◌, subst, ⊎_elim}
use Rattle.std.proofs.lemmas.Bool.{true≢false}
use Rattle.std.specs.Bool.{Decides}
use Rattle.std.specs.List.{Contains}
use Rattle.mlb_base.proofs.Among.{contains-first, contains-later}
use Rattle.mlb_base.specs.Cases.{Case, IsFirst, NoneIs}

-- what a test decides, as what it is and what it isn't
pub fails : {P : Type 0} → (b : Bool) → Decides b P → b ≡ false → ¬ P
fails b d e p = true≢false (sym (d.1 p) ∙ e)

-- the test decides which side is answered
pub case-at : {C W A R : Type 0} {x y c : C} → (b : Bool) → Decides b W → c ≡ cond b x y → (c ≡ x → b ≡ true → A) → (c ≡ y → b ≡ false → R) → Case W A R
case-at true d e here there = inl (d.0 refl, here e refl)
case-at false d e here there = inr (fails false d refl, there e refl)

-- one choice at most
abbrev pub IsOnly : {C : Type 0} → (C → Type 0) → Type 0
IsOnly {C} P = (x y : C) → P x → P y → x ≡ y

pub only-is : {C : Type 0} (z : C) → IsOnly (λ x. x ≡ z)
only-is z x y p q = p ∙ sym q

pub only-case : {C : Type 0} (W : Type 0) (A R : C → Type 0) → IsOnly A → IsOnly R → IsOnly (λ x. Case W (A x) (R x))
only-case W A R one two x y p q =
    ⊎_elim
    (λ here. ⊎_elim (λ there. one x y here.1 there.1) (λ there. absurd (there.0 here.0)) q)
    (λ here. ⊎_elim (λ there. absurd (here.0 there.0)) (λ there. two x y here.1 there.1) q)
    p

-- what holds of the answer of each case holds of what is chosen
pub case-has : (W A R P : Type 0) → (W → A → P) → (¬ W → R → P) → Case W A R → P
case-has W A R P here there c = ⊎_elim (λ h. here h.0 h.1) (λ t. there t.0 t.1) c

pub first-only : {X : Type 0} (P : X → Type 0) (xs : List X) → IsOnly (IsFirst P xs)
first-only P [] x y p q = absurd p
first-only P (z ∷ zs) x y p q =
    ⊎_elim
    (λ here. ⊎_elim (λ there. here.1 ∙ sym there.1) (λ there. absurd (there.0 here.0)) q)
    (λ here. ⊎_elim (λ there. absurd (here.0 there.0)) (λ there. first-only P zs x y here.1 there.1) q)
    p

pub first-none : {X : Type 0} (P : X → Type 0) (xs : List X) (x : X) → IsFirst P xs x → NoneIs P xs → ⊥
first-none P [] x p none = p
first-none P (z ∷ zs) x p none = ⊎_elim (λ here. none.0 here.0) (λ there. first-none P zs x there.1 none.1) p

pub first-holds : {X : Type 0} (P : X → Type 0) (xs : List X) (x : X) → IsFirst P xs x → P x
first-holds P [] x p = absurd p
first-holds P (z ∷ zs) x p = ⊎_elim (λ here. subst P (sym here.1) here.0) (λ there. first-holds P zs x there.1) p

pub first-stands : {X : Type 0} (P : X → Type 0) (xs : List X) (x : X) → IsFirst P xs x → Contains xs x
first-stands P [] x p = absurd p
first-stands P (z ∷ zs) x p =
    ⊎_elim (λ here. subst (Contains (z ∷ zs)) (sym here.1) (contains-first z zs)) (λ there. contains-later z zs x (first-stands P zs x there.1)) p

-- where it holds of fewer, there is none among fewer
pub none-fewer : {X : Type 0} (P Q : X → Type 0) (xs : List X) → ((x : X) → Q x → P x) → NoneIs P xs → NoneIs Q xs
none-fewer P Q [] fewer none = tt
none-fewer P Q (z ∷ zs) fewer none = (λ q. none.0 (fewer z q), none-fewer P Q zs fewer none.1)

find_by : {X : Type 0} (b : Bool) (P : X → Type 0) (test : X → Bool) (z : X) (zs : List X) (found : Option X) → Decides b (P z)
    → ((x : X) → found ≡ Some x → IsFirst P zs x) → (x : X) → cond b (Some z) found ≡ Some x → IsFirst P (z ∷ zs) x
find_by true P test z zs found d ih x e = inl (d.0 refl, cc)
find_by false P test z zs found d ih x e = inr (fails false d refl, ih x e)

-- what a search finds is the first
pub find-first : {X : Type 0} (P : X → Type 0) (test : X → Bool) (xs : List X) (x : X) → ((z : X) → Decides (test z) (P z)) → find test xs ≡ Some x
    → IsFirst P xs x
find-first P test [] x d e = absurd (cc)
find-first P test (z ∷ zs) x d e = find_by (test z) P test z zs (find test zs) (d z) (λ y. find-first P test zs y d) x e

find_none_by : {X : Type 0} (b : Bool) (P : X → Type 0) (z : X) (zs : List X) (found : Option X) → Decides b (P z)
    → (found ≡ None → NoneIs P zs) → cond b (Some z) found ≡ None → NoneIs P (z ∷ zs)
find_none_by true P z zs found d ih e = absurd (cc)
find_none_by false P z zs found d ih e = (fails false d refl, ih e)

pub find-none : {X : Type 0} (P : X → Type 0) (test : X → Bool) (xs : List X) → ((z : X) → Decides (test z) (P z)) → find test xs ≡ None → NoneIs P xs
find-none P test [] d e = tt
find-none P test (z ∷ zs) d e = find_none_by (test z) P z zs (find test zs) (d z) (find-none P test zs d) e
