-- The items of lists, by their places, and lists some item of which is so.
use Rattle.std.proofs.Common.{◌≡◌, ℕ, zero, suc, Bool, true, false, cond, filter, List, [], ◌∷◌, ◌++◌, ◌<◌}
use Rattle.std.proofs.Common.{inl, inr, length, arith, Option, Some, None, refl, sym, ◌∙◌, ap, subst}
use Rattle.std.proofs.lemmas.Bool.{false≢true}
use Rattle.std.specs.List.{filter_map, cons_option}
use Rattle.mlb_base.specs.Items.{ItemAt, Has, IsIn}

pub has_left : {A : Type 0} (P : A → Type 0) (xs ys : List A) → Has P xs → Has P (xs ++ ys)
has_left P [] ys h = absurd h
has_left P (x ∷ xs) ys (inl here) = inl here
has_left P (x ∷ xs) ys (inr later) = inr (has_left P xs ys later)

pub has_right : {A : Type 0} (P : A → Type 0) (xs ys : List A) → Has P ys → Has P (xs ++ ys)
has_right P [] ys h = h
has_right P (x ∷ xs) ys h = inr (has_right P xs ys h)

pub in_list : {A : Type 0} (P : A → Type 0) (xs : List A) → Has P xs → (i : ℕ) × (x : A) × ItemAt xs i x × P x
in_list P [] h = absurd h
in_list P (x ∷ xs) (inl here) = (0, x, refl, here)
in_list P (x ∷ xs) (inr later) = let (i, y, stands, holds) = in_list P xs later in (suc i, y, stands, holds)

pub at_has : {A : Type 0} (P : A → Type 0) (xs : List A) (i : ℕ) (x : A) → ItemAt xs i x → P x → Has P xs
at_has P [] i x stands h = stands
at_has P (y ∷ ys) zero x stands h = let Q = P in inl (subst Q (sym stands) h)
at_has P (y ∷ ys) (suc i) x stands h = inr (at_has P ys i x stands h)

pub has_map : {A : Type 0} (P Q : A → Type 0) → ((x : A) → P x → Q x) → (xs : List A) → Has P xs → Has Q xs
has_map P Q f [] h = absurd h
has_map P Q f (x ∷ xs) (inl here) = inl (f x here)
has_map P Q f (x ∷ xs) (inr later) = inr (has_map P Q f xs later)

-- what a filter keeps, and what one that reads gives
pub in_filter : {A : Type 0} (p : A → Bool) (xs : List A) (x : A) → IsIn xs x → p x ≡ true → IsIn (filter p xs) x
in_filter p [] x none passes = absurd none
in_filter {A} p (y ∷ xs) x among passes = go (p y) refl (in_filter p xs x) among
  where
    go : (b : Bool) → p y ≡ b → (IsIn xs x → p x ≡ true → IsIn (filter p xs) x) → IsIn (y ∷ xs) x → IsIn (cond b (y ∷ filter p xs) (filter p xs)) x
    go true e rest (inl here) = inl here
    go true e rest (inr later) = inr (rest later passes)
    go false e rest (inl here) = absurd (false≢true (sym e ∙ ap p here ∙ passes))
    go false e rest (inr later) = rest later passes

pub in_filter_map : {X Y : Type 0} (f : X → Option Y) (xs : List X) (y : Y) → IsIn (filter_map f xs) y → Has (λ x. f x ≡ Some y) xs
in_filter_map f [] y h = absurd h
in_filter_map {X} {Y} f (x ∷ xs) y h = go (f x) refl (in_filter_map f xs y) h
  where
    go : (r : Option Y) → f x ≡ r → (IsIn (filter_map f xs) y → Has (λ z. f z ≡ Some y) xs) → IsIn (cons_option r (filter_map f xs)) y
        → Has (λ z. f z ≡ Some y) (x ∷ xs)
    go None e rest inside = inr (rest inside)
    go (Some z) e rest (inl here) = inl (e ∙ ap (λ w. Some w) here)
    go (Some z) e rest (inr later) = inr (rest later)

pub filter_map_in : {X Y : Type 0} (f : X → Option Y) (xs : List X) (y : Y) → Has (λ x. f x ≡ Some y) xs → IsIn (filter_map f xs) y
filter_map_in f [] y h = absurd h
filter_map_in {X} {Y} f (x ∷ xs) y h = go (f x) refl (filter_map_in f xs y) h
  where
    go : (r : Option Y) → f x ≡ r → (Has (λ z. f z ≡ Some y) xs → IsIn (filter_map f xs) y) → Has (λ z. f z ≡ Some y) (x ∷ xs)
        → IsIn (cons_option r (filter_map f xs)) y
    go None e rest (inl here) = absurd (let h : None ≡ Some y = sym e ∙ here in cc)
    go None e rest (inr later) = rest later
    go (Some z) e rest (inl here) = let whole : Some z ≡ Some y = sym e ∙ here in inl cc
    go (Some z) e rest (inr later) = inr (rest later)

-- a place has one item
pub same_item : {A : Type 0} (xs : List A) (i : ℕ) (x y : A) → ItemAt xs i x → ItemAt xs i y → x ≡ y
same_item [] i x y hx hy = absurd hx
same_item (z ∷ xs) zero x y hx hy = sym hx ∙ hy
same_item (z ∷ xs) (suc i) x y hx hy = same_item xs i x y hx hy

-- the item after those of a list, and how many these are
pub item_at_length : {A : Type 0} (done rest : List A) (x : A) → ItemAt (done ++ x ∷ rest) (length done) x
item_at_length [] rest x = refl
item_at_length (y ∷ ys) rest x = item_at_length ys rest x

pub item_bound : {A : Type 0} (xs : List A) (i : ℕ) (x : A) → ItemAt xs i x → i < length xs
item_bound [] i x h = absurd h
item_bound (y ∷ ys) zero x h = omega arith
item_bound (y ∷ ys) (suc i) x h = let rest = item_bound ys i x h in omega arith

pub length_push : {A : Type 0} (done : List A) (x : A) → length (done ++ x ∷ []) ≡ suc (length done)
length_push [] x = refl
length_push (y ∷ ys) x = let rest = length_push ys x in omega arith

pub append_nil : {A : Type 0} (xs : List A) → xs ++ [] ≡ xs
append_nil [] = refl
append_nil {A} (x ∷ xs) = ap (λ (l : List A). x ∷ l) (append_nil xs)
