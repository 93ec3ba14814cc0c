-- What is found first is the first fault.
use Rattle.std.proofs.Common.{◌≡◌, ℕ, zero, suc, ◌<◌, Bool, true, false, List, [], ◌∷◌, inl, inr, find, cond, Option, Some, None, refl, subst, arith, Decides}
use Rattle.std.proofs.lemmas.Bool.Decides.{not_from_Decides}
use Rattle.std.specs.Option.{option_map, option_or, MatchOption}
use Rattle.pool_config.specs.Faults.{FaultyItem, FaultyPair, IsBefore, IsFirstOf, key_of}
use Rattle.mlb_base.specs.Items.{ItemAt}
use Rattle.pool_config.specs.Search.{first_name, first_pair}

-- there is no fault
abbrev pub NoneOf : (ℕ → ℕ → List ℕ → Type 0) → Type 0
NoneOf Faulty = (first second : ℕ) (name : List ℕ) → ¬ Faulty first second name

-- what is found is the name of the first fault, and nothing is where there is none
abbrev pub Finds : (ℕ → ℕ → List ℕ → Type 0) → Option (List ℕ) → Type 0
Finds Faulty found = MatchOption found (NoneOf Faulty) (IsFirstOf Faulty)

-- a search along a list
pub record FoundAt {A : Type 0} (p : A → Bool) (xs : List A) (x : A) : Type 0 where
  pub place : ℕ
  pub stands : ItemAt xs place x
  pub passes : p x ≡ true
  pub earlier : (i : ℕ) (y : A) → i < place → ItemAt xs i y → p y ≡ false

pub find_some : {A : Type 0} (p : A → Bool) (xs : List A) (x : A) → find p xs ≡ Some x → FoundAt p xs x
find_some p [] x e = absurd (let h : None ≡ Some x = e in cc)
find_some {A} p (y ∷ ys) x e = go (p y) refl e (find_some p ys x)
  where
    go : (b : Bool) → p y ≡ b → cond b (Some y) (find p ys) ≡ Some x → (find p ys ≡ Some x → FoundAt p ys x) → FoundAt p (y ∷ ys) x
    go true here found rest =
        let same : y ≡ x = cc in
        record { place = 0; stands = same; passes = rw (← same) here; earlier = λ i z below stands. absurd (omega arith) }
    go false here found rest =
        let f = rest found in
        record { place = suc f.place; stands = f.stands; passes = f.passes; earlier = before f }
      where
        before : (f : FoundAt p ys x) (i : ℕ) (z : A) → i < suc f.place → ItemAt (y ∷ ys) i z → p z ≡ false
        before f zero z below stands = rw (← stands) here
        before f (suc i) z below stands = f.earlier i z (omega arith) stands

pub find_none : {A : Type 0} (p : A → Bool) (xs : List A) → find p xs ≡ None → (i : ℕ) (y : A) → ItemAt xs i y → p y ≡ false
find_none p [] e i y stands = absurd stands
find_none {A} p (x ∷ xs) e i y stands = go (p x) refl e (find_none p xs) i stands
  where
    go : (b : Bool) → p x ≡ b → cond b (Some x) (find p xs) ≡ None → (find p xs ≡ None → (i : ℕ) (y : A) → ItemAt xs i y → p y ≡ false)
        → (i : ℕ) → ItemAt (x ∷ xs) i y → p y ≡ false
    go true here none rest i stands = absurd (let h : Some x ≡ None = none in cc)
    go false here none rest zero stands = rw (← stands) here
    go false here none rest (suc i) stands = rest none i y stands

-- the first item at fault
pub finds_item : {A : Type 0} (name_of : A → List ℕ) (p : A → Bool) (P : A → Type 0) → ((x : A) → Decides (p x) (P x)) → (xs : List A)
    → Finds (FaultyItem name_of P xs) (option_map name_of (find p xs))
finds_item {A} name_of p P each xs = go (find p xs) refl
  where
    go : (o : Option A) → find p xs ≡ o → Finds (FaultyItem name_of P xs) (option_map name_of o)
    go None e = λ first second name h. not_from_Decides (p h.item) (each h.item) (find_none p xs e first h.item h.stands) h.faulty
    go (Some x) e =
        let f = find_some p xs x e in
        record {
          first = f.place;
          second = f.place;
          here = record { item = x; stands = f.stands; faulty = (each x).0 f.passes; named = refl; alone = refl };
          least = λ first second name h before. least f first second name h before;
        }
      where
        least : (f : FoundAt p xs x) (first second : ℕ) (name : List ℕ) → FaultyItem name_of P xs first second name → IsBefore first second f.place f.place → ⊥
        least f first second name h (inl below) = not_from_Decides (p h.item) (each h.item) (f.earlier first h.item below h.stands) h.faulty
        least f first second name h (inr tied) = let alone = h.alone in omega arith

first_name-is : {T : Type 0} (p : T → Bool) (xs : List (List ℕ × T)) → option_map key_of (find (λ e. p e.1) xs) ≡ first_name p xs
first_name-is p [] = refl
first_name-is {T} p (e ∷ es) = go (p e.1) (first_name-is p es)
  where
    go : (b : Bool) → option_map key_of (find (λ x. p x.1) es) ≡ first_name p es
        → option_map key_of (cond b (Some e) (find (λ x. p x.1) es)) ≡ cond b (Some e.0) (first_name p es)
    go true rest = refl
    go false rest = rest

pub finds_named : {T : Type 0} (p : T → Bool) (P : T → Type 0) → ((x : T) → Decides (p x) (P x)) → (xs : List (List ℕ × T))
    → Finds (FaultyItem key_of (λ e. P e.1) xs) (first_name p xs)
finds_named {T} p P each xs =
    let Finding : Option (List ℕ) → Type 0 = Finds (FaultyItem key_of (λ (e : List ℕ × T). P e.1) xs) in
    subst Finding (first_name-is p xs) (finds_item key_of (λ e. p e.1) (λ e. P e.1) (λ e. each e.1) xs)

-- the least pair at fault
more_none : {A : Type 0} (name_of : A → List ℕ) (r : A → A → Bool) (R : A → A → Type 0) → ((x y : A) → Decides (r x y) (R x y)) → (a : A) (more : List A)
    → find (r a) more ≡ None → NoneOf (FaultyPair name_of R more) → NoneOf (FaultyPair name_of R (a ∷ more))
more_none name_of r R each a more e rest zero zero name h = let ordered = h.ordered in omega arith
more_none name_of r R each a more e rest zero (suc j) name h =
    let same : a ≡ h.one = h.one_stands in
    not_from_Decides (r a h.other) (each a h.other) (find_none (r a) more e j h.other h.other_stands) (rw same h.faulty)
more_none name_of r R each a more e rest (suc i) zero name h = let ordered = h.ordered in omega arith
more_none name_of r R each a more e rest (suc i) (suc j) name h =
    rest i j name (record {
      one = h.one;
      other = h.other;
      ordered = (let ordered = h.ordered in omega arith);
      one_stands = h.one_stands;
      other_stands = h.other_stands;
      faulty = h.faulty;
      named = h.named;
    })

more_some : {A : Type 0} (name_of : A → List ℕ) (r : A → A → Bool) (R : A → A → Type 0) → ((x y : A) → Decides (r x y) (R x y)) → (a : A) (more : List A)
    → find (r a) more ≡ None → (name : List ℕ) → IsFirstOf (FaultyPair name_of R more) name → IsFirstOf (FaultyPair name_of R (a ∷ more)) name
more_some {A} name_of r R each a more e name f =
    let h = f.here in
    record {
      first = suc f.first;
      second = suc f.second;
      here = record {
        one = h.one;
        other = h.other;
        ordered = (let ordered = h.ordered in omega arith);
        one_stands = h.one_stands;
        other_stands = h.other_stands;
        faulty = h.faulty;
        named = h.named;
      };
      least = least;
    }
  where
    least : (i j : ℕ) (other : List ℕ) → FaultyPair name_of R (a ∷ more) i j other → IsBefore i j (suc f.first) (suc f.second) → ⊥
    least zero zero other h before = let ordered = h.ordered in omega arith
    least zero (suc j) other h before =
        let same : a ≡ h.one = h.one_stands in
        not_from_Decides (r a h.other) (each a h.other) (find_none (r a) more e j h.other h.other_stands) (rw same h.faulty)
    least (suc i) zero other h before = let ordered = h.ordered in omega arith
    least (suc i) (suc j) other h before =
        f.least i j other
        (record {
          one = h.one;
          other = h.other;
          ordered = (let ordered = h.ordered in omega arith);
          one_stands = h.one_stands;
          other_stands = h.other_stands;
          faulty = h.faulty;
          named = h.named;
        })
        (lower before)
      where
        lower : IsBefore (suc i) (suc j) (suc f.first) (suc f.second) → IsBefore i j f.first f.second
        lower (inl below) = inl (omega arith)
        lower (inr tied) = inr (omega arith, omega arith)

here_some : {A : Type 0} (name_of : A → List ℕ) (r : A → A → Bool) (R : A → A → Type 0) → ((x y : A) → Decides (r x y) (R x y))
    → (a : A) (more : List A) (b : A)
    → FoundAt (r a) more b → IsFirstOf (FaultyPair name_of R (a ∷ more)) (name_of b)
here_some {A} name_of r R each a more b f =
    record {
      first = 0;
      second = suc f.place;
      here = record { one = a; other = b; ordered = omega arith; one_stands = refl; other_stands = f.stands; faulty = (each a b).0 f.passes; named = refl };
      least = least;
    }
  where
    least : (i j : ℕ) (other : List ℕ) → FaultyPair name_of R (a ∷ more) i j other → IsBefore i j 0 (suc f.place) → ⊥
    least i j other h (inl below) = omega arith
    least zero zero other h (inr tied) = let ordered = h.ordered in omega arith
    least zero (suc j) other h (inr tied) =
        let same : a ≡ h.one = h.one_stands in
        not_from_Decides (r a h.other) (each a h.other) (f.earlier j h.other (omega arith) h.other_stands) (rw same h.faulty)
    least (suc i) j other h (inr tied) = let first = tied.0 in omega arith

pub finds_pair : {A : Type 0} (name_of : A → List ℕ) (r : A → A → Bool) (R : A → A → Type 0) → ((x y : A) → Decides (r x y) (R x y)) → (xs : List A)
    → Finds (FaultyPair name_of R xs) (first_pair name_of r xs)
finds_pair name_of r R each [] = λ first second name h. absurd h.one_stands
finds_pair {A} name_of r R each (a ∷ more) = go (find (r a) more) refl (first_pair name_of r more) (finds_pair name_of r R each more)
  where
    go : (o : Option A) → find (r a) more ≡ o → (rest : Option (List ℕ)) → Finds (FaultyPair name_of R more) rest
        → Finds (FaultyPair name_of R (a ∷ more)) (option_or (option_map name_of o) rest)
    go (Some b) e rest found = here_some name_of r R each a more b (find_some (r a) more b e)
    go None e None found = more_none name_of r R each a more e found
    go None e (Some name) found = more_some name_of r R each a more e name found
