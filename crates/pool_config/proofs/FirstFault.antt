-- What the objects are compiled to is the first fault, or else the lists.
use Rattle.std.proofs.Common.{◌≡◌, ℕ, List, [], ◌∷◌, ◌++◌, inl, inr, All, Option, Some, None, Result, Ok}
use Rattle.std.proofs.Common.{Err, IfOk, IfErr, ◌↔◌, refl, sym, ◌∙◌, ap, subst, arith}
use Rattle.std.proofs.lemmas.Bool.{cases_order}
use Rattle.std.proofs.lemmas.List.Elements.{All-nil, All-cons, All-head, All-tail}
use Rattle.std.specs.Option.{option_map, option_or, MatchOption}
use Rattle.kube_model.specs.declared.config_fault.ConfigFault.{ConfigFault}
use Rattle.pool_config.specs.declared.object_set.ObjectSet.{ObjectSet}
use Rattle.pool_config.specs.declared.compile_objects.CompileFault.{CompileFault}
use Rattle.pool_config.specs.declared.compile_objects.CompileFault.TheVariants.{Refused}
use Rattle.pool_config.specs.Compile.{compiled, compiled_unless}
use Rattle.pool_config.specs.ConfigValue.{ConfigValue}
use Rattle.pool_config.specs.Faults.{Row, ManyPools, ManyEntries, ManyTexts, ManyLarge, BadEntry, NoEntry, Overlap, PoolSelector, L2Selector}
use Rattle.pool_config.specs.Faults.{BgpSelector, PeerSelector, Aggregation, PrefClash, UnknownCommunity, BadValue, BadText, TwiceNamed}
use Rattle.pool_config.specs.Faults.{UnknownPeer, rows, fault_at, FaultAt, FaultyItem, FaultyPair, IsFirstOf, IsFirstFault, NoFaultAt, HasNoFault}
use Rattle.pool_config.specs.Lists.{lists_of}
use Rattle.pool_config.specs.Objects.{Objects, objects_of}
use Rattle.pool_config.specs.Search.{found_at, found_among, first_fault}
use Rattle.pool_config.proofs.Firsts.{Finds}
use Rattle.pool_config.proofs.ItemLaws.{same_item}
use Rattle.pool_config.proofs.Rows.{finds}

-- the first fault of some conditions
record FirstAmong (o : Objects) (all : List Row) (fault : ConfigFault) : Type 0 where
  earlier : List Row
  row : Row
  later : List Row
  name : List ℕ
  order : all ≡ earlier ++ row ∷ later
  none : All (NoFaultAt o) earlier
  here : IsFirstOf (FaultAt o row) name
  is : fault ≡ fault_at row name

abbrev Among : Objects → List Row → Option ConfigFault → Type 0
Among o all found = MatchOption found (All (NoFaultAt o) all) (FirstAmong o all)

among : (o : Objects) (all : List Row) → Among o all (found_among o all)
among o [] = All-nil (NoFaultAt o)
among o (row ∷ more) = go (found_at o row) (finds o row) (found_among o more) (among o more)
  where
    go : (r : Option (List ℕ)) → Finds (FaultAt o row) r → (rest : Option ConfigFault) → Among o more rest
        → Among o (row ∷ more) (option_or (option_map (fault_at row) r) rest)
    go (Some name) found rest later =
        record { earlier = []; row = row; later = more; name = name; order = refl; none = All-nil (NoFaultAt o); here = found; is = refl }
    go None found None later = All-cons (NoFaultAt o) row more found later
    go None found (Some fault) later = record {
      earlier = row ∷ later.earlier;
      row = later.row;
      later = later.later;
      name = later.name;
      order = ap (λ (l : List Row). row ∷ l) later.order;
      none = All-cons (NoFaultAt o) row later.earlier found later.none;
      here = later.here;
      is = later.is;
    }

none_has : (o : Objects) → All (NoFaultAt o) rows → HasNoFault o
none_has o all ManyPools = all 0 ManyPools (omega arith)
none_has o all ManyEntries = all 1 ManyPools (omega arith)
none_has o all ManyTexts = all 2 ManyPools (omega arith)
none_has o all ManyLarge = all 3 ManyPools (omega arith)
none_has o all BadEntry = all 4 ManyPools (omega arith)
none_has o all NoEntry = all 5 ManyPools (omega arith)
none_has o all Overlap = all 6 ManyPools (omega arith)
none_has o all PoolSelector = all 7 ManyPools (omega arith)
none_has o all L2Selector = all 8 ManyPools (omega arith)
none_has o all BgpSelector = all 9 ManyPools (omega arith)
none_has o all PeerSelector = all 10 ManyPools (omega arith)
none_has o all Aggregation = all 11 ManyPools (omega arith)
none_has o all PrefClash = all 12 ManyPools (omega arith)
none_has o all UnknownCommunity = all 13 ManyPools (omega arith)
none_has o all BadValue = all 14 ManyPools (omega arith)
none_has o all BadText = all 15 ManyPools (omega arith)
none_has o all TwiceNamed = all 16 ManyPools (omega arith)
none_has o all UnknownPeer = all 17 ManyPools (omega arith)

-- what is found among all conditions
abbrev Settled : Objects → Option ConfigFault → Type 0
Settled o found = MatchOption found (HasNoFault o) (IsFirstFault o)

settled : (o : Objects) → Settled o (first_fault o)
unfolding first_fault
settled o = go (found_among o rows) (among o rows)
  where
    go : (r : Option ConfigFault) → Among o rows r → Settled o r
    go None none = none_has o none
    go (Some fault) f = record { earlier = f.earlier; row = f.row; later = f.later; name = f.name; order = f.order; none = f.none; here = f.here; is = f.is }

-- a fault at its places names one object
item_names : {A : Type 0} (name_of : A → List ℕ) (P Q : A → Type 0) (xs : List A) (i j : ℕ) (m n : List ℕ) → FaultyItem name_of P xs i j m
    → FaultyItem name_of Q xs i j n → m ≡ n
item_names name_of P Q xs i j m n h k = h.named ∙ ap name_of (same_item xs i h.item k.item h.stands k.stands) ∙ sym k.named

pair_names : {A : Type 0} (name_of : A → List ℕ) (R : A → A → Type 0) (xs : List A) (i j : ℕ) (m n : List ℕ) → FaultyPair name_of R xs i j m
    → FaultyPair name_of R xs i j n → m ≡ n
pair_names name_of R xs i j m n h k = h.named ∙ ap name_of (same_item xs j h.other k.other h.other_stands k.other_stands) ∙ sym k.named

names : (o : Objects) (row : Row) (i j : ℕ) (m n : List ℕ) → FaultAt o row i j m → FaultAt o row i j n → m ≡ n
names o ManyPools i j m n h k = item_names _ _ _ _ i j m n h k
names o ManyEntries i j m n h k = item_names _ _ _ _ i j m n h k
names o ManyTexts i j m n h k = item_names _ _ _ _ i j m n h k
names o ManyLarge i j m n h k = item_names _ _ _ _ i j m n h k
names o BadEntry i j m n h k = item_names _ _ _ _ i j m n h k
names o NoEntry i j m n h k = item_names _ _ _ _ i j m n h k
names o Overlap i j m n h k = pair_names _ _ _ i j m n h k
names o PoolSelector i j m n h k = item_names _ _ _ _ i j m n h k
names o L2Selector i j m n h k = item_names _ _ _ _ i j m n h k
names o BgpSelector i j m n h k = item_names _ _ _ _ i j m n h k
names o PeerSelector i j m n h k = item_names _ _ _ _ i j m n h k
names o Aggregation i j m n h k = item_names _ _ _ _ i j m n h k
names o PrefClash i j m n h k = pair_names _ _ _ i j m n h k
names o UnknownCommunity i j m n h k = item_names _ _ _ _ i j m n h k
names o BadValue i j m n h k = item_names _ _ _ _ i j m n h k
names o BadText i j m n h k = item_names _ _ _ _ i j m n h k
names o TwiceNamed i j m n h k = item_names _ _ _ _ i j m n h k
names o UnknownPeer i j m n h k = item_names _ _ _ _ i j m n h k

-- the first fault of a condition names one object
one_first : (o : Objects) (row : Row) (m n : List ℕ) → IsFirstOf (FaultAt o row) m → IsFirstOf (FaultAt o row) n → m ≡ n
one_first o row m n f g = elim (cases_order f.first g.first) [
  | inl same ↦ elim (cases_order f.second g.second) [
    | inl both ↦
        let F : ℕ → Type 0 = λ i. FaultAt o row i f.second m in
        let G : ℕ → Type 0 = λ j. FaultAt o row g.first j m in
        names o row g.first g.second m n (subst G both (subst F same f.here)) g.here
    | inr (inl below) ↦ absurd (g.least f.first f.second m f.here (inr (same, below)))
    | inr (inr above) ↦ absurd (f.least g.first g.second n g.here (inr (sym same, above)))
  ]
  | inr (inl below) ↦ absurd (g.least f.first f.second m f.here (inl below))
  | inr (inr above) ↦ absurd (f.least g.first g.second n g.here (inl above))
]

-- and so does the first fault of all
one_row : (o : Objects) (all a b c d : List Row) (r s : Row) (m n : List ℕ) → all ≡ a ++ r ∷ b → all ≡ c ++ s ∷ d → All (NoFaultAt o) a → All (NoFaultAt o) c
    → IsFirstOf (FaultAt o r) m → IsFirstOf (FaultAt o s) n → r ≡ s
one_row o all [] b [] d r s m n e g na nc f h = let same : r ∷ b ≡ s ∷ d = sym e ∙ g in cc
one_row o all [] b (x ∷ c) d r s m n e g na nc f h =
    let whole : r ∷ b ≡ x ∷ (c ++ s ∷ d) = sym e ∙ g in
    let same : x ≡ r = cc in
    let P : Row → Type 0 = NoFaultAt o in
    absurd (subst P same (All-head (NoFaultAt o) x c nc) f.first f.second m f.here)
one_row o all (x ∷ a) b [] d r s m n e g na nc f h =
    let whole : x ∷ (a ++ r ∷ b) ≡ s ∷ d = sym e ∙ g in
    let same : x ≡ s = cc in
    let P : Row → Type 0 = NoFaultAt o in
    absurd (subst P same (All-head (NoFaultAt o) x a na) h.first h.second n h.here)
one_row o all (x ∷ a) b (y ∷ c) d r s m n e g na nc f h =
    let whole : x ∷ (a ++ r ∷ b) ≡ y ∷ (c ++ s ∷ d) = sym e ∙ g in
    let rest : a ++ r ∷ b ≡ c ++ s ∷ d = cc in
    one_row o (c ++ s ∷ d) a b c d r s m n (sym rest) refl (All-tail (NoFaultAt o) x a na) (All-tail (NoFaultAt o) y c nc) f h

pub one_fault : (o : Objects) (e f : ConfigFault) → IsFirstFault o e → IsFirstFault o f → e ≡ f
one_fault o e f g h =
    let same : g.row ≡ h.row = one_row o rows g.earlier g.later h.earlier h.later g.row h.row g.name h.name g.order h.order g.none h.none g.here h.here in
    let P : Row → Type 0 = λ r. IsFirstOf (FaultAt o r) g.name in
    let named : g.name ≡ h.name = one_first o h.row g.name h.name (subst P same g.here) h.here in
    g.is ∙ ap (λ r. fault_at r g.name) same ∙ ap (fault_at h.row) named ∙ sym h.is

-- so the objects are compiled to the first fault exactly, or else to the lists
pub refused_is : (s : ObjectSet) (fault : ConfigFault) → (compiled s ≡ Err fault) ↔ IsFirstFault (objects_of s) fault
refused_is s fault = go (first_fault (objects_of s)) (settled (objects_of s))
  where
    go : (r : Option ConfigFault) → Settled (objects_of s) r → (compiled_unless r (lists_of (objects_of s)) ≡ Err fault) ↔ IsFirstFault (objects_of s) fault
    go None none =
        (λ e. absurd (let h : Ok (lists_of (objects_of s)) ≡ Err fault = e in cc), λ f. absurd (none f.row f.here.first f.here.second f.name f.here.here))
    go (Some found) first = (
      λ e. let same : found ≡ fault = cc in let P : ConfigFault → Type 0 = IsFirstFault (objects_of s) in subst P same first,
      λ f. ap (λ x. Err x) (one_fault (objects_of s) found fault first f),
    )

pub accepted_is : (s : ObjectSet) (config : ConfigValue) → (compiled s ≡ Ok config) ↔ (HasNoFault (objects_of s) × (config ≡ lists_of (objects_of s)))
accepted_is s config = go (first_fault (objects_of s)) (settled (objects_of s))
  where
    go : (r : Option ConfigFault) → Settled (objects_of s) r
        → (compiled_unless r (lists_of (objects_of s)) ≡ Ok config) ↔ (HasNoFault (objects_of s) × (config ≡ lists_of (objects_of s)))
    go None none = (
      λ e. let same : lists_of (objects_of s) ≡ config = cc in (none, sym same),
      λ h. ap (λ x. Ok x) (sym h.1),
    )
    go (Some fault) f = (
      λ e. absurd (let h : Err fault ≡ Ok config = e in cc),
      λ h. absurd (h.0 f.row f.here.first f.here.second f.name f.here.here),
    )

-- of what a call gives
pub accepted_by : {E : Type 0} (s : ObjectSet) (r : Result ConfigValue E) → IfOk r (λ config. compiled s ≡ Ok config)
    → IfOk r (λ config. HasNoFault (objects_of s) × (config ≡ lists_of (objects_of s)))
accepted_by s (Ok config) e = (accepted_is s config).0 e
accepted_by s (Err x) e = tt

pub refused_by : {C : Type 0} (s : ObjectSet) (r : Result C CompileFault) → IfErr r (λ e. (fault : ConfigFault) → e ≡ Refused fault → compiled s ≡ Err fault)
    → IfErr r (λ e. (fault : ConfigFault) → e ≡ Refused fault → IsFirstFault (objects_of s) fault)
refused_by s (Ok config) e = tt
refused_by s (Err x) e = λ fault is. (refused_is s fault).0 (e fault is)
