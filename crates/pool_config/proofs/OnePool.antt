-- The one pool that has an address.
use Rattle.std.proofs.Common.{◌≡◌, ℕ, zero, suc, ◌+◌, ◌<◌, ◌≤◌, Bool, true, false, List, [], ◌∷◌, ◌++◌, inl, inr, map, cond, length}
use Rattle.std.proofs.Common.{Option, Some, None, refl, sym, ◌∙◌, ap, subst, arith, Decides, IfSome, IfNone, IsSome, Bor, get_or}
use Rattle.std.proofs.lemmas.Bool.{cases_order, false≢true, and_parts, and_from, leb-true, le-leb}
use Rattle.std.proofs.lemmas.Bool.Decides.{not_from_Decides}
use Rattle.std.proofs.lemmas.Option.{slice_get_read}
use Rattle.std.specs.List.{position_from, slice_get}
use Rattle.std.specs.Option.{option_copied}
use Rattle.ip_ranges.specs.Values.{AddressValue, SpanValue, Holds, holds}
use Rattle.ip_ranges.proofs.AddressLaws.{same_family-is, same_family-itself}
use Rattle.pool_config.specs.declared.compiled.CompiledPool.{CompiledPool}
use Rattle.pool_config.specs.ConfigValue.{AreApart, placed_spans}
use Rattle.mlb_base.specs.Items.{ItemAt, Has, IsIn}
use Rattle.mlb_base.proofs.Lists.{Decides-has}
use Rattle.pool_config.specs.PoolOf.{HasAddress, has_address, pool_of, pool_with}
use Rattle.pool_config.proofs.Firsts.{find_some, find_none}
use Rattle.pool_config.proofs.ItemLaws.{item_bound, in_list, at_has, same_item}

abbrev pub Placed : Type 0
Placed = List ℕ × SpanValue

holds-Decides : (s : SpanValue) (a : AddressValue) → Decides (holds s a) (Holds s a)
holds-Decides s a = (
  λ e. let (front, high) = and_parts _ _ e in let (family, low) = and_parts _ _ front in (same_family-is _ _ family, leb-true _ _ low, leb-true _ _ high),
  λ h. and_from _ _ (and_from _ _ (rw h.0 (same_family-itself a.family)) (le-leb _ _ h.1)) (le-leb _ _ h.2),
)

pub address-Decides : (a : AddressValue) (pool : CompiledPool) → Decides (has_address a pool) (HasAddress a pool)
address-Decides a pool = Decides-has (λ s. holds s a) (λ s. Holds s a) (λ s. holds-Decides s a) pool.spans

-- places in lists that are joined
pub item_left : {A : Type 0} (xs ys : List A) (i : ℕ) (x : A) → ItemAt xs i x → ItemAt (xs ++ ys) i x
item_left [] ys i x h = absurd h
item_left (y ∷ xs) ys zero x h = h
item_left (y ∷ xs) ys (suc i) x h = item_left xs ys i x h

pub item_right : {A : Type 0} (xs ys : List A) (i : ℕ) (y : A) → ItemAt ys i y → (n : ℕ) × (length xs ≤ n) × ItemAt (xs ++ ys) n y
item_right [] ys i y h = (i, omega arith, h)
item_right (x ∷ xs) ys i y h = let (n, behind, stands) = item_right xs ys i y h in (suc n, omega arith, stands)

apart_behind : (xs ys : List (List ℕ × SpanValue)) → AreApart (xs ++ ys) → AreApart ys
apart_behind [] ys h = h
apart_behind (x ∷ xs) ys h = apart_behind xs ys (λ i j a b below ha hb. h (suc i) (suc j) a b (omega arith) ha hb)

-- a span of a pool that has the address
span_in : (name : List ℕ) (spans : List SpanValue) (a : AddressValue) → Has (λ s. Holds s a) spans
    → (k : ℕ) × (s : SpanValue) × Holds s a × ItemAt {A = Placed} (map (λ t. (name, t)) spans) k (name, s)
span_in name [] a h = absurd h
span_in name (s ∷ ss) a (inl here) = (0, s, here, refl)
span_in name (s ∷ ss) a (inr later) = let (k, t, holds, stands) = span_in name ss a later in (suc k, t, holds, stands)

span_among : (pools : List CompiledPool) (j : ℕ) (pool : CompiledPool) (a : AddressValue) → ItemAt pools j pool → HasAddress a pool
    → (n : ℕ) × (name : List ℕ) × (s : SpanValue) × Holds s a × ItemAt {A = Placed} (placed_spans pools) n (name, s)
span_among [] j pool a stands h = absurd stands
span_among (p ∷ ps) zero pool a stands h =
    let k : HasAddress a p = rw stands h in
    let (k, s, holds, at) = span_in p.name p.spans a k in
    (k, p.name, s, holds, item_left (map (λ t. (p.name, t)) p.spans) (placed_spans ps) k (p.name, s) at)
span_among (p ∷ ps) (suc j) pool a stands h =
    let (n, name, s, holds, at) = span_among ps j pool a stands h in
    let (m, behind, there) = item_right (map (λ t. (p.name, t)) p.spans) (placed_spans ps) n (name, s) at in
    (m, name, s, holds, there)

not_two : (pools : List CompiledPool) → AreApart (placed_spans pools) → (a : AddressValue) (i j : ℕ) (p q : CompiledPool) → i < j → ItemAt pools i p
    → ItemAt pools j q
    → HasAddress a p → HasAddress a q → ⊥
not_two [] apart a i j p q below hp hq ap aq = hp
not_two (x ∷ xs) apart a i zero p q below hp hq ap aq = omega arith
not_two (x ∷ xs) apart a zero (suc j) p q below hp hq ap aq =
    let here : HasAddress a x = rw hp ap in
    let (k, s, sa, sat) = span_in x.name x.spans a here in
    let (n, name, t, ta, tat) = span_among xs j q a hq aq in
    let (m, behind, there) = item_right (map (λ u. (x.name, u)) x.spans) (placed_spans xs) n (name, t) tat in
    let within = item_bound (map (λ u. (x.name, u)) x.spans) k (x.name, s) sat in
    apart k m (x.name, s) (name, t) (omega arith) (item_left (map (λ u. (x.name, u)) x.spans) (placed_spans xs) k (x.name, s) sat) there (a, sa, ta)
not_two (x ∷ xs) apart a (suc i) (suc j) p q below hp hq ap aq =
    not_two xs (apart_behind (map (λ u. (x.name, u)) x.spans) (placed_spans xs) apart) a i j p q (omega arith) hp hq ap aq

pub one_pool : (pools : List CompiledPool) → AreApart (placed_spans pools) → (a : AddressValue) (i j : ℕ) (p q : CompiledPool) → ItemAt pools i p
    → ItemAt pools j q
    → HasAddress a p → HasAddress a q → i ≡ j
one_pool pools apart a i j p q hp hq ap aq = elim (cases_order i j) [
  | inl same ↦ same
  | inr (inl below) ↦ absurd (not_two pools apart a i j p q below hp hq ap aq)
  | inr (inr above) ↦ absurd (not_two pools apart a j i q p above hq hp aq ap)
]

-- what a search by places gives
pub position_is : {A : Type 0} (p : A → Bool) (xs : List A) (n m : ℕ) → position_from p n xs ≡ Some m
    → (i : ℕ) × (x : A) × (m ≡ n + i) × ItemAt xs i x × (p x ≡ true)
position_is p [] n m e = absurd (let h : None ≡ Some m = e in cc)
position_is {A} p (x ∷ xs) n m e = go (p x) refl e (λ e. position_is p xs (n + 1) m e)
  where
    go : (b : Bool) → p x ≡ b → cond b (Some n) (position_from p (n + 1) xs) ≡ Some m
        → (position_from p (n + 1) xs ≡ Some m → (i : ℕ) × (y : A) × (m ≡ (n + 1) + i) × ItemAt xs i y × (p y ≡ true))
        → (i : ℕ) × (y : A) × (m ≡ n + i) × ItemAt (x ∷ xs) i y × (p y ≡ true)
    go true here found rest = let same : n ≡ m = cc in (0, x, omega arith, refl, here)
    go false here found rest = let (i, y, place, stands, passes) = rest found in (suc i, y, omega arith, stands, passes)

pub position_none : {A : Type 0} (p : A → Bool) (xs : List A) (n : ℕ) → position_from p n xs ≡ None → (i : ℕ) (x : A) → ItemAt xs i x → p x ≡ false
position_none p [] n e i x h = absurd h
position_none {A} p (y ∷ xs) n e i x h = go (p y) refl e (position_none p xs (n + 1)) i h
  where
    go : (b : Bool) → p y ≡ b → cond b (Some n) (position_from p (n + 1) xs) ≡ None
        → (position_from p (n + 1) xs ≡ None → (i : ℕ) (x : A) → ItemAt xs i x → p x ≡ false) → (i : ℕ) → ItemAt (y ∷ xs) i x → p x ≡ false
    go true here none rest i h = absurd (let f : Some n ≡ None = none in cc)
    go false here none rest zero h = rw (← h) here
    go false here none rest (suc i) h = rest none i x h

pub holder_found : (pools : List CompiledPool) (a : AddressValue)
    → IfSome (pool_of pools a) (λ place. (pool : CompiledPool) × ItemAt pools place pool × HasAddress a pool)
holder_found pools a = go (pool_of pools a) refl
  where
    go : (r : Option ℕ) → pool_of pools a ≡ r → IfSome r (λ place. (pool : CompiledPool) × ItemAt pools place pool × HasAddress a pool)
    go None e = tt
    go (Some m) e =
        let (i, x, place, stands, passes) = position_is (has_address a) pools 0 m e in
        let same : m ≡ i = omega arith in
        let Stands : ℕ → Type 0 = λ n. ItemAt pools n x in
        (x, subst Stands (sym same) stands, (address-Decides a x).0 passes)

pub holder_only : (pools : List CompiledPool) → AreApart (placed_spans pools) → (a : AddressValue) (place : ℕ) (pool : CompiledPool) → ItemAt pools place pool
    → HasAddress a pool
    → pool_of pools a ≡ Some place
holder_only pools apart a place pool stands has = go (pool_of pools a) refl
  where
    go : (r : Option ℕ) → pool_of pools a ≡ r → pool_of pools a ≡ Some place
    go None e = absurd (not_from_Decides _ (address-Decides a pool) (position_none (has_address a) pools 0 e place pool stands) has)
    go (Some m) e =
        let (i, x, at, there, passes) = position_is (has_address a) pools 0 m e in
        let same : i ≡ place = one_pool pools apart a i place x pool there stands ((address-Decides a x).0 passes) has in
        let put : m ≡ place = omega arith in
        e ∙ ap (λ n. Some n) put

-- where some pool has the address, there is one that is found
pub holder_none : (pools : List CompiledPool) → AreApart (placed_spans pools) → (a : AddressValue) → IfNone (pool_of pools a) (¬ Has (HasAddress a) pools)
holder_none pools apart a = go (pool_of pools a) refl
  where
    go : (r : Option ℕ) → pool_of pools a ≡ r → IfNone r (¬ Has (HasAddress a) pools)
    go None e = λ h.
        let (place, pool, stands, has) = in_list (HasAddress a) pools h in
        let found : None ≡ Some place = sym e ∙ holder_only pools apart a place pool stands has in
        absurd cc
    go (Some m) e = tt

-- the same of the pool itself
pub with_found : (pools : List CompiledPool) (a : AddressValue) → IfSome (pool_with pools a) (λ pool. IsIn pools pool × HasAddress a pool)
with_found pools a = go (pool_with pools a) refl
  where
    go : (r : Option CompiledPool) → pool_with pools a ≡ r → IfSome r (λ pool. IsIn pools pool × HasAddress a pool)
    go None e = tt
    go (Some pool) e =
        let f = find_some (has_address a) pools pool e in
        (at_has (λ p. p ≡ pool) pools f.place pool f.stands refl, (address-Decides a pool).0 f.passes)

pub with_only : (pools : List CompiledPool) → AreApart (placed_spans pools) → (a : AddressValue) (pool : CompiledPool) → IsIn pools pool → HasAddress a pool
    → pool_with pools a ≡ Some pool
with_only pools apart a pool inside has = go (pool_with pools a) refl
  where
    go : (r : Option CompiledPool) → pool_with pools a ≡ r → pool_with pools a ≡ Some pool
    go None e =
        let (place, p, stands, same) = in_list (λ p. p ≡ pool) pools inside in
        let at : has_address a pool ≡ false = rw (← same) (find_none (has_address a) pools e place p stands) in
        absurd (not_from_Decides _ (address-Decides a pool) at has)
    go (Some q) e =
        let f = find_some (has_address a) pools q e in
        let (place, p, stands, same) = in_list (λ p. p ≡ pool) pools inside in
        let Holder : CompiledPool → Type 0 = HasAddress a in
        let at : f.place ≡ place = one_pool pools apart a f.place place q p f.stands stands ((address-Decides a q).0 f.passes) (subst Holder (sym same) has) in
        let Stands : ℕ → Type 0 = λ n. ItemAt pools n q in
        let equal : q ≡ p = same_item pools place q p (subst Stands at f.stands) stands in
        e ∙ ap (λ x. Some x) (equal ∙ same)

-- so it stands at the place that is found
get_at : {A : Type 0} (xs : List A) (i : ℕ) (x : A) → ItemAt xs i x → slice_get xs i ≡ Some x
get_at [] i x none = absurd none
get_at (y ∷ ys) zero x stands = ap (λ z. Some z) stands
get_at (y ∷ ys) (suc i) x stands = get_at ys i x stands

if_found : {A : Type 0} (P : A → Type 0) (r : Option A) (x : A) → r ≡ Some x → IfSome r P → P x
if_found P None x e h = absurd (let wrong : None ≡ Some x = e in cc)
if_found P (Some y) x e h = let same : y ≡ x = cc in subst P same h

pub place_bound : (pools : List CompiledPool) (a : AddressValue) (place : ℕ) → pool_of pools a ≡ Some place → place < length pools
place_bound pools a place e =
    let (p, stands, has) =
    if_found (λ (place : ℕ). (p : CompiledPool) × ItemAt pools place p × HasAddress a p) (pool_of pools a) place e (holder_found pools a) in
    item_bound pools place p stands

pub with_at : (pools : List CompiledPool) → AreApart (placed_spans pools) → (a : AddressValue) (place : ℕ) → pool_of pools a ≡ Some place
    → slice_get pools place ≡ pool_with pools a
with_at pools apart a place e =
    let (p, stands, has) =
    if_found (λ (place : ℕ). (p : CompiledPool) × ItemAt pools place p × HasAddress a p) (pool_of pools a) place e (holder_found pools a) in
    get_at pools place p stands ∙ sym (with_only pools apart a p (at_has (λ q. q ≡ p) pools place p stands refl) has)

-- what a look at the place gives
pub got : {X : Type 0} (xs : List X) (i : ℕ) (r : Option (Bor X)) → IfSome r (λ x. x.now ≡ get_or xs i x.now) → (i < length xs → IsSome r) → i < length xs
    → option_copied r ≡ slice_get xs i
got xs i None value some below = absurd (false≢true (some below))
got xs i (Some x) value some below = sym (slice_get_read xs (length xs) i x.now refl below value)

pub with_none : (pools : List CompiledPool) → AreApart (placed_spans pools) → (a : AddressValue) → pool_of pools a ≡ None → None ≡ pool_with pools a
with_none pools apart a e = go (pool_with pools a) refl
  where
    go : (r : Option CompiledPool) → pool_with pools a ≡ r → None ≡ r
    go None is = refl
    go (Some pool) is =
        let f = find_some (has_address a) pools pool is in
        let found : None ≡ Some f.place = sym e ∙ holder_only pools apart a f.place pool f.stands ((address-Decides a pool).0 f.passes) in
        absurd cc
