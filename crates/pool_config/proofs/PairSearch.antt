-- The first pair of spans that overlap, as it is sought pool by pool.
use Rattle.std.proofs.Common.{◌≡◌, ℕ, Bool, true, false, ◌||◌, cond, List, [], ◌∷◌, ◌++◌, map, find, Option, Some, None, refl, sym, ◌∙◌, ap, append_assoc}
use Rattle.std.proofs.lemmas.Bool.{or_parts}
use Rattle.std.proofs.lemmas.List.Folds.{list_any-append}
use Rattle.std.specs.List.{list_any}
use Rattle.std.specs.Option.{option_map, option_or}
use Rattle.ip_ranges.specs.Values.{SpanValue, overlaps}
use Rattle.pool_config.specs.declared.compiled.CompiledPool.{CompiledPool}
use Rattle.pool_config.specs.ConfigValue.{placed_spans}
use Rattle.pool_config.specs.Search.{first_pair, meet, key_of}
use Rattle.pool_config.specs.Bounds.{all_spans}
use Rattle.pool_config.specs.Meeting.{AreBoundsOf, meets_another, met_behind, met_from, met_within, first_met}
use Rattle.pool_config.specs.declared.bounds.Bounds.{Bounds}
use Rattle.pool_config.proofs.Counts.{alone_behind}

abbrev Placed : Type 0
Placed = List ℕ × SpanValue

find-append : {A : Type 0} (p : A → Bool) (xs ys : List A) → find p (xs ++ ys) ≡ option_or (find p xs) (find p ys)
find-append p [] ys = refl
find-append {A} p (x ∷ xs) ys = go (p x) (find-append p xs ys)
  where
    go : (b : Bool) → find p (xs ++ ys) ≡ option_or (find p xs) (find p ys)
        → cond b (Some x) (find p (xs ++ ys)) ≡ option_or (cond b (Some x) (find p xs)) (find p ys)
    go true rest = refl
    go false rest = rest

or_map : {A B : Type 0} (f : A → B) (a b : Option A) → option_map f (option_or a b) ≡ option_or (option_map f a) (option_map f b)
or_map f None b = refl
or_map f (Some x) b = refl

pub or_or : {A : Type 0} (a b c : Option A) → option_or (option_or a b) c ≡ option_or a (option_or b c)
or_or None b c = refl
or_or (Some x) b c = refl

-- among the spans of one pool
in_pool : (name : List ℕ) (a : Placed) (spans : List SpanValue)
    → option_map key_of (find (meet a) (map (λ s. (name, s)) spans)) ≡ cond (list_any (overlaps a.1) spans) (Some name) None
in_pool name a [] = refl
in_pool name a (s ∷ ss) = go (overlaps a.1 s) (in_pool name a ss)
  where
    go : (b : Bool) → option_map key_of (find (meet a) (map (λ t. (name, t)) ss)) ≡ cond (list_any (overlaps a.1) ss) (Some name) None
        → option_map key_of (cond b (Some (name, s)) (find (meet a) (map (λ t. (name, t)) ss))) ≡ cond (b || list_any (overlaps a.1) ss) (Some name) None
    go true rest = refl
    go false rest = rest

-- among those of the pools after
in_pools : (a : Placed) (pools : List CompiledPool)
    → option_map key_of (find (meet a) (placed_spans pools)) ≡ option_map (λ p. p.name) (find (λ p. list_any (overlaps a.1) p.spans) pools)
in_pools a [] = refl
in_pools a (p ∷ ps) =
    ap (option_map key_of) (find-append (meet a) (map (λ s. (p.name, s)) p.spans) (placed_spans ps))
    ∙ or_map key_of (find (meet a) (map (λ s. (p.name, s)) p.spans)) (find (meet a) (placed_spans ps))
    ∙ rw (in_pool p.name a p.spans, in_pools a ps) (go (list_any (overlaps a.1) p.spans))
  where
    go : (b : Bool) → option_or (cond b (Some p.name) None) (option_map (λ q. q.name) (find (λ q. list_any (overlaps a.1) q.spans) ps))
        ≡ option_map (λ q. q.name) (cond b (Some p) (find (λ q. list_any (overlaps a.1) q.spans) ps))
    go true = refl
    go false = refl

behind : (name : List ℕ) (s : SpanValue) (others : List SpanValue) (pools : List CompiledPool) →
    option_map key_of (find (meet (name, s)) (map (λ t. (name, t)) others ++ placed_spans pools)) ≡ met_behind s name others pools
behind name s others pools =
    ap (option_map key_of) (find-append (meet (name, s)) (map (λ t. (name, t)) others) (placed_spans pools))
    ∙ or_map key_of (find (meet (name, s)) (map (λ t. (name, t)) others)) (find (meet (name, s)) (placed_spans pools))
    ∙ rw (in_pool name (name, s) others, in_pools (name, s) pools) (go (list_any (overlaps s) others))
  where
    go : (b : Bool) → option_or (cond b (Some name) None) (option_map (λ q. q.name) (find (λ q. list_any (overlaps s) q.spans) pools))
        ≡ cond b (Some name) (option_map (λ q. q.name) (find (λ q. list_any (overlaps s) q.spans) pools))
    go true = refl
    go false = refl

-- a span that overlaps none of those after it
none_in_pools : (s : SpanValue) (pools : List CompiledPool) → list_any (overlaps s) (all_spans pools) ≡ false
    → find (λ p. list_any (overlaps s) p.spans) pools ≡ None
none_in_pools s [] none = refl
none_in_pools s (p ∷ ps) none =
    let parts : (list_any (overlaps s) p.spans || list_any (overlaps s) (all_spans ps)) ≡ false =
    sym (list_any-append (overlaps s) p.spans (all_spans ps)) ∙ none in
    let here : list_any (overlaps s) p.spans ≡ false = (or_parts _ _ parts).0 in
    rw here (none_in_pools s ps (or_parts _ _ parts).1)

none_behind : (name : List ℕ) (s : SpanValue) (others : List SpanValue) (pools : List CompiledPool) → list_any (overlaps s) (others ++ all_spans pools) ≡ false
    → met_behind s name others pools ≡ None
none_behind name s others pools none =
    let parts : (list_any (overlaps s) others || list_any (overlaps s) (all_spans pools)) ≡ false =
    sym (list_any-append (overlaps s) others (all_spans pools)) ∙ none in
    let here : list_any (overlaps s) others ≡ false = (or_parts _ _ parts).0 in
    rw here (ap (option_map (λ p. p.name)) (none_in_pools s pools (or_parts _ _ parts).1))

-- the spans that overlap no other one are ignored
passed_over : (before : List SpanValue) (name : List ℕ) (s : SpanValue) (others : List SpanValue) (pools : List CompiledPool) (bounds : Bounds)
    → AreBoundsOf (before ++ s ∷ (others ++ all_spans pools)) bounds
    → met_behind s name others pools ≡ met_from bounds s name others pools
unfolding met_from
passed_over before name s others pools bounds are = go (meets_another bounds s) refl
  where
    go : (b : Bool) → meets_another bounds s ≡ b → met_behind s name others pools ≡ cond b (met_behind s name others pools) None
    go true e = refl
    go false e = none_behind name s others pools (alone_behind before s (others ++ all_spans pools) bounds are e)

within : (before : List SpanValue) (name : List ℕ) (spans : List SpanValue) (pools : List CompiledPool) (bounds : Bounds)
    → AreBoundsOf (before ++ (spans ++ all_spans pools)) bounds
    → first_pair key_of meet (map (λ t. (name, t)) spans ++ placed_spans pools)
    ≡ option_or (met_within bounds name spans pools) (first_pair key_of meet (placed_spans pools))
within before name [] pools bounds are = refl
within before name (s ∷ ss) pools bounds are =
    let later : AreBoundsOf ((before ++ s ∷ []) ++ (ss ++ all_spans pools)) bounds = rw append_assoc are in
    let here = behind name s ss pools ∙ passed_over before name s ss pools bounds are in
    rw (here, within (before ++ s ∷ []) name ss pools bounds later)
    (sym (or_or (met_from bounds s name ss pools) (met_within bounds name ss pools) (first_pair key_of meet (placed_spans pools))))

met-is : (before : List SpanValue) (pools : List CompiledPool) (bounds : Bounds) → AreBoundsOf (before ++ all_spans pools) bounds
    → first_met bounds pools ≡ first_pair key_of meet (placed_spans pools)
met-is before [] bounds are = refl
met-is before (p ∷ ps) bounds are =
    let later : AreBoundsOf ((before ++ p.spans) ++ all_spans ps) bounds = rw append_assoc are in
    rw (met-is (before ++ p.spans) ps bounds later) (sym (within before p.name p.spans ps bounds are))

pub first_met-is : (pools : List CompiledPool) (bounds : Bounds) → AreBoundsOf (all_spans pools) bounds
    → first_met bounds pools ≡ first_pair key_of meet (placed_spans pools)
first_met-is pools bounds are = met-is [] pools bounds are
