-- The pairs of a map from texts, seen by the bytes of their names.
use Rattle.std.proofs.Common.{◌≡◌, ℕ, List, [], ◌∷◌, refl, ap, ◌∙◌, string_bytes, ◌&&◌}
use Rattle.std.specs.Ordering.{nat_cmp, match_ordering}
use Rattle.std.specs.declared.cmp.Ordering.{Ordering}
use Rattle.std.specs.declared.cmp.Ordering.TheVariants.{Less, Equal, Greater}
use Rattle.std.specs.Cmp.Lexicographic.{slice_cmp, pointwise}
use Rattle.std.specs.Str.{bytes_eq}
use Rattle.std.specs.List.{AllZip, AllByRecursion}
use Rattle.std.specs.BTreeMap.{is_at, insert_entry}
use Rattle.std.specs.Map.{lookup, keys_of}
use Rattle.std.specs.List.Sorted.{IsStrictlySortedBy}
use Rattle.std.specs.Prelude.{String}
use Rattle.std.specs.declared.alloc.Global.{Global}
use Rattle.kube_labels.specs.Pairs.{value_of, with_pair, pair_eq, pairs_of}

abbrev pub text_cmp : String Global → String Global → Ordering
text_cmp x y = slice_cmp nat_cmp (string_bytes x) (string_bytes y)

step : (o : Ordering) (f : List (String Global × List ℕ) → List (List ℕ × List ℕ)) (x y z : List (String Global × List ℕ))
    → f (match_ordering o x y z) ≡ match_ordering o (f x) (f y) (f z)
step Less f x y z = refl
step Equal f x y z = refl
step Greater f x y z = refl

pub pairs_of-insert_entry : (entries : List (String Global × List ℕ)) (name : String Global) (value : List ℕ)
    → pairs_of (insert_entry text_cmp entries name value) ≡ with_pair (string_bytes name) value (pairs_of entries)
pairs_of-insert_entry [] name value = refl
pairs_of-insert_entry (e ∷ es) name value =
    step (text_cmp name e.0) pairs_of ((name, value) ∷ e ∷ es) ((e.0, value) ∷ es) (e ∷ insert_entry text_cmp es name value)
    ∙ ap (λ (rest : List (List ℕ × List ℕ)). match_ordering (text_cmp name e.0) ((string_bytes name, value) ∷ pairs_of (e ∷ es))
    ((string_bytes e.0, value) ∷ pairs_of es) ((string_bytes e.0, e.1) ∷ rest)) (pairs_of-insert_entry es name value)

pub value_of-pairs_of : (entries : List (String Global × List ℕ)) (name : List ℕ)
    → value_of name (pairs_of entries) ≡ lookup (is_at (λ k. slice_cmp nat_cmp name (string_bytes k))) entries
value_of-pairs_of [] name = refl
value_of-pairs_of (e ∷ es) name = rw (value_of-pairs_of es name) refl

pub pairs_of-clone : (es fs : List (String Global × List ℕ)) → AllZip (λ p q. (string_bytes q.0 ≡ string_bytes p.0) × (q.1 ≡ p.1)) es fs
    → pairs_of fs ≡ pairs_of es
pairs_of-clone [] [] h = refl
pairs_of-clone [] (f ∷ fs) h = absurd h
pairs_of-clone (e ∷ es) [] h = absurd h
pairs_of-clone (e ∷ es) (f ∷ fs) h = rw (h.0.0, h.0.1, pairs_of-clone es fs h.1) refl

pub pointwise-pairs_of : (es fs : List (String Global × List ℕ))
    → pointwise pair_eq (pairs_of es) (pairs_of fs) ≡ pointwise (λ p q. bytes_eq (string_bytes p.0) (string_bytes q.0) && bytes_eq p.1 q.1) es fs
pointwise-pairs_of [] [] = refl
pointwise-pairs_of [] (f ∷ fs) = refl
pointwise-pairs_of (e ∷ es) [] = refl
pointwise-pairs_of (e ∷ es) (f ∷ fs) = rw (pointwise-pairs_of es fs) refl

all_below : (name : String Global) (entries : List (String Global × List ℕ)) → AllByRecursion (λ y. text_cmp name y ≡ Less) (keys_of entries)
    → AllByRecursion (λ y. slice_cmp nat_cmp (string_bytes name) y ≡ Less) (keys_of (pairs_of entries))
all_below name [] h = tt
all_below name (e ∷ es) h = (h.0, all_below name es h.1)

pub ordered-pairs_of : (entries : List (String Global × List ℕ)) → IsStrictlySortedBy text_cmp (keys_of entries)
    → IsStrictlySortedBy (slice_cmp nat_cmp) (keys_of (pairs_of entries))
unfolding IsStrictlySortedBy
ordered-pairs_of [] h = tt
ordered-pairs_of (e ∷ es) h = (all_below e.0 es h.0, ordered-pairs_of es h.1)
