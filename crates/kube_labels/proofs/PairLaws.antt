-- Laws of pairs with ascending names.
use Rattle.std.proofs.Common.{◌≡◌, ◌≢◌, ℕ, List, refl, ap, ◌∙◌, Some, Contains, false, Decides}
use Rattle.std.specs.Ordering.{is_eq}
use Rattle.std.specs.Cmp.Lexicographic.{pointwise, nat_list_cmp_total}
use Rattle.std.specs.Str.{bytes_eq}
use Rattle.std.proofs.lemmas.Bool.Decides.{Decides-like, Decides-and}
use Rattle.std.proofs.lemmas.Slice.Eq.{bytes_eq-Decides, slice_eq-Decides}
use Rattle.std.proofs.lemmas.Bool.{false_from_ne_true}
use Rattle.std.proofs.lemmas.Cmp.{tied_itself, eq_by_cmp_equiv}
use Rattle.std.proofs.lemmas.Map.Keys.{IsDistinct-from_sorted}
use Rattle.std.proofs.lemmas.Map.Lookups.{exact_bytes}
use Rattle.std.proofs.lemmas.Map.Views.{Contains-from_lookup, lookup-from_Contains, tells_apart}
use Rattle.mlb_base.proofs.Entries.{lookup-insert_entry}
use Rattle.kube_labels.specs.Names.{name_cmp}
use Rattle.kube_labels.specs.Pairs.{IsAscending, value_of, with_pair, pair_eq}

abbrev Pairs : Type 0
Pairs = List (List ℕ × List ℕ)

-- another name is not tied to it
not_tied : (other name : List ℕ) → other ≢ name → is_eq (name_cmp other name) ≡ false
not_tied other name differ = false_from_ne_true (is_eq (name_cmp other name)) (λ tied. differ (tells_apart exact_bytes other name tied))

-- the name has the value that was put
pub value_of-with_pair : (name value : List ℕ) (pairs : Pairs) → value_of name (with_pair name value pairs) ≡ Some value
value_of-with_pair name value pairs =
    lookup-insert_entry nat_list_cmp_total pairs name name value ∙ rw (tied_itself nat_list_cmp_total name) refl

-- each other name has what it had
pub value_of-with_pair_other : (other name value : List ℕ) (pairs : Pairs) → other ≢ name → value_of other (with_pair name value pairs) ≡ value_of other pairs
value_of-with_pair_other other name value pairs differ =
    lookup-insert_entry nat_list_cmp_total pairs name other value ∙ rw (not_tied other name differ) refl

-- what look-up finds stands there, and is found
pub Contains-from_value_of : (name value : List ℕ) (pairs : Pairs) → value_of name pairs ≡ Some value → Contains pairs (name, value)
Contains-from_value_of name value pairs found = Contains-from_lookup (tells_apart exact_bytes) name value pairs found

pub value_of-from_Contains : (name value : List ℕ) (pairs : Pairs) → IsAscending pairs → Contains pairs (name, value) → value_of name pairs ≡ Some value
value_of-from_Contains name value pairs ascending there =
    lookup-from_Contains (eq_by_cmp_equiv nat_list_cmp_total) name value pairs (IsDistinct-from_sorted name_cmp _ ascending) there

-- ---- equal pairs

same_pair : (a b c d : List ℕ) → a ≡ c → b ≡ d → ◌≡◌ {A = List ℕ × List ℕ} (a, b) (c, d)
same_pair a b c d first second = rw (first, second) refl

pub pair_eq-Decides : (p q : List ℕ × List ℕ) → Decides (pair_eq p q) (p ≡ q)
pair_eq-Decides p q =
    Decides-like (pair_eq p q) (λ h. same_pair p.0 p.1 q.0 q.1 h.0 h.1) (λ e. (ap (λ (r : List ℕ × List ℕ). r.0) e, ap (λ (r : List ℕ × List ℕ). r.1) e))
    (Decides-and (bytes_eq p.0 q.0) (bytes_eq p.1 q.1) (bytes_eq-Decides p.0 q.0) (bytes_eq-Decides p.1 q.1))

-- `==` of labels tells whether they are the same
pub pairs_eq-Decides : (ps qs : Pairs) → Decides (pointwise pair_eq ps qs) (ps ≡ qs)
pairs_eq-Decides ps qs = slice_eq-Decides pair_eq-Decides ps qs (pointwise pair_eq ps qs) refl
