-- Texts that differ, and sets of them.
use Rattle.std.proofs.Common.{◌≡◌, ℕ, ◌≤◌, false, List, [], ◌∷◌, inl, inr, length, sym, Decides}
use Rattle.std.proofs.lemmas.Bool.{cases_Bool}
use Rattle.std.proofs.lemmas.Bool.Decides.{Decides-like}
use Rattle.std.proofs.lemmas.Slice.Eq.{bytes_eq-Decides}
use Rattle.std.proofs.lemmas.Map.Made.{length-le_from_is_member}
use Rattle.std.specs.List.{AllByRecursion, list_any, IsDistinct}
use Rattle.std.specs.List.Sorted.{IsStrictlySortedBy}
use Rattle.std.specs.Cmp.Lexicographic.{nat_list_eq_equiv}
use Rattle.std.specs.Str.{bytes_eq}
use Rattle.mlb_base.specs.Items.{IsIn}
use Rattle.mlb_base.proofs.Lists.{Decides-has}
use Rattle.kube_labels.specs.Names.{name_cmp}
use Rattle.kube_labels.proofs.NameLaws.{name_cmp-total, name_cmp-exact}
use Rattle.pool_config.specs.Faults.{Differ}
use Rattle.pool_config.proofs.KeySets.{not_among}

-- texts that ascend differ
pub ascending_differ : (ks : List (List ℕ)) → IsStrictlySortedBy name_cmp ks → Differ ks
unfolding IsStrictlySortedBy
ascending_differ [] s = tt
ascending_differ (x ∷ xs) s = (not_among name_cmp-total name_cmp-exact x xs s.0, ascending_differ xs s.1)

-- texts that differ and are all among others are no more than these
member-Decides : (xs : List (List ℕ)) (q : List ℕ) → Decides (list_any (bytes_eq q) xs) (IsIn xs q)
member-Decides xs q = Decides-has (bytes_eq q) (λ y. y ≡ q) (λ y. Decides-like (bytes_eq q y) sym sym (bytes_eq-Decides q y)) xs

unequal : (x : List ℕ) (xs : List (List ℕ)) → ¬ IsIn xs x → AllByRecursion (λ y. bytes_eq x y ≡ false) xs
unequal x [] out = tt
unequal x (y ∷ ys) out = (
  elim (cases_Bool (bytes_eq x y)) [ inl same ↦ absurd (out (inl (sym ((bytes_eq-Decides x y).0 same)))) | inr other ↦ other ],
  unequal x ys (λ later. out (inr later)),
)

distinct : (xs : List (List ℕ)) → Differ xs → IsDistinct bytes_eq xs
unfolding IsDistinct
distinct [] d = tt
distinct (x ∷ xs) d = (unequal x xs d.0, distinct xs d.1)

pub no_more : (xs ys : List (List ℕ)) → Differ xs → ((q : List ℕ) → IsIn xs q → IsIn ys q) → length xs ≤ length ys
no_more xs ys differ within =
    length-le_from_is_member nat_list_eq_equiv xs ys (distinct xs differ)
    (λ q e. (member-Decides ys q).1 (within q ((member-Decides xs q).0 e)))
