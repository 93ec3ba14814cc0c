-- The order of names tells them apart, and the test of a list finds them.
use Rattle.std.specs.Cmp.{IsTotalOrder}
use Rattle.std.specs.Cmp.Lexicographic.{nat_list_cmp_total}
use Rattle.std.proofs.lemmas.Map.Lookups.{CmpEqualImpliesEq, exact_bytes}
use Rattle.std.proofs.Common.{ℕ, List, refl, subst}
use Rattle.std.proofs.lemmas.Slice.Eq.{bytes_eq-Decides}
use Rattle.std.specs.Bool.{Decides}
use Rattle.std.specs.List.{Contains}
use Rattle.std.specs.Str.{bytes_eq}
use Rattle.mlb_base.proofs.Among.{any-contains, any-found}
use Rattle.kube_labels.specs.Names.{has_text, name_cmp}

pub name_cmp-total : IsTotalOrder name_cmp
name_cmp-total = nat_list_cmp_total

pub name_cmp-exact : CmpEqualImpliesEq name_cmp
name_cmp-exact = exact_bytes

pub has_text-Decides : (texts : List (List ℕ)) (text : List ℕ) → Decides (has_text texts text) (Contains texts text)
has_text-Decides texts text = (
  λ e. let found = any-found (λ t. bytes_eq t text) texts e in subst (Contains texts) ((bytes_eq-Decides found.0 text).0 found.2) found.1,
  λ there. any-contains (λ t. bytes_eq t text) texts text there ((bytes_eq-Decides text text).1 refl),
)
