-- Keys: the test and the order tell them apart.
use Rattle.std.proofs.Common.{◌≡◌, ℕ, true, ◌&&◌, List, Ordering, Less, Equal, Greater, is_eq, refl, sym, ap, ◌∙◌}
use Rattle.std.proofs.lemmas.Bool.{and_parts, and_from}
use Rattle.std.proofs.lemmas.Bool.Decides.{same_from_decides}
use Rattle.std.specs.Ordering.{ordering_then}
use Rattle.std.specs.Cmp.{IsTotalOrder, on_total, then_total}
use Rattle.std.specs.Str.{bytes_eq}
use Rattle.std.proofs.lemmas.Map.Lookups.{CmpEqualImpliesEq}
use Rattle.std.proofs.lemmas.Map.Text.{is_eq-slice_cmp}
use Rattle.std.proofs.lemmas.Slice.Eq.{bytes_eq-Decides}
use Rattle.kube_labels.specs.Names.{name_cmp}
use Rattle.kube_labels.proofs.NameLaws.{name_cmp-total, name_cmp-exact}
use Rattle.kube_model.specs.declared.key.Key.{Key}
use Rattle.kube_model.specs.Keys.{key_cmp, same_key}

pub same_key-is : (a b : Key) → same_key a b ≡ true → a ≡ b
same_key-is a b e =
    let parts = and_parts (bytes_eq a.namespace b.namespace) (bytes_eq a.name b.name) e in
    let spaces : a.namespace ≡ b.namespace = (bytes_eq-Decides a.namespace b.namespace).0 parts.0 in
    let names : a.name ≡ b.name = (bytes_eq-Decides a.name b.name).0 parts.1 in
    let space : List ℕ → Key = λ n. record { namespace = n; name = a.name } in
    let name : List ℕ → Key = λ n. record { namespace = b.namespace; name = n } in
    ap space spaces ∙ ap name names

pub same_key-itself : (a : Key) → same_key a a ≡ true
same_key-itself a =
    and_from (bytes_eq a.namespace a.namespace) (bytes_eq a.name a.name)
    ((bytes_eq-Decides a.namespace a.namespace).1 refl) ((bytes_eq-Decides a.name a.name).1 refl)

pub same_key-by : (a b : Key) → a ≡ b → same_key a b ≡ true
same_key-by a b e = rw (← e) (same_key-itself a)

pub same_key-flip : (a b : Key) → same_key a b ≡ same_key b a
same_key-flip a b =
    same_from_decides (same_key a b) (same_key b a) (same_key-is a b, same_key-by a b)
    (λ e. sym (same_key-is b a e), λ e. same_key-by b a (sym e))

-- one key in place of an equal one
pub same_key-left : (a b c : Key) → same_key a b ≡ true → same_key a c ≡ same_key b c
same_key-left a b c e = ap (λ k. same_key k c) (same_key-is a b e)

tied_by : (a b : Ordering) → is_eq (ordering_then a b) ≡ (is_eq a && is_eq b)
tied_by Less b = refl
tied_by Equal b = refl
tied_by Greater b = refl

-- the order and the test agree
pub is_eq-key_cmp : (a b : Key) → is_eq (key_cmp a b) ≡ same_key a b
is_eq-key_cmp a b =
    tied_by (name_cmp a.namespace b.namespace) (name_cmp a.name b.name)
    ∙ rw (is_eq-slice_cmp a.namespace b.namespace, is_eq-slice_cmp a.name b.name) refl

both_equal : (a b : Ordering) → ordering_then a b ≡ Equal → (a ≡ Equal) × (b ≡ Equal)
both_equal Less b e = absurd (cc)
both_equal Equal b e = (refl, e)
both_equal Greater b e = absurd (cc)

pub key_cmp-total : IsTotalOrder key_cmp
key_cmp-total = then_total (on_total (λ (k : Key). k.namespace) name_cmp-total) (on_total (λ (k : Key). k.name) name_cmp-total)

pub key_cmp-exact : CmpEqualImpliesEq key_cmp
key_cmp-exact a b e =
    let parts = both_equal (name_cmp a.namespace b.namespace) (name_cmp a.name b.name) e in
    let space : List ℕ → Key = λ n. record { namespace = n; name = a.name } in
    let name : List ℕ → Key = λ n. record { namespace = b.namespace; name = n } in
    ap space (name_cmp-exact a.namespace b.namespace parts.0) ∙ ap name (name_cmp-exact a.name b.name parts.1)
