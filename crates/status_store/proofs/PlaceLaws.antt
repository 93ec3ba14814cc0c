-- The order of places is total, and tells them apart.
use Rattle.std.proofs.Common.{◌≡◌, ℕ, zero, suc, refl, sym, ap, ◌∙◌}
use Rattle.std.proofs.lemmas.Map.Lookups.{CmpEqualImpliesEq, exact_unsigned, exact_pairs}
use Rattle.std.specs.Cmp.{IsTotalOrder, on_total, then_total, nat_cmp_total}
use Rattle.kube_model.proofs.KeyLaws.{key_cmp-total, key_cmp-exact}
use Rattle.kube_model.specs.declared.object.Kind.{Kind}
use Rattle.kube_model.specs.declared.object.Kind.TheVariants as kinds
use Rattle.kube_model.specs.Keys.{key_cmp}
use Rattle.status_store.specs.Places.{Place, kind_rank, kind_cmp, place_cmp}

kind_at : ℕ → Kind
kind_at zero = kinds.Service
kind_at (suc zero) = kinds.Pool
kind_at (suc (suc zero)) = kinds.L2
kind_at (suc (suc (suc zero))) = kinds.Bgp
kind_at (suc (suc (suc (suc zero)))) = kinds.Peer
kind_at (suc (suc (suc (suc (suc zero))))) = kinds.Community
kind_at (suc (suc (suc (suc (suc (suc zero)))))) = kinds.Namespace
kind_at (suc (suc (suc (suc (suc (suc (suc zero))))))) = kinds.Node
kind_at (suc (suc (suc (suc (suc (suc (suc (suc n)))))))) = kinds.Slice

kind_at-rank : (kind : Kind) → kind_at (kind_rank kind) ≡ kind
unfolding kind_at
kind_at-rank kinds.Service = refl
kind_at-rank kinds.Pool = refl
kind_at-rank kinds.L2 = refl
kind_at-rank kinds.Bgp = refl
kind_at-rank kinds.Peer = refl
kind_at-rank kinds.Community = refl
kind_at-rank kinds.Namespace = refl
kind_at-rank kinds.Node = refl
kind_at-rank kinds.Slice = refl

kind_cmp-exact : CmpEqualImpliesEq kind_cmp
kind_cmp-exact a b e =
    sym (kind_at-rank a) ∙ ap kind_at (exact_unsigned (kind_rank a) (kind_rank b) e) ∙ kind_at-rank b

pub place_cmp-total : IsTotalOrder place_cmp
place_cmp-total =
    then_total (on_total (λ (p : Place). p.0) (on_total kind_rank nat_cmp_total)) (on_total (λ (p : Place). p.1) key_cmp-total)

pub place_cmp-exact : CmpEqualImpliesEq place_cmp
place_cmp-exact = exact_pairs kind_cmp key_cmp kind_cmp-exact key_cmp-exact
