-- Ranks and pools are in order; a pool ranks ahead of another exactly where it stands before it.
use Rattle.std.proofs.Common.{◌≡◌, ℕ, Bool, true, false, cond, eqb, List, Option, Some, None, Ordering}
use Rattle.std.proofs.Common.{Less, Equal, Greater, ◌⊎◌, inl, inr, ⊎_elim, refl, sym, ap, ◌∙◌}
use Rattle.std.proofs.lemmas.Bool.{eqb-true, eqb-false}
use Rattle.std.proofs.lemmas.Map.Lookups.{CmpEqualImpliesEq, exact_unsigned}
use Rattle.std.specs.Cmp.{IsTotalOrder, on_total, then_total, nat_cmp_total}
use Rattle.std.specs.Ordering.{nat_cmp, ordering_then, ordering_reverse}
use Rattle.mlb_base.proofs.Orders.{both_equal, less_is}
use Rattle.kube_labels.specs.Names.{name_cmp}
use Rattle.kube_labels.proofs.NameLaws.{name_cmp-total}
use Rattle.pool_config.specs.declared.compiled.CompiledAllocation.{CompiledAllocation}
use Rattle.pool_config.specs.declared.compiled.CompiledPool.{CompiledPool}
use Rattle.pool_choice.specs.declared.choice.Rank.{Rank}
use Rattle.pool_choice.specs.declared.choice.Rank.TheVariants.{At, Last, Unallocated}
use Rattle.pool_choice.specs.declared.choice.RankedPool.{RankedPool}
use Rattle.pool_choice.specs.contracts.choice.RankedPoolOrd.TheImpl as derived
use Rattle.pool_choice.specs.Eligible.{IsSooner, IsNameBefore, StandsBy, StandsBefore, ranked_cmp}
use Rattle.pool_choice.specs.Rank.{rank_by, rank_of, rank_cmp, pool_cmp}

ranked_by : (r s : Rank) (m n : ℕ) → derived.cmp-value.it (record { rank = r; place = m }) (record { rank = s; place = n })
    ≡ ranked_cmp (record { rank = r; place = m }) (record { rank = s; place = n })
ranked_by (At p) (At q) m n = refl
ranked_by (At p) Last m n = refl
ranked_by (At p) Unallocated m n = refl
ranked_by Last (At q) m n = refl
ranked_by Last Last m n = refl
ranked_by Last Unallocated m n = refl
ranked_by Unallocated (At q) m n = refl
ranked_by Unallocated Last m n = refl
ranked_by Unallocated Unallocated m n = refl

-- the order that the code sorts by
pub ranked_cmp-is : derived.cmp-value.it ≡ ranked_cmp
ranked_cmp-is = λ i e f. ranked_by e.rank f.rank e.place f.place i

rank-antisymm : (r s : Rank) → rank_cmp r s ≡ ordering_reverse (rank_cmp s r)
rank-antisymm (At m) (At n) = nat_cmp_total.antisymm m n
rank-antisymm (At m) Last = refl
rank-antisymm (At m) Unallocated = refl
rank-antisymm Last (At n) = refl
rank-antisymm Last Last = refl
rank-antisymm Last Unallocated = refl
rank-antisymm Unallocated (At n) = refl
rank-antisymm Unallocated Last = refl
rank-antisymm Unallocated Unallocated = refl

rank-trans : (r s t : Rank) → rank_cmp r s ≡ Less → rank_cmp s t ≡ Less → rank_cmp r t ≡ Less
rank-trans (At m) (At n) (At p) e f = nat_cmp_total.trans m n p e f
rank-trans (At m) (At n) Last e f = refl
rank-trans (At m) (At n) Unallocated e f = refl
rank-trans (At m) Last (At p) e f = absurd (cc)
rank-trans (At m) Last Last e f = absurd (cc)
rank-trans (At m) Last Unallocated e f = refl
rank-trans (At m) Unallocated (At p) e f = absurd (cc)
rank-trans (At m) Unallocated Last e f = absurd (cc)
rank-trans (At m) Unallocated Unallocated e f = absurd (cc)
rank-trans Last (At n) t e f = absurd (cc)
rank-trans Last Last t e f = absurd (cc)
rank-trans Last Unallocated (At p) e f = absurd (cc)
rank-trans Last Unallocated Last e f = absurd (cc)
rank-trans Last Unallocated Unallocated e f = absurd (cc)
rank-trans Unallocated (At n) t e f = absurd (cc)
rank-trans Unallocated Last t e f = absurd (cc)
rank-trans Unallocated Unallocated t e f = absurd (cc)

pub rank-exact : (r s : Rank) → rank_cmp r s ≡ Equal → r ≡ s
rank-exact (At m) (At n) e = let at : ℕ → Rank = λ k. At k in ap at (exact_unsigned m n e)
rank-exact (At m) Last e = absurd (cc)
rank-exact (At m) Unallocated e = absurd (cc)
rank-exact Last (At n) e = absurd (cc)
rank-exact Last Last e = refl
rank-exact Last Unallocated e = absurd (cc)
rank-exact Unallocated (At n) e = absurd (cc)
rank-exact Unallocated Last e = absurd (cc)
rank-exact Unallocated Unallocated e = refl

rank-total : IsTotalOrder rank_cmp
rank-total = record {
  antisymm = rank-antisymm;
  trans = rank-trans;
  congr = λ r s t e. ap (λ (x : Rank). rank_cmp x t) (rank-exact r s e);
}

pub entry-total : IsTotalOrder ranked_cmp
entry-total = then_total (on_total (λ (e : RankedPool). e.rank) rank-total) (on_total (λ (e : RankedPool). e.place) nat_cmp_total)

pub pool-total : IsTotalOrder pool_cmp
pool-total = then_total (on_total rank_of rank-total) (on_total (λ (p : CompiledPool). p.name) name_cmp-total)

pub entry-exact : CmpEqualImpliesEq ranked_cmp
entry-exact e f h =
    let parts = both_equal (rank_cmp e.rank f.rank) (nat_cmp e.place f.place) h in
    let rank : Rank → RankedPool = λ r. record { rank = r; place = e.place } in
    let place : ℕ → RankedPool = λ n. record { rank = f.rank; place = n } in
    ap rank (rank-exact e.rank f.rank parts.0) ∙ ap place (exact_unsigned e.place f.place parts.1)

-- ---- ranks and the relation
then-less : (a b : Ordering) → ordering_then a b ≡ Less → (a ≡ Less) ⊎ ((a ≡ Equal) × (b ≡ Less))
then-less Less b e = inl refl
then-less Equal b e = inr (refl, e)
then-less Greater b e = absurd (cc)

-- of two priorities, by whether each is 0
sooner_by : (x y : Bool) (a b : CompiledAllocation) (p q : List ℕ) → eqb a.priority 0 ≡ x → eqb b.priority 0 ≡ y
    → ordering_then (rank_cmp (cond x Last (At a.priority)) (cond y Last (At b.priority))) (name_cmp p q) ≡ Less → IsSooner a.priority b.priority
    ⊎ ((a.priority ≡ b.priority) × IsNameBefore p q)
sooner_by true true a b p q s t e = inr (eqb-true a.priority 0 s ∙ sym (eqb-true b.priority 0 t), e)
sooner_by true false a b p q s t e = absurd (cc)
sooner_by false true a b p q s t e = inl (eqb-false a.priority 0 s, inl (eqb-true b.priority 0 t))
sooner_by false false a b p q s t e =
    ⊎_elim
    (λ less. inl (eqb-false a.priority 0 s, inr (less_is a.priority b.priority less)))
    (λ tied. inr (exact_unsigned a.priority b.priority tied.0, tied.1))
    (then-less (nat_cmp a.priority b.priority) (name_cmp p q) e)

stands_by : (a b : Option CompiledAllocation) (p q : List ℕ) → ordering_then (rank_cmp (rank_by a) (rank_by b)) (name_cmp p q) ≡ Less → StandsBy a b p q
stands_by None None p q e = e
stands_by None (Some b) p q e = absurd (later (eqb b.priority 0) e)
  where
    later : (y : Bool) → ordering_then (rank_cmp Unallocated (cond y Last (At b.priority))) (name_cmp p q) ≡ Less → ⊥
    later true e = cc
    later false e = cc
stands_by (Some a) None p q e = tt
stands_by (Some a) (Some b) p q e = sooner_by (eqb a.priority 0) (eqb b.priority 0) a b p q refl refl e

-- what is less in the order stands before
pub less-stands : (p q : CompiledPool) → pool_cmp p q ≡ Less → StandsBefore p q
less-stands p q e = stands_by p.allocation q.allocation p.name q.name e
