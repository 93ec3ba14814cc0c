-- Puts are made, and the Lease is taken over.
use Rattle.std.proofs.Common.{◌≡◌, ◌<◌, ◌+◌, Bool, List, [], ◌∷◌, inl, inr, refl, sym, ap, subst, ◌∙◌, arith}
use Rattle.std.specs.List.{Contains}
use Rattle.mlb_base.proofs.Among.{contains-first, contains-none}
use Rattle.kube_model.specs.declared.put.Put.{Put}
use Rattle.fence_rules.specs.Cluster.{Ask, Lease, Sent, AreGone, carried_out, is_awaited, name_of}
use Rattle.fence_rules.specs.Going.{LeasesAreTakenOver, PutsAreMade}
use Rattle.fence_rules.proofs.Sending.{awaited-itself}
use Rattle.fence_rules.proofs.Steps.{wants-up}

-- nothing is in an empty list
pub not-late : (late : List Put) → late ≡ [] → (put : Put) → Contains late put → ⊥
not-late late e put has = contains-none put (subst (λ (puts : List Put). Contains puts put) e has)

pub puts_are_made : PutsAreMade
puts_are_made c put can =
    let b = c.bridges 0 in
    let ask : Ask = record { at = b.seen.version; named = name_of put ∷ [] } in
    let at : b.seen.version ≡ c.lease.version = ap (λ (l : Lease). l.version) can.known in
    let more : b.seen.version < c.lease.version + 1 = omega (arith, at) in (
      (
        record { quiet = can.quiet; own = inr (ap (λ (l : Lease). l.holder) can.known ∙ can.holds); names = inr (can.free, wants-up b.core put can.wants, λ other has. absurd (not-late b.late can.none other has)) },
        (
          (contains-first (0, ask) c.asks, at, omega arith),
          (
            tt,
            (
              tt,
              (
                record {
                  free = can.free;
                  wants = can.wants;
                  quiet = more;
                  own = refl;
                  named = contains-first (name_of put) [];
                  unowed = λ other has. absurd (not-late b.late can.none other has);
                },
                (
                  (contains-first (0, put) c.sent, can.current),
                  (ap (λ (here : Bool). carried_out here (c.store.counter + 1) Sent) (ap (is_awaited put) can.wants ∙ awaited-itself put), tt),
                ),
              ),
            ),
          ),
        ),
      ),
      refl,
    )

pub leases_are_taken_over : LeasesAreTakenOver
leases_are_taken_over c list can =
    let b = c.bridges 1 in
    let ask : Ask = record { at = b.seen.version; named = b.seen.named } in
    let at : b.seen.version ≡ c.lease.version = ap (λ (l : Lease). l.version) can.known in
    let more : b.seen.version < c.lease.version + 1 = omega (arith, at) in
    let gone : AreGone c.store b.seen.named = subst (λ (l : Lease). AreGone c.store l.named) (sym can.known) can.gone in (
      (
        record { quiet = can.quiet; own = inl can.down; names = inl refl },
        ((contains-first (1, ask) c.asks, at, omega arith), (tt, (tt, (record { down = can.down; quiet = more; fenced = gone; listed = can.listed }, tt)))),
      ),
      refl,
    )
