-- A bridge takes the Lease over, and starts its program; its put is carried out.
use Rattle.std.proofs.Common.{◌≡◌, ◌<◌, ◌+◌, Bool, [], ◌∷◌, refl, ap, ◌∙◌, arith}
use Rattle.mlb_base.proofs.Among.{contains-first}
use Rattle.kube_model.specs.declared.put.Put.{Put}
use Rattle.fence_rules.specs.Cluster.{Ask, Sent, carried_out, is_awaited, name_of}
use Rattle.fence_rules.proofs.Sending.{awaited-itself}
use Rattle.fence_laws.specs.Going.{FencesGoOn, PutsGoOn, second, some_put}

pub fences_go_on : FencesGoOn
fences_go_on class store list listed =
    let ask : Ask = record { at = 1; named = [] } in (
      (
        (tt, tt),
        (
          refl,
          (
            tt,
            (
              (tt, (contains-first (1, ask) [], refl, omega arith)),
              ((tt, tt), (refl, (record { asked = refl; down = refl; listed = listed }, (tt, tt)))),
            ),
          ),
        ),
      ),
      refl,
    )

pub puts_go_on : PutsGoOn
puts_go_on c holding past can =
    let put : Put = some_put holding in
    let ask : Ask = record { at = (second c).seen.version; named = name_of put ∷ [] } in
    let lease : c.lease.version ≡ 2 = can.lease in
    let less : c.lease.version < 3 = omega (arith, lease) in
    let heard = ap (λ (here : Bool). carried_out here (c.store.counter + 1) Sent) (ap (is_awaited put) can.wants ∙ awaited-itself put) in (
      (
        can.wants,
        (
          (tt, (contains-first (1, ask) c.asks, can.known, less)),
          (
            (tt, tt),
            (refl, ((tt, (contains-first (1, put) c.sent, can.current)), ((tt, heard), tt))),
          ),
        ),
      ),
      refl,
      refl,
    )
