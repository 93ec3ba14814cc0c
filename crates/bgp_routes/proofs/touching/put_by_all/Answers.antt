use Rattle.std.proofs.Common.{◌≡◌, length, Some, refl, subst, arith}
use Rattle.std.proofs.lemmas.Option.{slice_get_read}
use Rattle.std.specs.List.{slice_get}
use Rattle.bgp_routes.specs.Contributors.{IsPutAt, aggregate_of}
use Rattle.bgp_routes.specs.KeptConfig.{is_set}
use Rattle.bgp_routes.proofs.Renewing.{IsPutUpTo, put-all, put-more}
use Rattle.bgp_routes.proofs.touching.put_by_all.Goals as goal

pub loop-place-preserved : goal.loop-place-preserved
loop-place-preserved c =
    let advertisements = c.args.advertisements.now in
    let flags = c.args.flags.now in
    let address = c.args.address.now in
    let l = c.loop-place in
    let adv = c.index-advertisements-place.result in
    let at : slice_get advertisements l.place ≡ Some adv =
    slice_get_read advertisements (length advertisements) l.place adv refl c.loop-place-test.true c.index-advertisements-place.is in
    let put = subst (λ b. IsPutAt c.aggregate-aggregate.result address b l.contributors c.put.new.self) c.is_set.ensures c.in_ok-put.ensures in
    let own : IsPutAt (aggregate_of l.place adv address) address (is_set flags l.place) l.contributors c.put.new.self =
    subst (λ g. IsPutAt g address (is_set flags l.place) l.contributors c.put.new.self) c.aggregate-aggregate.ensures put in
    put-more advertisements flags address l.place adv at c.args.contributors.now l.contributors c.put.new.self l.invariant own

pub returns : goal.returns
returns c =
    let advertisements = c.args.advertisements.now in
    let flags = c.args.flags.now in
    let address = c.args.address.now in
    let l = c.loop-place in
    let end : l.place ≡ length advertisements = omega arith in
    put-all advertisements flags address c.args.contributors.now l.contributors
    (subst (λ n. IsPutUpTo advertisements flags address n c.args.contributors.now l.contributors) end l.invariant)
