use Rattle.std.proofs.Common.{[], List, Some, None, slice_get, sym, ap, ◌∙◌}
use Rattle.std.specs.Option.{option_copied}
use Rattle.ip_ranges.specs.Values.{AddressValue}
use Rattle.alloc_book.specs.Asking.{asking, offering}
use Rattle.alloc_book.specs.Choose.{is_home}
use Rattle.alloc_book.proofs.PoolLaws.{find-none, find-fails, find-here, only-home}
use Rattle.alloc_book.proofs.requests.home_of.Goals as goal

pub returns-in_err-pool : goal.returns-in_err-pool
returns-in_err-pool c =
    let test = is_home (offering [] [] c.args.service.now c.args.namespace.now) (asking c.args.service.now c.args.terms.now) in
    let first = c.in-Some.ensures.value ∙ ap (λ (addresses : List AddressValue). slice_get addresses 0) c.asked_in.ensures in
    let only = only-home c.args.config.now.pools c.in-Some.address.now None c.in_err-pool.ensures.only (offering [] [] c.args.service.now c.args.namespace.now)
    (asking c.args.service.now c.args.terms.now) first in
    ap option_copied c.from_residual.ensures ∙ sym (find-none test c.args.config.now.pools only)

pub returns-then-is_home : goal.returns-then-is_home
returns-then-is_home c =
    let test = is_home (offering [] [] c.args.service.now c.args.namespace.now) (asking c.args.service.now c.args.terms.now) in
    let first = c.in-Some.ensures.value ∙ ap (λ (addresses : List AddressValue). slice_get addresses 0) c.asked_in.ensures in
    let only = only-home c.args.config.now.pools c.in-Some.address.now (Some c.in_ok-pool.pool.now) c.in_ok-pool.ensures.only
    (offering [] [] c.args.service.now c.args.namespace.now) (asking c.args.service.now c.args.terms.now) first in
    sym (find-here test c.in_ok-pool.pool.now c.args.config.now.pools (sym c.is_home.ensures ∙ c.if-is_home.true) c.in_ok-pool.ensures.found.0 only)

pub returns : goal.returns
returns c =
    let test = is_home (offering [] [] c.args.service.now c.args.namespace.now) (asking c.args.service.now c.args.terms.now) in
    let first = c.in-Some.ensures.value ∙ ap (λ (addresses : List AddressValue). slice_get addresses 0) c.asked_in.ensures in
    let only = only-home c.args.config.now.pools c.in-Some.address.now (Some c.in_ok-pool.pool.now) c.in_ok-pool.ensures.only
    (offering [] [] c.args.service.now c.args.namespace.now) (asking c.args.service.now c.args.terms.now) first in
    sym (find-fails test c.in_ok-pool.pool.now c.args.config.now.pools (sym c.is_home.ensures ∙ c.if-is_home.false) only)
