use Rattle.std.proofs.Common.{◌≡◌, List, Option, Some, None, OnOk, sym, ap, subst, ◌∙◌}
use Rattle.std.specs.Option.{option_map}
use Rattle.kube_model.specs.declared.key.Key.{Key}
use Rattle.kube_model.specs.declared.record.Record.{Record}
use Rattle.sharing_terms.specs.declared.terms.Terms.{Terms}
use Rattle.sharing_terms.specs.Spelled.{recorded_terms}
use Rattle.claim_index.specs.Claims.{ClaimValue, doubted, doubted_by}
use Rattle.alloc_book.proofs.booking.Book.doubt.Goals as goal

-- the claim of a record under the terms of its mark
abbrev marked : Key → Record → Terms → ClaimValue
marked key r terms = record { key = key; holding = r; terms = terms }

is-doubted : (o : Option Terms) (key : Key) (r : Record) (claims : List ClaimValue) (claim : ClaimValue) → option_map (marked key r) o ≡ Some claim
    → doubted claim.key claim.holding claim.terms claims ≡ doubted_by key r o claims
is-doubted None key r claims claim e = absurd (cc)
is-doubted (Some terms) key r claims claim e =
    let same : claim ≡ marked key r terms = cc in
    ap (λ (c : ClaimValue). doubted c.key c.holding c.terms claims) same

pub returns-in-Some-clause-ok : goal.returns-in-Some-clause-ok
returns-in-Some-clause-ok c =
    let key = c.args.key.now in
    let r = c.args.holding.now in
    let claims = c.args.self.now.claims in
    subst (λ (z : List ClaimValue). OnOk c.doubt_claim.result (c.doubt_claim.new.self.claims ≡ z))
    (is-doubted (recorded_terms r.mark) key r claims c.in-Some.claim (sym c.in_ok-claim.ensures ∙ c.in-Some.is)) c.doubt_claim.ensures.ok
