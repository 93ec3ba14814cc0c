use Rattle.std.proofs.Common.{◌≡◌, ℕ, not, filter, ap, sym, ◌∙◌}
use Rattle.kube_model.specs.Keys.{same_key}
use Rattle.kube_model.specs.Records.{is_assigned}
use Rattle.kube_model.specs.declared.key.Key.{Key}
use Rattle.alloc_book.specs.Book.{BookValue}
use Rattle.claim_index.specs.Claims.{ClaimValue, settled}
use Rattle.alloc_book.proofs.BookRemoval.{settled-assigned, settled-unassigned}
use Rattle.alloc_book.proofs.booking.Book.put.Goals as goal
use Rattle.alloc_book.proofs.booking.Book.put.Goals.{then-is_assigned, else-is_assigned}

pub returns-clause-claims : goal.returns-clause-claims
returns-clause-claims c =
    let items = c.self.inside.index.items in
    let claim = c.args.claim in
    let is : is_assigned claim.holding ≡ c.is_assigned.result = ap is_assigned (sym c.holding.ensures) ∙ sym c.is_assigned.ensures in
    let before = ap (λ (b : BookValue). settled claim.key claim.holding claim.terms b.claims) c.self.view_is in
    elim c.if-is_assigned.branch [
      | then-is_assigned w ↦
          ap (λ (b : BookValue). b.claims) w.self-is
          ∙ settled-assigned items w.add-number.new.self.items w.remove_others.new.index.items w.add-number.result claim (is ∙ w.if-is_assigned.true)
          w.add-number.ensures.fresh w.add-number.ensures.items w.remove_others.ensures.items
          ∙ before
      | else-is_assigned w ↦
          ap (λ (b : BookValue). b.claims) w.self-is
          ∙ settled-unassigned items w.remove_all.new.index.items claim.key claim.holding claim.terms (is ∙ w.if-is_assigned.false)
          (w.remove_all.ensures.items ∙ ap (λ (k : Key). filter (λ (p : ℕ × ClaimValue). not (same_key p.1.key k)) items) w.key.ensures)
          ∙ before
    ]

pub returns-clause-entries : goal.returns-clause-entries
returns-clause-entries c =
    let entries = λ (b : BookValue). b.entries in
    elim c.if-is_assigned.branch [
      | then-is_assigned w ↦ ap entries w.self-is ∙ w.remove_others.ensures.entries ∙ w.add-number.ensures.entries ∙ ap entries c.self.view_is
      | else-is_assigned w ↦ ap entries w.self-is ∙ w.remove_all.ensures.entries ∙ ap entries c.self.view_is
    ]
