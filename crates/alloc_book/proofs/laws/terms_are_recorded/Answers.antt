use Rattle.std.proofs.Common.{◌≡◌, Option, Some, None, refl, ap}
use Rattle.std.specs.Option.{unwrap_or}
use Rattle.kube_model.specs.declared.record.Record.{Record}
use Rattle.sharing_terms.specs.declared.terms.Terms.{Terms}
use Rattle.sharing_terms.specs.Marked.{IsMarkOf}
use Rattle.sharing_terms.specs.Spelled.{recorded_terms}
use Rattle.sharing_terms.proofs.ReadBack.{recorded-exact}
use Rattle.alloc_book.proofs.laws.terms_are_recorded.Goals as goal

adopted-is : (r : Record) (adopted : Terms) (found : Option Terms) → recorded_terms r.mark ≡ found → ((t : Terms) → ¬ (IsMarkOf t r.mark))
    → unwrap_or found adopted ≡ adopted
adopted-is r adopted None is none = refl
adopted-is r adopted (Some t) is none = absurd (none t ((recorded-exact r.mark t).0 is))

pub returns : goal.returns
returns c =
    λ r adopted. (
      λ t mark. ap (λ (found : Option Terms). unwrap_or found adopted) ((recorded-exact r.mark t).1 mark),
      λ none. adopted-is r adopted (recorded_terms r.mark) refl none,
    )
