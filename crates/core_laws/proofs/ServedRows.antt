-- The eligible pools serve, and so a row whose choice is a record is served.
use Rattle.std.proofs.Common.{◌≡◌, ℕ, List, filter, ⊎_elim, sym, ap, subst, ◌∙◌}
use Rattle.std.specs.Cmp.{second_so}
use Rattle.mlb_base.proofs.Lists.{filter-contains}
use Rattle.kube_model.specs.declared.record.Record.{Record}
use Rattle.kube_model.specs.declared.service.Service.{Service}
use Rattle.pool_config.specs.declared.compiled.CompiledPool.{CompiledPool}
use Rattle.alloc_book.specs.declared.choice.Choice.{Choice}
use Rattle.alloc_book.specs.Asking.{asker_of}
use Rattle.alloc_book.specs.Granted.{IsFor}
use Rattle.pool_choice.specs.Serving.{serves}
use Rattle.pool_choice.specs.Eligible.{is_offered}
use Rattle.pool_choice.specs.Rank.{pool_cmp}
use Rattle.pool_choice.proofs.SortLaws.{sorted-found}
use Rattle.core_rules.specs.Core.{offer_at, offer_in, pools_in, labels_of}
use Rattle.core_rules.specs.Turn.{wanted_record}
use Rattle.core_laws.specs.Served.{IsServed, AreOffered, RowsAreServed}
use Rattle.core_laws.proofs.Served.{chosen_is_served}

-- the eligible pools are pools of the configuration that serve the service
pub eligible-offered : (pools : List CompiledPool) (labels : List (List ℕ × List ℕ)) (service : Service) → AreOffered (offer_at pools labels service)
eligible-offered pools labels service pool there =
    let found = filter-contains (is_offered service labels) pools pool (sorted-found pool_cmp (filter (is_offered service labels) pools) pool there) in
    (found.0, second_so pool.auto_assign (serves service labels pool) found.1)

wanted-is : (held r : Record) (c : Choice) → IsFor r c → wanted_record held c ≡ r
wanted-is held r c for = ⊎_elim (λ kept. ap (wanted_record held) kept) (λ new. ap (wanted_record held) new) for

pub rows_are_served : RowsAreServed
rows_are_served class held has service row r for =
    subst (IsServed row.chosen_by (offer_in held row.before) (asker_of row.before)) (sym (row.holding_is ∙ wanted-is row.before.holding r row.choice for))
    (chosen_is_served row.chosen_by (offer_in held row.before) class row.before r row.choice
    (eligible-offered (pools_in held.config) (labels_of held row.before.key.namespace) row.before) for row.chosen)
