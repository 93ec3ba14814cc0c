use Rattle.std.proofs.Common.{All, sym, subst}
use Rattle.bgp_updates.specs.Between.{messages_between}
use Rattle.bgp_updates.specs.Tables.{HasFew, IsTable}
use Rattle.bgp_updates.proofs.Sizes.{all-short, messages-fit}
use Rattle.bgp_updates.proofs.updating.updates.Goals as goal

pub returns-clause-fit : goal.returns-clause-fit
returns-clause-fit c =
    let old = c.as_slice.result.now in
    let new = c.as_slice-2.result.now in
    let old_table : IsTable old = subst IsTable (sym c.as_slice.ensures.routes) c.as_slice.ensures.table in
    let new_table : IsTable new = subst IsTable (sym c.as_slice-2.ensures.routes) c.as_slice-2.ensures.table in
    let few : All HasFew new = subst (All HasFew) (sym c.as_slice-2.ensures.routes) c.requires.few in
    all-short c.between.result (messages_between c.peering_of-peering.result old new) c.between.ensures
    (messages-fit c.peering_of-peering.result old new old_table new_table few)
