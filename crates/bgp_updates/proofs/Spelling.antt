-- The messages between two tables spell their updates.
use Rattle.std.proofs.Common.{◌≡◌, List, [], ◌∷◌, ◌++◌, map, refl, sym, ◌∙◌, ap}
use Rattle.std.proofs.lemmas.List.{map-append}
use Rattle.std.specs.List.{flat_map}
use Rattle.std.specs.Map.{keys_of}
use Rattle.ip_ranges.specs.Values.{PrefixValue}
use Rattle.bgp_updates.specs.declared.route.Terms.{Terms}
use Rattle.bgp_updates.specs.declared.route.Peering.{Peering}
use Rattle.bgp_updates.specs.declared.route.RouteGroup.{RouteGroup}
use Rattle.ip_ranges.specs.declared.family.Family.{Family}
use Rattle.bgp_updates.specs.Message.{announced_part, in_messages, part_message, room_of, withdrawn_part}
use Rattle.bgp_updates.specs.Received.{Update, announcements, changed, gone, groups_from, same_terms, withdrawals}
use Rattle.bgp_updates.specs.Between.{group_messages, update_octets}
use Rattle.bgp_updates.specs.Laws.{MessagesSpell}

spell-withdrawals : (family : Family) (peering : Peering) (parts : List (List PrefixValue))
    → map (part_message (withdrawn_part family)) parts ≡ map (update_octets family peering) (withdrawals parts)
spell-withdrawals family peering [] = refl
spell-withdrawals family peering (part ∷ parts) = ap (λ rest. part_message (withdrawn_part family) part ∷ rest) (spell-withdrawals family peering parts)

spell-announcements : (family : Family) (peering : Peering) (terms : Terms) (parts : List (List PrefixValue))
    → map (part_message (announced_part family peering terms)) parts ≡ map (update_octets family peering) (announcements terms parts)
spell-announcements family peering terms [] = refl
spell-announcements family peering terms (part ∷ parts) =
    ap (λ rest. part_message (announced_part family peering terms) part ∷ rest) (spell-announcements family peering terms parts)

abbrev pub group_updates : Family → Peering → RouteGroup → List Update
group_updates family peering group = announcements group.terms (in_messages (room_of (announced_part family peering group.terms)) group.prefixes)

spell-groups : (family : Family) (peering : Peering) (groups : List RouteGroup)
    → flat_map (group_messages family peering) groups ≡ map (update_octets family peering) (flat_map (group_updates family peering) groups)
spell-groups family peering [] = refl
spell-groups family peering (group ∷ groups) =
    ap (λ front. front ++ flat_map (group_messages family peering) groups)
    (spell-announcements family peering group.terms (in_messages (room_of (announced_part family peering group.terms)) group.prefixes))
    ∙ ap (λ rest. map (update_octets family peering) (group_updates family peering group) ++ rest) (spell-groups family peering groups)
    ∙ sym (map-append (update_octets family peering) (group_updates family peering group) (flat_map (group_updates family peering) groups))

pub messages-spell : MessagesSpell
messages-spell family peering old new =
    let parts = in_messages (room_of (withdrawn_part family)) (keys_of (gone old new)) in
    let groups = groups_from same_terms [] (changed same_terms old new) in
    ap (λ front. front ++ flat_map (group_messages family peering) groups) (spell-withdrawals family peering parts)
    ∙ ap (λ rest. map (update_octets family peering) (withdrawals parts) ++ rest) (spell-groups family peering groups)
    ∙ sym (map-append (update_octets family peering) (withdrawals parts) (flat_map (group_updates family peering) groups))
