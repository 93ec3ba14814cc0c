-- The messages between the routes inside a set of prefixes, outside which the tables agree, are all.
use Rattle.std.proofs.Common.{◌≡◌, Bool, cond, List, [], ◌∷◌, ◌++◌, filter, None, refl, sym, ◌∙◌, ap}
use Rattle.std.specs.Map.{keys_of}
use Rattle.std.specs.List.{flat_map}
use Rattle.mlb_base.proofs.Bools.{by_bool}
use Rattle.ip_ranges.specs.declared.family.Family.{Family}
use Rattle.ip_ranges.specs.declared.family.Family.TheVariants.{V4, V6}
use Rattle.ip_ranges.specs.Values.{PrefixValue, same_family}
use Rattle.bgp_updates.specs.declared.route.Terms.{Terms}
use Rattle.bgp_updates.specs.declared.route.Peering.{Peering}
use Rattle.bgp_updates.specs.Between.{group_messages, messages_for}
use Rattle.bgp_updates.specs.Laws.{AgreeBeside, PartsTellAll, cut}
use Rattle.bgp_updates.specs.Message.{part_messages, withdrawn_part}
use Rattle.bgp_updates.specs.Received.{AreDistinct, changed, gone, groups_from, same_terms}
use Rattle.bgp_updates.specs.Tables.{of_family}
use Rattle.bgp_updates.proofs.Cuts.{changed-inside, gone-inside}
use Rattle.bgp_updates.proofs.ReceivedLaws.{family-at, family-distinct}

filters-swap : {A : Type 0} (p q : A → Bool) (xs : List A) → filter p (filter q xs) ≡ filter q (filter p xs)
filters-swap p q [] = refl
filters-swap p q (x ∷ xs) =
    by_bool (filter p (filter q (x ∷ xs)) ≡ filter q (filter p (x ∷ xs))) (p x)
    (λ is. by_bool (filter p (filter q (x ∷ xs)) ≡ filter q (filter p (x ∷ xs))) (q x)
    (λ too. rw (is, too) (rw is (ap (λ rest. x ∷ rest) (filters-swap p q xs))))
    (λ not_too. rw (is, not_too) (filters-swap p q xs)))
    (λ not_it. by_bool (filter p (filter q (x ∷ xs)) ≡ filter q (filter p (x ∷ xs))) (q x)
    (λ too. rw (not_it, too) (rw not_it (filters-swap p q xs)))
    (λ not_too. rw (not_it, not_too) (filters-swap p q xs)))

agree-family : (family : Family) (takes : PrefixValue → Bool) (old new : List (PrefixValue × Terms)) → AgreeBeside takes old new
    → AgreeBeside takes (of_family family old) (of_family family new)
agree-family family takes old new agree p beside =
    family-at family old p ∙ ap (λ t. cond (same_family p.family family) t None) (agree p beside) ∙ sym (family-at family new p)

cut-for : (family : Family) (peering : Peering) (takes : PrefixValue → Bool) (old new : List (PrefixValue × Terms)) → AreDistinct old → AreDistinct new
    → AgreeBeside takes old new
    → messages_for family peering (of_family family (cut takes old)) (of_family family (cut takes new))
    ≡ messages_for family peering (of_family family old) (of_family family new)
cut-for family peering takes old new old_are new_are agree =
    let is_own : PrefixValue × Terms → Bool = λ route. same_family route.0.family family in
    let is_taken : PrefixValue × Terms → Bool = λ route. takes route.0 in
    let first = of_family family old in
    let second = of_family family new in
    let beside = agree-family family takes old new agree in
    rw (filters-swap is_own is_taken old, filters-swap is_own is_taken new) (
    ap (λ routes. part_messages (withdrawn_part family) (keys_of routes)
    ++ flat_map (group_messages family peering) (groups_from same_terms [] (changed same_terms (cut takes first) (cut takes second))))
    (gone-inside takes first second beside (family-distinct family old old_are))
    ∙ ap (λ routes. part_messages (withdrawn_part family) (keys_of (gone first second))
    ++ flat_map (group_messages family peering) (groups_from same_terms [] routes))
    (changed-inside takes first second beside (family-distinct family new new_are))
    )

pub parts-tell : PartsTellAll
parts-tell peering takes old new old_are new_are agree =
    ap (λ front. front ++ messages_for V6 peering (of_family V6 (cut takes old)) (of_family V6 (cut takes new)))
    (cut-for V4 peering takes old new old_are new_are agree)
    ∙ ap (λ back. messages_for V4 peering (of_family V4 old) (of_family V4 new) ++ back) (cut-for V6 peering takes old new old_are new_are agree)
