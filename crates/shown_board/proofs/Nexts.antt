-- Lists that are one event longer.
use Rattle.std.proofs.Common.{◌≡◌, ◌+◌, ◌-◌, List, [], ◌∷◌, ◌++◌, length, fold, refl, ap, sym, ◌∙◌, arith, length-append}
use mathlib.Core.List.{IsPrefix}
use Rattle.growing_list.proofs.Beginnings.{prefix_shorter, prefix_whole}
use Rattle.shown_board.specs.Boarded.{EndsBy}

-- what is before the last event is the list that is one shorter
pub next_is : {E : Type 0} (list front : List E) (event : E) → EndsBy front event → IsPrefix list front
    → length front - 1 ≡ length list → front ≡ list ++ event ∷ []
next_is list front event ends begins longer =
    let earlier = ends.0 in
    let long : length front ≡ length earlier + 1 = ap length ends.1 ∙ length-append earlier (event ∷ []) in
    let short : IsPrefix list earlier = prefix_shorter list earlier front begins (event ∷ [], sym ends.1) (omega (arith, long, longer)) in
    let same : list ≡ earlier = prefix_whole list earlier short (omega (arith, long, longer)) in
    ends.1 ∙ ap (λ l. l ++ event ∷ []) (sym same)

folded : {S E : Type 0} (after : S → E → S) (start : S) (list : List E) (event : E)
    → fold after start (list ++ event ∷ []) ≡ after (fold after start list) event
folded after start [] event = refl
folded after start (e ∷ list) event = folded after (after start e) list event

-- and the value after it is the value after the next event
pub next_value : {S E : Type 0} (after : S → E → S) (start value : S) (list front : List E) (event : E) → value ≡ fold after start list
    → front ≡ list ++ event ∷ [] → after value event ≡ fold after start front
next_value after start value list front event is next =
    ap (λ v. after v event) is ∙ (sym (folded after start list event) ∙ ap (λ l. fold after start l) (sym next))
