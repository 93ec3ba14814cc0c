-- After the messages between two tables the table is the new one.
use Rattle.std.proofs.Common.{length, ◌≡◌, ℕ, Bool, true, false, ◌&&◌, ◌||◌, ◌==◌, not, cond, ◌+◌, ◌-◌, nat_le}
use Rattle.std.proofs.Common.{is_none, is_some, List, [], ◌∷◌, ◌++◌, filter, Option, Some, None, refl, sym, ◌∙◌, ap}
use Rattle.std.specs.Option.{option_or}
use Rattle.std.specs.List.{list_any, flat_map}
use Rattle.std.specs.Map.{keys_of}
use Rattle.std.proofs.lemmas.Map.Made.{is_some-lookup}
use Rattle.std.proofs.lemmas.Map.Entries.{lookup-filter-keys}
use Rattle.std.proofs.lemmas.Bool.{eqb-true, and_parts, false_from_ne_true, or_parts}
use Rattle.ip_ranges.specs.Values.{PrefixValue, same_family}
use Rattle.ip_ranges.specs.declared.family.Family.{Family}
use Rattle.ip_ranges.specs.declared.family.Family.TheVariants.{V4, V6}
use Rattle.ip_ranges.proofs.AddressLaws.{same_family-is, same_family-itself}
use Rattle.bgp_updates.specs.declared.route.Terms.{Terms}
use Rattle.bgp_updates.specs.declared.route.RouteGroup.{RouteGroup}
use Rattle.std.specs.Str.{bytes_eq}
use Rattle.std.proofs.lemmas.Slice.Eq.{bytes_eq-Decides, slice_eq-Decides}
use Rattle.std.specs.Cmp.Lexicographic.{pointwise}
use Rattle.large_numbers.specs.declared.numbers.LargeCommunity.{LargeCommunity}
use Rattle.std.proofs.Common.{arith, eq-eqb, Decides}
use Rattle.std.proofs.lemmas.Bool.Decides.{nat_tests}
use Rattle.std.specs.List.{list_all}
use Rattle.std.proofs.Math.Bool.{or-true, or_assoc, or-false}
use Rattle.mlb_base.proofs.Bools.{by_bool}
use Rattle.bgp_updates.specs.Tables.{Ascend, before, families_before, numbers_before, of_family}
use Rattle.bgp_updates.specs.Laws.{MessagesGiveTheTable, updates_for}
use Rattle.bgp_updates.specs.Message.{announced_part, octets, in_messages, packed, room_of, with_first, withdrawn_part}
use Rattle.bgp_updates.specs.Received.{same_large, same_preference, same_terms, updates_of, same_prefix, Update, after, received, terms_at, with_route}
use Rattle.bgp_updates.specs.Received.{groups_from, gone, changed, stands_as, withdrawals, announcements, AreDistinct, UpdatesGiveTheTable}

pub same_prefix-is : (p q : PrefixValue) → same_prefix p q ≡ true → p ≡ q
same_prefix-is p q h =
    let parts = and_parts (same_family p.family q.family && (p.number == q.number)) (p.length == q.length) h in
    let first = and_parts (same_family p.family q.family) (p.number == q.number) parts.0 in
    let families : p.family ≡ q.family = same_family-is p.family q.family first.0 in
    let numbers : p.number ≡ q.number = eqb-true p.number q.number first.1 in
    let lengths : p.length ≡ q.length = eqb-true p.length q.length parts.1 in
    let with_family : Family → PrefixValue = λ f. record { family = f; number = p.number; length = p.length } in
    let with_number : ℕ → PrefixValue = λ n. record { family = q.family; number = n; length = p.length } in
    let with_length : ℕ → PrefixValue = λ n. record { family = q.family; number = q.number; length = n } in
    ap with_family families ∙ ap with_number numbers ∙ ap with_length lengths

pub same_prefix-itself : (p : PrefixValue) → same_prefix p p ≡ true
same_prefix-itself p = rw (same_family-itself p.family, eq-eqb p.number p.number refl, eq-eqb p.length p.length refl) refl

-- ---- parts in messages

-- some part has the prefix
abbrev pub any_part : PrefixValue → List (List PrefixValue) → Bool
any_part p parts = list_any (λ prefixes. list_any (same_prefix p) prefixes) parts

any_part-with_first : (p q : PrefixValue) (parts : List (List PrefixValue)) → any_part p (with_first q parts) ≡ same_prefix p q || any_part p parts
any_part-with_first p q [] = or-false (same_prefix p q || false) ∙ refl
any_part-with_first p q (first ∷ more) = or_assoc (same_prefix p q) (list_any (same_prefix p) first) (any_part p more)

any_part-packed : (p : PrefixValue) (room left : ℕ) (prefixes : List PrefixValue) → any_part p (packed room left prefixes) ≡ list_any (same_prefix p) prefixes
any_part-packed p room left [] = refl
any_part-packed p room left (q ∷ rest) =
    elim (nat_le (1 + octets q) left) as (λ v. any_part p (cond v (with_first q (packed room (left - (1 + octets q)) rest))
    ([] ∷ with_first q (packed room (room - (1 + octets q)) rest))) ≡ same_prefix p q || list_any (same_prefix p) rest) [
      | true ↦ any_part-with_first p q (packed room (left - (1 + octets q)) rest)
          ∙ ap (λ b. same_prefix p q || b) (any_part-packed p room (left - (1 + octets q)) rest)
      | false ↦ any_part-with_first p q (packed room (room - (1 + octets q)) rest)
          ∙ ap (λ b. same_prefix p q || b) (any_part-packed p room (room - (1 + octets q)) rest)
    ]

pub any_part-in_messages : (p : PrefixValue) (room : ℕ) (prefixes : List PrefixValue)
    → any_part p (in_messages room prefixes) ≡ list_any (same_prefix p) prefixes
unfolding in_messages
any_part-in_messages p room [] = refl
any_part-in_messages p room (q ∷ rest) = any_part-packed p room room (q ∷ rest)

-- ---- runs of messages

pub received-append : (table : PrefixValue → Option Terms) (a b : List Update) → received table (a ++ b) ≡ received (received table a) b
received-append table [] b = refl
received-append table (update ∷ a) b = received-append (after table update) a b

none_after : (a b : Bool) (t : Option Terms) → cond b None (cond a None t) ≡ cond (a || b) None t
none_after true true t = refl
none_after true false t = refl
none_after false b t = refl

some_after : (a b : Bool) (s t : Option Terms) → cond b s (cond a s t) ≡ cond (a || b) s t
some_after true true s t = refl
some_after true false s t = refl
some_after false b s t = refl

received-withdrawals : (table : PrefixValue → Option Terms) (parts : List (List PrefixValue)) (p : PrefixValue)
    → received table (withdrawals parts) p ≡ cond (any_part p parts) None (table p)
received-withdrawals table [] p = refl
received-withdrawals table (part ∷ parts) p =
    received-withdrawals (after table (record { withdrawn = part; announced = []; terms = None })) parts p
    ∙ none_after (list_any (same_prefix p) part) (any_part p parts) (table p)

received-announcements : (table : PrefixValue → Option Terms) (terms : Terms) (parts : List (List PrefixValue)) (p : PrefixValue)
    → received table (announcements terms parts) p ≡ cond (any_part p parts) (Some terms) (table p)
received-announcements table terms [] p = refl
received-announcements table terms (part ∷ parts) p =
    received-announcements (after table (record { withdrawn = []; announced = part; terms = Some terms })) terms parts p
    ∙ some_after (list_any (same_prefix p) part) (any_part p parts) (Some terms) (table p)

-- ---- groups

-- what the groups make of a prefix's terms
abbrev pub found : PrefixValue → List RouteGroup → Option Terms → Option Terms
found p [] t = t
found p (group ∷ groups) t = found p groups (cond (list_any (same_prefix p) group.prefixes) (Some group.terms) t)

abbrev pub any_group : PrefixValue → List RouteGroup → Bool
any_group p groups = list_any (λ group. list_any (same_prefix p) group.prefixes) groups

abbrev pub in_parts : (Terms → ℕ) → List RouteGroup → List Update
in_parts room groups = flat_map (λ group. announcements group.terms (in_messages (room group.terms) group.prefixes)) groups

received-groups : (room : Terms → ℕ) (table : PrefixValue → Option Terms) (groups : List RouteGroup) (p : PrefixValue)
    → received table (in_parts room groups) p ≡ found p groups (table p)
received-groups room table [] p = refl
received-groups room table (group ∷ groups) p =
    let parts = in_messages (room group.terms) group.prefixes in
    ap (λ f. f p) (received-append table (announcements group.terms parts) (in_parts room groups))
    ∙ received-groups room (received table (announcements group.terms parts)) groups p
    ∙ ap (found p groups) (received-announcements table group.terms parts p
    ∙ ap (λ b. cond b (Some group.terms) (table p)) (any_part-in_messages p (room group.terms) group.prefixes))

pub list_any-push : (p q : PrefixValue) (prefixes : List PrefixValue)
    → list_any (same_prefix p) (prefixes ++ q ∷ []) ≡ list_any (same_prefix p) prefixes || same_prefix p q
list_any-push p q [] = or-false (same_prefix p q)
list_any-push p q (first ∷ rest) =
    ap (λ b. same_prefix p first || b) (list_any-push p q rest) ∙ sym (or_assoc (same_prefix p first) (list_any (same_prefix p) rest) (same_prefix p q))

found-absent : (p : PrefixValue) (groups : List RouteGroup) (t : Option Terms) → any_group p groups ≡ false → found p groups t ≡ t
found-absent p [] t absent = refl
found-absent p (group ∷ groups) t absent =
    let parts = or_parts (list_any (same_prefix p) group.prefixes) (any_group p groups) absent in
    rw parts.0 (found-absent p groups t parts.1)

push-other : (p : PrefixValue) (route : PrefixValue × Terms) (prefixes : List PrefixValue) → same_prefix p route.0 ≡ false
    → list_any (same_prefix p) (prefixes ++ route.0 ∷ []) ≡ list_any (same_prefix p) prefixes
push-other p route prefixes other =
    list_any-push p route.0 prefixes ∙ ap (λ v. list_any (same_prefix p) prefixes || v) other ∙ or-false (list_any (same_prefix p) prefixes)

found-other : (same : Terms → Terms → Bool) (groups : List RouteGroup) (route : PrefixValue × Terms) (p : PrefixValue) (t : Option Terms)
    → same_prefix p route.0 ≡ false
    → found p (with_route same groups route) t ≡ found p groups t
found-other same [] route p t other = rw other refl
found-other same (group ∷ groups) route p t other =
    by_bool (found p (with_route same (group ∷ groups) route) t ≡ found p (group ∷ groups) t) (same group.terms route.1)
    (λ e. rw e (ap (λ b. found p groups (cond b (Some group.terms) t)) (push-other p route group.prefixes other)))
    (λ e. rw e (found-other same groups route p (cond (list_any (same_prefix p) group.prefixes) (Some group.terms) t) other))

pub any_group-other : (same : Terms → Terms → Bool) (groups : List RouteGroup) (route : PrefixValue × Terms) (p : PrefixValue) → same_prefix p route.0 ≡ false
    → any_group p (with_route same groups route) ≡ any_group p groups
any_group-other same [] route p other = rw other refl
any_group-other same (group ∷ groups) route p other =
    by_bool (any_group p (with_route same (group ∷ groups) route) ≡ any_group p (group ∷ groups)) (same group.terms route.1)
    (λ e. rw e (ap (λ b. b || any_group p groups) (push-other p route group.prefixes other)))
    (λ e. rw e (ap (λ b. list_any (same_prefix p) group.prefixes || b) (any_group-other same groups route p other)))

found-own : (same : Terms → Terms → Bool) → ((s t : Terms) → same s t ≡ true → s ≡ t)
    → (groups : List RouteGroup) (route : PrefixValue × Terms) (p : PrefixValue) (t : Option Terms)
    → same_prefix p route.0 ≡ true → any_group p groups ≡ false → found p (with_route same groups route) t ≡ Some route.1
found-own same sound [] route p t own absent = rw own refl
found-own same sound (group ∷ groups) route p t own absent =
    let parts = or_parts (list_any (same_prefix p) group.prefixes) (any_group p groups) absent in
    let there : list_any (same_prefix p) (group.prefixes ++ route.0 ∷ []) ≡ true =
    list_any-push p route.0 group.prefixes ∙ ap (λ v. list_any (same_prefix p) group.prefixes || v) own ∙ or-true (list_any (same_prefix p) group.prefixes) in
    by_bool (found p (with_route same (group ∷ groups) route) t ≡ Some route.1) (same group.terms route.1)
    (λ e. rw e (ap (λ b. found p groups (cond b (Some group.terms) t)) there ∙ found-absent p groups (Some group.terms) parts.1
    ∙ ap Some (sound group.terms route.1 e)))
    (λ e. rw e (found-own same sound groups route p (cond (list_any (same_prefix p) group.prefixes) (Some group.terms) t) own parts.1))

found-no_route : (same : Terms → Terms → Bool) (groups : List RouteGroup) (routes : List (PrefixValue × Terms)) (p : PrefixValue) (t : Option Terms)
    → list_any (same_prefix p) (keys_of routes) ≡ false → found p (groups_from same groups routes) t ≡ found p groups t
found-no_route same groups [] p t absent = refl
found-no_route same groups (route ∷ routes) p t absent =
    let parts = or_parts (same_prefix p route.0) (list_any (same_prefix p) (keys_of routes)) absent in
    found-no_route same (with_route same groups route) routes p t parts.1 ∙ found-other same groups route p t parts.0

found-groups : (same : Terms → Terms → Bool) → ((s t : Terms) → same s t ≡ true → s ≡ t)
    → (groups : List RouteGroup) (routes : List (PrefixValue × Terms)) (p : PrefixValue) (t : Option Terms)
    → AreDistinct routes → (any_group p groups ≡ true → list_any (same_prefix p) (keys_of routes) ≡ false)
    → found p (groups_from same groups routes) t ≡ option_or (terms_at routes p) (found p groups t)
found-groups same sound groups [] p t distinct apart = refl
found-groups same sound groups (route ∷ routes) p t distinct apart =
    by_bool (found p (groups_from same groups (route ∷ routes)) t ≡ option_or (terms_at (route ∷ routes) p) (found p groups t)) (same_prefix p route.0)
    (λ own.
    let here = same_prefix-is p route.0 own in
    let absent : list_any (same_prefix p) (keys_of routes) ≡ false = rw here distinct.0 in
    let fresh : any_group p groups ≡ false = false_from_ne_true (any_group p groups)
    (λ there. let no = (or_parts (same_prefix p route.0) (list_any (same_prefix p) (keys_of routes)) (apart there)).0 in cc) in
    found-no_route same (with_route same groups route) routes p t absent ∙ found-own same sound groups route p t own fresh ∙ rw own refl)
    (λ other.
    found-groups same sound (with_route same groups route) routes p t distinct.1
    (λ there.
    (or_parts (same_prefix p route.0) (list_any (same_prefix p) (keys_of routes)) (apart (sym (any_group-other same groups route p other) ∙ there))).1)
    ∙ ap (option_or (terms_at routes p)) (found-other same groups route p t other) ∙ rw other refl)

-- ---- the routes that changed, and those that are gone

pub filter-absent : (p : PrefixValue) (keep : PrefixValue × Terms → Bool) (routes : List (PrefixValue × Terms))
    → list_any (same_prefix p) (keys_of routes) ≡ false
    → list_any (same_prefix p) (keys_of (filter keep routes)) ≡ false
filter-absent p keep [] absent = refl
filter-absent p keep (route ∷ routes) absent =
    let parts = or_parts (same_prefix p route.0) (list_any (same_prefix p) (keys_of routes)) absent in
    elim (keep route) as (λ v. list_any (same_prefix p) (keys_of (cond v (route ∷ filter keep routes) (filter keep routes))) ≡ false) [
      | true ↦ rw parts.0 (filter-absent p keep routes parts.1)
      | false ↦ filter-absent p keep routes parts.1
    ]

pub filter-distinct : (keep : PrefixValue × Terms → Bool) (routes : List (PrefixValue × Terms)) → AreDistinct routes → AreDistinct (filter keep routes)
filter-distinct keep [] distinct = tt
filter-distinct keep (route ∷ routes) distinct =
    elim (keep route) as (λ v. AreDistinct (cond v (route ∷ filter keep routes) (filter keep routes))) [
      | true ↦ (filter-absent route.0 keep routes distinct.0, filter-distinct keep routes distinct.1)
      | false ↦ filter-distinct keep routes distinct.1
    ]

pub lookup-absent : (p : PrefixValue) (routes : List (PrefixValue × Terms)) → list_any (same_prefix p) (keys_of routes) ≡ false → terms_at routes p ≡ None
lookup-absent p [] absent = refl
lookup-absent p (route ∷ routes) absent =
    let parts = or_parts (same_prefix p route.0) (list_any (same_prefix p) (keys_of routes)) absent in
    rw parts.0 (lookup-absent p routes parts.1)

-- the terms, if they are other ones than those there
abbrev pub unless_same : (Terms → Terms → Bool) → Option Terms → Option Terms → Option Terms
unless_same same there None = None
unless_same same there (Some terms) = cond (not (stands_as same there terms)) (Some terms) None

pub changed-at : (same : Terms → Terms → Bool) (old new : List (PrefixValue × Terms)) (p : PrefixValue) → AreDistinct new
    → terms_at (changed same old new) p ≡ unless_same same (terms_at old p) (terms_at new p)
changed-at same old [] p distinct = refl
changed-at same old (route ∷ routes) p distinct =
    by_bool (terms_at (changed same old (route ∷ routes)) p ≡ unless_same same (terms_at old p) (terms_at (route ∷ routes) p)) (same_prefix p route.0)
    (λ own.
    let here = same_prefix-is p route.0 own in
    let absent : list_any (same_prefix p) (keys_of routes) ≡ false = rw here distinct.0 in
    let rest = lookup-absent p (changed same old routes) (filter-absent p (λ route. not (stands_as same (terms_at old route.0) route.1)) routes absent) in
    by_bool (terms_at (changed same old (route ∷ routes)) p ≡ unless_same same (terms_at old p) (terms_at (route ∷ routes) p))
    (not (stands_as same (terms_at old route.0) route.1))
    (λ kept. let there : not (stands_as same (terms_at old p) route.1) ≡ true = rw here kept in rw (kept, own, there) refl)
    (λ passed. let there : not (stands_as same (terms_at old p) route.1) ≡ false = rw here passed in rw (passed, own, there) rest))
    (λ other.
    elim (not (stands_as same (terms_at old route.0) route.1)) as (λ v. terms_at (cond v (route ∷ changed same old routes) (changed same old routes)) p
    ≡ unless_same same (terms_at old p) (terms_at (route ∷ routes) p)) [
      | true ↦ rw other (changed-at same old routes p distinct.1)
      | false ↦ rw other (changed-at same old routes p distinct.1)
    ])

pub gone-at : (old new : List (PrefixValue × Terms)) (p : PrefixValue)
    → list_any (same_prefix p) (keys_of (gone old new)) ≡ is_some (cond (is_none (terms_at new p)) (terms_at old p) None)
gone-at old new p =
    sym (is_some-lookup (same_prefix p) (gone old new))
    ∙ ap is_some (lookup-filter-keys (same_prefix p) (λ q. is_none (terms_at new q)) (is_none (terms_at new p))
    (λ q is. ap (λ r. is_none (terms_at new r)) (sym (same_prefix-is p q is))) old)

finish : (same : Terms → Terms → Bool) → ((s t : Terms) → same s t ≡ true → s ≡ t) → (there wanted : Option Terms)
    → option_or (unless_same same there wanted) (cond (is_some (cond (is_none wanted) there None)) None there) ≡ wanted
finish same sound None None = refl
finish same sound (Some s) None = refl
finish same sound None (Some t) = refl
finish same sound (Some s) (Some t) =
    by_bool (option_or (unless_same same (Some s) (Some t)) (Some s) ≡ Some t) (same s t)
    (λ e. rw e (ap Some (sound s t e)))
    (λ e. rw e refl)

-- what the messages between two tables make of the terms at a prefix of any table
abbrev pub made_of : (Terms → Terms → Bool) → Option Terms → Option Terms → Option Terms → Option Terms
made_of same there wanted at = option_or (unless_same same there wanted) (cond (is_some (cond (is_none wanted) there None)) None at)

pub updates-make : (same : Terms → Terms → Bool) → ((s t : Terms) → same s t ≡ true → s ≡ t)
    → (most : ℕ) (room : Terms → ℕ) (table : PrefixValue → Option Terms) (old new : List (PrefixValue × Terms)) → AreDistinct new
    → (p : PrefixValue) → received table (updates_of same most room old new) p ≡ made_of same (terms_at old p) (terms_at new p) (table p)
updates-make same sound most room table old new distinct p =
    let parts = in_messages most (keys_of (gone old new)) in
    let groups = groups_from same [] (changed same old new) in
    let withdrawn = received table (withdrawals parts) in
    ap (λ f. f p) (received-append table (withdrawals parts) (in_parts room groups))
    ∙ received-groups room withdrawn groups p
    ∙ found-groups same sound [] (changed same old new) p (withdrawn p)
    (filter-distinct (λ route. not (stands_as same (terms_at old route.0) route.1)) new distinct) (λ there. cc)
    ∙ ap (λ t. option_or t (withdrawn p)) (changed-at same old new p distinct)
    ∙ ap (option_or (unless_same same (terms_at old p) (terms_at new p))) (received-withdrawals table parts p
    ∙ ap (λ b. cond b None (table p)) (any_part-in_messages p most (keys_of (gone old new)) ∙ gone-at old new p))

pub updates-give : UpdatesGiveTheTable
updates-give same sound most room old new distinct p =
    updates-make same sound most room (terms_at old) old new distinct p ∙ finish same sound (terms_at old p) (terms_at new p)

pub same_preference-is : (x y : Option ℕ) → same_preference x y ≡ true → x ≡ y
same_preference-is None None h = refl
same_preference-is None (Some y) h = cc
same_preference-is (Some x) None h = cc
same_preference-is (Some x) (Some y) h = ap Some (eqb-true x y h)

same_large-is : (c d : LargeCommunity) → same_large c d ≡ true → c ≡ d
same_large-is c d h =
    let parts = and_parts ((c.global == d.global) && (c.first == d.first)) (c.second == d.second) h in
    let front = and_parts (c.global == d.global) (c.first == d.first) parts.0 in
    let with_global : ℕ → LargeCommunity = λ n. record { global = n; first = c.first; second = c.second } in
    let with_first : ℕ → LargeCommunity = λ n. record { global = d.global; first = n; second = c.second } in
    let with_second : ℕ → LargeCommunity = λ n. record { global = d.global; first = d.first; second = n } in
    ap with_global (eqb-true c.global d.global front.0) ∙ ap with_first (eqb-true c.first d.first front.1) ∙ ap with_second (eqb-true c.second d.second parts.1)

same_large-itself : (c : LargeCommunity) → same_large c c ≡ true
same_large-itself c = rw (eq-eqb c.global c.global refl, eq-eqb c.first c.first refl, eq-eqb c.second c.second refl) refl

pub same_larges-Decides : (xs ys : List LargeCommunity) → Decides (pointwise same_large xs ys) (xs ≡ ys)
same_larges-Decides xs ys =
    slice_eq-Decides {E = same_large} (λ c d. (same_large-is c d, λ e. ap (same_large c) (sym e) ∙ same_large-itself c)) xs ys (pointwise same_large xs ys) refl

-- Terms that are found the same are the same.
pub same_terms-is : (s t : Terms) → same_terms s t ≡ true → s ≡ t
same_terms-is s t h =
    let parts = and_parts (same_preference s.preference t.preference && bytes_eq s.communities t.communities) (pointwise same_large s.large t.large) h in
    let front = and_parts (same_preference s.preference t.preference) (bytes_eq s.communities t.communities) parts.0 in
    let with_preference : Option ℕ → Terms = λ p. record { preference = p; communities = s.communities; large = s.large } in
    let with_communities : List ℕ → Terms = λ c. record { preference = t.preference; communities = c; large = s.large } in
    let with_large : List LargeCommunity → Terms = λ l. record { preference = t.preference; communities = t.communities; large = l } in
    ap with_preference (same_preference-is s.preference t.preference front.0)
    ∙ ap with_communities ((bytes_eq-Decides s.communities t.communities).0 front.1)
    ∙ ap with_large ((same_larges-Decides s.large t.large).0 parts.1)

-- ---- ascending prefixes are distinct

pub before-itself : (f : Family) (b : Bool) → families_before f f b ≡ true → b ≡ true
before-itself V4 b e = e
before-itself V6 b e = e

none-before-itself : (number length : ℕ) → numbers_before number number length length ≡ true → ⊥
none-before-itself number length e = absurd (grind (arith, nat_tests))

pub before-other : (p q : PrefixValue) → before p q ≡ true → same_prefix p q ≡ true → ⊥
before-other p q first same =
    let is = same_prefix-is p q same in
    let itself : before q q ≡ true = ap (λ r. before r q) (sym is) ∙ first in
    none-before-itself q.number q.length (before-itself q.family (numbers_before q.number q.number q.length q.length) itself)

pub none-same : (p : PrefixValue) (prefixes : List PrefixValue) → list_all (before p) prefixes ≡ true → list_any (same_prefix p) prefixes ≡ false
none-same p [] all = refl
none-same p (q ∷ prefixes) all =
    let parts = and_parts (before p q) (list_all (before p) prefixes) all in
    let other : same_prefix p q ≡ false = false_from_ne_true (same_prefix p q) (before-other p q parts.0) in
    rw other (none-same p prefixes parts.1)

pub distinct : (routes : List (PrefixValue × Terms)) → Ascend (keys_of routes) → AreDistinct routes
distinct [] ascend = tt
distinct (route ∷ routes) ascend = (none-same route.0 (keys_of routes) ascend.0, distinct routes ascend.1)

-- ---- the routes of a family
-- what a table has of them at a prefix
pub family-at : (family : Family) (routes : List (PrefixValue × Terms)) (p : PrefixValue)
    → terms_at (of_family family routes) p ≡ cond (same_family p.family family) (terms_at routes p) None
family-at family routes p =
    lookup-filter-keys (same_prefix p) (λ q. same_family q.family family) (same_family p.family family)
    (λ q is. ap (λ r. same_family r.family family) (sym (same_prefix-is p q is))) routes

pub family-distinct : (family : Family) (routes : List (PrefixValue × Terms)) → AreDistinct routes → AreDistinct (of_family family routes)
family-distinct family routes are = filter-distinct (λ route. same_family route.0.family family) routes are

-- the messages of one family leave the other's routes
both-made : (same : Terms → Terms → Bool) → ((s t : Terms) → same s t ≡ true → s ≡ t) → (f : Family) (there wanted : Option Terms)
    → made_of same (cond (same_family f V6) there None) (cond (same_family f V6) wanted None)
    (made_of same (cond (same_family f V4) there None) (cond (same_family f V4) wanted None) there) ≡ wanted
both-made same sound V4 there wanted = finish same sound there wanted
both-made same sound V6 there wanted = finish same sound there wanted

pub messages-give : MessagesGiveTheTable
messages-give peering old new table p =
    let are = distinct new table.1 in
    let first = updates_for V4 peering (of_family V4 old) (of_family V4 new) in
    let second = updates_for V6 peering (of_family V6 old) (of_family V6 new) in
    let room : Family → Terms → ℕ = λ family terms. room_of (announced_part family peering terms) in
    ap (λ f. f p) (received-append (terms_at old) first second)
    ∙ updates-make same_terms same_terms-is (room_of (withdrawn_part V6)) (room V6) (received (terms_at old) first) (of_family V6 old) (of_family V6 new)
    (family-distinct V6 new are) p
    ∙ ap (made_of same_terms (terms_at (of_family V6 old) p) (terms_at (of_family V6 new) p))
    (updates-make same_terms same_terms-is (room_of (withdrawn_part V4)) (room V4) (terms_at old) (of_family V4 old) (of_family V4 new)
    (family-distinct V4 new are) p)
    ∙ rw (family-at V6 old p, family-at V6 new p, family-at V4 old p, family-at V4 new p)
    (both-made same_terms same_terms-is p.family (terms_at old p) (terms_at new p))
