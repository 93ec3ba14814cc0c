-- Each prefix stands in one message, once, and only where its routes differ.
use Rattle.std.proofs.Common.{◌≡◌, ℕ, Bool, true, false, cond, ◌||◌, not, ◌+◌, ◌-◌, ◌≤◌, nat_le, is_none}
use Rattle.std.proofs.Common.{is_some, List, [], ◌∷◌, ◌++◌, Option, Some, None, refl, sym, ◌∙◌, ap, arith}
use Rattle.std.specs.List.{list_any}
use Rattle.std.specs.Map.{keys_of}
use Rattle.std.proofs.lemmas.Map.Made.{is_some-lookup}
use Rattle.std.proofs.lemmas.Slice.Eq.{bytes_eq-Decides}
use Rattle.std.proofs.lemmas.Bool.Decides.{nat_tests}
use Rattle.std.proofs.lemmas.Option.{same_Some}
use Rattle.std.proofs.lemmas.Bool.{or_parts}
use Rattle.mlb_base.proofs.Bools.{by_bool}
use Rattle.ip_ranges.specs.Values.{PrefixValue, same_family}
use Rattle.bgp_updates.specs.declared.route.Terms.{Terms}
use Rattle.bgp_updates.specs.declared.route.RouteGroup.{RouteGroup}
use Rattle.bgp_updates.specs.declared.route.Peering.{Peering}
use Rattle.ip_ranges.specs.declared.family.Family.{Family}
use Rattle.ip_ranges.specs.declared.family.Family.TheVariants.{V4, V6}
use Rattle.bgp_updates.specs.Message.{announced_part, octets, in_messages, packed, room_of, with_first, withdrawn_part}
use Rattle.bgp_updates.specs.Received.{Update, AreDistinct, announcements, changed, gone, groups_from, same_prefix}
use Rattle.bgp_updates.specs.Received.{same_preference, same_terms, stands_as, terms_at, withdrawals, with_route}
use Rattle.bgp_updates.specs.Laws.{NamedPrefixesDiffer, PrefixesStandOnce, count, names_prefix, prefixes_of, updates_between, updates_for}
use Rattle.bgp_updates.specs.Tables.{of_family}
use Rattle.bgp_updates.proofs.ReceivedLaws.{changed-at, distinct, family-at, family-distinct, filter-absent, filter-distinct}
use Rattle.bgp_updates.proofs.ReceivedLaws.{gone-at, same_larges-Decides, in_parts, same_prefix-is, unless_same}
use Rattle.bgp_updates.proofs.Families.{not-other}

abbrev pub one : PrefixValue → PrefixValue → ℕ
one p q = cond (same_prefix p q) 1 0

count-append : (p : PrefixValue) (a b : List PrefixValue) → count p (a ++ b) ≡ count p a + count p b
count-append p [] b = omega arith
count-append p (q ∷ a) b = ap (λ n. one p q + n) (count-append p a b) ∙ omega arith

abbrev pub parts_count : PrefixValue → List (List PrefixValue) → ℕ
parts_count p [] = 0
parts_count p (part ∷ parts) = count p part + parts_count p parts

count-with_first : (p q : PrefixValue) (parts : List (List PrefixValue)) → parts_count p (with_first q parts) ≡ one p q + parts_count p parts
count-with_first p q [] = omega arith
count-with_first p q (first ∷ more) = omega arith

count-packed : (p : PrefixValue) (room left : ℕ) (prefixes : List PrefixValue) → parts_count p (packed room left prefixes) ≡ count p prefixes
count-packed p room left [] = refl
count-packed p room left (q ∷ rest) =
    elim (nat_le (1 + octets q) left) as (λ v. parts_count p (cond v (with_first q (packed room (left - (1 + octets q)) rest))
    ([] ∷ with_first q (packed room (room - (1 + octets q)) rest))) ≡ one p q + count p rest) [
      | true ↦ count-with_first p q (packed room (left - (1 + octets q)) rest) ∙ ap (λ n. one p q + n) (count-packed p room (left - (1 + octets q)) rest)
      | false ↦ omega arith ∙ count-with_first p q (packed room (room - (1 + octets q)) rest)
          ∙ ap (λ n. one p q + n) (count-packed p room (room - (1 + octets q)) rest)
    ]

count-in_messages : (p : PrefixValue) (room : ℕ) (prefixes : List PrefixValue) → parts_count p (in_messages room prefixes) ≡ count p prefixes
unfolding in_messages
count-in_messages p room [] = refl
count-in_messages p room (q ∷ rest) = count-packed p room room (q ∷ rest)

count-withdrawals : (p : PrefixValue) (parts : List (List PrefixValue)) → count p (prefixes_of (withdrawals parts)) ≡ parts_count p parts
count-withdrawals p [] = refl
count-withdrawals p (part ∷ parts) =
    count-append p (part ++ []) (prefixes_of (withdrawals parts)) ∙ omega (arith, count-append p part [], count-withdrawals p parts)

count-announcements : (p : PrefixValue) (terms : Terms) (parts : List (List PrefixValue))
    → count p (prefixes_of (announcements terms parts)) ≡ parts_count p parts
count-announcements p terms [] = refl
count-announcements p terms (part ∷ parts) =
    count-append p part (prefixes_of (announcements terms parts)) ∙ ap (λ n. count p part + n) (count-announcements p terms parts)

count-updates : (p : PrefixValue) (a b : List Update) → count p (prefixes_of (a ++ b)) ≡ count p (prefixes_of a) + count p (prefixes_of b)
count-updates p [] b = omega arith
count-updates p (u ∷ a) b =
    let own = u.withdrawn ++ u.announced in
    count-append p own (prefixes_of (a ++ b)) ∙ ap (λ n. count p own + n) (count-updates p a b)
    ∙ omega (arith, count-append p own (prefixes_of a))

abbrev pub groups_count : PrefixValue → List RouteGroup → ℕ
groups_count p [] = 0
groups_count p (group ∷ groups) = count p group.prefixes + groups_count p groups

count-in_parts : (p : PrefixValue) (room : Terms → ℕ) (groups : List RouteGroup) → count p (prefixes_of (in_parts room groups)) ≡ groups_count p groups
count-in_parts p room [] = refl
count-in_parts p room (group ∷ groups) =
    let parts = in_messages (room group.terms) group.prefixes in
    count-updates p (announcements group.terms parts) (in_parts room groups)
    ∙ ap (λ n. n + count p (prefixes_of (in_parts room groups)))
    (count-announcements p group.terms parts ∙ count-in_messages p (room group.terms) group.prefixes)
    ∙ ap (λ n. count p group.prefixes + n) (count-in_parts p room groups)

count-with_route : (p : PrefixValue) (same : Terms → Terms → Bool) (groups : List RouteGroup) (route : PrefixValue × Terms)
    → groups_count p (with_route same groups route) ≡ groups_count p groups + one p route.0
count-with_route p same [] route = omega arith
count-with_route p same (group ∷ groups) route =
    by_bool (groups_count p (with_route same (group ∷ groups) route) ≡ groups_count p (group ∷ groups) + one p route.0) (same group.terms route.1)
    (λ e. rw e (ap (λ n. n + groups_count p groups) (count-append p group.prefixes (route.0 ∷ [])) ∙ omega arith))
    (λ e. rw e (ap (λ n. count p group.prefixes + n) (count-with_route p same groups route) ∙ omega arith))

count-groups_from : (p : PrefixValue) (same : Terms → Terms → Bool) (groups : List RouteGroup) (routes : List (PrefixValue × Terms))
    → groups_count p (groups_from same groups routes) ≡ groups_count p groups + count p (keys_of routes)
count-groups_from p same groups [] = omega arith
count-groups_from p same groups (route ∷ routes) =
    count-groups_from p same (with_route same groups route) routes
    ∙ ap (λ n. n + count p (keys_of routes)) (count-with_route p same groups route) ∙ omega arith

-- the messages of a family name what is gone and what is changed
abbrev pub differing : PrefixValue → List (PrefixValue × Terms) → List (PrefixValue × Terms) → ℕ
differing p old new = count p (keys_of (gone old new)) + count p (keys_of (changed same_terms old new))

counted-for : (family : Family) (peering : Peering) (old new : List (PrefixValue × Terms)) (p : PrefixValue)
    → count p (prefixes_of (updates_for family peering old new)) ≡ differing p old new
counted-for family peering old new p =
    let most = room_of (withdrawn_part family) in
    let room : Terms → ℕ = λ terms. room_of (announced_part family peering terms) in
    let parts = in_messages most (keys_of (gone old new)) in
    let groups = groups_from same_terms [] (changed same_terms old new) in
    count-updates p (withdrawals parts) (in_parts room groups)
    ∙ ap (λ n. n + count p (prefixes_of (in_parts room groups))) (count-withdrawals p parts ∙ count-in_messages p most (keys_of (gone old new)))
    ∙ ap (λ n. count p (keys_of (gone old new)) + n)
    (count-in_parts p room groups ∙ count-groups_from p same_terms [] (changed same_terms old new) ∙ omega arith)

-- and all messages those of both
counted : (peering : Peering) (old new : List (PrefixValue × Terms)) (p : PrefixValue)
    → count p (prefixes_of (updates_between peering old new))
    ≡ differing p (of_family V4 old) (of_family V4 new) + differing p (of_family V6 old) (of_family V6 new)
counted peering old new p =
    count-updates p (updates_for V4 peering (of_family V4 old) (of_family V4 new)) (updates_for V6 peering (of_family V6 old) (of_family V6 new))
    ∙ omega (arith, counted-for V4 peering (of_family V4 old) (of_family V4 new) p, counted-for V6 peering (of_family V6 old) (of_family V6 new) p)

count-none : (p : PrefixValue) (prefixes : List PrefixValue) → list_any (same_prefix p) prefixes ≡ false → count p prefixes ≡ 0
count-none p [] none = refl
count-none p (q ∷ prefixes) none =
    let parts = or_parts (same_prefix p q) (list_any (same_prefix p) prefixes) none in
    rw parts.0 (omega (arith, count-none p prefixes parts.1))

count-distinct : (p : PrefixValue) (routes : List (PrefixValue × Terms)) → AreDistinct routes → count p (keys_of routes) ≤ 1
count-distinct p [] apart = omega arith
count-distinct p (route ∷ routes) apart =
    by_bool (count p (keys_of (route ∷ routes)) ≤ 1) (same_prefix p route.0)
    (λ own.
    let here = same_prefix-is p route.0 own in
    let absent : list_any (same_prefix p) (keys_of routes) ≡ false = rw here apart.0 in
    rw own (omega (arith, count-none p (keys_of routes) absent)))
    (λ other. rw other (omega (arith, count-distinct p routes apart.1)))

apart : (same : Terms → Terms → Bool) (there wanted : Option Terms) → is_some (cond (is_none wanted) there None) ≡ true
    → is_some (unless_same same there wanted) ≡ false
apart same there None h = refl
apart same there (Some t) h = cc

changed-any : (old new : List (PrefixValue × Terms)) (p : PrefixValue) → AreDistinct new
    → list_any (same_prefix p) (keys_of (changed same_terms old new)) ≡ is_some (unless_same same_terms (terms_at old p) (terms_at new p))
changed-any old new p are =
    sym (is_some-lookup (same_prefix p) (changed same_terms old new)) ∙ ap is_some (changed-at same_terms old new p are)

once-for : (old new : List (PrefixValue × Terms)) (p : PrefixValue) → AreDistinct old → AreDistinct new → differing p old new ≤ 1
once-for old new p old_are are =
    let gone_once = count-distinct p (gone old new) (filter-distinct (λ route. is_none (terms_at new route.0)) old old_are) in
    let changed_once =
    count-distinct p (changed same_terms old new) (filter-distinct (λ route. not (stands_as same_terms (terms_at old route.0) route.1)) new are) in
    by_bool (differing p old new ≤ 1) (list_any (same_prefix p) (keys_of (gone old new)))
    (λ there.
    let none = changed-any old new p are ∙ apart same_terms (terms_at old p) (terms_at new p) (sym (gone-at old new p) ∙ there) in
    omega (arith, gone_once, count-none p (keys_of (changed same_terms old new)) none))
    (λ none. omega (arith, changed_once, count-none p (keys_of (gone old new)) none))

-- ---- a family has no prefix of the other
absent-for : (family : Family) (routes : List (PrefixValue × Terms)) (p : PrefixValue) → same_family p.family family ≡ false
    → list_any (same_prefix p) (keys_of (of_family family routes)) ≡ false
absent-for family routes p other =
    sym (is_some-lookup (same_prefix p) (of_family family routes)) ∙ ap is_some (family-at family routes p ∙ ap (λ b. cond b (terms_at routes p) None) other)

none-for : (family : Family) (old new : List (PrefixValue × Terms)) (p : PrefixValue) → same_family p.family family ≡ false
    → differing p (of_family family old) (of_family family new) ≡ 0
none-for family old new p other =
    let no_gone = count-none p (keys_of (gone (of_family family old) (of_family family new)))
    (filter-absent p (λ route. is_none (terms_at (of_family family new) route.0)) (of_family family old) (absent-for family old p other)) in
    let no_changed = count-none p (keys_of (changed same_terms (of_family family old) (of_family family new)))
    (filter-absent p (λ route. not (stands_as same_terms (terms_at (of_family family old) route.0) route.1)) (of_family family new)
    (absent-for family new p other)) in
    omega (arith, no_gone, no_changed)

pub stand-once : PrefixesStandOnce
stand-once peering old new old_table new_table p =
    let old_are = distinct old old_table.1 in
    let are = distinct new new_table.1 in
    let first = once-for (of_family V4 old) (of_family V4 new) p (family-distinct V4 old old_are) (family-distinct V4 new are) in
    let second = once-for (of_family V6 old) (of_family V6 new) p (family-distinct V6 old old_are) (family-distinct V6 new are) in
    by_bool (count p (prefixes_of (updates_between peering old new)) ≤ 1) (same_family p.family V4)
    (λ v4. omega (arith, counted peering old new p, first, none-for V6 old new p (not-other p.family v4)))
    (λ v6. omega (arith, counted peering old new p, second, none-for V4 old new p v6))

-- ---- only where the routes differ

or_by : (P : Type 0) (a b : Bool) → (a || b) ≡ true → (a ≡ true → P) → (b ≡ true → P) → P
or_by P true b h first second = first refl
or_by P false b h first second = second h

any-counted : (p : PrefixValue) (prefixes : List PrefixValue) → list_any (same_prefix p) prefixes ≡ true → 1 ≤ count p prefixes
any-counted p [] there = cc
any-counted p (q ∷ prefixes) there =
    or_by (1 ≤ count p (q ∷ prefixes)) (same_prefix p q) (list_any (same_prefix p) prefixes) there
    (λ own. rw own (omega arith))
    (λ more. omega (arith, any-counted p prefixes more))

named-counted : (p : PrefixValue) (updates : List Update) → list_any (names_prefix p) updates ≡ true → 1 ≤ count p (prefixes_of updates)
named-counted p [] there = cc
named-counted p (u ∷ updates) there =
    let all = count-append p (u.withdrawn ++ u.announced) (prefixes_of updates) in
    let own = count-append p u.withdrawn u.announced in
    or_by (1 ≤ count p (prefixes_of (u ∷ updates))) (names_prefix p u) (list_any (names_prefix p) updates) there
    (λ here. or_by (1 ≤ count p (prefixes_of (u ∷ updates))) (list_any (same_prefix p) u.withdrawn) (list_any (same_prefix p) u.announced) here
    (λ w. omega (arith, all, own, any-counted p u.withdrawn w))
    (λ a. omega (arith, all, own, any-counted p u.announced a)))
    (λ more. omega (arith, all, named-counted p updates more))

differ-gone : (there wanted : Option Terms) → is_some (cond (is_none wanted) there None) ≡ true → there ≡ wanted → ⊥
differ-gone None None h e = cc
differ-gone (Some s) None h e = cc
differ-gone there (Some t) h e = cc

same_preference-itself : (x : Option ℕ) → same_preference x x ≡ true
same_preference-itself None = refl
same_preference-itself (Some x) = grind (arith, nat_tests)

pub same_terms-itself : (t : Terms) → same_terms t t ≡ true
same_terms-itself t =
    rw (same_preference-itself t.preference, (bytes_eq-Decides t.communities t.communities).1 refl) ((same_larges-Decides t.large t.large).1 refl)

differ-changed : (there wanted : Option Terms) → is_some (unless_same same_terms there wanted) ≡ true → there ≡ wanted → ⊥
differ-changed there None h e = cc
differ-changed None (Some t) h e = cc
differ-changed (Some s) (Some t) h e =
    let alike : same_terms s t ≡ true = ap (λ r. same_terms r t) (same_Some s t e) ∙ same_terms-itself t in
    let none : is_some (unless_same same_terms (Some s) (Some t)) ≡ false = rw alike refl in
    cc

differ-for : (old new : List (PrefixValue × Terms)) (p : PrefixValue) → AreDistinct new → 1 ≤ differing p old new → terms_at old p ≡ terms_at new p → ⊥
differ-for old new p are some equal =
    by_bool ⊥ (list_any (same_prefix p) (keys_of (gone old new)))
    (λ h. differ-gone (terms_at old p) (terms_at new p) (sym (gone-at old new p) ∙ h) equal)
    (λ none. by_bool ⊥ (list_any (same_prefix p) (keys_of (changed same_terms old new)))
    (λ h. differ-changed (terms_at old p) (terms_at new p) (sym (changed-any old new p are) ∙ h) equal)
    (λ no. absurd (omega (arith, some, count-none p (keys_of (gone old new)) none, count-none p (keys_of (changed same_terms old new)) no))))

-- equal routes of a prefix are equal among those of a family
equal-for : (family : Family) (old new : List (PrefixValue × Terms)) (p : PrefixValue) → terms_at old p ≡ terms_at new p
    → terms_at (of_family family old) p ≡ terms_at (of_family family new) p
equal-for family old new p equal = family-at family old p ∙ ap (λ t. cond (same_family p.family family) t None) equal ∙ sym (family-at family new p)

pub named-differ : NamedPrefixesDiffer
named-differ peering old new table p there equal =
    let are = distinct new table.1 in
    let some = named-counted p (updates_between peering old new) there in
    by_bool ⊥ (same_family p.family V4)
    (λ v4. differ-for (of_family V4 old) (of_family V4 new) p (family-distinct V4 new are)
    (omega (arith, some, counted peering old new p, none-for V6 old new p (not-other p.family v4))) (equal-for V4 old new p equal))
    (λ v6. differ-for (of_family V6 old) (of_family V6 new) p (family-distinct V6 new are)
    (omega (arith, some, counted peering old new p, none-for V4 old new p v6)) (equal-for V6 old new p equal))
