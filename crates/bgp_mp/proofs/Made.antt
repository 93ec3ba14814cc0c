-- The messages between two tables make the new one of the old one.
use Rattle.std.proofs.Common.{◌≡◌, ℕ, ◌≤◌, Bool, true, false, ◌||◌, List, [], ◌∷◌, ◌++◌, Option, Some, None, refl, sym, ◌∙◌, ap, subst, append_assoc}
use Rattle.std.specs.List.{list_any, flat_map, AllByRecursion}
use Rattle.ip_ranges.specs.Values.{PrefixValue}
use Rattle.bgp_updates.specs.declared.route.Terms.{Terms}
use Rattle.bgp_updates.specs.declared.route.Peering.{Peering}
use Rattle.bgp_updates.specs.Between.{messages_between}
use Rattle.bgp_updates.specs.Laws.{count, names_prefix, prefixes_of, updates_between}
use Rattle.bgp_updates.specs.Received.{Update, same_prefix, terms_at}
use Rattle.bgp_updates.specs.Tables.{IsTable}
use Rattle.bgp_updates.proofs.Once.{named-differ, stand-once}
use Rattle.bgp_updates.proofs.Sizes.{messages-fit}
use Rattle.bgp_reading.specs.Laws.{CanBeTold}
use Rattle.bgp_reading.specs.Reading.{update_of}
use Rattle.bgp_reading.proofs.ReceivedAgain.{AreSent, sent-between, sent-of, updates-received}
use Rattle.bgp_mp.specs.Laws.{MakeTable, MessagesMakeTables, prefixes_read, prefixes_told}

-- what is read of the messages names what they say
told-updates : (peering : Peering) (messages : List (List ℕ)) (updates : List Update) → AreSent peering messages updates
    → prefixes_told messages ≡ prefixes_of updates
told-updates peering [] [] are = refl
told-updates peering [] (update ∷ updates) are = absurd are
told-updates peering (message ∷ messages) [] are = absurd are
told-updates peering (message ∷ messages) (update ∷ updates) are =
    ap (λ found. prefixes_read found ++ prefixes_told messages) are.0.read
    ∙ ap (λ own. own ++ prefixes_told messages) are.0.names
    ∙ ap (λ rest. (update.withdrawn ++ update.announced) ++ rest) (told-updates peering messages updates are.1)

any-append : (test : PrefixValue → Bool) (xs ys : List PrefixValue) → list_any test (xs ++ ys) ≡ list_any test xs || list_any test ys
any-append test [] ys = refl
any-append test (x ∷ xs) ys = ap (λ b. test x || b) (any-append test xs ys) ∙ joined (test x) (list_any test xs) (list_any test ys)
  where
    joined : (a b c : Bool) → a || (b || c) ≡ (a || b) || c
    joined true b c = refl
    joined false b c = refl

-- a prefix among them is named by one of the updates
named : (p : PrefixValue) (updates : List Update) → list_any (same_prefix p) (prefixes_of updates) ≡ list_any (names_prefix p) updates
named p [] = refl
named p (update ∷ updates) =
    any-append (same_prefix p) (update.withdrawn ++ update.announced) (prefixes_of updates)
    ∙ ap (λ b. b || list_any (same_prefix p) (prefixes_of updates)) (any-append (same_prefix p) update.withdrawn update.announced)
    ∙ ap (λ b. names_prefix p update || b) (named p updates)

pub made : MessagesMakeTables
made peering old new old_table is =
    let messages = messages_between peering old new in
    let updates = updates_between peering old new in
    let sent = sent-between peering old new old_table is in
    let told = told-updates peering messages updates sent in
    record {
      received = updates-received peering old new old_table is.table is.few is.of_peer is.typed;
      differ = λ p there same. named-differ peering old new is.table p (sym (ap (list_any (same_prefix p)) told ∙ named p updates) ∙ there) same;
      once = λ p. subst (λ (ps : List PrefixValue). count p ps ≤ 1) (sym told) (stand-once peering old new old_table is.table p);
      fit = messages-fit peering old new old_table is.table is.few;
      of_sender = sent-of peering messages updates sent;
    }
