-- The joined octets of the messages between two tables give the new one.
use Rattle.std.proofs.Common.{◌≡◌, ℕ, zero, suc, ◌<◌, ◌≤◌, List, [], ◌∷◌, ◌++◌, length, map, Option, Some}
use Rattle.std.proofs.Common.{None, refl, sym, subst, ◌∙◌, ap, arith, length-append, inl, inr}
use Rattle.std.proofs.lemmas.List.{append-nil}
use Rattle.std.proofs.lemmas.List.Elements.{recursion_from_All}
use Rattle.std.specs.List.{AllByRecursion}
use Rattle.std.specs.Option.{option_and_then, option_map}
use Rattle.mlb_base.proofs.Lists.{all-front, all-behind}
use Rattle.ip_ranges.specs.declared.family.Family.{Family}
use Rattle.ip_ranges.specs.declared.family.Family.TheVariants.{V4, V6}
use Rattle.ip_ranges.specs.Values.{PrefixValue}
use Rattle.bgp_updates.specs.declared.route.Terms.{Terms}
use Rattle.bgp_updates.specs.declared.route.Peering.{Peering}
use Rattle.bgp_updates.specs.Between.{messages_between, messages_for, octets_with, update_octets}
use Rattle.bgp_updates.specs.Laws.{updates_between, updates_for}
use Rattle.bgp_updates.specs.Message.{announce_message, message_of, prefixes_bytes, unreach_attribute, withdraw_message}
use Rattle.bgp_updates.specs.Tables.{HasFew, IsTable, of_family}
use Rattle.bgp_updates.specs.Received.{Update, after, received, terms_at}
use Rattle.bgp_updates.proofs.ReceivedLaws.{messages-give, received-append}
use Rattle.bgp_updates.proofs.Sizes.{IsShort, length-message, messages-fit}
use Rattle.bgp_updates.proofs.Spelling.{messages-spell}
use Rattle.bgp_reading.specs.declared.parts.UpdateParts.{UpdateParts}
use Rattle.bgp_reading.specs.Joined.{after_parts, behind_first, first_message, received_bytes, received_within}
use Rattle.bgp_reading.specs.Laws.{CanBeTold, MessagesAreOfSender, MessagesSayOneThing, TablesAreReceived}
use Rattle.bgp_reading.specs.Laws.{UpdatesAreReceived, joined, last_table, messages_over}
use Rattle.bgp_reading.specs.Places.{short_at}
use Rattle.bgp_reading.specs.Reading.{announced_parts, update_of, withdrawn_parts}
use Rattle.bgp_reading.specs.Update.{IsMessageOf}
use Rattle.bgp_reading.proofs.AttributesAgain.{attributes_with}
use Rattle.bgp_reading.proofs.Formed.{Formed, IsFormed, updates-formed}
use Rattle.bgp_reading.proofs.Messages.{announce-spelled, behind_of, front-at, joined-size, rest-at, withdraw-spelled_v4, withdraw-spelled_v6}
use Rattle.bgp_reading.proofs.ReadAgain.{announced-again, messages-are-read, withdrawn-again}

pub one-thing : MessagesSayOneThing
one-thing a b bytes is_a is_b = same a b (sym (messages-are-read a bytes is_a) ∙ messages-are-read b bytes is_b) where
  same : (x y : UpdateParts) → Some x ≡ Some y → x ≡ y
  same x y e = cc

-- a message's octets, whatever follows them, are cut off and read as what it says, and are one message of the sender
pub record IsSent (peering : Peering) (message : List ℕ) (update : Update) : Type 0 where
  pub parts : UpdateParts
  pub says : (table : PrefixValue → Option Terms) → after_parts table parts ≡ after table update
  pub names : parts.withdrawn ++ parts.announced ≡ update.withdrawn ++ update.announced
  pub some : 0 < length message
  pub size : (rest : List ℕ) → short_at 16 (message ++ rest) ≡ length message
  pub read : update_of message ≡ Some parts
  pub of_sender : IsMessageOf peering message

-- its octets are some, as many as it says
abbrev IsSized : List ℕ → Type 0
IsSized message = (0 < length message) × ((rest : List ℕ) → short_at 16 (message ++ rest) ≡ length message)

sized-by : (message w a n : List ℕ) → message ≡ message_of w a n → length message ≤ 4096 → IsSized message
sized-by message w a n is =
    subst (λ (m : List ℕ). length m ≤ 4096 → IsSized m) (sym is) (λ short. (omega (arith, length-message w a n), λ rest. joined-size w a n rest short))

withdrawn-sized : (family : Family) (prefixes : List PrefixValue) → length (withdraw_message family prefixes) ≤ 4096
    → IsSized (withdraw_message family prefixes)
withdrawn-sized V4 prefixes short = sized-by (withdraw_message V4 prefixes) (prefixes_bytes prefixes) [] [] (withdraw-spelled_v4 prefixes) short
withdrawn-sized V6 prefixes short =
    sized-by (withdraw_message V6 prefixes) [] (unreach_attribute (prefixes_bytes prefixes)) [] (withdraw-spelled_v6 prefixes) short

announced-sized : (family : Family) (peering : Peering) (terms : Terms) (prefixes : List PrefixValue)
    → length (announce_message family peering terms prefixes) ≤ 4096 → IsSized (announce_message family peering terms prefixes)
announced-sized family peering terms prefixes short =
    sized-by (announce_message family peering terms prefixes) [] (attributes_with family peering terms (prefixes_bytes prefixes))
    (behind_of family (prefixes_bytes prefixes)) (announce-spelled family peering terms prefixes) short

sent-by : (family : Family) (peering : Peering) (withdrawn announced : List PrefixValue) (terms : Option Terms)
    → IsFormed family peering withdrawn announced terms → length (octets_with family peering withdrawn announced terms) ≤ 4096
    → IsSent peering (octets_with family peering withdrawn announced terms) (record { withdrawn = withdrawn; announced = announced; terms = terms })
sent-by family peering withdrawn [] None are short =
    let sized = withdrawn-sized family withdrawn short in
    record {
      parts = withdrawn_parts withdrawn;
      says = λ table. refl;
      names = refl;
      some = sized.0;
      size = sized.1;
      read = withdrawn-again family withdrawn are short;
      of_sender = record { form = inl (family, withdrawn, are, refl); short = short };
    }
sent-by family peering withdrawn (p ∷ announced) None are short = absurd are
sent-by family peering [] announced (Some terms) are short =
    let sized = announced-sized family peering terms announced short in
    record {
      parts = announced_parts terms announced;
      says = λ table. refl;
      names = refl;
      some = sized.0;
      size = sized.1;
      read = announced-again family peering terms announced are.0.0 are.0.1 are.1 short;
      of_sender = record { form = inr (family, terms, announced, are.0.0, are.0.1, are.1, refl); short = short };
    }
sent-by family peering (p ∷ withdrawn) announced (Some terms) are short = absurd are

-- each message is sent as what it says
abbrev pub AreSent : Peering → List (List ℕ) → List Update → Type 0
AreSent peering [] [] = Unit {0}
AreSent peering [] (update ∷ updates) = ⊥
AreSent peering (message ∷ messages) [] = ⊥
AreSent peering (message ∷ messages) (update ∷ updates) = IsSent peering message update × AreSent peering messages updates

sent-append : (peering : Peering) (ms : List (List ℕ)) (us : List Update) (more : List (List ℕ)) (later : List Update) → AreSent peering ms us
    → AreSent peering more later → AreSent peering (ms ++ more) (us ++ later)
sent-append peering [] [] more later first second = second
sent-append peering [] (u ∷ us) more later first second = absurd first
sent-append peering (m ∷ ms) [] more later first second = absurd first
sent-append peering (m ∷ ms) (u ∷ us) more later first second = (first.0, sent-append peering ms us more later first.1 second)

sent-octets : (family : Family) (peering : Peering) (updates : List Update) → AllByRecursion (Formed family peering) updates
    → AllByRecursion IsShort (map (update_octets family peering) updates)
    → AreSent peering (map (update_octets family peering) updates) updates
sent-octets family peering [] are short = tt
sent-octets family peering (update ∷ updates) are short =
    (sent-by family peering update.withdrawn update.announced update.terms are.0 short.0, sent-octets family peering updates are.1 short.1)

-- the messages of a family
sent-for : (family : Family) (peering : Peering) (old new : List (PrefixValue × Terms))
    → AllByRecursion (Formed family peering) (updates_for family peering old new) → AllByRecursion IsShort (messages_for family peering old new)
    → AreSent peering (messages_for family peering old new) (updates_for family peering old new)
sent-for family peering old new formed short =
    let spelled = messages-spell family peering old new in
    let octets : AllByRecursion IsShort (map (update_octets family peering) (updates_for family peering old new)) =
    subst (AllByRecursion IsShort) spelled short in
    subst (λ (ms : List (List ℕ)). AreSent peering ms (updates_for family peering old new)) (sym spelled)
    (sent-octets family peering (updates_for family peering old new) formed octets)

-- the messages between two tables
pub sent-between : (peering : Peering) (old new : List (PrefixValue × Terms)) → IsTable old → CanBeTold peering new
    → AreSent peering (messages_between peering old new) (updates_between peering old new)
sent-between peering old new old_table is =
    let first = messages_for V4 peering (of_family V4 old) (of_family V4 new) in
    let second = messages_for V6 peering (of_family V6 old) (of_family V6 new) in
    let short : AllByRecursion IsShort (first ++ second) =
    recursion_from_All IsShort (first ++ second) (messages-fit peering old new old_table is.table is.few) in
    let few = recursion_from_All HasFew new is.few in
    sent-append peering first (updates_for V4 peering (of_family V4 old) (of_family V4 new)) second
    (updates_for V6 peering (of_family V6 old) (of_family V6 new))
    (sent-for V4 peering (of_family V4 old) (of_family V4 new) (updates-formed V4 peering old new old_table is.table few is.of_peer is.typed)
    (all-front IsShort first second short))
    (sent-for V6 peering (of_family V6 old) (of_family V6 new) (updates-formed V6 peering old new old_table is.table few is.of_peer is.typed)
    (all-behind IsShort first second short))

-- the first message, cut off and read
received-first : (most : ℕ) (table : PrefixValue → Option Terms) (message rest : List ℕ) (parts : UpdateParts) → 0 < length message
    → short_at 16 (message ++ rest) ≡ length message → update_of message ≡ Some parts
    → received_within (suc most) table (message ++ rest) ≡ received_within most (after_parts table parts) rest
received-first most table [] rest parts some size read = absurd (omega arith)
received-first most table (octet ∷ message) rest parts some size read =
    let bytes = (octet ∷ message) ++ rest in
    let front : first_message bytes ≡ octet ∷ message = front-at bytes (octet ∷ message) rest (short_at 16 bytes) size refl in
    let back : behind_first bytes ≡ rest = rest-at bytes (octet ∷ message) rest (short_at 16 bytes) size refl in
    ap (λ m. option_and_then (λ parts. received_within most (after_parts table parts) (behind_first bytes)) (update_of m)) front
    ∙ ap (option_and_then (λ parts. received_within most (after_parts table parts) (behind_first bytes))) read
    ∙ ap (received_within most (after_parts table parts)) back

received-all : (peering : Peering) (messages : List (List ℕ)) (updates : List Update) (table : PrefixValue → Option Terms) (most : ℕ)
    → AreSent peering messages updates → length (joined messages) ≤ most
    → received_within most table (joined messages) ≡ Some (received table updates)
received-all peering [] [] table most are few = refl
received-all peering [] (update ∷ updates) table most are few = absurd are
received-all peering (message ∷ messages) [] table most are few = absurd are
received-all peering (message ∷ messages) (update ∷ updates) table zero are few =
    let some = are.0.some in
    absurd (omega (arith, few, some, length-append message (joined messages)))
received-all peering (message ∷ messages) (update ∷ updates) table (suc most) are few =
    let some = are.0.some in
    let left : length (joined messages) ≤ most = omega (arith, few, some, length-append message (joined messages)) in
    received-first most table message (joined messages) are.0.parts are.0.some (are.0.size (joined messages)) are.0.read
    ∙ ap (λ t. received_within most t (joined messages)) (are.0.says table)
    ∙ received-all peering messages updates (after table update) most are.1 left

-- what the messages over some tables say
abbrev updates_over : Peering → List (PrefixValue × Terms) → List (List (PrefixValue × Terms)) → List Update
updates_over peering old [] = []
updates_over peering old (new ∷ later) = updates_between peering old new ++ updates_over peering new later

over-sent : (peering : Peering) (old : List (PrefixValue × Terms)) (tables : List (List (PrefixValue × Terms))) → IsTable old
    → AllByRecursion (CanBeTold peering) tables
    → AreSent peering (messages_over peering old tables) (updates_over peering old tables)
over-sent peering old [] table all = tt
over-sent peering old (new ∷ later) table all =
    sent-append peering (messages_between peering old new) (updates_between peering old new) (messages_over peering new later) (updates_over peering new later)
    (sent-between peering old new table all.0) (over-sent peering new later all.0.table all.1)

pub sent-of : (peering : Peering) (messages : List (List ℕ)) (updates : List Update) → AreSent peering messages updates
    → AllByRecursion (IsMessageOf peering) messages
sent-of peering [] [] are = tt
sent-of peering [] (update ∷ updates) are = absurd are
sent-of peering (message ∷ messages) [] are = absurd are
sent-of peering (message ∷ messages) (update ∷ updates) are = (are.0.of_sender, sent-of peering messages updates are.1)

pub of-sender : MessagesAreOfSender
of-sender peering old tables table all =
    sent-of peering (messages_over peering old tables) (updates_over peering old tables) (over-sent peering old tables table all)

over-received : (peering : Peering) (old : List (PrefixValue × Terms)) (tables : List (List (PrefixValue × Terms))) → AllByRecursion (CanBeTold peering) tables
    → received (terms_at old) (updates_over peering old tables) ≡ terms_at (last_table old tables)
over-received peering old [] all = refl
over-received peering old (new ∷ later) all =
    let here : received (terms_at old) (updates_between peering old new) ≡ terms_at new = λ i p. messages-give peering old new all.0.table p i in
    received-append (terms_at old) (updates_between peering old new) (updates_over peering new later)
    ∙ ap (λ table. received table (updates_over peering new later)) here
    ∙ over-received peering new later all.1

pub tables-received : TablesAreReceived
tables-received peering old tables old_table all p =
    let messages = messages_over peering old tables in
    let updates = updates_over peering old tables in
    ap (option_map (λ table. table p))
    (received-all peering messages updates (terms_at old) (length (joined messages)) (over-sent peering old tables old_table all) (omega arith))
    ∙ ap (λ table. Some (table p)) (over-received peering old tables all)

pub updates-received : UpdatesAreReceived
updates-received peering old new old_table new_table few told fits p =
    ap (λ ms. option_map (λ table. table p) (received_bytes (terms_at old) (joined ms))) (sym (append-nil (messages_between peering old new)))
    ∙ tables-received peering old (new ∷ []) old_table (record { table = new_table; few = few; of_peer = told; typed = fits }, tt) p
