-- A text is read as some terms exactly where it is their mark.
use Rattle.std.proofs.Common.{◌≡◌, ◌↔◌, IfOk, OnOk, ℕ, ◌+◌, ◌-◌, ◌*◌, ◌<◌, Bool, true, false, cond, ◌&&◌, eqb, leb, ltb}
use Rattle.std.proofs.Common.{List, [], ◌∷◌, ◌++◌, map, Option, Some, None, Result, Ok, Err, Ordering, Less, Equal, Greater}
use Rattle.std.proofs.Common.{codes, Contains, IsUtf8, ⊎_elim, refl, sym, ap, ◌∙◌, subst, append_assoc, append-nil, arith}
use borrow.Author.Tests.{ltb-true}
use Rattle.std.proofs.lemmas.Bool.{ne_eqb, and_parts}
use Rattle.std.proofs.lemmas.Slice.Eq.{bytes_eq-Decides}
use Rattle.std.proofs.lemmas.Str.{is_utf8-from_IsUtf8, IsUtf8-from_is_utf8}
use Rattle.std.specs.Cmp.Lexicographic.{slice_cmp, nat_list_cmp_total}
use Rattle.std.specs.List.{flat_map, AllByRecursion}
use Rattle.std.specs.List.Sorted.{IsStrictlySortedBy}
use Rattle.std.specs.Option.{option_and_then}
use Rattle.std.specs.Ordering.{nat_cmp, match_ordering}
use Rattle.std.specs.Result.{result_ok}
use Rattle.std.specs.Str.{bytes_eq, is_utf8}
use Rattle.hex.specs.Hex.{encode_lower, decode_of}
use Rattle.hex.proofs.HexLemmas.{decode_of-encode_lower}
use Rattle.mlb_base.proofs.Among.{contains-first, contains-later, contains-cons, contains-none}
use Rattle.mlb_base.proofs.Entries.{insert_entry-last, ascending-insert_entry}
use Rattle.kube_labels.specs.Pairs.{IsAscending, with_pair}
use Rattle.kube_model.specs.declared.port.Port.{Port}
use Rattle.kube_model.specs.declared.port.Protocol.{Protocol}
use Rattle.kube_model.specs.declared.port.Protocol.TheVariants.{Tcp, Udp, Sctp}
use Rattle.sharing_terms.specs.declared.terms.Terms.{Terms}
use Rattle.sharing_terms.specs.declared.terms.Backend.{Backend}
use Rattle.sharing_terms.specs.declared.terms.Backend.TheVariants.{Cluster, Local}
use Rattle.sharing_terms.specs.Marked.{AreSmall, AreTexts, IsBackend, AreTerms, IsMarkOf}
use Rattle.sharing_terms.specs.Marks.{protocol_letter, port_text, ports_text, backend_text, mark_of}
use Rattle.sharing_terms.specs.Ports.{ports_in}
use Rattle.sharing_terms.specs.Spelled.{ahead_of, behind, text_of_bytes, text_of_hex, protocol_of_letter, number_from, port_by}
use Rattle.sharing_terms.specs.Spelled.{port_of_text, pieces, ports_by, ports_from, ports_of_text, pair_by, pair_of_text, labels_from}
use Rattle.sharing_terms.specs.Spelled.{local_by, local_from, backend_of_text, terms_by, spelled, if_marked, recorded_terms}
use Rattle.sharing_terms.proofs.Bytes.{utf8-bytes}
use Rattle.sharing_terms.proofs.Cuts.{Lacks, lacks-append, ahead-found, behind-found, pieces-flat}
use Rattle.sharing_terms.proofs.Cuts.{hex-lacks_59, hex-lacks_44, hex-lacks_61, decimal-lacks, number-decimal}
use Rattle.sharing_terms.proofs.PortSets.{ports_in-ascending, ports_in-are}

-- ---- a mark is read as its terms
text-read : (xs : List ℕ) → IsUtf8 xs → text_of_hex (encode_lower xs) ≡ Some xs
text-read xs h =
    let read = decode_of-encode_lower xs (utf8-bytes xs h) in
    let passes = is_utf8-from_IsUtf8 xs h in
    rw (read, passes) refl

letter-read : (p : Protocol) → protocol_of_letter (protocol_letter p) ≡ Some p
letter-read Tcp = refl
letter-read Udp = refl
letter-read Sctp = refl

port-read : (p : Port) → p.port < 65536 → port_of_text (port_text p) ≡ Some p
port-read p fits = rw (letter-read p.protocol, number-decimal p.port fits) refl

ports-read : (ports : List Port) → AreSmall ports → ports_from (map port_text ports) ≡ Some ports
ports-read [] all = refl
ports-read (p ∷ ports) all = rw (port-read p all.0, ports-read ports all.1) refl

letter_lacks : (byte : ℕ) (p : Protocol) → eqb 84 byte ≡ false → eqb 85 byte ≡ false → eqb 83 byte ≡ false → eqb (protocol_letter p) byte ≡ false
letter_lacks byte Tcp t u s = t
letter_lacks byte Udp t u s = u
letter_lacks byte Sctp t u s = s

port-lacks_44 : (p : Port) → p.port < 65536 → Lacks 44 (port_text p)
port-lacks_44 p fits =
    (letter_lacks 44 p.protocol refl refl refl, decimal-lacks 44 p.port (λ d lt. ne_eqb (48 + d) 44 (λ e. omega (arith, e))) (omega (arith, fits)))

port-lacks_59 : (p : Port) → p.port < 65536 → Lacks 59 (port_text p)
port-lacks_59 p fits =
    (letter_lacks 59 p.protocol refl refl refl, decimal-lacks 59 p.port (λ d lt. ne_eqb (48 + d) 59 (λ e. omega (arith, e, lt))) (omega (arith, fits)))

ports_lack_44 : (ports : List Port) → AreSmall ports → AllByRecursion (λ p. Lacks 44 (port_text p)) ports
ports_lack_44 [] all = tt
ports_lack_44 (p ∷ ports) all = (port-lacks_44 p all.0, ports_lack_44 ports all.1)

others_lack_59 : (ports : List Port) → AreSmall ports → Lacks 59 (flat_map (λ p. 44 ∷ port_text p) ports)
others_lack_59 [] all = tt
others_lack_59 (p ∷ ports) all =
    (refl, lacks-append 59 (port_text p) (flat_map (λ q. 44 ∷ port_text q) ports) (port-lacks_59 p all.0) (others_lack_59 ports all.1))

ports-lack_59 : (ports : List Port) → AreSmall ports → Lacks 59 (ports_text ports)
ports-lack_59 [] all = tt
ports-lack_59 (p ∷ ports) all = lacks-append 59 (port_text p) (flat_map (λ q. 44 ∷ port_text q) ports) (port-lacks_59 p all.0) (others_lack_59 ports all.1)

ports_text-read : (ports : List Port) → AreSmall ports → ports_of_text (ports_text ports) ≡ Some ports
ports_text-read [] all = refl
ports_text-read (p ∷ ports) all =
    ap ports_from (pieces-flat 44 port_text (port_text p) ports (port-lacks_44 p all.0) (ports_lack_44 ports all.1)) ∙ ports-read (p ∷ ports) all

pair-read : (p : List ℕ × List ℕ) → IsUtf8 p.0 × IsUtf8 p.1 → pair_of_text (encode_lower p.0 ++ 61 ∷ encode_lower p.1) ≡ Some (p.0, p.1)
pair-read p h =
    rw (
      ahead-found 61 (encode_lower p.0) (encode_lower p.1) (hex-lacks_61 p.0),
      behind-found 61 (encode_lower p.0) (encode_lower p.1) (hex-lacks_61 p.0),
      text-read p.0 h.0,
      text-read p.1 h.1,
    ) refl

labels-read : (kept pairs : List (List ℕ × List ℕ)) → IsAscending (kept ++ pairs) → AreTexts pairs
    → labels_from kept (map (λ p. encode_lower p.0 ++ 61 ∷ encode_lower p.1) pairs) ≡ Some (kept ++ pairs)
labels-read kept [] up all = ap Some (sym (append-nil kept))
labels-read kept (p ∷ pairs) up all =
    let end : with_pair p.0 p.1 kept ≡ kept ++ (p.0, p.1) ∷ [] = insert_entry-last nat_list_cmp_total kept p.0 p.1 pairs up in
    let moved : kept ++ p ∷ pairs ≡ (kept ++ p ∷ []) ++ pairs = sym (append_assoc kept (p ∷ []) pairs) in
    rw (pair-read p all.0)
    (ap (λ (k : List (List ℕ × List ℕ)). labels_from k (map (λ (q : List ℕ × List ℕ). encode_lower q.0 ++ 61 ∷ encode_lower q.1) pairs)) end
    ∙ labels-read (kept ++ p ∷ []) pairs (subst IsAscending moved up) all.1
    ∙ ap Some (sym moved))

pairs_lack_44 : (pairs : List (List ℕ × List ℕ)) → AllByRecursion (λ p. Lacks 44 (encode_lower p.0 ++ 61 ∷ encode_lower p.1)) pairs
pairs_lack_44 [] = tt
pairs_lack_44 (p ∷ pairs) = (lacks-append 44 (encode_lower p.0) (61 ∷ encode_lower p.1) (hex-lacks_44 p.0) (refl, hex-lacks_44 p.1), pairs_lack_44 pairs)

pub backend-read : (b : Backend) → IsBackend b → backend_of_text (backend_text b) ≡ Some b
backend-read Cluster h = refl
backend-read (Local namespace selector) h =
    rw (
      pieces-flat 44 (λ (p : List ℕ × List ℕ). encode_lower p.0 ++ 61 ∷ encode_lower p.1) (encode_lower namespace) selector (hex-lacks_44 namespace)
          (pairs_lack_44 selector),
      text-read namespace h.0,
      labels-read [] selector h.1 h.2,
    ) refl

regroup : (a k s p s' b : List ℕ) → ((((a ++ k) ++ s) ++ p) ++ s') ++ b ≡ a ++ (k ++ (s ++ (p ++ (s' ++ b))))
regroup a k s p s' b = simp append_assoc

spelled-mark : (t : Terms) → AreTerms t → spelled (mark_of t) ≡ Some t
spelled-mark t h =
    let text = regroup (codes "v1;") (encode_lower t.key) (codes ";") (ports_text t.ports) (codes ";") (backend_text t.backend) in
    let last = ports_text t.ports ++ 59 ∷ backend_text t.backend in
    ap spelled text ∙
    rw (
      ahead-found 59 (encode_lower t.key) last (hex-lacks_59 t.key),
      behind-found 59 (encode_lower t.key) last (hex-lacks_59 t.key),
      ahead-found 59 (ports_text t.ports) (backend_text t.backend) (ports-lack_59 t.ports h.numbers),
      behind-found 59 (ports_text t.ports) (backend_text t.backend) (ports-lack_59 t.ports h.numbers),
      text-read t.key h.key,
      ports_text-read t.ports h.numbers,
      backend-read t.backend h.backend,
      ports_in-ascending t.ports h.ports,
    ) refl

pub mark-read : (t : Terms) → AreTerms t → recorded_terms (mark_of t) ≡ Some t
mark-read t h =
    let same : bytes_eq (mark_of t) (mark_of t) ≡ true = (bytes_eq-Decides (mark_of t) (mark_of t)).1 refl in
    ap (if_marked (mark_of t)) (spelled-mark t h) ∙ rw same refl

marked_by : (text : List ℕ) (found : Option Terms) (t : Terms) → if_marked text found ≡ Some t → mark_of t ≡ text
marked_by text None t e = absurd (cc)
marked_by text (Some u) t e = by_test (bytes_eq (mark_of u) text) refl e
  where
    by_test : (b : Bool) → b ≡ bytes_eq (mark_of u) text → cond b (Some u) None ≡ Some t → mark_of t ≡ text
    by_test true s e = let same : u ≡ t = cc in ap mark_of (sym same) ∙ (bytes_eq-Decides (mark_of u) text).0 (sym s)
    by_test false s e = absurd (cc)

pub read-mark : (text : List ℕ) (t : Terms) → recorded_terms text ≡ Some t → mark_of t ≡ text
read-mark text t e = marked_by text (spelled text) t e

-- ---- what is read are terms
bytes-text : (b : Bool) (bytes xs : List ℕ) → b ≡ is_utf8 bytes → cond b (Some bytes) None ≡ Some xs → IsUtf8 xs
bytes-text true bytes xs s e = let same : bytes ≡ xs = cc in subst IsUtf8 same (IsUtf8-from_is_utf8 bytes (sym s))
bytes-text false bytes xs s e = absurd (cc)

digits-text : (decoded : Option (List ℕ)) (xs : List ℕ) → option_and_then text_of_bytes decoded ≡ Some xs → IsUtf8 xs
digits-text None xs e = absurd (cc)
digits-text (Some bytes) xs e = bytes-text (is_utf8 bytes) bytes xs refl e

hex-text : (digits xs : List ℕ) → text_of_hex digits ≡ Some xs → IsUtf8 xs
hex-text digits xs e = digits-text (result_ok (decode_of digits)) xs e

number_small_by : (b : Bool) (rest : Option ℕ) (m : ℕ) → (b ≡ true → rest ≡ Some m → m < 65536) → cond b rest None ≡ Some m → m < 65536
number_small_by true rest m ih e = ih refl e
number_small_by false rest m ih e = absurd (cc)

number-small : (digits : List ℕ) (n m : ℕ) → n < 65536 → number_from n digits ≡ Some m → m < 65536
number-small [] n m small e = let same : n ≡ m = cc in subst (λ k. k < 65536) same small
number-small (d ∷ digits) n m small e =
    number_small_by (leb 48 d && leb d 57 && ltb (n * 10 + (d - 48)) 65536) (number_from (n * 10 + (d - 48)) digits) m
    (λ passes rest. number-small digits (n * 10 + (d - 48)) m
    (ltb-true (n * 10 + (d - 48)) 65536 (and_parts (leb 48 d && leb d 57) (ltb (n * 10 + (d - 48)) 65536) passes).1) rest)
    e

port_small_by : (protocol : Option Protocol) (number : Option ℕ) (p : Port) → ((m : ℕ) → number ≡ Some m → m < 65536) → port_by protocol number ≡ Some p
    → p.port < 65536
port_small_by None number p small e = absurd (cc)
port_small_by (Some protocol) None p small e = absurd (cc)
port_small_by (Some protocol) (Some m) p small e =
    let same : record { protocol = protocol; port = m } ≡ p = cc in
    subst (λ (q : Port). q.port < 65536) same (small m refl)

port-small : (text : List ℕ) (p : Port) → port_of_text text ≡ Some p → p.port < 65536
port-small [] p e = absurd (cc)
port-small (c ∷ digits) p e = port_small_by (protocol_of_letter c) (number_from 0 digits) p (λ m is. number-small digits 0 m (omega arith) is) e

ports_small_by : (port : Option Port) (more : Option (List Port)) (ports : List Port) → ((p : Port) → port ≡ Some p → p.port < 65536)
    → ((rest : List Port) → more ≡ Some rest → AreSmall rest)
    → ports_by port more ≡ Some ports → AreSmall ports
ports_small_by None more ports one all e = absurd (cc)
ports_small_by (Some p) None ports one all e = absurd (cc)
ports_small_by (Some p) (Some rest) ports one all e =
    let same : p ∷ rest ≡ ports = cc in
    subst AreSmall same (one p refl, all rest refl)

pieces-small : (cut : List (List ℕ)) (ports : List Port) → ports_from cut ≡ Some ports → AreSmall ports
pieces-small [] ports e = let none : [] ≡ ports = cc in subst AreSmall none tt
pieces-small (piece ∷ cut) ports e = ports_small_by (port_of_text piece) (ports_from cut) ports (port-small piece) (pieces-small cut) e

ports-small : (text : List ℕ) (ports : List Port) → ports_of_text text ≡ Some ports → AreSmall ports
ports-small [] ports e = let none : [] ≡ ports = cc in subst AreSmall none tt
ports-small (c ∷ text) ports e = pieces-small (pieces 44 (c ∷ text)) ports e

small-at : (ports : List Port) (p : Port) → AreSmall ports → Contains ports p → p.port < 65536
small-at [] p all there = absurd (contains-none p there)
small-at (q ∷ ports) p all there =
    ⊎_elim (λ first. subst (λ (x : Port). x.port < 65536) first all.0) (λ later. small-at ports p all.1 later) (contains-cons q ports p there)

small-from : (ports : List Port) → ((p : Port) → Contains ports p → p.port < 65536) → AreSmall ports
small-from [] each = tt
small-from (q ∷ ports) each = (each q (contains-first q ports), small-from ports (λ p later. each p (contains-later q ports p later)))

-- the set of the ports has none but them
set-small : (ports : List Port) → AreSmall ports → AreSmall (ports_in ports)
set-small ports all = small-from (ports_in ports) (λ p there. small-at ports p all (((ports_in-are ports).1 p).0 there))

pair_texts_by : (name value : Option (List ℕ)) (p : List ℕ × List ℕ) → ((xs : List ℕ) → name ≡ Some xs → IsUtf8 xs)
    → ((xs : List ℕ) → value ≡ Some xs → IsUtf8 xs)
    → pair_by name value ≡ Some p → IsUtf8 p.0 × IsUtf8 p.1
pair_texts_by None value p names values e = absurd (cc)
pair_texts_by (Some name) None p names values e = absurd (cc)
pair_texts_by (Some name) (Some value) p names values e =
    let same : (name, value) ≡ p = cc in
    subst (λ (q : List ℕ × List ℕ). IsUtf8 q.0 × IsUtf8 q.1) same (names name refl, values value refl)

pair-texts : (text : List ℕ) (p : List ℕ × List ℕ) → pair_of_text text ≡ Some p → IsUtf8 p.0 × IsUtf8 p.1
pair-texts text p e =
    pair_texts_by (text_of_hex (ahead_of 61 text)) (text_of_hex (behind 61 text)) p (λ xs is. hex-text (ahead_of 61 text) xs is)
    (λ xs is. hex-text (behind 61 text) xs is) e

texts_by : (r : Ordering) (name value : List ℕ) (p : List ℕ × List ℕ) (pairs : List (List ℕ × List ℕ)) → IsUtf8 name × IsUtf8 value → AreTexts (p ∷ pairs)
    → AreTexts (with_pair name value pairs)
    → AreTexts (match_ordering r ((name, value) ∷ p ∷ pairs) ((p.0, value) ∷ pairs) (p ∷ with_pair name value pairs))
texts_by Less name value p pairs new all ih = (new, all)
texts_by Equal name value p pairs new all ih = ((all.0.0, new.1), all.1)
texts_by Greater name value p pairs new all ih = (all.0, ih)

texts-with_pair : (pairs : List (List ℕ × List ℕ)) (name value : List ℕ) → IsUtf8 name × IsUtf8 value → AreTexts pairs → AreTexts (with_pair name value pairs)
texts-with_pair [] name value new all = (new, tt)
texts-with_pair (p ∷ pairs) name value new all = texts_by (slice_cmp nat_cmp name p.0) name value p pairs new all (texts-with_pair pairs name value new all.1)

labels_by : (pair : Option (List ℕ × List ℕ)) (kept : List (List ℕ × List ℕ)) (cut : List (List ℕ)) (found : List (List ℕ × List ℕ))
    → ((p : List ℕ × List ℕ) → pair ≡ Some p → IsUtf8 p.0 × IsUtf8 p.1)
    → ((p : List ℕ × List ℕ) → IsUtf8 p.0 × IsUtf8 p.1 → labels_from (with_pair p.0 p.1 kept) cut ≡ Some found → IsAscending found × AreTexts found)
    → option_and_then (λ p. labels_from (with_pair p.0 p.1 kept) cut) pair ≡ Some found → IsAscending found × AreTexts found
labels_by None kept cut found one ih e = absurd (cc)
labels_by (Some p) kept cut found one ih e = ih p (one p refl) e

labels-pairs : (cut : List (List ℕ)) (kept found : List (List ℕ × List ℕ)) → IsAscending kept × AreTexts kept → labels_from kept cut ≡ Some found
    → IsAscending found × AreTexts found
labels-pairs [] kept found are e = let same : kept ≡ found = cc in subst (λ (ps : List (List ℕ × List ℕ)). IsAscending ps × AreTexts ps) same are
labels-pairs (piece ∷ cut) kept found are e =
    labels_by (pair_of_text piece) kept cut found (pair-texts piece)
    (λ p texts rest. labels-pairs cut (with_pair p.0 p.1 kept) found (
      ascending-insert_entry nat_list_cmp_total kept p.0 p.1 are.0,
      texts-with_pair kept p.0 p.1 texts are.1,
    ) rest)
    e

local_terms_by : (namespace : Option (List ℕ)) (selector : Option (List (List ℕ × List ℕ))) (b : Backend) → ((xs : List ℕ) → namespace ≡ Some xs → IsUtf8 xs)
    → ((pairs : List (List ℕ × List ℕ)) → selector ≡ Some pairs → IsAscending pairs × AreTexts pairs) → local_by namespace selector ≡ Some b → IsBackend b
local_terms_by None selector b texts pairs e = absurd (cc)
local_terms_by (Some namespace) None b texts pairs e = absurd (cc)
local_terms_by (Some namespace) (Some selector) b texts pairs e =
    let same : Local namespace selector ≡ b = cc in
    let are = pairs selector refl in
    subst IsBackend same (texts namespace refl, are.0, are.1)

nothing-ascends : IsAscending []
unfolding IsStrictlySortedBy
nothing-ascends = tt

local-terms : (cut : List (List ℕ)) (b : Backend) → local_from cut ≡ Some b → IsBackend b
local-terms [] b e = absurd (cc)
local-terms (piece ∷ cut) b e =
    local_terms_by (text_of_hex piece) (labels_from [] cut) b (λ xs is. hex-text piece xs is) (λ pairs is. labels-pairs cut [] pairs (nothing-ascends, tt) is) e

backend_terms_by : (cluster local : Bool) (cut : Option Backend) (b : Backend) → (cut ≡ Some b → IsBackend b)
    → cond cluster (Some Cluster) (cond local cut None) ≡ Some b → IsBackend b
backend_terms_by true local cut b are e = let same : Cluster ≡ b = cc in subst IsBackend same tt
backend_terms_by false true cut b are e = are e
backend_terms_by false false cut b are e = absurd (cc)

backend-terms : (text : List ℕ) (b : Backend) → backend_of_text text ≡ Some b → IsBackend b
backend-terms [] b e = absurd (cc)
backend-terms (c ∷ text) b e = backend_terms_by (eqb c 67) (eqb c 76) (local_from (pieces 44 text)) b (λ is. local-terms (pieces 44 text) b is) e

terms_by-are : (key : Option (List ℕ)) (ports : Option (List Port)) (backend : Option Backend) (t : Terms)
    → ((xs : List ℕ) → key ≡ Some xs → IsUtf8 xs) → ((ps : List Port) → ports ≡ Some ps → AreSmall ps) → ((b : Backend) → backend ≡ Some b → IsBackend b)
    → terms_by key ports backend ≡ Some t → AreTerms t
terms_by-are None ports backend t texts small are e = absurd (cc)
terms_by-are (Some key) None backend t texts small are e = absurd (cc)
terms_by-are (Some key) (Some ports) None t texts small are e = absurd (cc)
terms_by-are (Some key) (Some ports) (Some backend) t texts small are e =
    let same : record { key = key; ports = ports_in ports; backend = backend } ≡ t = cc in
    subst AreTerms same
    (record { key = texts key refl; ports = (ports_in-are ports).0; numbers = set-small ports (small ports refl); backend = are backend refl })

spelled-are : (text : List ℕ) (t : Terms) → spelled text ≡ Some t → AreTerms t
spelled-are text t e =
    let rest = behind 59 text in
    let last = behind 59 rest in
    terms_by-are (text_of_hex (ahead_of 59 rest)) (ports_of_text (ahead_of 59 last)) (backend_of_text (behind 59 last)) t
    (λ xs is. hex-text (ahead_of 59 rest) xs is) (λ ps is. ports-small (ahead_of 59 last) ps is) (λ b is. backend-terms (behind 59 last) b is) e

marked_are : (text : List ℕ) (found : Option Terms) (t : Terms) → ((u : Terms) → found ≡ Some u → AreTerms u) → if_marked text found ≡ Some t → AreTerms t
marked_are text None t are e = absurd (cc)
marked_are text (Some u) t are e = by_test (bytes_eq (mark_of u) text) e
  where
    by_test : (b : Bool) → cond b (Some u) None ≡ Some t → AreTerms t
    by_test true e = let same : u ≡ t = cc in subst AreTerms same (are u refl)
    by_test false e = absurd (cc)

-- ---- both together
-- a text is read as these terms exactly where it is their mark
pub recorded-exact : (text : List ℕ) (t : Terms) → (recorded_terms text ≡ Some t) ↔ IsMarkOf t text
recorded-exact text t = (
  λ e. record { terms = marked_are text (spelled text) t (spelled-are text) e; mark = read-mark text t e },
  λ h. ap recorded_terms (sym h.mark) ∙ mark-read t h.terms,
)

-- no two terms have one mark
pub marks-apart : (t u : Terms) (text : List ℕ) → IsMarkOf t text → IsMarkOf u text → t ≡ u
marks-apart t u text h k =
    let both : Some t ≡ Some u = sym ((recorded-exact text t).1 h) ∙ (recorded-exact text u).1 k in
    cc

-- ---- what the calls answer
pub answer-exact : {E : Type 0} (text : List ℕ) (answer : Result (Option Terms) E) → IfOk answer (λ o. o ≡ recorded_terms text)
    → IfOk answer (λ o. (t : Terms) → (o ≡ Some t) ↔ IsMarkOf t text)
answer-exact text (Ok o) is = λ t. (λ e. (recorded-exact text t).0 (sym is ∙ e), λ h. is ∙ (recorded-exact text t).1 h)
answer-exact text (Err f) is = tt

pub answer-marked : {E : Type 0} (t : Terms) (answer : Result (List ℕ) E) → OnOk answer (AreTerms t) → IfOk answer (λ text. text ≡ mark_of t)
    → IfOk answer (IsMarkOf t)
answer-marked t (Ok text) are is = record { terms = are; mark = sym is }
answer-marked t (Err f) are is = tt

pub answer-only : {E : Type 0} (t : Terms) (answer : Result (List ℕ) E) → IfOk answer (IsMarkOf t)
    → IfOk answer (λ text. (other : Terms) → IsMarkOf other text → other ≡ t)
answer-only t (Ok text) h = λ other k. marks-apart other t text k h
answer-only t (Err f) h = tt
