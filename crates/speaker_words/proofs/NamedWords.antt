-- What the words say is what is read of them.
use Rattle.std.proofs.Common.{◌≡◌, ℕ, ◌<◌, Bool, true, false, cond, List, [], ◌∷◌, ◌++◌, Option, Some, None, Ok, Err}
use Rattle.std.proofs.Common.{refl, sym, ap, ◌∙◌, subst, arith, inl, inr}
use Rattle.std.specs.Prelude.{option_and_then, Result}
use Rattle.std.specs.List.{AllByRecursion, AllZip, list_any, before_first, after_first}
use Rattle.std.specs.Option.{option_map, option_to_list}
use Rattle.command_options.specs.Options.{CommandOption}
use Rattle.command_options.specs.Values.{values_of, once, text_of, taken_in}
use Rattle.command_options.specs.Lanes.{LaneNames, LanesGiven, lanes_of}
use Rattle.command_options.proofs.Firsts.{Lack, before-found, after-found, any-found, before-none, after-none, any-none, lack-of}
use Rattle.command_options.proofs.Values.{folded, through, zip-each, once-read, read-once, once-text, text-once}
use Rattle.command_options.proofs.NamedLanes.{given_lanes, given-lanes, named-give, give-named, named-lanes}
use Rattle.command_options.proofs.Tables.{Gives, Keeps, Table, Part, words-give, give-words, parts-give, give-parts, named-or, named-last, part-of-part}
use Rattle.ip_ranges.specs.declared.family.Family.{Family}
use Rattle.ip_ranges.specs.declared.family.Family.TheVariants.{V4, V6}
use Rattle.ip_ranges.specs.declared.fault.RangeFault.{RangeFault}
use Rattle.ip_ranges.specs.Values.{AddressValue, same_family}
use Rattle.ip_ranges.specs.AddressText.{address_of}
use Rattle.ip_ranges.proofs.AddressLaws.{same_family-is, same_family-itself}
use Rattle.ip_ranges.proofs.SpelledLemmas.{address_of-ok}
use Rattle.mlb_base.proofs.Lists.{all-front}
use Rattle.speaker_words.specs.Interface.{InterfaceValue}
use Rattle.speaker_words.specs.Words.{Said, Say, IsKnown, IsNextHop, node_option, class_option, interface_option}
use Rattle.speaker_words.specs.Words.{next_hop_option, next_hop_v6_option, watch_option, frame_option}
use Rattle.speaker_words.specs.Reading.{Given, nothing_given, one_more, only_of, next_hop_of, hops_stand, with_lanes, with_option, said_by, said_if}
use Rattle.speaker_words.specs.Reading.{finished, said_in, given_in, is_flag, responder_stands}
use Rattle.speaker_words.specs.Words.{AreSpelled, responder_flag}
use Rattle.speaker_words.proofs.Flags.{split-by, options-lack}
use Rattle.speaker_words.proofs.Folded.{fold-adds, adds-fold}

-- ---- the next hops
read-hop : (family : Family) (text : List ℕ) (a : AddressValue) → next_hop_of family text ≡ Some a → IsNextHop family text a
read-hop family text a e = by (address_of text) refl e where
  by : (r : Result AddressValue RangeFault) → address_of text ≡ r → only_of family r ≡ Some a → IsNextHop family text a
  by (Err fault) t f = absurd (cc)
  by (Ok b) t f = of (same_family b.family family) refl f where
    of : (is : Bool) → same_family b.family family ≡ is → cond is (Some b) None ≡ Some a → IsNextHop family text a
    of false u g = absurd (cc)
    of true u g =
        let same : b ≡ a = cc in
        let (written, unmapped) = (address_of-ok text b).0 t in
        subst (IsNextHop family text) same (record { is = same_family-is b.family family u; written = written; unmapped = unmapped })

hop-read : (family : Family) (text : List ℕ) (a : AddressValue) → IsNextHop family text a → next_hop_of family text ≡ Some a
hop-read family text a is =
    let read : address_of text ≡ Ok a = (address_of-ok text a).1 (is.written, is.unmapped) in
    let same : same_family a.family family ≡ true = rw (is.is) (same_family-itself family) in
    ap (only_of family) read ∙ rw same refl

read-hops : (family : Family) (values : List (List ℕ)) (hop : Option AddressValue) → folded (once (next_hop_of family)) values None ≡ Some hop
    → AllZip (IsNextHop family) values (option_to_list hop)
read-hops family values hop e = zip-each (read-hop family) values (option_to_list hop) (once-read (next_hop_of family) values hop e)

hops-read : (family : Family) (values : List (List ℕ)) (hop : Option AddressValue) → AllZip (IsNextHop family) values (option_to_list hop)
    → folded (once (next_hop_of family)) values None ≡ Some hop
hops-read family values hop zip = read-once (next_hop_of family) values hop (zip-each (hop-read family) values (option_to_list hop) zip)

-- ---- the table of the options
data Named : Type 0 where
  Node : Named
  Class : Named
  Interfaces : Named
  NextHop : Named
  NextHopV6 : Named
  Watch : Named
  Frame : Named

abbrev named : List Named
named = Node ∷ Class ∷ Interfaces ∷ NextHop ∷ NextHopV6 ∷ Watch ∷ Frame ∷ []

abbrev Value : Named → Type 0
Value Interfaces = List InterfaceValue
Value NextHop = Option AddressValue
Value NextHopV6 = Option AddressValue
Value Node = Option (List ℕ)
Value Class = Option (List ℕ)
Value Watch = Option (List ℕ)
Value Frame = Option (List ℕ)

abbrev name : Named → List ℕ
name Node = node_option
name Class = class_option
name Interfaces = interface_option
name NextHop = next_hop_option
name NextHopV6 = next_hop_v6_option
name Watch = watch_option
name Frame = frame_option

abbrev part : (i : Named) → Given → Value i
part Node g = g.node
part Class g = g.class
part Interfaces g = g.interfaces
part NextHop g = g.next_hop
part NextHopV6 g = g.next_hop_v6
part Watch g = g.lanes.first
part Frame g = g.lanes.second

abbrev with_part : (i : Named) → Value i → Given → Given
with_part Node node g = record { node = node; class = g.class; interfaces = g.interfaces; next_hop = g.next_hop; next_hop_v6 = g.next_hop_v6; lanes = g.lanes }
with_part Class class g =
    record { node = g.node; class = class; interfaces = g.interfaces; next_hop = g.next_hop; next_hop_v6 = g.next_hop_v6; lanes = g.lanes }
with_part Interfaces interfaces g =
    record { node = g.node; class = g.class; interfaces = interfaces; next_hop = g.next_hop; next_hop_v6 = g.next_hop_v6; lanes = g.lanes }
with_part NextHop hop g = record { node = g.node; class = g.class; interfaces = g.interfaces; next_hop = hop; next_hop_v6 = g.next_hop_v6; lanes = g.lanes }
with_part NextHopV6 hop g = record { node = g.node; class = g.class; interfaces = g.interfaces; next_hop = g.next_hop; next_hop_v6 = hop; lanes = g.lanes }
with_part Watch file g = with_lanes (record { first = file; second = g.lanes.second }) g
with_part Frame file g = with_lanes (record { first = g.lanes.first; second = file }) g

abbrev take : (i : Named) → List ℕ → Value i → Option (Value i)
take Node = once text_of
take Class = once text_of
take Interfaces = one_more
take NextHop = once (next_hop_of V4)
take NextHopV6 = once (next_hop_of V6)
take Watch = once text_of
take Frame = once text_of

at : (i : Named) (P : Named → Type 0) → AllByRecursion P named → P i
at Node P ps = ps.0
at Class P ps = ps.1.0
at Interfaces P ps = ps.1.1.0
at NextHop P ps = ps.1.1.1.0
at NextHopV6 P ps = ps.1.1.1.1.0
at Watch P ps = ps.1.1.1.1.1.0
at Frame P ps = ps.1.1.1.1.1.1.0

taken : (i : Named) (value : List ℕ) (g : Given) → with_option (name i) value g ≡ option_map (λ a. with_part i a g) (take i value (part i g))
taken Node value g = refl
taken Class value g = refl
taken Interfaces value g = refl
taken NextHop value g = refl
taken NextHopV6 value g = refl
taken Watch value g = part-of-part (λ lanes. with_lanes lanes g) (λ file. record { first = file; second = g.lanes.second }) (once text_of value g.lanes.first)
taken Frame value g = part-of-part (λ lanes. with_lanes lanes g) (λ file. record { first = g.lanes.first; second = file }) (once text_of value g.lanes.second)

is : (o : CommandOption) (g h : Given) → with_option o.name o.value g ≡ Some h → IsKnown o
is o g h =
    named-or o.name node_option _ _ h
    (named-or o.name class_option _ _ h
    (named-or o.name interface_option _ _ h
    (named-or o.name next_hop_option _ _ h
    (named-or o.name next_hop_v6_option _ _ h (named-or o.name watch_option _ _ h (named-last o.name frame_option _ h))))))

which : (o : CommandOption) → IsKnown o → (i : Named) × (o.name ≡ name i)
which o (inl is) = (Node, is)
which o (inr (inl is)) = (Class, is)
which o (inr (inr (inl is))) = (Interfaces, is)
which o (inr (inr (inr (inl is)))) = (NextHop, is)
which o (inr (inr (inr (inr (inl is))))) = (NextHopV6, is)
which o (inr (inr (inr (inr (inr (inl is)))))) = (Watch, is)
which o (inr (inr (inr (inr (inr (inr is)))))) = (Frame, is)

own : (i : Named) (a : Value i) (g : Given) → part i (with_part i a g) ≡ a
own Node a g = refl
own Class a g = refl
own Interfaces a g = refl
own NextHop a g = refl
own NextHopV6 a g = refl
own Watch a g = refl
own Frame a g = refl

others : (i : Named) (a : Value i) (g : Given) → AllByRecursion (Keeps IsKnown with_option named name part with_part take i a g) named
others Node a g = (inl refl, (inr (refl, refl), (inr (refl, refl), (inr (refl, refl), (inr (refl, refl), (inr (refl, refl), (inr (refl, refl), tt)))))))
others Class a g = (inr (refl, refl), (inl refl, (inr (refl, refl), (inr (refl, refl), (inr (refl, refl), (inr (refl, refl), (inr (refl, refl), tt)))))))
others Interfaces a g = (inr (refl, refl), (inr (refl, refl), (inl refl, (inr (refl, refl), (inr (refl, refl), (inr (refl, refl), (inr (refl, refl), tt)))))))
others NextHop a g = (inr (refl, refl), (inr (refl, refl), (inr (refl, refl), (inl refl, (inr (refl, refl), (inr (refl, refl), (inr (refl, refl), tt)))))))
others NextHopV6 a g = (inr (refl, refl), (inr (refl, refl), (inr (refl, refl), (inr (refl, refl), (inl refl, (inr (refl, refl), (inr (refl, refl), tt)))))))
others Watch a g = (inr (refl, refl), (inr (refl, refl), (inr (refl, refl), (inr (refl, refl), (inr (refl, refl), (inl refl, (inr (refl, refl), tt)))))))
others Frame a g = (inr (refl, refl), (inr (refl, refl), (inr (refl, refl), (inr (refl, refl), (inr (refl, refl), (inr (refl, refl), (inl refl, tt)))))))

same : (g h : Given) → ((i : Named) → part i g ≡ part i h) → g ≡ h
same g h is =
    ap (λ (x : Option (List ℕ)). with_part Node x g) (is Node)
    ∙ ap (λ (x : Option (List ℕ)). with_part Node h.node (with_part Class x g)) (is Class)
    ∙ ap (λ (x : List InterfaceValue). with_part Node h.node (with_part Class h.class (with_part Interfaces x g))) (is Interfaces)
    ∙ ap (λ (x : Option AddressValue). with_part NextHop x (with_part NextHopV6 g.next_hop_v6 (with_lanes g.lanes h))) (is NextHop)
    ∙ ap (λ (x : Option AddressValue). with_part NextHopV6 x (with_lanes g.lanes h)) (is NextHopV6)
    ∙ ap (λ (x : Option (List ℕ)). with_lanes (record { first = x; second = g.lanes.second }) h) (is Watch)
    ∙ ap (λ (x : Option (List ℕ)). with_lanes (record { first = h.lanes.first; second = x }) h) (is Frame)

table : Table IsKnown with_option named name part with_part take
table = record { taken = taken; is = is; which = which; own = own; others = others; same = same }

-- the values of the option give its part, where nothing was given before
abbrev Stands : List CommandOption → Given → Named → Type 0
Stands options h i = Part IsKnown with_option named name part with_part take options nothing_given h i

-- ---- words
abbrev given : Said → Given
given said = record {
  node = Some said.node;
  class = said.class;
  interfaces = said.interfaces;
  next_hop = said.next_hop;
  next_hop_v6 = said.next_hop_v6;
  lanes = given_lanes said.lanes;
}

-- ---- the hops stand together
stand-by : (hop v6 : Option AddressValue) → (hop ≡ None → v6 ≡ None) → hops_stand hop v6 ≡ true
stand-by (Some hop) v6 beside = refl
stand-by None v6 beside = let none : v6 ≡ None = beside refl in rw none refl

by-stand : (hop v6 : Option AddressValue) → hops_stand hop v6 ≡ true → hop ≡ None → v6 ≡ None
by-stand hop None e none = refl
by-stand hop (Some v6) e none = let not : false ≡ true = rw none at e in absurd (cc)

-- ---- the responder stands beside two lanes
lanes-stand : (responder : Bool) (lanes : Option LaneNames) → (lanes ≡ None → responder ≡ false) → responder_stands responder lanes ≡ true
lanes-stand false lanes beside = refl
lanes-stand true (Some files) beside = refl
lanes-stand true None beside = let none : true ≡ false = beside refl in absurd (cc)

stand-lanes : (responder : Bool) (lanes : Option LaneNames) → responder_stands responder lanes ≡ true → lanes ≡ None → responder ≡ false
stand-lanes false lanes e none = refl
stand-lanes true (Some files) e none = absurd (cc)
stand-lanes true None e none = absurd (cc)

-- ---- the options, and the flag between them
abbrev OptionsGive : List CommandOption → Given → Type 0
OptionsGive options h = Gives IsKnown with_option named name part with_part take options nothing_given h

abbrev given_by : (before behind : List (List ℕ)) → Option Given
given_by before behind = option_and_then (taken_in with_option behind) (taken_in with_option before nothing_given)

same-parts : (before before' behind behind' : List (List ℕ)) → before ≡ before' → behind ≡ behind' → given_by before behind ≡ given_by before' behind'
same-parts before before' behind behind' one other = ap (λ (words : List (List ℕ)). given_by words behind) one ∙ ap (given_by before') other

none-behind : (words : List (List ℕ)) → given_by words [] ≡ taken_in with_option words nothing_given
none-behind words = ends (taken_in with_option words nothing_given) where
  ends : (x : Option Given) → option_and_then (taken_in with_option []) x ≡ x
  ends None = refl
  ends (Some g) = refl

-- what the words give where the flag isn't there
unflagged : (words : List (List ℕ)) → Lack is_flag words → given_in words ≡ taken_in with_option words nothing_given
unflagged words lack =
    same-parts (before_first is_flag words) words (after_first is_flag words) [] (before-none is_flag words lack) (after-none is_flag words lack)
    ∙ none-behind words

spelled-give : (responder : Bool) (words : List (List ℕ)) (options : List CommandOption) (h : Given) → AreSpelled responder options words
    → OptionsGive options h → (list_any is_flag words ≡ responder) × (given_in words ≡ Some h)
spelled-give false words options h spelled gives =
    let lack = options-lack options words spelled gives.known in (
      any-none is_flag words lack,
      unflagged words lack ∙ give-words IsKnown with_option named name part with_part take at table words options nothing_given h spelled gives,
    )
spelled-give true words options h (front, back, before, behind, are, words_are, ahead, after) gives =
    let both : OptionsGive (front ++ back) h = subst (λ (os : List CommandOption). OptionsGive os h) are gives in
    let lack = options-lack front before ahead (all-front IsKnown front back both.known) in
    let gave = give-parts IsKnown with_option named name part with_part take at table before behind front back nothing_given h ahead after both in
    let said = before ++ responder_flag ∷ behind in
    subst (λ (ws : List (List ℕ)). (list_any is_flag ws ≡ true) × (given_in ws ≡ Some h)) (sym words_are) (
      any-found is_flag before responder_flag behind lack refl,
      same-parts (before_first is_flag said) before (after_first is_flag said) behind (before-found is_flag before responder_flag behind lack refl)
          (after-found is_flag before responder_flag behind lack refl) ∙ gave,
    )

read-spelled : (responder : Bool) (words : List (List ℕ)) (h : Given) → list_any is_flag words ≡ responder → given_in words ≡ Some h
    → (options : List CommandOption) × AreSpelled responder options words × OptionsGive options h
read-spelled false words h flag e =
    words-give IsKnown with_option named name part with_part take at table words nothing_given h (sym (unflagged words (lack-of is_flag words flag)) ∙ e)
read-spelled true words h flag e =
    let (front, back, ahead, after, gives) =
    parts-give IsKnown with_option named name part with_part take at table (before_first is_flag words) (after_first is_flag words) nothing_given h e in
    (front ++ back, (front, back, before_first is_flag words, after_first is_flag words, refl, split-by words flag, ahead, after), gives)

pub say-read : (words : List (List ℕ)) (said : Said) → Say words said → said_in words ≡ Some said
say-read words said say =
    let (watch, frame) = named-give watch_option frame_option say.options said.lanes say.lanes in
    let (flag, gave) = spelled-give said.responder words say.options (given said) say.spelled (record {
      known = say.known;
      parts = λ i. elim i as (Stands say.options (given said)) [
        | Node ↦ text-once (values_of node_option say.options) (Some said.node) say.node
        | Class ↦ text-once (values_of class_option say.options) said.class say.class
        | Interfaces ↦ adds-fold (values_of interface_option say.options) [] said.interfaces say.interfaces (say.few, say.apart)
        | NextHop ↦ hops-read V4 (values_of next_hop_option say.options) said.next_hop say.next_hop
        | NextHopV6 ↦ hops-read V6 (values_of next_hop_v6_option say.options) said.next_hop_v6 say.next_hop_v6
        | Watch ↦ watch
        | Frame ↦ frame
      ];
    }) in
    let stand : hops_stand said.next_hop said.next_hop_v6 ≡ true = stand-by said.next_hop said.next_hop_v6 say.beside in
    let stands : responder_stands said.responder said.lanes ≡ true = lanes-stand said.responder said.lanes say.beside_lanes in
    ap (λ (responder : Bool). option_and_then (finished responder) (given_in words)) flag
    ∙ ap (option_and_then (finished said.responder)) gave
    ∙ rw stand refl
    ∙ ap (option_and_then (said_if (given said) said.node said.responder)) (named-lanes watch_option frame_option say.options said.lanes say.lanes)
    ∙ rw stands refl

-- Who says something was given that, with files that are lanes.
record Finished (responder : Bool) (h : Given) (said : Said) : Type 0 where
  are : h ≡ given said
  lanes : Option LaneNames
  found : lanes_of h.lanes ≡ Some lanes
  stand : hops_stand said.next_hop said.next_hop_v6 ≡ true
  responds : said.responder ≡ responder
  stands : responder_stands said.responder said.lanes ≡ true

said-of : (responder : Bool) (h : Given) (said : Said) → finished responder h ≡ Some said → Finished responder h said
said-of responder h said e = stands (hops_stand h.next_hop h.next_hop_v6) refl e where
  ends : Option Said
  ends = option_and_then (λ node. option_and_then (said_if h node responder) (lanes_of h.lanes)) h.node

  stands : (b : Bool) → hops_stand h.next_hop h.next_hop_v6 ≡ b → cond b ends None ≡ Some said → Finished responder h said
  stands false t f = absurd (cc)
  stands true t f =
      let (node, is, more) = through (λ node. option_and_then (said_if h node responder) (lanes_of h.lanes)) h.node said f in
      let (lanes, found, end) = through (said_if h node responder) (lanes_of h.lanes) said more in
      by (responder_stands responder lanes) node is lanes refl found end
    where
      by : (b : Bool) → (node : List ℕ) → h.node ≡ Some node → (lanes : Option LaneNames) → responder_stands responder lanes ≡ b
          → lanes_of h.lanes ≡ Some lanes → cond b (Some (said_by h node responder lanes)) None ≡ Some said → Finished responder h said
      by false node is lanes so found f = absurd (cc)
      by true node is lanes so found f =
          let same : said_by h node responder lanes ≡ said = cc in
          record {
            are = ap (λ (n : Option (List ℕ)). with_part Node n h) is
                ∙ ap (λ (l : LanesGiven). with_part Node (Some node) (with_lanes l h)) (given-lanes h.lanes lanes found) ∙ ap given same;
            lanes = lanes;
            found = found;
            stand = subst (λ (s : Said). hops_stand s.next_hop s.next_hop_v6 ≡ true) same t;
            responds = ap (λ (s : Said). s.responder) (sym same);
            stands = subst (λ (s : Said). responder_stands s.responder s.lanes ≡ true) same so;
          }

none-apart : (i j : ℕ) (d : InterfaceValue) → i < j → j < 0 → ⊥
none-apart i j d lt none = omega (arith, none)

pub read-say : (words : List (List ℕ)) (said : Said) → said_in words ≡ Some said → Say words said
read-say words said e =
    let (h, found, end) = through (finished (list_any is_flag words)) (given_in words) said e in
    let f = said-of (list_any is_flag words) h said end in
    let (options, spelled, gives) =
    read-spelled said.responder words (given said) (sym f.responds) (found ∙ ap (λ (x : Given). Some x) f.are) in
    let adds = fold-adds (values_of interface_option options) [] said.interfaces (omega arith, λ i j d lt none. absurd (none-apart i j d lt none))
    (gives.parts Interfaces) in
    record {
      options = options;
      spelled = spelled;
      known = gives.known;
      node = once-text (values_of node_option options) (Some said.node) (gives.parts Node);
      class = once-text (values_of class_option options) said.class (gives.parts Class);
      interfaces = subst (AllZip _ (values_of interface_option options)) (sym adds.are) adds.say;
      few = adds.table.0;
      apart = adds.table.1;
      next_hop = read-hops V4 (values_of next_hop_option options) said.next_hop (gives.parts NextHop);
      next_hop_v6 = read-hops V6 (values_of next_hop_v6_option options) said.next_hop_v6 (gives.parts NextHopV6);
      beside = by-stand said.next_hop said.next_hop_v6 f.stand;
      lanes = give-named watch_option frame_option options said.lanes f.lanes (gives.parts Watch, gives.parts Frame)
          (ap (λ (x : Given). lanes_of x.lanes) (sym f.are) ∙ f.found);
      beside_lanes = stand-lanes said.responder said.lanes f.stands;
    }
