-- The announcer is the least of the eligible nodes, and there is one exactly where a node is eligible.
use Rattle.std.proofs.Common.{Bor, ◌≡◌, ◌↔◌, ℕ, Bool, true, false, cond, List, [], ◌∷◌, filter, length}
use Rattle.std.proofs.Common.{get_or, Option, Some, None, All, Contains, ◌<◌, refl, ap, sym, ◌∙◌, subst}
use Rattle.std.specs.Prelude.{IfNone}
use Rattle.std.specs.Option.{option_copied}
use Rattle.std.specs.declared.cmp.Ordering.{Ordering}
use Rattle.std.specs.declared.cmp.Ordering.TheVariants.{Less, Equal, Greater}
use Rattle.std.specs.Ordering.{nat_cmp, is_lt, is_eq, ordering_reverse}
use Rattle.std.specs.Cmp.{IsTotalOrder, IsStrictWeakOrder, then_total, on_total}
use Rattle.std.specs.Cmp.Lexicographic.{slice_cmp, nat_list_cmp_total, texts_ties}
use Rattle.std.specs.List.{best_of}
use Rattle.std.proofs.lemmas.List.MinMax.{ranks_by, IsFirstBest-from_best_of}
use Rattle.std.proofs.lemmas.List.Elements.{All-contains}
use Rattle.std.proofs.lemmas.List.{get_or_default}
use Rattle.std.proofs.lemmas.Bool.{false≢true}
use Rattle.std.proofs.lemmas.Slice.Eq.{bytes_eq-Decides}
use Rattle.mlb_base.proofs.Among.{contains-none}
use Rattle.mlb_base.proofs.Orders.{both_equal}
use Rattle.ip_ranges.specs.AddressText.{canonical_text}
use Rattle.ip_ranges.specs.Values.{AddressValue}
use Rattle.speaker_view.specs.ViewValue.{ViewValue}
use Rattle.l2_elect.specs.Eligible.{is_eligible, IsEligible}
use Rattle.l2_elect.specs.Election.{comes_before, digest_of, rank_cmp, best_from, announcer_of, is_named}
use Rattle.l2_elect.specs.Election.{announces_of, IsAnnouncer, OneAnnounces, OnlyAnEligibleNodeAnnounces}
use Rattle.l2_elect.proofs.Eligibility.{eligible-member, member-eligible}

rank_total : (text : List ℕ) → IsTotalOrder (rank_cmp text)
rank_total text = then_total (on_total (digest_of text) nat_list_cmp_total) nat_list_cmp_total

pub before_order : (text : List ℕ) → IsStrictWeakOrder (comes_before text)
before_order text = ranks_by (rank_total text) (λ n. n)

best_from-is : (text best : List ℕ) (nodes : List (List ℕ)) → best_from text (Some best) nodes ≡ Some (best_of (comes_before text) best nodes)
best_from-is text best [] = refl
best_from-is text best (n ∷ nodes) = best_from-is text (cond (comes_before text n best) n best) nodes

-- of any list of nodes
pub least_of : (text : List ℕ) (nodes : List (List ℕ)) (n : List ℕ) → best_from text None nodes ≡ Some n
    → Contains nodes n × All (λ m. comes_before text m n ≡ false) nodes
least_of text [] n is = cc
least_of text (a ∷ nodes) n is =
    let first = IsFirstBest-from_best_of (before_order text) a nodes in
    let same : best_of (comes_before text) a nodes ≡ n = (let e = sym (best_from-is text a nodes) ∙ is in cc) in
    let at : get_or (a ∷ nodes) first.0 a ≡ n = first.2 ∙ same in
    let least = λ (k : ℕ) (d : List ℕ) (below : k < length (a ∷ nodes)). subst (λ (x : List ℕ). comes_before text (get_or (a ∷ nodes) k d) x ≡ false)
    (get_or_default (a ∷ nodes) first.0 d a first.1.0 ∙ at) (first.1.1 k d below) in
    ((first.0, first.1.0, get_or_default (a ∷ nodes) first.0 n a first.1.0 ∙ at), least)

pub none_of : (text : List ℕ) (nodes : List (List ℕ)) → best_from text None nodes ≡ None → nodes ≡ []
none_of text [] is = refl
none_of text (a ∷ nodes) is = let e = sym (best_from-is text a nodes) ∙ is in cc

tied : (m n : List ℕ) → slice_cmp nat_cmp m n ≡ Equal → m ≡ n
tied m n h = (bytes_eq-Decides m n).0 (texts_ties m n ∙ ap is_eq h)

level : (r s : Ordering) → r ≡ ordering_reverse s → is_lt r ≡ false → is_lt s ≡ false → r ≡ Equal
level Less s e h k = cc
level Equal s e h k = refl
level Greater Less e h k = cc
level Greater Equal e h k = cc
level Greater Greater e h k = cc

module _ (v : ViewValue) (address : AddressValue) where
  -- no two are the least
  announcer-one : (m n : List ℕ) → IsAnnouncer v address m → IsAnnouncer v address n → m ≡ n
  announcer-one m n hm hn =
      let text = canonical_text address in
      let order = rank_total text in
      tied m n (both_equal _ _ (level (rank_cmp text m n) (rank_cmp text n m) (order.antisymm m n) (hn.least m hm.eligible) (hm.least n hn.eligible))).1

  pub elected-least : (node : List ℕ) → announcer_of v address ≡ Some node → IsAnnouncer v address node
  elected-least node is =
      let nodes = filter (is_eligible v address) v.members in
      let p = least_of (canonical_text address) nodes node is in
      record {
        eligible = member-eligible v address node p.0;
        least = λ m e. All-contains (λ (x : List ℕ). comes_before (canonical_text address) x node ≡ false) nodes m p.1 (eligible-member v address m e);
      }

  pub none-eligible : announcer_of v address ≡ None → (node : List ℕ) → ¬ IsEligible v address node
  none-eligible is node e =
      let nodes = filter (is_eligible v address) v.members in
      contains-none node (subst (λ (ns : List (List ℕ)). Contains ns node) (none_of (canonical_text address) nodes is) (eligible-member v address node e))

  pub least_where : (o : Option (List ℕ)) (node : List ℕ) → announcer_of v address ≡ o → IsAnnouncer v address node → announcer_of v address ≡ Some node
  least_where None node e a = absurd (none-eligible e node a.eligible)
  least_where (Some m) node e a = e ∙ ap (λ (x : List ℕ). Some x) (announcer-one m node (elected-least m e) a)

  -- what a call answers as the announcer
  pub announcer-means : (answer : Option (List ℕ)) → answer ≡ announcer_of v address → (node : List ℕ) → (answer ≡ Some node) ↔ IsAnnouncer v address node
  announcer-means answer is node = (λ e. elected-least node (sym is ∙ e), λ a. is ∙ least_where (announcer_of v address) node refl a)

  pub nobody-means : (answer : Option (Bor (List ℕ))) → option_copied answer ≡ announcer_of v address
      → IfNone answer ((node : List ℕ) → ¬ IsEligible v address node)
  nobody-means None is = none-eligible (sym is)
  nobody-means (Some node) is = tt

  named_where : (o : Option (List ℕ)) (node : List ℕ) → is_named node o ≡ true → o ≡ Some node
  named_where None node h = absurd (false≢true h)
  named_where (Some name) node h = ap (λ (x : List ℕ). Some x) ((bytes_eq-Decides name node).0 h)

  pub announces-announcer : (node : List ℕ) → announces_of v node address ≡ true → IsAnnouncer v address node
  announces-announcer node h = elected-least node (named_where (announcer_of v address) node h)

  pub announcer-announces : (node : List ℕ) → IsAnnouncer v address node → announces_of v node address ≡ true
  announcer-announces node a = ap (is_named node) (least_where (announcer_of v address) node refl a) ∙ (bytes_eq-Decides node node).1 refl

  -- what a call answers by the test
  pub announces-means : (node : List ℕ) (answer : Bool) → answer ≡ announces_of v node address → (answer ≡ true) ↔ IsAnnouncer v address node
  announces-means node answer is = (λ h. announces-announcer node (sym is ∙ h), λ a. is ∙ announcer-announces node a)

  one_where : (o : Option (List ℕ)) (node : List ℕ) → announcer_of v address ≡ o → IsEligible v address node
      → (name : List ℕ) × IsAnnouncer v address name × ((other : List ℕ) → IsAnnouncer v address other → other ≡ name)
  one_where None node e eligible = absurd (none-eligible e node eligible)
  one_where (Some name) node e eligible =
      let a : IsAnnouncer v address name = elected-least name e in
      (name, a, λ other h. announcer-one other name h a)

pub one_announces : OneAnnounces
one_announces v address node eligible = one_where v address (announcer_of v address) node refl eligible

pub only_an_eligible_node_announces : OnlyAnEligibleNodeAnnounces
only_an_eligible_node_announces v address nobody name announcer = nobody name announcer.eligible
