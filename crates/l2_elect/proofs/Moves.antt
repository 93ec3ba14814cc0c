-- Where a member leaves only its own addresses move.
use Rattle.std.proofs.Common.{◌≡◌, ◌≢◌, ◌⊎◌, ℕ, Bool, true, false, not, List, Contains, filter, refl, sym, ap, ◌∙◌, subst, inl, inr}
use Rattle.std.specs.Str.{bytes_eq}
use Rattle.std.proofs.lemmas.Bool.{true≢false}
use Rattle.std.proofs.lemmas.Slice.Eq.{bytes_eq-Decides}
use Rattle.mlb_base.proofs.Lists.{filter-contains, filter-keeps}
use Rattle.ip_ranges.specs.Values.{AddressValue}
use Rattle.speaker_view.specs.ViewValue.{ViewValue}
use Rattle.l2_elect.specs.Eligible.{is_eligible, IsEligible}
use Rattle.l2_elect.specs.Election.{IsAnnouncer}
use Rattle.l2_elect.specs.Moves.{ElectionMovesLeast, without_member}
use Rattle.l2_elect.proofs.Eligibility.{eligible-member, member-eligible}
use Rattle.l2_elect.proofs.Least.{one_announces}

differs : (m gone : List ℕ) → m ≢ gone → not (bytes_eq m gone) ≡ true
differs m gone other = go (bytes_eq m gone) refl where
  go : (b : Bool) → bytes_eq m gone ≡ b → not (bytes_eq m gone) ≡ true
  go true same = absurd (other ((bytes_eq-Decides m gone).0 same))
  go false is = ap not is

stays : (v w : ViewValue) (address : AddressValue) → ((m : List ℕ) → IsEligible w address m → IsEligible v address m)
    → (node : List ℕ) → IsAnnouncer v address node → IsEligible w address node → IsAnnouncer w address node
stays v w address fewer node a eligible = record { eligible = eligible; least = λ m e. a.least m (fewer m e) }

module _ (v : ViewValue) (gone : List ℕ) (address : AddressValue) where
  abbrev w : ViewValue
  w = without_member gone v

  -- who is eligible without it was so with it
  fewer : (m : List ℕ) → IsEligible w address m → IsEligible v address m
  fewer m e =
      let passed = filter-contains (is_eligible w address) w.members m (eligible-member w address m e) in
      let member = filter-contains (λ (n : List ℕ). not (bytes_eq n gone)) v.members m passed.0 in
      member-eligible v address m (filter-keeps (is_eligible v address) v.members m member.0 passed.1)

  -- and all others are still
  others : (m : List ℕ) → m ≢ gone → IsEligible v address m → IsEligible w address m
  others m other e =
      let passed = filter-contains (is_eligible v address) v.members m (eligible-member v address m e) in
      let member = filter-keeps (λ (n : List ℕ). not (bytes_eq n gone)) v.members m passed.0 (differs m gone other) in
      member-eligible w address m (filter-keeps (is_eligible w address) w.members m member passed.1)

  kept : (node : List ℕ) → node ≢ gone → IsAnnouncer v address node → IsAnnouncer w address node
  kept node other a = stays v w address fewer node a (others node other a.eligible)

  moved : (node : List ℕ) → IsAnnouncer w address node → IsAnnouncer v address node ⊎ IsAnnouncer v address gone
  moved node a = let (name, was, one) = one_announces v address node (fewer node a.eligible) in go name was (bytes_eq name gone) refl where
    go : (name : List ℕ) → IsAnnouncer v address name → (b : Bool) → bytes_eq name gone ≡ b → IsAnnouncer v address node ⊎ IsAnnouncer v address gone
    go name was true is = inr (subst (IsAnnouncer v address) ((bytes_eq-Decides name gone).0 is) was)
    go name was false is =
        let other : name ≢ gone = λ same. true≢false (sym ((bytes_eq-Decides name gone).1 same) ∙ is) in
        let (least, now, only) = one_announces w address node a.eligible in
        inl (subst (IsAnnouncer v address) (only name (kept name other was) ∙ sym (only node a)) was)

pub election_moves_least : ElectionMovesLeast
election_moves_least = record { stays = stays; kept = kept; moved = moved }
