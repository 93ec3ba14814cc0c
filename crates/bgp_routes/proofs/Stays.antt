-- Where all stays that decides who may announce an address, the same is contributed for it.
use Rattle.std.proofs.Common.{◌≡◌, ℕ, Bool, true, List, [], ◌∷◌, inl, inr, refl, sym, ap, ◌∙◌, subst, Contains}
use Rattle.std.proofs.lemmas.Bool.{false≢true, or_cases, or_left, or_right}
use Rattle.std.specs.List.{list_any}
use Rattle.ip_ranges.specs.Values.{AddressValue, PrefixValue}
use Rattle.mlb_base.specs.Items.{IsIn}
use Rattle.pool_config.specs.declared.compiled.CompiledPeer.{CompiledPeer}
use Rattle.pool_config.specs.Choice.{Selects}
use Rattle.speaker_view.specs.Change.{StaysAt}
use Rattle.speaker_view.specs.ViewValue.{ViewValue}
use Rattle.speaker_view.proofs.Serving.{announced_from-Decides}
use Rattle.bgp_updates.specs.declared.route.Terms.{Terms}
use Rattle.bgp_routes.specs.Stays.{ContributionsStay, IsContributionFor}

pub any-in : {T : Type 0} (p : T → Bool) (xs : List T) (x : T) → IsIn xs x → p x ≡ true → list_any p xs ≡ true
any-in p [] x none h = absurd none
any-in p (y ∷ ys) x (inl here) h = or_left (p y) (list_any p ys) (ap p here ∙ h)
any-in p (y ∷ ys) x (inr later) h = or_right (p y) (list_any p ys) (any-in p ys x later h)

pub in-any : {T : Type 0} (p : T → Bool) (xs : List T) → list_any p xs ≡ true → (x : T) × IsIn xs x × (p x ≡ true)
in-any p [] e = absurd (false≢true e)
in-any p (y ∷ ys) e = elim (or_cases (p y) (list_any p ys) e) [
  | inl here ↦ (y, inl refl, here)
  | inr later ↦ (let rest = in-any p ys later in (rest.0, inr rest.1, rest.2))
]

stays-back : (v w : ViewValue) (nodes : List (List ℕ)) (a : AddressValue) → StaysAt v w nodes a → StaysAt w v nodes a
stays-back v w nodes a stays = record {
  class = sym stays.class;
  config = sym stays.config;
  members = λ node other. ((stays.members node other).1, (stays.members node other).0);
  labels = λ node other. sym (stays.labels node other);
  announced = λ node other. sym (stays.announced node other);
}

contributed-before : (v w : ViewValue) (nodes : List (List ℕ)) (a : AddressValue) → StaysAt v w nodes a → (node : List ℕ) → ¬ (Contains nodes node)
    → (peer : CompiledPeer) (both : Bool) (c : PrefixValue × Terms) → IsContributionFor w node peer both a c → IsContributionFor v node peer both a c
contributed-before v w nodes a stays node other peer both c x =
    let now = x.contribution in
    let at = now.address in
    let here : StaysAt v w nodes at = subst (λ (b : AddressValue). StaysAt v w nodes b) (sym x.address_is) stays in
    let labels = stays.labels node other in
    record {
      contribution = record {
        peer_selects = subst (Selects peer.node_selectors) labels now.peer_selects;
        address = at;
        counts = now.counts;
        announced =
            (announced_from-Decides v at node).0 (sym (here.announced node other) ∙ (announced_from-Decides w at node).1 now.announced);
        advertisement = now.advertisement;
        advertised = record {
          config = now.advertised.config;
          there = now.advertised.there;
          meant = record {
            in_force = sym stays.config ∙ now.advertised.meant.in_force;
            pool = now.advertised.meant.pool;
            pool_is = now.advertised.meant.pool_is;
            chosen = now.advertised.meant.chosen;
            selected = subst (Selects now.advertisement.node_selectors) labels now.advertised.meant.selected;
          };
          named = now.advertised.named;
        };
        is = now.is;
      };
      address_is = x.address_is;
    }

pub contributions_stay : ContributionsStay
contributions_stay v w nodes a stays node other peer both c = (
  contributed-before v w nodes a stays node other peer both c,
  contributed-before w v nodes a (stays-back v w nodes a stays) node other peer both c,
)
