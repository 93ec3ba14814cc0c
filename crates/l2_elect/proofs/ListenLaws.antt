-- The test of listening decides what it should.
use Rattle.std.proofs.Common.{◌≡◌, ◌↔◌, ℕ, Bool, true, List, [], sym, ◌∙◌, Contains, ◌⊎◌, Decides}
use Rattle.std.proofs.lemmas.Bool.{and_parts, and_from}
use Rattle.std.proofs.lemmas.Bool.Decides.{Decides-or}
use Rattle.mlb_base.specs.Items.{is_nil}
use Rattle.mlb_base.proofs.Lists.{Decides-nil}
use Rattle.kube_labels.specs.Names.{has_text}
use Rattle.kube_labels.proofs.NameLaws.{has_text-Decides}
use Rattle.ip_ranges.specs.Values.{AddressValue}
use Rattle.speaker_view.specs.ViewValue.{ViewValue}
use Rattle.l2_elect.specs.Eligible.{advertises}
use Rattle.l2_elect.specs.Election.{announces_of}
use Rattle.l2_elect.specs.Listening.{names_interface, listens_by, is_listened, listens_of, Listens}
use Rattle.l2_elect.proofs.Eligibility.{advertises-Decides}
use Rattle.l2_elect.proofs.Least.{announces-announcer, announcer-announces}
use Rattle.l2_elect.proofs.Passing.{passing, passes-where}

names-Decides : (interfaces : List (List ℕ)) (interface : List ℕ)
    → Decides (names_interface interfaces interface) ((interfaces ≡ []) ⊎ Contains interfaces interface)
names-Decides interfaces interface =
    Decides-or (is_nil interfaces) (has_text interfaces interface) (Decides-nil interfaces) (has_text-Decides interfaces interface)

module _ (v : ViewValue) (node interface : List ℕ) (address : AddressValue) where
  listens-means_so : listens_of v node interface address ≡ true → Listens v node interface address
  listens-means_so h =
      let both = and_parts (announces_of v node address) (is_listened v node interface address) h in
      let found = passing (listens_by v node interface) address v.held.config both.1 in
      let parts = and_parts (advertises v node found.pool found.advertisement) (names_interface found.advertisement.interfaces interface) found.passes in
      let advertised = (advertises-Decides v address node found.pool found.advertisement).0 parts.0 in
      record {
        announcer = announces-announcer v address node both.0;
        advertisement = found.advertisement;
        advertised = record {
          config = found.config;
          there = found.there;
          meant = record {
            in_force = found.in_force;
            pool = found.pool;
            pool_is = found.pool_is;
            chosen = advertised.0;
            selected = advertised.1;
          };
        };
        named = (names-Decides found.advertisement.interfaces interface).0 parts.1;
      }

  so-listens : Listens v node interface address → listens_of v node interface address ≡ true
  so-listens l =
      let by = l.advertised.meant in
      let adv = l.advertisement in
      let passes = and_from (advertises v node by.pool adv) (names_interface adv.interfaces interface)
      ((advertises-Decides v address node by.pool adv).1 (by.chosen, by.selected)) ((names-Decides adv.interfaces interface).1 l.named) in
      and_from (announces_of v node address) (is_listened v node interface address)
      (announcer-announces v address node l.announcer)
      (passes-where (listens_by v node interface) address v.held.config l.advertised.config by.pool adv by.in_force by.pool_is l.advertised.there passes)

  -- what a call answers by the test
  pub listens-means : (answer : Bool) → answer ≡ listens_of v node interface address → (answer ≡ true) ↔ Listens v node interface address
  listens-means answer is = (λ h. listens-means_so (sym is ∙ h), λ l. is ∙ so-listens l)
