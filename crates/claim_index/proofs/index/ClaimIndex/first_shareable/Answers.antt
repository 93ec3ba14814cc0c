use Rattle.std.proofs.Common.{◌≡◌, ◌+◌, ℕ, get_or, Some, None, refl, sym, subst, ap, ◌∙◌, arith}
use Rattle.std.specs.Map.{values_of}
use Rattle.kube_model.specs.declared.port.Port.{Port}
use Rattle.sharing_terms.specs.declared.terms.Terms.{Terms}
use Rattle.address_holders.specs.declared.slot.NumberedSlot.TheVariants.{OfSharingGroup, OfPort}
use Rattle.claim_index.specs.GroupNumbers.{number_for}
use Rattle.address_holders.specs.Holders.{address_of, claims_having}
use Rattle.claim_index.specs.ListedClaims.{claims_in}
use Rattle.claim_index.specs.Index.{ClaimIndexValue, numbers_at}
use Rattle.claim_index.specs.SharingGroups.{sharing_group_of}
use Rattle.claim_index.specs.Slots.{Slot}
use Rattle.claim_index.specs.Slots as texts
use Rattle.claim_index.proofs.GrowthLaws.{no_port, port-there}
use Rattle.claim_index.proofs.NumberLaws.{group-are, port-are, none-numbered}
use Rattle.claim_index.proofs.ShareLaws.{port-held, open-first, open-beyond, open-some, none-taken, none-listed}
use Rattle.claim_index.proofs.index.ClaimIndex.first_shareable.Goals as goal
use Rattle.claim_index.proofs.index.ClaimIndex.first_shareable.Goals.{After-number}

-- the claims that are listed in a slot
holders : (c : After-number) (s : Slot) → claims_in c.self.inside.groups c.self.inside.holders s ≡ (λ a. numbers_at s a c.args.self.now.items)
holders c =
    subst (λ (v : ClaimIndexValue). (s : Slot) → claims_in c.self.inside.groups c.self.inside.holders s ≡ (λ a. numbers_at s a v.items))
    c.self.view_is c.self.invariant.holders

-- those in the slots of the terms' group, where that has a number
listed : (c : After-number) (group : ℕ) → number_for c.self.inside.groups c.args.terms.now ≡ Some group
    → (claims_having c.self.inside.holders (OfSharingGroup group)
    ≡ (λ a. numbers_at (texts.OfSharingGroup (sharing_group_of c.args.terms.now)) a c.args.self.now.items))
    × ((port : Port) → claims_having c.self.inside.holders (OfPort port group)
    ≡ (λ a. numbers_at (texts.OfPort port (sharing_group_of c.args.terms.now)) a c.args.self.now.items))
listed c group number = (
  group-are c.self.inside.groups c.self.inside.holders c.args.self.now.items (holders c) c.args.terms.now group number,
  λ port. port-are c.self.inside.groups c.self.inside.holders c.args.self.now.items (holders c) c.args.terms.now port group number,
)

pub returns-in_err-group-clause-none : goal.returns-in_err-group-clause-none
returns-in_err-group-clause-none c =
    let items = c.args.self.now.items in
    let terms = c.args.terms.now in
    let none : number_for c.self.inside.groups terms ≡ None = sym c.in_err-group.ensures.number in
    rw c.from_residual.ensures
    (open-some (values_of items) terms c.args.family terms.ports 0 c.args.low (c.args.high + 1) refl
    (open-first (values_of items) terms c.args.family c.args.low (c.args.high + 1)
    (λ m from below. none-listed items (sharing_group_of terms)
    (none-numbered c.self.inside.groups c.self.inside.holders items (holders (goal.at.returns-in_err-group-clause-none c).After-number) terms c.requires none)
    (address_of c.args.family m))))

pub returns-in_err-left-clause-none : goal.returns-in_err-left-clause-none
returns-in_err-left-clause-none c =
    let items = c.args.self.now.items in
    let terms = c.args.terms.now in
    let (grouped, _) = listed (goal.at.returns-in_err-left-clause-none c).After-number c.in_ok-group.group (sym c.in_ok-group.ensures.number) in
    rw c.from_residual-in_err-left.ensures
    (open-some (values_of items) terms c.args.family terms.ports 0 c.args.low (c.args.high + 1) refl
    (open-first (values_of items) terms c.args.family c.args.low (c.args.high + 1)
    (none-taken items c.self.inside.holders (OfSharingGroup c.in_ok-group.group) (sharing_group_of terms) grouped c.args.family c.args.low (c.args.high + 1)
    (λ m from below. c.in_err-left.ensures.none m from (omega (arith, below))))))

pub loop-port-init : goal.loop-port-init
loop-port-init c =
    let items = c.args.self.now.items in
    let terms = c.args.terms.now in
    let (grouped, _) = listed (goal.at.loop-port-init c).After-number c.in_ok-group.group (sym c.in_ok-group.ensures.number) in
    let found = c.in_ok-left.ensures.some in
    record {
      begun = found.0;
      within = found.1;
      none = open-first (values_of items) terms c.args.family c.args.low c.in_ok-left.left
          (none-taken items c.self.inside.holders (OfSharingGroup c.in_ok-group.group) (sharing_group_of terms) grouped c.args.family c.args.low
          c.in_ok-left.left found.3);
    }

pub first_beyond-requires : goal.first_beyond-requires
first_beyond-requires c =
    let group = c.in_ok-group.group in
    let port = get_or c.as_slice-port-items.result.now c.loop-port.port-index no_port in
    let (grouped, ported) = listed (goal.at.first_beyond-requires c).After-number c.in_ok-group.group (sym c.in_ok-group.ensures.number) in
    port-held c.args.self.now.items c.self.inside.holders (OfPort port group) (OfSharingGroup group) (sharing_group_of c.args.terms.now) port
    (ported port) grouped

pub returns-in_err-left-2-clause-none : goal.returns-in_err-left-2-clause-none
returns-in_err-left-2-clause-none c =
    let items = c.args.self.now.items in
    let terms = c.args.terms.now in
    let ports = c.as_slice-port-items.result.now in
    let i = c.loop-port.port-index in
    let port = get_or ports i no_port in
    let (grouped, ported) = listed (goal.at.returns-in_err-left-2-clause-none c).After-number c.in_ok-group.group (sym c.in_ok-group.ensures.number) in
    rw c.from_residual-in_err-left-2.ensures
    (open-some (values_of items) terms c.args.family ports (i + 1) c.args.low (c.args.high + 1)
    (c.as_slice-port-items.ensures.listed ∙ ap (λ (t : Terms). t.ports) c.terms.ensures)
    (open-beyond items c.self.inside.holders (OfSharingGroup c.in_ok-group.group) (OfPort port c.in_ok-group.group) terms c.args.family ports i port
    c.args.low c.loop-port.left (c.args.high + 1) grouped (ported port) c.loop-port-test.true (port-there ports i no_port port c.loop-port-test.true)
    c.loop-port.invariant.none (λ m from below. c.in_err-left-2.ensures.none m from (omega (arith, below)))))

pub loop-port-preserved : goal.loop-port-preserved
loop-port-preserved c =
    let ports = c.as_slice-port-items.result.now in
    let i = c.loop-port.port-index in
    let port = get_or ports i no_port in
    let (grouped, ported) = listed (goal.at.loop-port-preserved c).After-number c.in_ok-group.group (sym c.in_ok-group.ensures.number) in
    let found = c.in_ok-left-2.ensures.some in
    record {
      begun = omega (arith, c.loop-port.invariant.begun, found.0);
      within = found.1;
      none = open-beyond c.args.self.now.items c.self.inside.holders (OfSharingGroup c.in_ok-group.group) (OfPort port c.in_ok-group.group)
          c.args.terms.now c.args.family ports i port c.args.low c.loop-port.left c.in_ok-left-2.left grouped (ported port) c.loop-port-test.true
          (port-there ports i no_port port c.loop-port-test.true) c.loop-port.invariant.none found.3;
    }

pub returns-clause-some : goal.returns-clause-some
returns-clause-some c = (
  c.loop-port.invariant.begun,
  c.loop-port.invariant.within,
  open-some (values_of c.args.self.now.items) c.args.terms.now c.args.family c.as_slice-port-items.result.now c.loop-port.port-index
      c.args.low c.loop-port.left (c.as_slice-port-items.ensures.listed ∙ ap (λ (t : Terms). t.ports) c.terms.ensures) c.loop-port.invariant.none,
)
