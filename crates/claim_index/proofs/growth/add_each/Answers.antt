use Rattle.std.proofs.Common.{◌≡◌, ◌++◌, ◌+◌, take, sym, ap, subst, ◌∙◌}
use Rattle.ip_ranges.specs.Values.{AddressValue}
use Rattle.address_holders.specs.Holders.{AddressHoldersValue, in_slot, claims_having}
use Rattle.claim_index.specs.Index.{numbered, ends_with}
use Rattle.claim_index.proofs.IndexGrowth.{HasRoomFrom, room-next, room-still, listed-next, listed-still, listed-all, ended, not-ended}
use Rattle.claim_index.proofs.growth.add_each.Goals as goal
use Rattle.claim_index.proofs.growth.add_each.Goals.{then-not-ends_with, else-not-ends_with}

pub loop-address-preserved : goal.loop-address-preserved
loop-address-preserved c =
    let addresses = c.args.addresses.now in
    let i = c.loop-address.address-index in
    let x = c.address-item.result in
    let within = c.loop-address-test.true in
    let start = claims_having c.args.holders.now c.args.slot.now in
    let before = claims_having c.loop-address.holders c.args.slot.now in
    let listed = c.loop-address.invariant.numbers in
    let ends = ap (ends_with c.args.number) (sym c.numbers.ensures) ∙ sym c.ends_with.ensures in
    elim c.if-not-ends_with.branch [
      | then-not-ends_with w ↦
          let apart = not-ended addresses i x within c.address-item.is c.args.number start before listed c.requires.fresh (ends ∙ w.if-not-ends_with.true) in
          record {
            room = subst (λ (h : AddressHoldersValue). HasRoomFrom h c.args.slot.now addresses (i + 1)) (sym w.holders-is)
                (room-next addresses i x within c.address-item.is c.args.slot.now c.loop-address.holders c.loop-address.invariant.room w.add.new.self
                w.add.ensures.claims w.add.ensures.addresses);
            numbers = subst (λ (h : AddressHoldersValue). (a : AddressValue)
                → claims_having h c.args.slot.now a ≡ start a ++ numbered c.args.number (take (i + 1) addresses) a) (sym w.holders-is)
                (listed-next addresses i x within c.address-item.is c.args.number start before listed (claims_having w.add.new.self c.args.slot.now) apart
                w.add.ensures.numbers);
            others = λ s differs. ap (λ h. in_slot h s) w.holders-is ∙ w.add.ensures.others s differs ∙ c.loop-address.invariant.others s differs;
          }
      | else-not-ends_with w ↦
          let there = ended addresses i x within c.address-item.is c.args.number start before listed c.requires.fresh (ends ∙ w.if-not-ends_with.false) in
          record {
            room = subst (λ (h : AddressHoldersValue). HasRoomFrom h c.args.slot.now addresses (i + 1)) (sym w.holders-is)
                (room-still addresses i x within c.address-item.is c.args.slot.now c.loop-address.holders c.loop-address.invariant.room);
            numbers = subst (λ (h : AddressHoldersValue). (a : AddressValue)
                → claims_having h c.args.slot.now a ≡ start a ++ numbered c.args.number (take (i + 1) addresses) a) (sym w.holders-is)
                (listed-still addresses i x within c.address-item.is c.args.number start before listed there);
            others = λ s differs. ap (λ h. in_slot h s) w.holders-is ∙ c.loop-address.invariant.others s differs;
          }
    ]

pub returns-clause-numbers : goal.returns-clause-numbers
returns-clause-numbers c =
    listed-all c.args.number (claims_having c.args.holders.now c.args.slot.now) (claims_having c.loop-address.holders c.args.slot.now) c.args.addresses.now
    c.loop-address.address-index
    c.loop-address-test.false c.loop-address.invariant.numbers
