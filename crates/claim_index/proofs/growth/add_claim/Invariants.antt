use Rattle.std.proofs.Common.{◌≡◌, length, take, drop}
use Rattle.std.specs.List.{Contains}
use Rattle.address_holders.specs.declared.slot.NumberedSlot.{NumberedSlot}
use Rattle.address_holders.specs.Holders.{claims_having}
use Rattle.claim_index.specs.ListedClaims.{HasRoomAt}
use Rattle.claim_index.specs.Index.{numbered}
use Rattle.claim_index.specs.GroupSlots.{slots_by}
use Rattle.claim_index.proofs.GrowthLaws.{among, with_more}
use Rattle.claim_index.proofs.growth.add_claim.Given as goal

abbrev pub invariant-loop-index : goal.invariant-loop-index
invariant-loop-index l =
    record {
      room : (s : NumberedSlot) → Contains (drop l.index (slots_by l.group l.claim.terms.ports)) s
          → HasRoomAt l.holders (length l.claim.holding.addresses) s l.claim.holding.addresses;
      numbers : (s : NumberedSlot) → claims_having l.holders s
          ≡ with_more (numbered l.number l.claim.holding.addresses) l.fn.holders (among (take l.index (slots_by l.group l.claim.terms.ports))) s;
    }
