-- In what claims are listed at an address.
use Rattle.std.specs.Prelude.{ℕ, Bool, true, ◌&&◌, not, List}
use Rattle.kube_model.specs.declared.port.Port.{Port}
use Rattle.mlb_base.specs.Items.{is_nil}
use Rattle.sharing_terms.specs.declared.terms.Terms.{Terms}
use Rattle.sharing_terms.specs.Sharing.{has_port}
use Rattle.claim_index.specs.Claims.{ClaimValue}
use Rattle.claim_index.specs.SharingGroups.{is_grouped}

-- a list of claims that there is at each address
pub data Slot : Type 0 where
  Any : Slot  -- of all claims
  OfSharingGroup : (group : List ℕ) → Slot  -- of those of this group
  OfPort : (port : Port) → (group : List ℕ) → Slot  -- of those of this group that have this port

-- terms with a sharing key that are of this group
abbrev pub is_member : List ℕ → Terms → Bool
is_member group t = not (is_nil t.key) && is_grouped group t

-- claims under these terms are listed in the slot: in that of all claims, and where they have a sharing key in that of their group and in those of
-- their ports in it
abbrev pub is_slot_of : Terms → Slot → Bool
is_slot_of t Any = true
is_slot_of t (OfSharingGroup group) = is_member group t
is_slot_of t (OfPort port group) = is_member group t && has_port t.ports port

-- the claim is listed in the slot
abbrev pub occupies : Slot → ClaimValue → Bool
occupies slot c = is_slot_of c.terms slot
