-- On which interfaces a node answers for an address.
use Rattle.std.specs.Prelude.{◌≡◌, ℕ, Bool, ◌&&◌, ◌||◌, List, [], Contains, ◌⊎◌}
use Rattle.ip_ranges.specs.Values.{AddressValue}
use Rattle.kube_labels.specs.Names.{has_text}
use Rattle.mlb_base.specs.Items.{is_nil}
use Rattle.pool_config.specs.declared.compiled.CompiledL2.{CompiledL2}
use Rattle.pool_config.specs.declared.compiled.CompiledPool.{CompiledPool}
use Rattle.speaker_view.specs.ViewValue.{ViewValue}
use Rattle.l2_elect.specs.Eligible.{advertises, passes_in, IsAdvertisedBy}
use Rattle.l2_elect.specs.Election.{announces_of, IsAnnouncer}

-- The node announces the address, and an advertisement by which it does names the interface, or names none (`spec.interfaces`).
pub record Listens (v : ViewValue) (node interface : List ℕ) (address : AddressValue) : Type 0 where
  pub announcer : IsAnnouncer v address node
  pub advertisement : CompiledL2
  pub advertised : IsAdvertisedBy v address node advertisement
  pub named : (advertisement.interfaces ≡ []) ⊎ Contains advertisement.interfaces interface

-- ---- the same as tests
abbrev pub names_interface : List (List ℕ) → List ℕ → Bool
names_interface interfaces interface = is_nil interfaces || has_text interfaces interface

abbrev pub listens_by : ViewValue → List ℕ → List ℕ → CompiledPool → CompiledL2 → Bool
listens_by v node interface pool adv = advertises v node pool adv && names_interface adv.interfaces interface

abbrev pub is_listened : ViewValue → List ℕ → List ℕ → AddressValue → Bool
is_listened v node interface address = passes_in (listens_by v node interface) address v.held.config

abbrev pub listens_of : ViewValue → List ℕ → List ℕ → AddressValue → Bool
listens_of v node interface address = announces_of v node address && is_listened v node interface address
