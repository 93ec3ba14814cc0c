-- What services that share an address have in common.
use Rattle.std.specs.Prelude.{◌≡◌, Bool, false, List, ℕ, [], if◌then◌else◌, Option, Some, None}
use Rattle.std.specs.Str.{bytes_eq}
use Rattle.mlb_base.specs.Items.{is_nil}
use Rattle.sharing_terms.specs.declared.terms.Terms.{Terms}
use Rattle.sharing_terms.specs.Marked.{AreTerms}
use Rattle.sharing_terms.specs.Marks.{mark_of}

-- the terms without their ports
abbrev pub portless : Terms → Terms
portless t = record { key = t.key; ports = []; backend = t.backend }

-- the group of the terms: their sharing key and backend, as the mark of the terms without their ports
unfoldable pub sharing_group_of : Terms → List ℕ
sharing_group_of t = mark_of (portless t)

-- the terms are of this group
abbrev pub is_grouped : List ℕ → Terms → Bool
is_grouped group t = bytes_eq (sharing_group_of t) group

-- the texts of terms with a sharing key are texts, so that no others have their group but those of the same sharing key and backend
abbrev pub HasSharingGroup : Terms → Type 0
HasSharingGroup t = is_nil t.key ≡ false → AreTerms (portless t)

-- the group of terms with a sharing key
abbrev pub group_of : Terms → Option (List ℕ)
group_of t = if is_nil t.key then None else Some (sharing_group_of t)

-- The group is that of the terms.
pub record HasGroup (t : Terms) (group : Option (List ℕ)) : Type 0 where
  pub group_is : group ≡ group_of t
  pub grouped : HasSharingGroup t
