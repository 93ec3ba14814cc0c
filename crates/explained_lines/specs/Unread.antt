-- What is told as unused does nothing, whatever stands there.
use Rattle.std.specs.Prelude.{◌≡◌, ℕ, List, [], ◌∷◌, Some, All, codes}
use Rattle.serde_json.specs.Data.{Data}
use Rattle.json_fields.specs.Laws.{DifferAt}
use Rattle.kube_model.specs.declared.object.Kind.{Kind}
use Rattle.kube_events.specs.ObjectFields.{changed_of, stated_object}
use Rattle.explained_lines.specs.Unused.{unread_members}

-- two objects that are alike but for this member of their specs
abbrev pub DifferInSpec : List ℕ → Data → Data → Type 0
DifferInSpec name d e = DifferAt (codes "spec" ∷ name ∷ []) (Some d) (Some e)

-- Objects of the kind that are alike but for this member of their specs are read as the same one, or refused alike: in an event that shows them,
-- and in a review, where they have no version yet.
pub record IsUnread (kind : Kind) (name : List ℕ) : Type 0 where
  pub shown : (d e : Data) → DifferInSpec name d e → changed_of kind d ≡ changed_of kind e
  pub stated : (d e : Data) → DifferInSpec name d e → stated_object kind d ≡ stated_object kind e

abbrev pub MembersAreUnread : Kind → Type 0
MembersAreUnread kind = All (IsUnread kind) (unread_members kind)
