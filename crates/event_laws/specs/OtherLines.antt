-- Lines of bookmarks, members and frames.
use Rattle.std.specs.Prelude.{◌≡◌, ◌≢◌, ◌↔◌, ℕ, List, [], ◌∷◌, Some, None, Ok, codes}
use Rattle.std.specs.List.Sorted.{IsStrictlySortedBy}
use Rattle.hex.specs.Hex.{decode_of, encode_lower, IsBytes}
use Rattle.serde_json.specs.Data.{Data, string}
use Rattle.mlb_base.specs.Items.{IsIn}
use Rattle.kube_labels.specs.Names.{name_cmp}
use Rattle.kube_model.specs.declared.event.Event.TheVariants.{ListEnd, Members, Frame, Ignored}
use Rattle.kube_model.specs.declared.event.ListGroup.{ListGroup}
use Rattle.kube_model.specs.declared.object.Kind.{Kind}
use Rattle.kube_events.specs.Members.{members_field}
use Rattle.kube_events.specs.Event.{text_in, listed_in, end_annotation, event_of_line}
use Rattle.event_laws.specs.ObjectLines.{Spells, spelled}
use Rattle.event_laws.specs.Telling.{Tells}

-- ---- bookmarks

-- A bookmark of a kind that has a list ends it where the annotation is true, and else says nothing.
pub record BookmarkIsRead (line : List ℕ) (kind : Kind) (d : Data) : Type 0 where
  pub ends : (group : ListGroup) → listed_in kind ≡ Some group → end_annotation d ≡ Some (codes "true") → event_of_line line ≡ Ok (ListEnd group)
  pub other_kind : listed_in kind ≡ None → event_of_line line ≡ Ok Ignored
  pub not_true : end_annotation d ≢ Some (codes "true") → event_of_line line ≡ Ok Ignored

abbrev pub BookmarksAreRead : Type 0
BookmarksAreRead = (line : List ℕ) (kind : Kind) (d : Data) → Tells line (codes "BOOKMARK") kind d → BookmarkIsRead line kind d

-- ---- members

-- the names ascend, each stands once, and they are the names that the line has
pub record AreMembers (names found : List (List ℕ)) : Type 0 where
  pub ascend : IsStrictlySortedBy name_cmp found
  pub same : (name : List ℕ) → IsIn found name ↔ IsIn names name

-- A line of members is read as its names, ascending and distinct.
abbrev pub MembersAreRead : Type 0
MembersAreRead = (line : List ℕ) (value : Data) (names : List (List ℕ))
    → Spells line value → text_in (codes "type") value ≡ Some (codes "MEMBERS") → members_field value ≡ Ok names
    → (found : List (List ℕ)) × (event_of_line line ≡ Ok (Members found)) × AreMembers names found

-- ---- frames

-- a frame by its interface and its digits
abbrev pub frame_line : List ℕ → List ℕ → Data
frame_line interface digits = spelled (
    (codes "bytes", Some (string digits)) ∷
    (codes "interface", Some (string interface)) ∷
    (codes "type", Some (string (codes "FRAME"))) ∷ [])

-- The line that spells a frame is read as the bytes that its digits stand for.
abbrev pub FramesAreRead : Type 0
FramesAreRead = (line interface digits bytes : List ℕ) → Spells line (frame_line interface digits) → decode_of digits ≡ Ok bytes
    → event_of_line line ≡ Ok (Frame interface bytes)

-- The digits that bytes are written as stand for them.
abbrev pub FramesReadBack : Type 0
FramesReadBack = (line interface bytes : List ℕ) → IsBytes bytes → Spells line (frame_line interface (encode_lower bytes))
    → event_of_line line ≡ Ok (Frame interface bytes)
