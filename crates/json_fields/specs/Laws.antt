-- What holds of every field: a path leads through names, one inside the other.
use Rattle.std.specs.Prelude.{◌≡◌, ◌≢◌, ◌⊎◌, List, [], ◌∷◌, ◌++◌, true, false, Option, Some, None, Ok, Err, is_some, ⊤}
use Rattle.serde_json.specs.Data.{Data, null}
use Rattle.serde_json.specs.Find.{get, as_object}
use Rattle.json_fields.specs.Path.{Path}
use Rattle.json_fields.specs.Reading.{behind}

abbrev pub IsObject : Data → Type 0
IsObject d = is_some (as_object d) ≡ true

-- Two values are objects all the way to a place, and are alike but for what stands there.
abbrev pub DifferAt : List Path → Option Data → Option Data → Type 0
DifferAt [] found other = ⊤
DifferAt (name ∷ place) (Some d) (Some e) =
    (IsObject d × IsObject e) × ((other : Path) → other ≢ name → get other d ≡ get other e) × DifferAt place (get name d) (get name e)
DifferAt (name ∷ place) (Some d) None = ⊥
DifferAt (name ∷ place) None other = ⊥

-- The names don't lead to the place, nor through it, nor does the place lie on their way.
abbrev pub LeadElsewhere : List Path → List Path → Type 0
LeadElsewhere (name ∷ names) (at ∷ place) = (name ≢ at) ⊎ ((name ≡ at) × LeadElsewhere names place)
LeadElsewhere (name ∷ names) [] = ⊥
LeadElsewhere [] place = ⊥

-- A member off a path leaves what stands at the path alone.
abbrev pub MemberOffPath : Type 0
MemberOffPath = (path : Path) (names place : List Path) (d e : Data) → DifferAt place (Some d) (Some e) → LeadElsewhere names place
    → behind path names d ≡ behind path names e

-- A member that is null is as one that is absent, at any depth.
abbrev pub NullIsAbsent : Type 0
NullIsAbsent = (path name : Path) (front names : List Path) (d e x y : Data)
    → behind path front d ≡ Ok (Some x) → behind path front e ≡ Ok (Some y) → IsObject x → IsObject y
    → get name x ≡ Some null → get name y ≡ None
    → behind path (front ++ name ∷ names) d ≡ behind path (front ++ name ∷ names) e

-- A parent that is absent gives an absent field.
abbrev pub AbsentParent : Type 0
AbsentParent = (path : Path) (front names : List Path) (d : Data) → behind path front d ≡ Ok None → behind path (front ++ names) d ≡ Ok None

-- A parent that is there and is no object gives the fault of the whole path.
abbrev pub ParentIsNoObject : Type 0
ParentIsNoObject = (path name : Path) (front names : List Path) (d x : Data)
    → behind path front d ≡ Ok (Some x) → is_some (as_object x) ≡ false → behind path (front ++ name ∷ names) d ≡ Err path
