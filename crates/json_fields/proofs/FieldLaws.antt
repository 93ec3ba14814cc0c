-- What holds of every field.
use Rattle.std.proofs.Common.{◌≡◌, List, [], ◌∷◌, ◌++◌, false, Option, Some, None, Result, Ok, Err, is_some, refl, sym, ◌∙◌, inl, inr}
use Rattle.serde_json.specs.Data.{Data, null, boolean, number, string, array, object}
use Rattle.serde_json.specs.Find.{get, as_object}
use Rattle.json_fields.specs.Path.{Path}
use Rattle.json_fields.specs.Reading.{◌>>=◌, member_at, behind, where_there, unless_null}
use Rattle.json_fields.specs.Laws.{IsObject, DifferAt, LeadElsewhere, MemberOffPath, NullIsAbsent, AbsentParent, ParentIsNoObject}

then_through : (read : Result (Option Data) Path) (go next : Data → Result (Option Data) Path) (whole : Data → Result (Option Data) Path)
    → ((d : Data) → whole d ≡ (go d >>= where_there next)) → (read >>= where_there whole) ≡ ((read >>= where_there go) >>= where_there next)
then_through (Ok None) go next whole same = refl
then_through (Ok (Some d)) go next whole same = same d
then_through (Err path) go next whole same = refl

-- names, and after them others
pub behind-append : (path : Path) (front names : List Path) (d : Data)
    → behind path (front ++ names) d ≡ (behind path front d >>= where_there (behind path names))
unfolding behind
behind-append path [] names d = refl
behind-append path (name ∷ front) names d =
    then_through (member_at path name d) (behind path front) (behind path names) (behind path (front ++ names)) (behind-append path front names)

through : (path : Path) (front names : List Path) (d x : Data) → behind path front d ≡ Ok (Some x) → behind path (front ++ names) d ≡ behind path names x
through path front names d x at = behind-append path front names d ∙ rw at refl

first_member : (path name : Path) (names : List Path) (d : Data) → IsObject d
    → behind path (name ∷ names) d ≡ where_there (behind path names) (unless_null (get name d))
unfolding behind member_at
first_member path name names d is_object = rw is_object refl

pub null_is_absent : NullIsAbsent
null_is_absent path name front names d e x y at_d at_e object_x object_y here absent =
    through path front (name ∷ names) d x at_d
    ∙ first_member path name names x object_x
    ∙ rw (here, absent) refl
    ∙ sym (first_member path name names y object_y)
    ∙ sym (through path front (name ∷ names) e y at_e)

pub absent_parent : AbsentParent
absent_parent path front names d absent = behind-append path front names d ∙ rw absent refl

no_object : (path name : Path) (names : List Path) (d : Data) → is_some (as_object d) ≡ false → behind path (name ∷ names) d ≡ Err path
unfolding behind member_at
no_object path name names d none = rw none refl

pub parent_is_no_object : ParentIsNoObject
parent_is_no_object path name front names d x at none = through path front (name ∷ names) d x at ∙ no_object path name names x none

there : (d : Data) → IsObject d → unless_null (Some d) ≡ Some d
there null h = absurd cc
there (boolean b) h = refl
there (number n) h = refl
there (string text) h = refl
there (array ds) h = refl
there (object ms) h = refl

elsewhere : (path : Path) (names place : List Path) (found other : Option Data) → DifferAt place found other → LeadElsewhere names place
    → where_there (behind path names) (unless_null found) ≡ where_there (behind path names) (unless_null other)
elsewhere path [] place found other differ apart = absurd apart
elsewhere path (name ∷ names) [] found other differ apart = absurd apart
elsewhere path (name ∷ names) (at ∷ place) None other differ apart = absurd differ
elsewhere path (name ∷ names) (at ∷ place) (Some d) None differ apart = absurd differ
elsewhere path (name ∷ names) (at ∷ place) (Some d) (Some e) differ (inl apart) =
    rw (there d differ.0.0, there e differ.0.1)
    (first_member path name names d differ.0.0 ∙ rw (differ.1 name apart) (sym (first_member path name names e differ.0.1)))
elsewhere path (name ∷ names) (at ∷ place) (Some d) (Some e) differ (inr more) =
    let inner : where_there (behind path names) (unless_null (get at d)) ≡ where_there (behind path names) (unless_null (get at e)) =
    elsewhere path names place (get at d) (get at e) differ.2 more.1 in
    rw (there d differ.0.0, there e differ.0.1) (first_member path name names d differ.0.0 ∙ rw more.0 inner ∙ sym (first_member path name names e differ.0.1))

pub member_off_path : MemberOffPath
member_off_path path [] place d e differ apart = absurd apart
member_off_path path (name ∷ names) [] d e differ apart = absurd apart
member_off_path path (name ∷ names) (at ∷ place) d e differ apart =
    let same : where_there (behind path (name ∷ names)) (unless_null (Some d)) ≡ where_there (behind path (name ∷ names)) (unless_null (Some e)) =
    elsewhere path (name ∷ names) (at ∷ place) (Some d) (Some e) differ apart in
    let full : where_there (behind path (name ∷ names)) (Some d) ≡ where_there (behind path (name ∷ names)) (Some e) =
    rw (there d differ.0.0, there e differ.0.1) at same in
    full
