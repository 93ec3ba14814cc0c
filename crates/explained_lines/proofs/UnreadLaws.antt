-- A member that no row of a table leads to isn't read by the table.
use Rattle.std.proofs.Common.{◌≡◌, ℕ, ◌&&◌, List, [], ◌∷◌, Bool, true, false, Some, None, Ok, Err, get_or, codes, refl, sym, ap, ◌∙◌, inl, inr}
use Rattle.std.specs.Prelude.{if◌then◌else◌}
use Rattle.std.specs.List.{list_all}
use Rattle.std.specs.Str.{bytes_eq}
use Rattle.std.proofs.lemmas.List.Sums.{AllPass-from_list_all}
use Rattle.std.proofs.lemmas.Slice.Eq.{bytes_eq-Decides}
use Rattle.serde_json.specs.Data.{Data}
use Rattle.json_fields.specs.Path.{Path, names_of}
use Rattle.json_fields.specs.Laws.{DifferAt, LeadElsewhere}
use Rattle.json_fields.proofs.FieldLaws.{member_off_path}
use Rattle.kube_model.specs.declared.object.Kind.{Kind}
use Rattle.kube_model.specs.declared.object.Kind.TheVariants as kinds
use Rattle.field_laws.specs.Standing.{Standing, nothing, astray, here, look}
use Rattle.field_laws.specs.FieldTypes.{Row, required, optional, defaulted, Rows, no_rows, ◌▸◌}
use Rattle.field_laws.specs.Told.{as_put, standing_tells, told, row_told, rows_told}
use Rattle.field_laws.specs.Tables.{changed_rows, stated_rows}
use Rattle.field_laws.specs.Events.{changed_with, stated_with}
use Rattle.field_laws.proofs.Places.{found_as, found_as_it_stands}
use Rattle.field_laws.proofs.ObjectLaws.{changed_as_told, stated_as_told}
use Rattle.explained_lines.specs.Unused.{unread_members}
use Rattle.explained_lines.specs.Unread.{IsUnread, MembersAreUnread}

both_pass : (a b : Bool) → (a && b) ≡ true → (a ≡ true) × (b ≡ true)
both_pass true b e = (refl, e)
both_pass false b e = absurd cc

-- ---- one path

-- whether the names lead to another place than this one, by their texts
abbrev leads_elsewhere : List Path → List Path → Bool
leads_elsewhere [] place = false
leads_elsewhere (name ∷ names) [] = false
leads_elsewhere (name ∷ names) (at ∷ place) = if bytes_eq name at then leads_elsewhere names place else true

found_apart : (path : Path) (s t : Standing) → found_as path s ≡ found_as path t → s ≡ t
found_apart path nothing nothing e = refl
found_apart path nothing astray e = absurd cc
found_apart path nothing (here d) e = absurd cc
found_apart path astray nothing e = absurd cc
found_apart path astray astray e = refl
found_apart path astray (here d) e = absurd cc
found_apart path (here d) nothing e = absurd cc
found_apart path (here d) astray e = absurd cc
found_apart path (here d) (here c) e = cc

leads_on : (name at : Path) (names place : List Path) (same : Bool) → bytes_eq name at ≡ same
    → (leads_elsewhere names place ≡ true → LeadElsewhere names place)
    → (if same then leads_elsewhere names place else true) ≡ true → LeadElsewhere (name ∷ names) (at ∷ place)
leads_on name at names place true is next apart = inr ((bytes_eq-Decides name at).0 is, next apart)
leads_on name at names place false is next apart = inl (λ e. let same : bytes_eq name at ≡ true = (bytes_eq-Decides name at).1 e in absurd (cc (same, is)))

leads : (names place : List Path) → leads_elsewhere names place ≡ true → LeadElsewhere names place
leads [] place apart = absurd cc
leads (name ∷ names) [] apart = absurd cc
leads (name ∷ names) (at ∷ place) apart = leads_on name at names place (bytes_eq name at) refl (leads names place) apart

look_same : (names place : List Path) (d e : Data) → leads_elsewhere names place ≡ true → DifferAt place (Some d) (Some e) → look names d ≡ look names e
look_same names place d e apart differ = found_apart [] (look names d) (look names e)
    (sym (found_as_it_stands [] names d) ∙ member_off_path [] names place d e differ (leads names place apart) ∙ found_as_it_stands [] names e)

-- ---- a table

abbrev path_of : Row → Path
path_of (required path type) = path
path_of (optional path type) = path
path_of (defaulted path type default) = path

abbrev rows_lead_elsewhere : Rows → List Path → Bool
rows_lead_elsewhere no_rows place = true
rows_lead_elsewhere (row ▸ rows) place = leads_elsewhere (names_of (path_of row)) place && rows_lead_elsewhere rows place

row_same : (row : Row) (d e : Data) → look (names_of (path_of row)) d ≡ look (names_of (path_of row)) e → row_told row d ≡ row_told row e
row_same (required path type) d e same = ap (standing_tells path (λ x. x) (Err path) (told type)) same
row_same (optional path type) d e same = ap (standing_tells path (λ x. Some x) (Ok None) (told type)) same
row_same (defaulted path type default) d e same = ap (standing_tells path (λ x. x) (told type default) (told type)) same

rows_same : (rows : Rows) (place : List Path) (d e : Data) → rows_lead_elsewhere rows place ≡ true → DifferAt place (Some d) (Some e)
    → rows_told rows d ≡ rows_told rows e
rows_same no_rows place d e apart differ = refl
rows_same (row ▸ rows) place d e apart differ =
    let first : leads_elsewhere (names_of (path_of row)) place ≡ true = (both_pass _ _ apart).0 in
    let others : rows_lead_elsewhere rows place ≡ true = (both_pass _ _ apart).1 in
    rw (row_same row d e (look_same (names_of (path_of row)) place d e first differ), rows_same rows place d e others differ) refl

-- ---- each kind

abbrev is_unread : Kind → List ℕ → Bool
is_unread kind name = rows_lead_elsewhere (changed_rows kind) (codes "spec" ∷ name ∷ []) && rows_lead_elsewhere (stated_rows kind) (codes "spec" ∷ name ∷ [])

unread_where : (kind : Kind) (name : List ℕ) → is_unread kind name ≡ true → IsUnread kind name
unread_where kind name apart = record {
  shown = λ d e differ. changed_as_told kind d
      ∙ ap (as_put (changed_with kind)) (rows_same (changed_rows kind) (codes "spec" ∷ name ∷ []) d e ((both_pass _ _ apart).0) differ)
      ∙ sym (changed_as_told kind e);
  stated = λ d e differ. stated_as_told kind d
      ∙ ap (as_put (stated_with kind)) (rows_same (stated_rows kind) (codes "spec" ∷ name ∷ []) d e ((both_pass _ _ apart).1) differ)
      ∙ sym (stated_as_told kind e);
}

all_apart : (kind : Kind) → list_all (is_unread kind) (unread_members kind) ≡ true
all_apart kinds.Pool = refl
all_apart kinds.L2 = refl
all_apart kinds.Bgp = refl
all_apart kinds.Peer = refl
all_apart kinds.Community = refl
all_apart kinds.Service = refl
all_apart kinds.Namespace = refl
all_apart kinds.Node = refl
all_apart kinds.Slice = refl

pub members_are_unread : (kind : Kind) → MembersAreUnread kind
members_are_unread kind = λ k d within.
    unread_where kind (get_or (unread_members kind) k d) (AllPass-from_list_all (is_unread kind) (unread_members kind) (all_apart kind) k d within)
