-- What is read of names, of wanted texts and of words is what they tell.
use Rattle.std.proofs.Common.{◌≡◌, ℕ, List, [], ◌∷◌, Bool, true, false, cond, ◌||◌, length, eqb, Option, Some, None}
use Rattle.std.proofs.Common.{option_map, option_and_then, Result, Ok, Err, refl, sym, ap, ◌∙◌, bytes_eq, codes}
use Rattle.mlb_base.proofs.Lists.{not_empty}
use Rattle.serde_json.specs.Data.{Data, string}
use Rattle.json_fields.specs.Path.{Path, names_of}
use Rattle.json_fields.specs.Reading.{◌>>=◌, is_text, text_of, name_at, tells_at}
use Rattle.kube_model.specs.declared.port.Protocol.{Protocol}
use Rattle.kube_model.specs.declared.port.Protocol.TheVariants.{Tcp, Udp, Sctp}
use Rattle.kube_model.specs.Named.{protocol_named, protocol_of}
use Rattle.field_laws.specs.Standing.{Standing, nothing, astray, here, look}
use Rattle.field_laws.specs.FieldTypes.{any_text, full_text, one_text, required, optional, defaulted}
use Rattle.field_laws.specs.Told.{text_in, unless_empty, is_among, if_among, or_fault, as_put, at_place, standing_tells, told, row_told}
use Rattle.field_laws.specs.Tables.{protocols}
use Rattle.field_laws.specs.Objects.{protocol_with}
use Rattle.field_laws.specs.Events.{is_said}
use Rattle.field_laws.proofs.Places.{Tells, required_row, optional_row}
use Rattle.field_laws.proofs.Types.{text_tells, word_tells}

-- ---- names

abbrev if_full : Path → List ℕ → Result (List ℕ) Path
if_full path name = cond (eqb (length name) 0) (Err path) (Ok name)

full_by : (path : Path) (found : Option (List ℕ))
    → (as_put (λ x. x) (as_put (λ x. x) (at_place path (or_fault found))) >>= if_full path)
    ≡ as_put (λ x. x) (as_put (λ x. x) (at_place path (or_fault (option_and_then unless_empty found))))
full_by path None = refl
full_by path (Some []) = refl
full_by path (Some (c ∷ text)) = rw (not_empty c text) refl

name_by : (path : Path) (at : Standing)
    → (as_put (λ x. x) (standing_tells path (λ x. x) (Err path) (told any_text) at) >>= if_full path)
    ≡ as_put (λ x. x) (standing_tells path (λ x. x) (Err path) (told full_text) at)
name_by path nothing = refl
name_by path astray = refl
name_by path (here d) = full_by path (text_in d)

pub name_row : (path : Path) (d : Data) → name_at path d ≡ as_put (λ name. name) (row_told (required path full_text) d)
unfolding name_at
name_row path d = ap (λ r. r >>= if_full path) (required_row text_of any_text (λ text. text) path text_tells d) ∙ name_by path (look (names_of path) d)

-- ---- whether a text is the one wanted

wanted_placed : (path wanted : Path) (tell : Result (List ℕ) Path)
    → (as_put (option_map (λ x. x)) (as_put (λ x. Some x) (at_place path tell)) >>= λ found. Ok (is_text found wanted))
    ≡ as_put (λ text. bytes_eq text wanted) (as_put (λ x. x) (at_place path tell))
wanted_placed path wanted (Ok text) = refl
wanted_placed path wanted (Err rest) = refl

wanted_by : (path wanted default : Path) → bytes_eq default wanted ≡ false → (at : Standing)
    → (as_put (option_map (λ x. x)) (standing_tells path (λ x. Some x) (Ok None) (told any_text) at) >>= λ found. Ok (is_text found wanted))
    ≡ as_put (λ text. bytes_eq text wanted) (standing_tells path (λ x. x) (Ok default) (told any_text) at)
wanted_by path wanted default other nothing = rw other refl
wanted_by path wanted default other astray = refl
wanted_by path wanted default other (here d) = wanted_placed path wanted (told any_text d)

-- with a default that isn't the text wanted
pub wanted_row : (path wanted default : Path) → bytes_eq default wanted ≡ false → (d : Data)
    → tells_at path wanted d ≡ as_put (λ text. bytes_eq text wanted) (row_told (defaulted path any_text (string default)) d)
unfolding tells_at
wanted_row path wanted default other d =
    ap (λ r. r >>= λ found. Ok (is_text found wanted)) (optional_row text_of any_text (λ text. text) path text_tells d)
    ∙ wanted_by path wanted default other (look (names_of path) d)

there_by : (wanted : Path) (tell : Result (Option (List ℕ)) Path)
    → (as_put (option_map (λ x. x)) tell >>= λ found. Ok (is_text found wanted)) ≡ as_put (λ found. is_said found wanted) tell
there_by wanted (Ok (Some text)) = refl
there_by wanted (Ok None) = refl
there_by wanted (Err path) = refl

-- without one
pub wanted_if_there_row : (path wanted : Path) (d : Data)
    → tells_at path wanted d ≡ as_put (λ found. is_said found wanted) (row_told (optional path any_text) d)
unfolding tells_at
wanted_if_there_row path wanted d =
    ap (λ r. r >>= λ found. Ok (is_text found wanted)) (optional_row text_of any_text (λ text. text) path text_tells d)
    ∙ there_by wanted (row_told (optional path any_text) d)

-- ---- words

protocol_by : (a b c : Bool) (text : List ℕ) (protocol : Protocol) → protocol ≡ cond a Tcp (cond b Udp Sctp)
    → cond a (Some Tcp) (cond b (Some Udp) (cond c (Some Sctp) None)) ≡ option_map (λ it. protocol) (cond (a || (b || (c || false))) (Some text) None)
protocol_by true b c text protocol is = rw is refl
protocol_by false true c text protocol is = rw is refl
protocol_by false false true text protocol is = rw is refl
protocol_by false false false text protocol is = refl

always : (found : Bool) (text : List ℕ)
    → option_map protocol_with (cond found (Some text) None) ≡ option_map (λ it. protocol_with text) (cond found (Some text) None)
always true text = refl
always false text = refl

protocol_names : (text : List ℕ) → protocol_named text ≡ option_map protocol_with (if_among protocols text)
protocol_names text =
    protocol_by (bytes_eq text (codes "TCP")) (bytes_eq text (codes "UDP")) (bytes_eq text (codes "SCTP")) text (protocol_with text) refl
    ∙ sym (always (is_among protocols text) text)

pub protocol_tells : Tells protocol_of (told (one_text protocols)) protocol_with
unfolding protocol_of
protocol_tells d = word_tells protocol_named protocols protocol_with protocol_names d
