-- Reading the members of a text map one after the other, as a loop does.
use Rattle.std.proofs.Common.{◌≡◌, ℕ, List, [], ◌∷◌, true, false, Some, None, is_some, refl, string_bytes}
use Rattle.std.specs.Prelude.{String}
use Rattle.std.specs.declared.alloc.Global.{Global}
use Rattle.serde_json.specs.Find.{as_null, as_str}
use Rattle.serde_json.specs.View.{view, members_view}
use Rattle.serde_json.specs.declared.value.Value.{Value}
use Rattle.kube_labels.specs.Pairs.{with_pair}
use Rattle.json_fields.specs.Reading.{pairs_after}

abbrev pub Pairs : Type 0
Pairs = List (List ℕ × List ℕ)

pub passes_null : (pairs : Pairs) (name : String Global) (value : Value) (rest : List (String Global × Value)) → is_some (as_null (view value)) ≡ true
    → pairs_after pairs (members_view ((name, value) ∷ rest)) ≡ pairs_after pairs (members_view rest)
unfolding pairs_after
passes_null pairs name value rest h = rw h refl

pub refuses : (pairs : Pairs) (name : String Global) (value : Value) (rest : List (String Global × Value)) → is_some (as_null (view value)) ≡ false
    → as_str (view value) ≡ None
    → pairs_after pairs (members_view ((name, value) ∷ rest)) ≡ None
unfolding pairs_after
refuses pairs name value rest h e = rw (h, e) refl

pub takes : (pairs : Pairs) (name : String Global) (value : Value) (rest : List (String Global × Value)) (text : List ℕ)
    → is_some (as_null (view value)) ≡ false → as_str (view value) ≡ Some text
    → pairs_after pairs (members_view ((name, value) ∷ rest)) ≡ pairs_after (with_pair (string_bytes name) text pairs) (members_view rest)
unfolding pairs_after
takes pairs name value rest text h e = rw (h, e) refl

pub is_done : (pairs : Pairs) → pairs_after pairs (members_view []) ≡ Some pairs
unfolding pairs_after
is_done pairs = refl
