-- What is read of the parts of objects is what their rows tell.
use Rattle.std.proofs.Common.{◌≡◌, Bool, true, map, Option, Some, None, option_map, unwrap_or, Result, Ok, Err, refl, ◌∙◌, codes}
use Rattle.serde_json.specs.Data.{Data, string, number, unsigned}
use Rattle.json_fields.specs.Path.{Path}
use Rattle.json_fields.specs.Reading.{optional_at, required_at, default_at, list_at, labels_at, text_of, bool_of, number_in}
use Rattle.json_fields.specs.Expressions.{expression_of}
use Rattle.kube_model.specs.declared.port.Protocol.TheVariants.{Tcp}
use Rattle.kube_model.specs.Named.{protocol_of}
use Rattle.kube_model.specs.PortFields.{port_of}
use Rattle.kube_model.specs.AllocationFields.{allocation_of}
use Rattle.kube_model.specs.EndpointFields.{endpoint_of, usable_of}
use Rattle.kube_model.specs.SelectorFields.{selector_of}
use Rattle.field_laws.specs.FieldTypes.{FieldType, any_text, true_or_false, whole_number, one_text, an_object, optional, no_rows}
use Rattle.field_laws.specs.Told.{Told, as_put, told, row_told, rows_told}
use Rattle.field_laws.specs.Tables.{listed, protocols, expression_rows, selector_rows, port_rows, allocation_rows, endpoint_rows}
use Rattle.field_laws.specs.Objects.{expression_with, selector_with, protocol_with, port_with, allocation_with, endpoint_with}
use Rattle.field_laws.proofs.Places.{Tells, required_row, optional_row, default_row}
use Rattle.field_laws.proofs.Types.{text_tells, truth_tells, number_tells, map_row, list_row, texts_row, then_row, object_tells}
use Rattle.field_laws.proofs.Texts.{protocol_tells}

some_itself : {A : Type 0} (tell : Result (Option A) Path) → as_put (option_map (λ x. x)) tell ≡ as_put (λ found. found) tell
some_itself (Ok (Some x)) = refl
some_itself (Ok None) = refl
some_itself (Err path) = refl

-- a field that may be absent, of a type whose values are read as they are told
pub plain_optional_row : (type : FieldType) (read : Data → Result (Told type) Path) (path : Path) → Tells read (told type) (λ x. x) → (d : Data)
    → optional_at read path d ≡ as_put (λ found. found) (row_told (optional path type) d)
plain_optional_row type read path same d = optional_row read type (λ x. x) path same d ∙ some_itself (row_told (optional path type) d)

pub expression_tells : Tells expression_of (told (an_object expression_rows)) expression_with
unfolding expression_of
expression_tells d = object_tells d _ expression_rows expression_with (
    then_row (required_at text_of (codes "key") d) _ _ _ (λ key. key) _ (required_row text_of any_text (λ text. text) (codes "key") text_tells d) (λ key _.
    then_row (required_at text_of (codes "operator") d) _ _ _ (λ operator. operator)
    _ (required_row text_of any_text (λ text. text) (codes "operator") text_tells d) (λ operator _.
    then_row (list_at text_of (codes "values") d) _ _ (rows_told no_rows d) (λ values. values) _ (texts_row (codes "values") d) (λ values _. refl))))

pub selector_tells : Tells selector_of (told (an_object selector_rows)) selector_with
unfolding selector_of
selector_tells d = object_tells d _ selector_rows selector_with (
    then_row (labels_at (codes "matchLabels") d) _ _ _ (λ labels. labels) _ (map_row (codes "matchLabels") d) (λ labels _.
    then_row (list_at expression_of (codes "matchExpressions") d) _ _ (rows_told no_rows d) (map expression_with)
    _ (list_row expression_of (an_object expression_rows) expression_with (codes "matchExpressions") expression_tells d) (λ expressions _. refl)))

pub selectors_row : (path : Path) (d : Data) → list_at selector_of path d ≡ as_put (map selector_with) (row_told (listed path (an_object selector_rows)) d)
selectors_row path d = list_row selector_of (an_object selector_rows) selector_with path selector_tells d

pub port_tells : Tells port_of (told (an_object port_rows)) port_with
unfolding port_of
port_tells d = object_tells d _ port_rows port_with (
    then_row (default_at protocol_of (codes "protocol") Tcp d) _ _ _ protocol_with
    _ (default_row protocol_of (one_text protocols) protocol_with (codes "protocol") Tcp (string (codes "TCP")) protocol_tells refl d) (λ protocol _.
    then_row (required_at (number_in 1 65535) (codes "port") d) _ _ (rows_told no_rows d) (λ port. port)
    _ (required_row (number_in 1 65535) (whole_number 1 65535) (λ n. n) (codes "port") (number_tells 1 65535) d) (λ port _. refl)))

pub allocation_tells : Tells allocation_of (told (an_object allocation_rows)) allocation_with
unfolding allocation_of
allocation_tells d = object_tells d _ allocation_rows allocation_with (
    then_row (default_at (number_in 0 2147483647) (codes "priority") 0 d) _ _ _ (λ priority. priority) _ (default_row (number_in 0 2147483647)
    (whole_number 0 2147483647) (λ n. n) (codes "priority") 0 (number (unsigned 0)) (number_tells 0 2147483647) refl d) (λ priority _.
    then_row (list_at text_of (codes "namespaces") d) _ _ _ (λ namespaces. namespaces) _ (texts_row (codes "namespaces") d) (λ namespaces _.
    then_row (list_at selector_of (codes "namespaceSelectors") d) _ _ _ (map selector_with) _ (selectors_row (codes "namespaceSelectors") d)
    (λ namespace_selectors _.
    then_row (list_at selector_of (codes "serviceSelectors") d) _ _ (rows_told no_rows d) (map selector_with) _ (selectors_row (codes "serviceSelectors") d)
    (λ service_selectors _. refl)))))

usable_same : (ready serving : Option Bool) → usable_of ready serving ≡ unwrap_or serving (unwrap_or ready true)
usable_same ready (Some serving) = refl
usable_same (Some ready) None = refl
usable_same None None = refl

pub endpoint_tells : Tells endpoint_of (told (an_object endpoint_rows)) endpoint_with
unfolding endpoint_of
endpoint_tells d = object_tells d _ endpoint_rows endpoint_with (
    then_row (optional_at text_of (codes "nodeName") d) _ _ _ (λ node. node) _ (plain_optional_row any_text text_of (codes "nodeName") text_tells d) (λ node _.
    then_row (optional_at bool_of (codes "conditions.ready") d) _ _ _ (λ ready. ready)
    _ (plain_optional_row true_or_false bool_of (codes "conditions.ready") truth_tells d) (λ ready _.
    then_row (optional_at bool_of (codes "conditions.serving") d) _ _ (rows_told no_rows d) (λ serving. serving)
    _ (plain_optional_row true_or_false bool_of (codes "conditions.serving") truth_tells d) (λ serving _.
    rw (usable_same ready serving) refl))))
