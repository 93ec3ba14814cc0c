-- What is read of objects and of lines is what their tables tell.
use Rattle.std.proofs.Common.{◌≡◌, map, Result, Ok, Err, refl, ap, ◌∙◌, codes}
use Rattle.std.specs.Result.{result_ok}
use Rattle.hex.specs.Hex.{decode_of}
use Rattle.serde_json.specs.Data.{Data}
use Rattle.json_fields.specs.Path.{Path}
use Rattle.json_fields.specs.Reading.{◌>>=◌, text_of}
use Rattle.kube_model.specs.declared.key.Key.{Key}
use Rattle.kube_model.specs.declared.object.Kind.{Kind}
use Rattle.kube_model.specs.declared.object.Kind.TheVariants as kinds
use Rattle.kube_model.specs.declared.object.Object.{Object}
use Rattle.kube_model.specs.declared.event.Event.TheVariants.{Changed, Deleted}
use Rattle.kube_events.specs.Named.{version_named, version_of}
use Rattle.kube_events.specs.Fields.{key_of, name_field, namespace_field, version_field, labels_field}
use Rattle.kube_events.specs.ServiceFields.{service_of}
use Rattle.kube_events.specs.PoolFields.{pool_of}
use Rattle.kube_events.specs.L2Fields.{l2_of}
use Rattle.kube_events.specs.BgpFields.{bgp_of}
use Rattle.kube_events.specs.PeerFields.{peer_of}
use Rattle.kube_events.specs.CommunityFields.{named_values_field}
use Rattle.kube_events.specs.SliceFields.{slice_of}
use Rattle.kube_events.specs.ObjectFields.{body_of, stated_object, changed_of, deleted_of}
use Rattle.kube_events.specs.Members.{members_field, members_of}
use Rattle.kube_events.specs.Frame.{bytes_of, interface_field, bytes_field, frame_of}
use Rattle.kube_events.proofs.Groups.{group_of_two}
use Rattle.field_laws.specs.FieldTypes.{any_text, version_text, hex_text, Rows, no_rows, ◌▸◌}
use Rattle.field_laws.specs.Told.{Pairs, RowsTold, as_put, told, row_told, rows_told}
use Rattle.field_laws.specs.Tables.{name_row, namespace_row, version_row, labels_row, own_rows, keyed, service_rows}
use Rattle.field_laws.specs.Tables.{pool_rows, l2_rows, bgp_rows, peer_rows, community_rows, slice_rows}
use Rattle.field_laws.specs.Objects.{named_value_with}
use Rattle.field_laws.specs.Events.{service_with, pool_with, l2_with, bgp_with, peer_with, slice_with, object_with, bare_key, key_and, changed_by, stated_by}
use Rattle.field_laws.specs.Laws.{ChangedAsTold, StatedAsTold, DeletedAsTold, MembersAsTold, FramesAsTold}
use Rattle.field_laws.proofs.Places.{Tells, required_row}
use Rattle.field_laws.proofs.Types.{text_tells, named_tells, map_row, texts_row, then_row}
use Rattle.field_laws.proofs.Texts as texts
use Rattle.field_laws.proofs.KindLaws.{service_tells, pool_tells, l2_tells, bgp_tells, peer_tells, community_tells, slice_tells}

-- ---- the key

one_first : {A C D : Type 0} (first : Result A Path) (make : A → C) (next : C → Result D Path)
    → ((first >>= λ a. Ok (make a)) >>= next) ≡ (first >>= λ a. next (make a))
one_first (Ok a) make next = refl
one_first (Err path) make next = refl

full_key : {B : Type 0} (rows : Rows) (next : Key → Result B Path) (whole : Key × RowsTold rows → B) (d : Data)
    → ((key : Key) → next key ≡ as_put (λ told. whole (key, told)) (rows_told rows d))
    → ((name_field d >>= λ name. namespace_field kinds.Service d >>= λ namespace. Ok (record { namespace = namespace; name = name })) >>= next)
    ≡ as_put (λ told. whole (key_and kinds.Service rows told)) (rows_told (name_row ▸ namespace_row ▸ rows) d)
full_key rows next whole d each =
    group_of_two (name_field d) (namespace_field kinds.Service d) (λ name namespace. record { namespace = namespace; name = name }) next
    ∙ then_row (name_field d) _ (row_told name_row d) (rows_told (namespace_row ▸ rows) d) (λ it. it) _ (texts.name_row (codes "metadata.name") d) (λ name _.
    then_row (namespace_field kinds.Service d) _ (row_told namespace_row d) (rows_told rows d) (λ it. it) _ (texts.name_row (codes "metadata.namespace") d)
    (λ namespace _.
    each (record { namespace = namespace; name = name })))

bare : {B : Type 0} (rows : Rows) (next : Key → Result B Path) (whole : Key × RowsTold rows → B) (d : Data)
    → ((key : Key) → next key ≡ as_put (λ told. whole (key, told)) (rows_told rows d))
    → ((name_field d >>= λ name. Ok (bare_key name)) >>= next) ≡ as_put (λ told. whole (key_and kinds.Pool rows told)) (rows_told (name_row ▸ rows) d)
bare rows next whole d each =
    one_first (name_field d) bare_key next
    ∙ then_row (name_field d) _ (row_told name_row d) (rows_told rows d) (λ it. it) _ (texts.name_row (codes "metadata.name") d)
    (λ name _. each (bare_key name))

-- the key, and the rows after it
key_first : {B : Type 0} (kind : Kind) (rows : Rows) (next : Key → Result B Path) (whole : Key × RowsTold rows → B) (d : Data)
    → ((key : Key) → next key ≡ as_put (λ told. whole (key, told)) (rows_told rows d))
    → (key_of kind d >>= next) ≡ as_put (λ told. whole (key_and kind rows told)) (rows_told (keyed kind rows) d)
unfolding key_of
key_first kinds.Service rows next whole d each = full_key rows next whole d each
key_first kinds.Slice rows next whole d each = full_key rows next whole d each
key_first kinds.Pool rows next whole d each = bare rows next whole d each
key_first kinds.L2 rows next whole d each = bare rows next whole d each
key_first kinds.Bgp rows next whole d each = bare rows next whole d each
key_first kinds.Peer rows next whole d each = bare rows next whole d each
key_first kinds.Community rows next whole d each = bare rows next whole d each
key_first kinds.Namespace rows next whole d each = bare rows next whole d each
key_first kinds.Node rows next whole d each = bare rows next whole d each

-- ---- the rest

body_by : {B M X : Type 0} (tell : Result X Path) (make : X → M) (put : M → Key → Pairs → Object) (key : Key) (labels : Pairs) (next : Object → B)
    → ((as_put make tell >>= λ made. Ok (put made)) >>= λ made. Ok (next (made key labels))) ≡ as_put (λ told. next (put (make told) key labels)) tell
body_by (Ok x) make put key labels next = refl
body_by (Err path) make put key labels next = refl

body_from : {B M X : Type 0} (read : Result M Path) (tell : Result X Path) (make : X → M) (put : M → Key → Pairs → Object) (key : Key) (labels : Pairs)
    (next : Object → B)
    → read ≡ as_put make tell
    → ((read >>= λ made. Ok (put made)) >>= λ made. Ok (next (made key labels))) ≡ as_put (λ told. next (put (make told) key labels)) tell
body_from read tell make put key labels next same =
    ap (λ r. (r >>= λ made. Ok (put made)) >>= λ made. Ok (next (made key labels))) same ∙ body_by tell make put key labels next

body_told : {B : Type 0} (kind : Kind) (d : Data) (key : Key) (labels : Pairs) (next : Object → B) → labels_field d ≡ Ok labels
    → (body_of kind d >>= λ make. Ok (next (make key labels))) ≡ as_put (λ told. next (object_with kind key labels told)) (rows_told (own_rows kind) d)
unfolding body_of
body_told kinds.Service d key labels next are =
    body_from (service_of d) (rows_told service_rows d) (λ told key labels. service_with key labels told) _ key labels next (service_tells d)
body_told kinds.Pool d key labels next are =
    body_from (pool_of d) (rows_told pool_rows d) (λ told key labels. pool_with key labels told) _ key labels next (pool_tells d)
body_told kinds.L2 d key labels next are = body_from (l2_of d) (rows_told l2_rows d) (λ told key. l2_with key told) _ key labels next (l2_tells d)
body_told kinds.Bgp d key labels next are = body_from (bgp_of d) (rows_told bgp_rows d) (λ told key. bgp_with key told) _ key labels next (bgp_tells d)
body_told kinds.Peer d key labels next are = body_from (peer_of d) (rows_told peer_rows d) (λ told key. peer_with key told) _ key labels next (peer_tells d)
body_told kinds.Community d key labels next are =
    body_from (named_values_field d) (rows_told community_rows d) (λ told. map named_value_with told.0) _ key labels next (community_tells d)
body_told kinds.Namespace d key labels next are = refl
body_told kinds.Node d key labels next are = refl
body_told kinds.Slice d key labels next are =
    body_from (slice_of d) (rows_told slice_rows d) (λ told key. slice_with key labels told) _ key labels next (slice_tells d labels are)

version_tells : (d : Data) → version_field d ≡ as_put (λ version. version) (row_told version_row d)
unfolding version_of
version_tells d = required_row version_of version_text (λ version. version) (codes "metadata.resourceVersion") (named_tells version_named) d

labels_are : (d : Data) (labels : Pairs) → row_told labels_row d ≡ Ok labels → labels_field d ≡ Ok labels
labels_are d labels are = map_row (codes "metadata.labels") d ∙ rw are refl

-- ---- objects

pub changed_as_told : ChangedAsTold
unfolding changed_of
changed_as_told kind d =
    key_first kind (version_row ▸ labels_row ▸ own_rows kind) _ (changed_by kind) d (λ key.
    then_row (version_field d) _ (row_told version_row d) (rows_told (labels_row ▸ own_rows kind) d) (λ it. it) _ (version_tells d) (λ version _.
    then_row (labels_field d) _ (row_told labels_row d) (rows_told (own_rows kind) d) (λ it. it) _ (map_row (codes "metadata.labels") d) (λ labels are.
    body_told kind d key labels (λ object. Changed version object) (labels_are d labels are))))

pub stated_as_told : StatedAsTold
unfolding stated_object
stated_as_told kind d =
    key_first kind (labels_row ▸ own_rows kind) _ (stated_by kind) d (λ key.
    then_row (labels_field d) _ (row_told labels_row d) (rows_told (own_rows kind) d) (λ it. it) _ (map_row (codes "metadata.labels") d) (λ labels are.
    body_told kind d key labels (λ object. object) (labels_are d labels are)))

pub deleted_as_told : DeletedAsTold
unfolding deleted_of
deleted_as_told kind d =
    key_first kind (version_row ▸ no_rows) _ (λ k. Deleted kind k.0) d (λ key.
    then_row (version_field d) _ (row_told version_row d) (rows_told no_rows d) (λ it. it) _ (version_tells d) (λ version _. refl))

-- ---- lines of their own

pub members_as_told : MembersAsTold
unfolding members_of
members_as_told line = then_row (members_field line) _ _ (rows_told no_rows line) (λ it. it) _ (texts_row (codes "members") line) (λ names _. refl)

bytes_tell : Tells bytes_of (told hex_text) (λ bytes. bytes)
unfolding bytes_of
bytes_tell d = named_tells (λ text. result_ok (decode_of text)) d

pub frames_as_told : FramesAsTold
unfolding frame_of
frames_as_told line =
    then_row (interface_field line) _ _ _ (λ it. it) _ (required_row text_of any_text (λ text. text) (codes "interface") text_tells line) (λ interface _.
    then_row (bytes_field line) _ _ (rows_told no_rows line) (λ it. it) _ (required_row bytes_of hex_text (λ bytes. bytes) (codes "bytes") bytes_tell line)
    (λ bytes _. refl))
