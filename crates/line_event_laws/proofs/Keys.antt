-- The namespace of a key that is read is a text.
use Rattle.std.proofs.Common.{codes}
use Rattle.std.proofs.lemmas.Str.{IsUtf8-nil}
use Rattle.std.specs.Bool.{⊤}
use Rattle.std.specs.Str.{IsUtf8}
use Rattle.json_text_laws.proofs.Readers.{Reads, then_ok, any_ok, reads-name_at}
use Rattle.kube_model.specs.declared.key.Key.{Key}
use Rattle.kube_model.specs.declared.object.Kind.{Kind}
use Rattle.kube_model.specs.declared.object.Kind.TheVariants as kinds
use Rattle.kube_events.specs.Fields.{name_field, namespace_field, key_of}

-- the namespace is a text
abbrev pub HasText : Key → Type 0
HasText key = IsUtf8 key.namespace

reads-namespace : (kind : Kind) → Reads IsUtf8 (namespace_field kind)
reads-namespace kinds.Service = reads-name_at (codes "metadata.namespace")
reads-namespace kinds.Slice = reads-name_at (codes "metadata.namespace")
reads-namespace kinds.Pool = λ d h. IsUtf8-nil
reads-namespace kinds.L2 = λ d h. IsUtf8-nil
reads-namespace kinds.Bgp = λ d h. IsUtf8-nil
reads-namespace kinds.Peer = λ d h. IsUtf8-nil
reads-namespace kinds.Community = λ d h. IsUtf8-nil
reads-namespace kinds.Namespace = λ d h. IsUtf8-nil
reads-namespace kinds.Node = λ d h. IsUtf8-nil

pub reads-key_of : (kind : Kind) → Reads HasText (key_of kind)
unfolding key_of
reads-key_of kind d h =
    then_ok (λ _. ⊤) HasText (name_field d) _ (any_ok (name_field d)) (λ name _.
    then_ok IsUtf8 HasText (namespace_field kind d) _ (reads-namespace kind d h) (λ namespace text. text))
