use Rattle.std.proofs.Common.{◌≡◌, leb, ap, ◌∙◌}
use Rattle.kube_labels.specs.Names.{name_cmp}
use Rattle.versioned_map.specs.Objects.{is_held, object_at, shown, shown_note, version_at}
use Rattle.object_cache.proofs.Values.{at_value, held-newer}
use Rattle.object_cache.proofs.kinds.show_namespace.Goals as goal

pub returns-clause-newer : goal.returns-clause-newer
returns-clause-newer c =
    let held = c.args.namespaces.now in
    let name = c.args.namespace.name in
    let note : c.in_ok-shown.shown ≡ shown_note name_cmp held name c.args.version c.args.namespace =
    at_value (λ k. c.in_ok-shown.shown ≡ shown_note name_cmp held k c.args.version c.args.namespace) c.copy.result name c.copy.ensures
    c.in_ok-shown.ensures.note in
    c.is_held.ensures ∙ ap is_held note ∙ held-newer (leb c.args.version (version_at name_cmp held name)) c.args.namespace (object_at name_cmp held name)

pub returns-clause-ok : goal.returns-clause-ok
returns-clause-ok c = at_value (λ k. c.show_under.new.held ≡ shown name_cmp c.args.namespaces.now k c.args.version c.args.namespace) c.copy.result
    c.args.namespace.name c.copy.ensures c.in_ok-shown.ensures.ok
