use Rattle.std.proofs.Common.{List, ◌∙◌, ap, sym}
use Rattle.std.proofs.lemmas.Bool.{true≢false}
use Rattle.std.specs.BTreeSet.{BTreeSet}
use Rattle.grouped_keys.specs.Grouped.{in_group}
use Rattle.kube_model.specs.Keys.{key_cmp}
use Rattle.kube_model.specs.declared.key.Key.{Key}
use Rattle.speaker_view.specs.Index.{is_slice}
use Rattle.speaker_view.proofs.index.Index.add_service.Goals as goal

pub returns-else-has_slices-clause-has : goal.returns-else-has_slices-clause-has
returns-else-has_slices-clause-has c =
    let none = c.has_slices.ensures c.if-has_slices.false in
    record {
      under = c.in_ok-add_recorders.ensures.has;
      serves = λ at slice e ready of.
          absurd
          (true≢false (sym (c.requires.slices at slice e ready) ∙ ap (λ (key : Key). is_slice c.args.self.now key at) of
          ∙ ap (λ (entries : List (Key × BTreeSet Key)). in_group key_cmp key_cmp entries c.args.service.now.key at)
          (sym c.in_ok-add_recorders.ensures.slices)
          ∙ none at));
    }
