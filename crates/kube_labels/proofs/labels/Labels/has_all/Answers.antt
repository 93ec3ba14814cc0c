use Rattle.std.proofs.Common.{◌≡◌, ◌∙◌, ℕ, List, [], ◌∷◌, refl, rules, tests, string_bytes}
use Rattle.std.specs.List.{list_all}
use Rattle.std.specs.Map.{lookup}
use Rattle.std.specs.BTreeMap.{is_at}
use Rattle.std.specs.Ordering.{nat_cmp}
use Rattle.std.specs.Cmp.Lexicographic.{slice_cmp}
use Rattle.std.specs.Prelude.{String}
use Rattle.std.specs.declared.alloc.Global.{Global}
use Rattle.std.proofs.lemmas.Iterator.Consumers.{YieldsList-from_rest}
use Rattle.std.proofs.lemmas.Iterator.Search.{all_from_yields_List}
use Rattle.kube_labels.specs.Pairs.{has_pair, is_found, pairs_of}
use Rattle.kube_labels.proofs.PairLemmas.{value_of-pairs_of}
use Rattle.kube_labels.proofs.labels.Labels.has_all.Goals as goal

-- the look-ups in the map are those in its pairs
all_among : (held wanted : List (String Global × List ℕ))
    → list_all (λ e. is_found e.1 (lookup (is_at (λ k. slice_cmp nat_cmp (string_bytes e.0) (string_bytes k))) held)) wanted
    ≡ list_all (has_pair (pairs_of held)) (pairs_of wanted)
all_among held [] = refl
all_among held (e ∷ es) = rw (all_among held es, value_of-pairs_of held (string_bytes e.0)) refl

pub returns-clause-value : goal.returns-clause-value
returns-clause-value c =
    let held = c.self.inside.values.entries in
    let wanted = c.wanted.inside.values.entries in
    all_from_yields_List (λ e. is_found e.1 (lookup (is_at (λ k. slice_cmp nat_cmp (string_bytes e.0) (string_bytes k))) held)) _ _ c.all.result
    c.all.ensures.ran (YieldsList-from_rest wanted c.iter.ensures.rest) (λ x b q k. search (rules, tests))
    ∙ all_among held wanted
    ∙ rw (c.self.view_is, c.wanted.view_is) refl
