use Rattle.std.proofs.Common.{◌≡◌, ◌++◌, string_bytes}
use Rattle.std.specs.List.{flat_map}
use Rattle.kube_labels.specs.Pairs.{pairs_of}
use Rattle.sharing_terms.specs.Marked.{AreTexts}
use Rattle.sharing_terms.specs.Marks.{pair_text}
use Rattle.sharing_terms.proofs.mark.push_pairs.Given as goal

-- what is written and what is left make the whole; where the pairs left are texts, all are
abbrev pub invariant-loop-name : goal.invariant-loop-name
invariant-loop-name l =
    record {
      written : string_bytes l.text ++ flat_map pair_text (pairs_of l.name-iterator) ≡ string_bytes l.fn.text ++ flat_map pair_text l.labels;
      texts : AreTexts (pairs_of l.name-iterator) → AreTexts l.labels;
    }
