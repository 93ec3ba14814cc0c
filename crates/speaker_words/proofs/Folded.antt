-- Interfaces that are taken one after the other.
use Rattle.std.proofs.Common.{◌≡◌, ℕ, List, [], ◌∷◌, ◌++◌, Option, Some, sym, ap, ◌∙◌, subst, append-nil}
use Rattle.std.specs.Prelude.{option_and_then}
use Rattle.std.specs.List.{AllZip}
use Rattle.std.proofs.lemmas.List.{append_assoc}
use Rattle.command_options.proofs.Values.{folded, through}
use Rattle.speaker_words.specs.Interface.{InterfaceValue, IsInterface, interface_of}
use Rattle.speaker_words.specs.Reading.{with_one, one_more}
use Rattle.speaker_words.proofs.Interfaces.{IsTable, read-interface, interface-read, takes-one, one-taken, new-name, room-for}

-- The interfaces are those held and, after them, those of the values.
pub record Adds (values : List (List ℕ)) (held is : List InterfaceValue) : Type 0 where
  pub more : List InterfaceValue
  pub are : is ≡ held ++ more
  pub say : AllZip IsInterface values more
  pub table : IsTable is

pub fold-adds : (values : List (List ℕ)) (held is : List InterfaceValue) → IsTable held → folded one_more values held ≡ Some is → Adds values held is
fold-adds [] held is table e =
    let same : held ≡ is = cc in
    record { more = []; are = sym same ∙ sym (append-nil held); say = tt; table = subst IsTable same table }
fold-adds (value ∷ values) held is table e =
    let (next, taken, rest) = through (folded one_more values) (one_more value held) is e in
    let (i, read, one) = through (with_one held) (interface_of value) next taken in
    let (next_are, next_table) = one-taken held next i table one in
    let adds = fold-adds values next is next_table rest in
    record {
      more = i ∷ adds.more;
      are = adds.are ∙ ap (λ (l : List InterfaceValue). l ++ adds.more) next_are ∙ append_assoc held (i ∷ []) adds.more;
      say = (read-interface value i read, adds.say);
      table = adds.table;
    }

pub adds-fold : (values : List (List ℕ)) (held more : List InterfaceValue) → AllZip IsInterface values more → IsTable (held ++ more)
    → folded one_more values held ≡ Some (held ++ more)
adds-fold [] held [] say table = ap (λ (l : List InterfaceValue). Some l) (sym (append-nil held))
adds-fold [] held (i ∷ more) say table = absurd say
adds-fold (value ∷ values) held [] say table = absurd say
adds-fold (value ∷ values) held (i ∷ more) say table =
    let joined : (held ++ i ∷ []) ++ more ≡ held ++ i ∷ more = append_assoc held (i ∷ []) more in
    let taken : with_one held i ≡ Some (held ++ i ∷ []) = takes-one held i (room-for held more i table.0) (new-name held more i table.1) in
    let rest : folded one_more values (held ++ i ∷ []) ≡ Some ((held ++ i ∷ []) ++ more) =
    adds-fold values (held ++ i ∷ []) more say.1 (subst IsTable (sym joined) table) in
    ap (λ (x : Option InterfaceValue). option_and_then (folded one_more values) (option_and_then (with_one held) x)) (interface-read value i say.0)
    ∙ ap (option_and_then (folded one_more values)) taken ∙ rest ∙ ap (λ (l : List InterfaceValue). Some l) joined
