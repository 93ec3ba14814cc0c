-- The value of a line has texts alone.
use Rattle.std.proofs.Common.{ℕ, List, Option, Some, None, option_map, option_and_then, IfSome}
use Rattle.std.proofs.lemmas.Bool.{cond_both}
use Rattle.std.proofs.lemmas.Option.{MatchOption-at_some}
use Rattle.std.proofs.lemmas.Str.{IsUtf8-from_is_utf8}
use Rattle.std.specs.Bool.{⊤}
use Rattle.std.specs.Cmp.Lexicographic.{slice_cmp}
use Rattle.std.specs.Ordering.{nat_cmp, match_ordering}
use Rattle.std.specs.Str.{IsUtf8, is_utf8}
use Rattle.std.specs.declared.cmp.Ordering.{Ordering}
use Rattle.std.specs.declared.cmp.Ordering.TheVariants.{Less, Equal, Greater}
use Rattle.json.specs.Json as json
use Rattle.json.specs.Lex.{tokens}
use Rattle.serde_json.specs.Data.{Data, number, array, object, item, Members, no_members, member, put}
use Rattle.serde_json.specs.Read.{number_of, of_json, of_items, of_members, max_depth, read}
use Rattle.json_values.specs.Line.{value_of_line}
use Rattle.json_text_laws.specs.Texts.{HasTexts, ItemsHaveTexts, MembersHaveTexts, ValuesHaveTexts}
use Rattle.json_text_laws.proofs.Tokens.{tokens_texts}
use Rattle.json_text_laws.proofs.Trees.{JsonTexts, ItemsTexts, MembersTexts, value_found, last_texts}

-- what holds of each of three holds of the one chosen
pub chosen : {A : Type 0} (P : A → Type 0) (o : Ordering) (x y z : A) → P x → P y → P z → P (match_ordering o x y z)
chosen P Less x y z a b c = a
chosen P Equal x y z a b c = b
chosen P Greater x y z a b c = c

pub then_if : {A B : Type 0} (P : A → Type 0) (Q : B → Type 0) (f : A → Option B) (o : Option A) → ((x : A) → P x → IfSome (f x) Q) → IfSome o P
    → IfSome (option_and_then f o) Q
then_if P Q f None each h = tt
then_if P Q f (Some x) each h = each x h

made_if : {A B : Type 0} (P : A → Type 0) (Q : B → Type 0) (f : A → B) (o : Option A) → ((x : A) → P x → Q (f x)) → IfSome o P → IfSome (option_map f o) Q
made_if P Q f None each h = tt
made_if P Q f (Some x) each h = each x h

any : {A : Type 0} (o : Option A) → IfSome o (λ _. ⊤)
any None = tt
any (Some x) = tt

put_texts : (name : List ℕ) (d : Data) (ms : Members) → IsUtf8 name → HasTexts d → MembersHaveTexts ms → MembersHaveTexts (put name d ms)
put_texts name d no_members n h all = (n, h, tt)
put_texts name d (member other e ms) n h all =
    chosen MembersHaveTexts (slice_cmp nat_cmp name other) _ _ _ (n, h, all) (all.0, h, all.2) (all.0, all.1, put_texts name d ms n h all.2)

mutual
  json_text_laws : (j : json.Json) → JsonTexts j → IfSome (of_json j) HasTexts
  json_text_laws json.null h = tt
  json_text_laws (json.boolean b) h = tt
  json_text_laws (json.number s) h = made_if (λ _. ⊤) HasTexts number (number_of s) (λ n _. tt) (any (number_of s))
  json_text_laws (json.string s) h = h
  json_text_laws (json.array js) h = made_if ItemsHaveTexts HasTexts array (of_items js) (λ ds all. all) (items_texts js h)
  json_text_laws (json.object ms) h = made_if MembersHaveTexts HasTexts object (of_members ms no_members) (λ ds all. all) (members_texts ms no_members h tt)

  items_texts : (js : json.Items) → ItemsTexts js → IfSome (of_items js) ItemsHaveTexts
  items_texts json.no_items h = tt
  items_texts (json.item j js) h =
      then_if HasTexts ItemsHaveTexts _ (of_json j)
      (λ d first. made_if ItemsHaveTexts ItemsHaveTexts (item d) (of_items js) (λ ds all. (first, all)) (items_texts js h.1)) (json_text_laws j h.0)

  members_texts : (ms : json.Members) (found : Members) → MembersTexts ms → MembersHaveTexts found → IfSome (of_members ms found) MembersHaveTexts
  members_texts json.no_members found h all = all
  members_texts (json.member name j ms) found h all =
      then_if HasTexts MembersHaveTexts _ (of_json j) (λ d first. members_texts ms (put name d found) h.2 (put_texts name d found h.0 first all))
      (json_text_laws j h.1)

read_texts : (text : List ℕ) → IsUtf8 text → IfSome (read text) HasTexts
read_texts text u =
    then_if JsonTexts HasTexts of_json _ json_text_laws
    (last_texts (json.value max_depth (tokens text)) (value_found max_depth (tokens text) (tokens_texts text u)))

pub value_texts : (line : List ℕ) → IfSome (value_of_line line) HasTexts
unfolding value_of_line
value_texts line = cond_both (is_utf8 line) (read line) None (λ o. IfSome o HasTexts) (λ e. read_texts line (IsUtf8-from_is_utf8 line e)) (λ _. tt)

pub values_have_texts : ValuesHaveTexts
values_have_texts line d e = MatchOption-at_some ⊤ HasTexts d e (value_texts line)
