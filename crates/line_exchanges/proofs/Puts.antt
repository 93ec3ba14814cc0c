-- What the line of a put says can be read off it.
use Rattle.std.proofs.Common.{◌≡◌, ℕ, ◌<◌, ◌^◌, true, false, List, [], ◌∷◌, ◌++◌, map, Some, codes, decimal, refl, sym, ap, ◌∙◌, append_assoc}
use Rattle.std.specs.List.{AllByRecursion}
use Rattle.std.proofs.lemmas.Fmt.{decimal_injective}
use Rattle.json.specs.Lex.{tokens}
use Rattle.json.specs.Print.{quoted, print, print_from, ArePrintable}
use Rattle.json.specs.Token.{Token, begin_array, begin_object, end_array, end_object, key, number, string}
use Rattle.json.proofs.Printed.Decimals.{IsNumber-decimal}
use Rattle.json.proofs.Printed.Tokens.{tokens-print}
use Rattle.serde_json.proofs.OnLiterals.{serde_json_on_literals}
use Rattle.ip_ranges.specs.Values.{AddressValue, IsOfFamily}
use Rattle.ip_ranges.specs.AddressText.{canonical_text}
use Rattle.kube_lines.specs.Apart.{is_plain}
use Rattle.kube_lines.specs.OutputLines.{addresses_text, put_text, quoted_texts}
use Rattle.kube_lines.proofs.Apart.{one-address}
use Rattle.kube_model.specs.declared.put.Put.{Put}
use Rattle.line_exchanges.specs.Puts.{CanBePut, PutLinesSayOne}
use Rattle.line_exchanges.proofs.Lines.{digits-plain, plain-append, quoted-plain}

-- ---- it is one line
texts-plain : (texts : List (List ℕ)) (rest : List ℕ) → is_plain rest ≡ true → is_plain (quoted_texts texts ++ rest) ≡ true
texts-plain [] rest plain = plain
texts-plain (text ∷ []) rest plain = quoted-plain text rest plain
texts-plain (text ∷ next ∷ texts) rest plain =
    ap is_plain (append_assoc (quoted text) (44 ∷ quoted_texts (next ∷ texts)) rest)
    ∙ quoted-plain text (44 ∷ (quoted_texts (next ∷ texts) ++ rest)) (texts-plain (next ∷ texts) rest plain)

put-plain : (put : Put) → is_plain (put_text put) ≡ true
put-plain put =
    plain-append (addresses_text put.holding.addresses) _ (texts-plain (map canonical_text put.holding.addresses) (93 ∷ []) refl)
    (quoted-plain put.holding.mark _ (quoted-plain put.key.name _ (quoted-plain put.key.namespace _ (quoted-plain put.holding.pool _
    (plain-append (decimal put.version) _ (digits-plain put.version) refl)))))

-- ---- and that of one put
-- texts as they are read, and what follows them
abbrev strings : List AddressValue → List Token → List Token
strings [] rest = rest
strings (a ∷ more) rest = string (canonical_text a) ∷ strings more rest

abbrev behind_addresses : Put → List Token
behind_addresses put =
    end_array ∷ key (codes "mark") ∷ string put.holding.mark ∷ key (codes "name") ∷ string put.key.name ∷ key (codes "namespace") ∷ string put.key.namespace
    ∷ key (codes "op") ∷ string (codes "put") ∷ key (codes "pool") ∷ string put.holding.pool ∷ key (codes "version") ∷ number (decimal put.version)
    ∷ end_object ∷ []

abbrev put_tokens : Put → List Token
put_tokens put = begin_object ∷ key (codes "addresses") ∷ begin_array ∷ strings put.holding.addresses (behind_addresses put)

strings-printable : (addresses : List AddressValue) (rest : List Token) → ArePrintable rest → ArePrintable (strings addresses rest)
unfolding ArePrintable
strings-printable [] rest can = can
strings-printable (a ∷ more) rest can = (tt, strings-printable more rest can)

put-printable : (put : Put) → put.version < 2 ^ 64 → ArePrintable (put_tokens put)
unfolding ArePrintable
put-printable put fits =
    let behind : ArePrintable (behind_addresses put) =
    (tt, (tt, (tt, (tt, (tt, (tt, (tt, (tt, (tt, (tt, (tt, (tt, (IsNumber-decimal put.version fits, (tt, tt)))))))))))))) in
    (tt, (tt, (tt, strings-printable put.holding.addresses (behind_addresses put) behind)))

-- more of them, after one
strings-more : (a : AddressValue) (more : List AddressValue) (rest : List Token)
    → print_from true (strings (a ∷ more) (end_array ∷ rest)) ≡ 44 ∷ (quoted_texts (map canonical_text (a ∷ more)) ++ 93 ∷ print_from true rest)
unfolding print_from
strings-more a [] rest = refl
strings-more a (b ∷ more) rest =
    ap (λ (text : List ℕ). 44 ∷ (quoted (canonical_text a) ++ text)) (strings-more b more rest)
    ∙ ap (λ (text : List ℕ). 44 ∷ text)
    (sym (append_assoc (quoted (canonical_text a)) (44 ∷ quoted_texts (map canonical_text (b ∷ more))) (93 ∷ print_from true rest)))

strings-print : (addresses : List AddressValue) (rest : List Token)
    → print_from false (strings addresses (end_array ∷ rest)) ≡ quoted_texts (map canonical_text addresses) ++ 93 ∷ print_from true rest
unfolding print_from
strings-print [] rest = refl
strings-print (a ∷ []) rest = refl
strings-print (a ∷ b ∷ more) rest =
    ap (λ (text : List ℕ). quoted (canonical_text a) ++ text) (strings-more b more rest)
    ∙ sym (append_assoc (quoted (canonical_text a)) (44 ∷ quoted_texts (map canonical_text (b ∷ more))) (93 ∷ print_from true rest))

put-prints : (put : Put) → print (put_tokens put) ≡ put_text put
unfolding serde_json_on_literals print_from
put-prints put =
    let texts = quoted_texts (map canonical_text put.holding.addresses) in
    let rest : List Token =
    key (codes "mark") ∷ string put.holding.mark ∷ key (codes "name") ∷ string put.key.name ∷ key (codes "namespace") ∷ string put.key.namespace
    ∷ key (codes "op") ∷ string (codes "put") ∷ key (codes "pool") ∷ string put.holding.pool ∷ key (codes "version") ∷ number (decimal put.version)
    ∷ end_object ∷ [] in
    ap (λ (text : List ℕ). codes "{\"addresses\":" ++ (91 ∷ text)) (strings-print put.holding.addresses rest)
    ∙ ap (λ (text : List ℕ). codes "{\"addresses\":" ++ (91 ∷ text)) (sym (append_assoc texts (93 ∷ []) (print_from true rest)))

put-said : (put : Put) → put.version < 2 ^ 64 → tokens (put_text put) ≡ put_tokens put
put-said put fits = ap tokens (sym (put-prints put)) ∙ tokens-print (put_tokens put) (put-printable put fits)

same-strings : (these those : List AddressValue) (xs ys : List Token) → AllByRecursion IsOfFamily these → AllByRecursion IsOfFamily those
    → strings these (end_array ∷ xs) ≡ strings those (end_array ∷ ys) → (these ≡ those) × (xs ≡ ys)
same-strings [] [] xs ys fit fit' e = (refl, (cc))
same-strings [] (b ∷ those) xs ys fit fit' e = absurd (cc)
same-strings (a ∷ these) [] xs ys fit fit' e = absurd (cc)
same-strings (a ∷ these) (b ∷ those) xs ys fit fit' e =
    let texts : canonical_text a ≡ canonical_text b = cc in
    let tails : strings these (end_array ∷ xs) ≡ strings those (end_array ∷ ys) = cc in
    let head = one-address a b fit.0 fit'.0 texts in
    let more = same-strings these those xs ys fit.1 fit'.1 tails in
    (rw (head, more.0) refl, more.1)

one-put : (put other : Put) → CanBePut put → CanBePut other → put_text put ≡ put_text other → put ≡ other
one-put put other can can' same =
    let said : put_tokens put ≡ put_tokens other = sym (put-said put can.version) ∙ ap tokens same ∙ put-said other can'.version in
    let inner : strings put.holding.addresses (behind_addresses put) ≡ strings other.holding.addresses (behind_addresses other) = cc in
    let found = same-strings put.holding.addresses other.holding.addresses _ _ can.addresses can'.addresses inner in
    let rest = found.1 in
    let mark : put.holding.mark ≡ other.holding.mark = cc in
    let name : put.key.name ≡ other.key.name = cc in
    let namespace : put.key.namespace ≡ other.key.namespace = cc in
    let pool : put.holding.pool ≡ other.holding.pool = cc in
    let digits : decimal put.version ≡ decimal other.version = cc in
    let version = decimal_injective put.version other.version can.version can'.version digits in
    rw (found.0, mark, name, namespace, pool, version) refl

pub put_lines_say_one : PutLinesSayOne
put_lines_say_one = record { plain = put-plain; one = one-put }
