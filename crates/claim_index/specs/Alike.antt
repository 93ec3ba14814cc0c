-- Terms that are one, and terms that may share an address where they have no port in common.
use Rattle.std.specs.Prelude.{Bool, ◌&&◌, not}
use Rattle.std.specs.Cmp.Lexicographic.{pointwise}
use Rattle.std.specs.Str.{bytes_eq}
use Rattle.mlb_base.specs.Items.{is_nil}
use Rattle.sharing_terms.specs.declared.terms.Terms.{Terms}
use Rattle.sharing_terms.specs.Sharing.{is_alike, same_port}

-- whether the terms are one
abbrev pub same_terms : Terms → Terms → Bool
same_terms a b = bytes_eq a.key b.key && pointwise same_port a.ports b.ports && is_alike a.backend b.backend

-- they are of one sharing key, which isn't empty, and of backends that are alike
abbrev pub are_alike : Terms → Terms → Bool
are_alike terms held = bytes_eq terms.key held.key && not (is_nil terms.key) && is_alike terms.backend held.backend
