-- What the line of a put says.
use Rattle.std.specs.Prelude.{◌≡◌, ◌<◌, ◌^◌, true}
use Rattle.std.specs.List.{AllByRecursion}
use Rattle.ip_ranges.specs.Values.{IsOfFamily}
use Rattle.kube_lines.specs.Apart.{is_plain}
use Rattle.kube_lines.specs.OutputLines.{put_text}
use Rattle.kube_model.specs.declared.put.Put.{Put}

-- its addresses are of their families, and its version is one that there can be
pub record CanBePut (put : Put) : Type 0 where
  pub addresses : AllByRecursion IsOfFamily put.holding.addresses
  pub version : put.version < 2 ^ 64

-- it is one line, and that of one put
pub record PutLinesSayOne : Type 0 where
  pub plain : (put : Put) → is_plain (put_text put) ≡ true
  pub one : (put other : Put) → CanBePut put → CanBePut other → put_text put ≡ put_text other → put ≡ other
