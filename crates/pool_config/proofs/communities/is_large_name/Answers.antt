use Rattle.std.proofs.Common.{◌≡◌, ◌&&◌, ◌∙◌, sym, ap, is_some, rules}
use Rattle.std.specs.List.{list_any}
use Rattle.std.specs.Option.{option_copied}
use Rattle.std.specs.Str.{bytes_eq}
use Rattle.kube_model.specs.declared.community.CommunityList.{CommunityList}
use Rattle.pool_config.specs.Large.{begins_large}
use Rattle.pool_config.specs.Objects.{named}
use Rattle.pool_config.specs.Search.{first_name}
use Rattle.pool_config.proofs.Steps.{copied_some, found_any}
use Rattle.pool_config.proofs.communities.is_large_name.Goals as goal

pub returns : goal.returns
returns c =
    let test = λ (list : CommunityList). list_any (λ v. bytes_eq v.0 c.args.name.now && begins_large v.1) list.values in
    let found : option_copied c.first_name.result ≡ first_name test (named c.args.communities.now) =
    c.first_name.ensures test (λ list r says. search rules) in
    c.is_some.ensures ∙ sym (copied_some c.first_name.result) ∙ ap is_some found ∙ found_any test (named c.args.communities.now)
