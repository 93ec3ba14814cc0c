-- How many communities a view's configuration has.
use Rattle.std.specs.Prelude.{◌≡◌, Some}
use Rattle.pool_config.specs.ConfigValue.{ConfigValue, HasFewCommunities}
use Rattle.speaker_view.specs.ViewValue.{ViewValue}

-- the configuration in force, if there is one, has few communities
abbrev pub HasFewInForce : ViewValue → Type 0
HasFewInForce v = (c : ConfigValue) → v.held.config ≡ Some c → HasFewCommunities c
