-- Which neighbor solicitations are answered, and how.
use Rattle.std.specs.Prelude.{◌≡◌, ℕ, Bool, ◌&&◌, if◌then◌else◌, List, Option, Some, None, option_and_then}
use Rattle.std.specs.Option.{option_map}
use Rattle.std.specs.Int.{w128, from_be_bytes}
use Rattle.ip_ranges.specs.Values.{AddressValue}
use Rattle.ip_ranges.specs.declared.family.Family.TheVariants.{V6}
use Rattle.speaker_view.specs.ViewValue.{ViewValue}
use Rattle.l2_elect.specs.Listening.{Listens}
use Rattle.neigh_frames.specs.declared.options.Sender.{Sender}
use Rattle.neigh_frames.specs.Options.{NdpOption, options_of, sender_in}
use Rattle.neigh_frames.specs.Solicitation.{HasMessage, IsSolicitation, IsUnaddressed, source_of, target_of}
use Rattle.neigh_frames.specs.Solicitation.{options_in, unspecified, has_message, is_solicitation, has_valid_source}
use Rattle.neigh_frames.specs.Advertisement.{reply_to}

-- the IPv6 address of these sixteen bytes
abbrev pub ipv6_address : List ℕ → AddressValue
ipv6_address bytes = record { family = V6; number = from_be_bytes w128 bytes }

-- The frame is a valid solicitation (RFC 4861, section 7.1.1), with these options, of an address for which the node listens on the
-- interface.
pub record IsSolicited (v : ViewValue) (node interface frame : List ℕ) (options : List NdpOption) : Type 0 where
  pub has_message : HasMessage frame
  pub solicitation : IsSolicitation frame
  pub listens : Listens v node interface (ipv6_address (target_of frame))
  pub options_are : options_of (options_in frame) ≡ Some options
  pub without_address : source_of frame ≡ unspecified → IsUnaddressed frame options

-- It is one, and this is the answer to it.
pub record IsNdpAnswer (v : ViewValue) (node interface mac frame answer : List ℕ) : Type 0 where
  pub options : List NdpOption
  pub solicited : IsSolicited v node interface frame options
  pub reply : answer ≡ reply_to mac frame (sender_in options)

-- ---- the same as tests
abbrev pub is_asked : (AddressValue → Bool) → List ℕ → Bool
is_asked listens frame = has_message frame && is_solicitation frame && listens (ipv6_address (target_of frame))

-- the answer, where the options say this of their sender
abbrev pub answer_to : List ℕ → List ℕ → Sender → Option (List ℕ)
answer_to mac frame sender = if has_valid_source frame sender then Some (reply_to mac frame sender) else None

-- the answer, where the options are whole
abbrev pub answer_of : List ℕ → List ℕ → Option (List ℕ)
answer_of mac frame = option_and_then (answer_to mac frame) (option_map sender_in (options_of (options_in frame)))

abbrev pub ndp_answer_of : (AddressValue → Bool) → List ℕ → List ℕ → Option (List ℕ)
ndp_answer_of listens mac frame = if is_asked listens frame then answer_of mac frame else None
