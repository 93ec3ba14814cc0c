-- The tests of a solicitation decide what they should.
use Rattle.std.proofs.Common.{◌≡◌, ◌≢◌, ◌↔◌, ◌+◌, ◌/◌, ℕ, Bool, true, false, ◌&&◌, ◌||◌, not, List, [], ◌∷◌}
use Rattle.std.proofs.Common.{length, Option, Some, None, All, refl, sym, ap, ◌∙◌, Decides}
use Rattle.std.specs.Prelude.{◌==◌, slice_index, slice_range, option_and_then, if◌then◌else◌}
use Rattle.std.specs.List.{list_any}
use Rattle.std.specs.Option.{option_map}
use Rattle.std.proofs.lemmas.Bool.Decides.{Decides-like, Decides-not, Decides-and, Decides-by_and, Decides-eqb}
use Rattle.std.proofs.lemmas.Slice.Eq.{bytes_eq-Decides}
use Rattle.speaker_view.specs.ViewValue.{ViewValue}
use Rattle.l2_elect.specs.Listening.{listens_of, Listens}
use Rattle.l2_elect.proofs.ListenLaws.{listens-means}
use Rattle.neigh_frames.specs.Checksum.{ones_sum, with_pseudo_header}
use Rattle.neigh_frames.specs.Options.{NdpOption, options_of, sender_in, states_source}
use Rattle.neigh_frames.specs.Solicitation.{HasMessage, IsSolicitation, IsUnaddressed, destination_of, has_message}
use Rattle.neigh_frames.specs.Solicitation.{has_valid_source, is_solicitation, is_to_solicited_node, is_unspecified, message_of}
use Rattle.neigh_frames.specs.Solicitation.{options_in, payload_length, solicited_node_of, source_of, target_of, unspecified}
use Rattle.neigh_frames.specs.Advertisement.{reply_to}
use Rattle.neigh_frames.specs.Ndp.{IsNdpAnswer, answer_of, answer_to, ipv6_address, is_asked, ndp_answer_of}
use Rattle.neigh_frames.proofs.Tests.{Decides-nat_le, Decides-implies, answered}

not_or : (a b : Bool) → not (a || b) ≡ (not a && not b)
not_or true b = refl
not_or false b = refl

unstated-Decides : (options : List NdpOption) → Decides (not (list_any states_source options)) (All (λ option. option.kind ≢ 1) options)
unstated-Decides = Decides-by_and (λ option. not (states_source option)) (λ option. option.kind ≢ 1) (λ options. not (list_any states_source options))
    (λ option. Decides-not (option.kind == 1) (Decides-eqb option.kind 1)) refl
    (λ option options. not_or (states_source option) (list_any states_source options))

module _ (frame : List ℕ) where
  message-Decides : Decides (has_message frame) (HasMessage frame)
  message-Decides =
      Decides-like (has_message frame)
      (λ m. record { long = m.0.0.0.0.0; ether_type = m.0.0.0.0.1; version = m.0.0.0.1; icmp = m.0.0.1; message = m.0.1; whole = m.1 })
      (λ m. (((((m.long, m.ether_type), m.version), m.icmp), m.message), m.whole))
      (Decides-and _ _ (Decides-and _ _ (Decides-and _ _ (Decides-and _ _ (Decides-and _ _
      (Decides-nat_le 78 (length frame))
      (bytes_eq-Decides (slice_range frame 12 14) (0x86 ∷ 0xdd ∷ [])))
      (Decides-eqb (slice_index frame 14 / 16) 6))
      (bytes_eq-Decides (slice_range frame 20 22) (58 ∷ 255 ∷ [])))
      (Decides-nat_le 24 (payload_length frame)))
      (Decides-nat_le (54 + payload_length frame) (length frame)))

  solicitation-Decides : Decides (is_solicitation frame) (IsSolicitation frame)
  solicitation-Decides =
      Decides-like (is_solicitation frame)
      (λ s. record { kind = s.0.0; unicast = s.0.1; checksum = s.1 })
      (λ s. ((s.kind, s.unicast), s.checksum))
      (Decides-and _ _ (Decides-and _ _
      (bytes_eq-Decides (slice_range frame 54 56) (135 ∷ 0 ∷ []))
      (Decides-not (slice_index frame 62 == 0xff) (Decides-eqb (slice_index frame 62) 0xff)))
      (Decides-eqb (ones_sum (with_pseudo_header (slice_range frame 22 54) (message_of frame))) 0xffff))

  unaddressed-Decides : (options : List NdpOption) → Decides (is_to_solicited_node frame && not (list_any states_source options)) (IsUnaddressed frame options)
  unaddressed-Decides options =
      Decides-like (is_to_solicited_node frame && not (list_any states_source options))
      (λ u. record { to_solicited_node = u.0; unstated = u.1 })
      (λ u. (u.to_solicited_node, u.unstated))
      (Decides-and _ _ (bytes_eq-Decides (destination_of frame) (solicited_node_of (target_of frame))) (unstated-Decides options))

  source-Decides : (options : List NdpOption)
      → Decides (has_valid_source frame (sender_in options)) (source_of frame ≡ unspecified → IsUnaddressed frame options)
  source-Decides options =
      Decides-implies (is_unspecified (source_of frame)) (is_to_solicited_node frame && not (list_any states_source options))
      (bytes_eq-Decides (source_of frame) unspecified) (unaddressed-Decides options)

module _ (v : ViewValue) (node interface frame : List ℕ) where
  listens-Decides : Decides (listens_of v node interface (ipv6_address (target_of frame))) (Listens v node interface (ipv6_address (target_of frame)))
  listens-Decides = listens-means v node interface (ipv6_address (target_of frame)) (listens_of v node interface (ipv6_address (target_of frame))) refl

  asked-Decides : Decides (is_asked (listens_of v node interface) frame)
      ((HasMessage frame × IsSolicitation frame) × Listens v node interface (ipv6_address (target_of frame)))
  asked-Decides =
      Decides-and (has_message frame && is_solicitation frame) (listens_of v node interface (ipv6_address (target_of frame)))
      (Decides-and (has_message frame) (is_solicitation frame) (message-Decides frame) (solicitation-Decides frame))
      listens-Decides

  module _ (mac answer : List ℕ) where
    answer-asked : (asked : Bool) (options : Option (List NdpOption)) → is_asked (listens_of v node interface) frame ≡ asked
        → options_of (options_in frame) ≡ options
        → (if asked then option_and_then (answer_to mac frame) (option_map sender_in options) else None) ≡ Some answer
        → IsNdpAnswer v node interface mac frame answer
    answer-asked false options a o e = absurd (cc)
    answer-asked true None a o e = absurd (cc)
    answer-asked true (Some options) a o e =
        let is = (asked-Decides).0 a in
        let given = answered (has_valid_source frame (sender_in options)) (reply_to mac frame (sender_in options)) answer e in
        record {
          options = options;
          solicited = record {
            has_message = is.0.0;
            solicitation = is.0.1;
            listens = is.1;
            options_are = o;
            without_address = (source-Decides frame options).0 given.0;
          };
          reply = given.1;
        }

    asked-answer : IsNdpAnswer v node interface mac frame answer → ndp_answer_of (listens_of v node interface) mac frame ≡ Some answer
    asked-answer is =
        let s = is.solicited in
        ap (λ (asked : Bool). if asked then answer_of mac frame else None) ((asked-Decides).1 ((s.has_message, s.solicitation), s.listens))
        ∙ ap (λ (options : Option (List NdpOption)). option_and_then (answer_to mac frame) (option_map sender_in options)) s.options_are
        ∙ ap (λ (fits : Bool). if fits then Some (reply_to mac frame (sender_in is.options)) else None) ((source-Decides frame is.options).1 s.without_address)
        ∙ ap (λ (reply : List ℕ). Some reply) (sym is.reply)

    -- what a call tells by the tests
    pub ndp-means : (told : Option (List ℕ)) → told ≡ ndp_answer_of (listens_of v node interface) mac frame
        → (told ≡ Some answer) ↔ IsNdpAnswer v node interface mac frame answer
    ndp-means told is = (
      λ e. answer-asked (is_asked (listens_of v node interface) frame) (options_of (options_in frame)) refl refl (sym is ∙ e),
      λ a. is ∙ asked-answer a,
    )
