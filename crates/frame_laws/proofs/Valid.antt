-- What is sent is what a receiver asks for.
use Rattle.std.proofs.Common.{◌≡◌, ◌≢◌, ℕ, zero, suc, Bool, true, false, cond, ◌==◌, ◌&&◌, ◌+◌, ◌-◌, ◌*◌, ◌/◌, ◌%◌, ◌<◌, ◌≤◌, List, [], ◌∷◌, ◌++◌}
use Rattle.std.proofs.Common.{length, get_or, take, drop, Option, Some, None, unwrap_or, refl, sym, ◌∙◌, ap, subst, arith, append_assoc, length-append}
use Rattle.std.specs.Prelude.{slice_index, slice_range}
use Rattle.std.specs.Int.{w128, to_be_bytes}
use Rattle.std.specs.List.{AllByRecursion, find}
use Rattle.std.specs.Option.{option_map}
use Rattle.std.proofs.lemmas.List.{length-take, length-drop}
use Rattle.neigh_frames.specs.Advertisement.{advertisement, all_nodes, checksum_of, header, ndp_reply, reply_to, to_all_nodes, unasked_ndp_of}
use Rattle.neigh_frames.specs.Options.{NdpOption, hardware_of, options_behind, options_of, sender_in, states_hardware}
use Rattle.neigh_frames.specs.Solicitation.{is_unspecified, options_in, source_of, target_of}
use Rattle.neigh_frames.proofs.Carry.{AreBytes}
use Rattle.neigh_frames.proofs.RightSums.{ndp_reply-HasRightChecksum, framed as regrouped}
use Rattle.neigh_frames.proofs.Places.{get_or-front}
use Rattle.frame_laws.specs.Sums.{AreOctets, message_length}
use Rattle.frame_laws.specs.Valid.{AnswersAreValid, IsHardware, IsValidAdvertisement, UnsolicitedAreValid}
use Rattle.frame_laws.proofs.PlainSums.{frames-summed, octet-at, octets-append, octets-drop, octets-high_first, octets-literal, octets-take}

-- an IPv6 address in octets
abbrev IsIpv6 : List ℕ → Type 0
IsIpv6 address = (length address ≡ 16) × AreOctets address

bytes-of : (octets : List ℕ) → AreOctets octets → AreBytes octets
bytes-of octets all i = octet-at i octets all

first-of : (front back : List ℕ) → 1 ≤ length front → get_or (front ++ back) 0 0 ≡ get_or front 0 0
first-of [] back some = absurd (omega arith)
first-of (x ∷ front) back some = refl

module _ (mac hardware target destination : List ℕ) (flags : ℕ) (m : IsHardware mac) (h : IsHardware hardware) (t : IsIpv6 target) (d : IsIpv6 destination)
    (flag : flags < 0x100)
    (unicast : slice_index target 0 ≢ 0xff) (unsolicited : slice_index destination 0 ≡ 0xff → flags / 0x40 % 2 ≡ 0) where
  abbrev checksum : ℕ
  checksum = checksum_of flags target destination mac

  abbrev message : List ℕ
  message = advertisement flags target mac checksum

  abbrev frame : List ℕ
  frame = ndp_reply mac hardware target destination flags

  framed : frame ≡ (hardware ++ mac) ++ (header ++ (target ++ (destination ++ message)))
  framed = regrouped hardware mac header target destination message

  -- the octets after the Ethernet addresses, after the IPv6 header, and of the message
  in-header : (k : ℕ) → get_or frame (12 + k) 0 ≡ get_or (header ++ (target ++ (destination ++ message))) k 0
  in-header k = ap (λ octets. get_or octets (12 + k) 0) framed
      ∙ get_or-front (hardware ++ mac) (header ++ (target ++ (destination ++ message))) 12 k (omega (arith, length-append hardware mac, h.0, m.0))

  in-destination : get_or frame 38 0 ≡ get_or destination 0 0
  in-destination = in-header 26 ∙ get_or-front target (destination ++ message) 16 0 t.0 ∙ first-of destination message (omega (arith, d.0))

  in-message : (k : ℕ) → get_or frame (54 + k) 0 ≡ get_or message k 0
  in-message k =
      ap (λ n. get_or frame n 0) (omega arith) ∙ in-header (42 + k)
      ∙ ap (λ n. get_or (header ++ (target ++ (destination ++ message))) n 0) (omega arith)
      ∙ get_or-front header (target ++ (destination ++ message)) 10 (32 + k) refl
      ∙ ap (λ n. get_or (target ++ (destination ++ message)) n 0) (omega arith) ∙ get_or-front target (destination ++ message) 16 (16 + k) t.0
      ∙ get_or-front destination message 16 k d.0

  in-target : get_or frame 62 0 ≡ get_or target 0 0
  in-target =
      in-message 8 ∙ ap (λ octets. get_or octets 0 0) (append_assoc target (2 ∷ 1 ∷ []) mac) ∙ first-of target ((2 ∷ 1 ∷ []) ++ mac) (omega (arith, t.0))

  in-option : (k : ℕ) → get_or frame (78 + k) 0 ≡ get_or ((2 ∷ 1 ∷ []) ++ mac) k 0
  in-option k =
      ap (λ n. get_or frame n 0) (omega arith) ∙ in-message (24 + k)
      ∙ ap (λ n. get_or message n 0) (omega arith) ∙ get_or-front (136 ∷ 0 ∷ to_checksum) ((target ++ 2 ∷ 1 ∷ []) ++ mac) 8 (16 + k) refl
      ∙ ap (λ octets. get_or octets (16 + k) 0) (append_assoc target (2 ∷ 1 ∷ []) mac) ∙ get_or-front target ((2 ∷ 1 ∷ []) ++ mac) 16 k t.0
    where
      to_checksum : List ℕ
      to_checksum = drop 2 (take 8 message)

  message-long : length message ≡ 32
  message-long = omega (arith, length-append (target ++ 2 ∷ 1 ∷ []) mac, length-append target (2 ∷ 1 ∷ []), t.0, m.0)

  frame-long : length frame ≡ 86
  frame-long =
      ap length framed
      ∙ omega (
        arith,
        length-append (hardware ++ mac) (header ++ (target ++ (destination ++ message))),
        length-append hardware mac,
        length-append target (destination ++ message),
        length-append destination message,
        message-long,
        h.0,
        m.0,
        t.0,
        d.0,
      )

  payload : message_length frame ≡ 32
  payload = omega (arith, in-header 6, in-header 7)

  message-octets : AreOctets message
  message-octets = (
    omega arith,
    (
      omega arith,
      (
        omega arith,
        (
          omega arith,
          (
            flag,
            (
              omega arith,
              (
                omega arith,
                (
                  omega arith,
                  octets-append (target ++ 2 ∷ 1 ∷ []) mac (octets-append target (2 ∷ 1 ∷ []) t.1 (octets-literal (2 ∷ 1 ∷ []) refl)) m.1,
                ),
              ),
            ),
          ),
        ),
      ),
    ),
  )

  frame-octets : AreOctets frame
  frame-octets =
      subst AreOctets (sym framed) (
      octets-append (hardware ++ mac) (header ++ (target ++ (destination ++ message))) (octets-append hardware mac h.1 m.1)
      (octets-append header (target ++ (destination ++ message)) (octets-literal header refl)
      (octets-append target (destination ++ message) t.1 (octets-append destination message d.1 message-octets))))

  pub reply-valid : IsValidAdvertisement frame
  reply-valid = record {
    ether_type = omega (arith, in-header 0, in-header 1);
    version = omega (arith, in-header 2);
    whole = omega (arith, payload, frame-long);
    next_header = in-header 8;
    hop_limit = in-header 9;
    kind = in-message 0;
    code = in-message 1;
    checksum = (frames-summed frame frame-octets (omega (arith, payload, frame-long))).0
        (ndp_reply-HasRightChecksum mac target destination flags m.0 t.0 d.0 (bytes-of mac m.1) (bytes-of target t.1) (bytes-of destination d.1) flag hardware
        h.0);
    long = omega (arith, payload);
    unicast = λ all. unicast (sym in-target ∙ all);
    unsolicited = λ all. ap (λ octet. octet / 0x40 % 2) (in-message 4) ∙ unsolicited (sym in-destination ∙ all);
    option = in-option 0;
    unit = in-option 1;
    last = omega (arith, in-option 1, frame-long);
  }

-- ---- to all nodes
to-all-valid : (mac target : List ℕ) (flags : ℕ) → IsHardware mac → IsIpv6 target → flags < 0x100 → slice_index target 0 ≢ 0xff → flags / 0x40 % 2 ≡ 0
    → IsValidAdvertisement (to_all_nodes mac target flags)
to-all-valid mac target flags m t flag unicast clear =
    reply-valid mac (0x33 ∷ 0x33 ∷ 0 ∷ 0 ∷ 0 ∷ 1 ∷ []) target all_nodes flags m (refl, octets-literal (0x33 ∷ 0x33 ∷ 0 ∷ 0 ∷ 0 ∷ 1 ∷ []) refl) t
    (refl, octets-literal all_nodes refl) flag unicast (λ all. clear)

pub unsolicited-valid : UnsolicitedAreValid
unfolding unasked_ndp_of
unsolicited-valid mac number m unicast =
    to-all-valid mac (to_be_bytes w128 number) 0x20 m (refl, octets-high_first 16 number) (omega arith) unicast refl

-- ---- answers
-- the hardware address that options state, or that of the frame
abbrev IsStated : Option (List ℕ) → Type 0
IsStated None = Unit {0}
IsStated (Some hardware) = IsHardware hardware

found-by : (option : NdpOption) (rest : Option NdpOption) (kind long : Bool) → (length option.body == 6) ≡ long → AreOctets option.body
    → IsStated (option_map (λ o. o.body) rest)
    → IsStated (option_map (λ (o : NdpOption). o.body) (cond (kind && long) (Some option) rest))
found-by option rest true true six octets later = (grind arith, octets)
found-by option rest true false six octets later = later
found-by option rest false long six octets later = later

stated : (options : List NdpOption) → AllByRecursion (λ option. AreOctets option.body) options → IsStated (hardware_of options)
stated [] all = tt
stated (option ∷ options) all = found-by option (find states_hardware options) (option.kind == 1) (length option.body == 6) refl all.0 (stated options all.1)

-- the bodies of options are octets
one-more : (option : NdpOption) (found : Option (List NdpOption)) (options : List NdpOption) → AreOctets option.body
    → ((more : List NdpOption) → found ≡ Some more → AllByRecursion (λ (o : NdpOption). AreOctets o.body) more)
    → option_map (λ more. option ∷ more) found ≡ Some options → AllByRecursion (λ (o : NdpOption). AreOctets o.body) options
one-more option None options own later is = absurd (cc)
one-more option (Some more) options own later is =
    let all : option ∷ more ≡ options = cc in
    subst (AllByRecursion (λ (o : NdpOption). AreOctets o.body)) all (own, later more refl)

bodies : (left : ℕ) (octets : List ℕ) → AreOctets octets → (options : List NdpOption) → options_behind left octets ≡ Some options
    → AllByRecursion (λ (o : NdpOption). AreOctets o.body) options
bodies (suc left) [] all options is = absurd (cc)
bodies (suc left) (octet ∷ rest) all options is = bodies left rest all.1 options is
bodies zero [] all options is =
    let none : [] ≡ options = cc in
    subst (AllByRecursion (λ (o : NdpOption). AreOctets o.body)) none tt
bodies zero (kind ∷ []) all options is = absurd (cc)
bodies zero (kind ∷ zero ∷ rest) all options is = absurd (cc)
bodies zero (kind ∷ suc units ∷ rest) all options is =
    let size = suc units * 8 - 2 in
    one-more (record { kind = kind; body = take size rest }) (options_behind size rest) options (octets-take size rest all.1.1) (bodies size rest all.1.1) is

first-at : (n k : ℕ) (octets : List ℕ) → get_or (take (suc n) (drop k octets)) 0 0 ≡ get_or octets k 0
first-at n zero [] = refl
first-at n zero (x ∷ octets) = refl
first-at n (suc k) [] = refl
first-at n (suc k) (x ∷ octets) = first-at n k octets

at-hardware : (found : Option (List ℕ)) (otherwise : List ℕ) → IsStated found → IsHardware otherwise → IsHardware (unwrap_or found otherwise)
at-hardware None otherwise is default = default
at-hardware (Some hardware) otherwise is default = is

module _ (mac frame : List ℕ) (options : List NdpOption) (m : IsHardware mac) (octets : AreOctets frame) (long : 78 ≤ length frame)
    (unicast : slice_index frame 62 ≢ 0xff)
    (source : slice_index frame 22 ≢ 0xff) (options_are : options_of (options_in frame) ≡ Some options) (in_octets : AreOctets (options_in frame)) where
  target : IsIpv6 (target_of frame)
  target = (omega (arith, length-take 16 (drop 62 frame), length-drop 62 frame), octets-take 16 (drop 62 frame) (octets-drop 62 frame octets))

  from : IsIpv6 (source_of frame)
  from = (omega (arith, length-take 16 (drop 22 frame), length-drop 22 frame), octets-take 16 (drop 22 frame) (octets-drop 22 frame octets))

  sender : IsHardware (slice_range frame 6 12)
  sender = (omega (arith, length-take 6 (drop 6 frame), length-drop 6 frame), octets-take 6 (drop 6 frame) (octets-drop 6 frame octets))

  not-multicast : slice_index (target_of frame) 0 ≢ 0xff
  not-multicast = λ all. unicast (sym (first-at 15 62 frame) ∙ all)

  answer-valid : IsValidAdvertisement (reply_to mac frame (sender_in options))
  answer-valid =
      elim (is_unspecified (source_of frame)) as (λ u. IsValidAdvertisement (cond u (to_all_nodes mac (target_of frame) 0)
      (ndp_reply mac (unwrap_or (hardware_of options) (slice_range frame 6 12)) (target_of frame) (source_of frame) 0x40))) [
        | true ↦ to-all-valid mac (target_of frame) 0 m target (omega arith) not-multicast refl
        | false ↦ reply-valid mac (unwrap_or (hardware_of options) (slice_range frame 6 12)) (target_of frame) (source_of frame) 0x40 m
            (at-hardware (hardware_of options) (slice_range frame 6 12) (stated options (bodies 0 (options_in frame) in_octets options options_are)) sender)
            target from (omega arith) not-multicast (λ all. absurd (source (sym (first-at 15 22 frame) ∙ all)))
      ]

options-octets : (n : ℕ) (octets : List ℕ) → AreOctets octets → AreOctets (take n (drop 78 octets))
options-octets n octets all = octets-take n (drop 78 octets) (octets-drop 78 octets all)

pub answers-valid : AnswersAreValid
answers-valid v node interface mac frame answer m octets source is =
    let s = is.solicited in
    subst IsValidAdvertisement (sym is.reply)
    (answer-valid mac frame is.options m octets s.has_message.long s.solicitation.unicast source s.options_are (options-octets _ frame octets))
