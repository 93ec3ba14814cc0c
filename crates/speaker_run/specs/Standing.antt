-- Which answers are sent: those for addresses that stand announced.
use Rattle.std.specs.Prelude.{◌≡◌, ◌==◌, ℕ, Bool, false, if◌then◌else◌, List, [], length, Option, Some, None}
use Rattle.ip_ranges.specs.Values.{AddressValue}
use Rattle.l2_elect.specs.Election.{announces_of}
use Rattle.neigh_frames.specs.Arp.{address_at}
use Rattle.neigh_frames.specs.Ndp.{ipv6_address}
use Rattle.neigh_frames.specs.Solicitation.{target_of}
use Rattle.speaker_machine.specs.Stream.{SpeakerState}
use Rattle.speaker_machine.specs.declared.transcript.TranscriptEntry.{TranscriptEntry}
use Rattle.speaker_laws.specs.Told.{IsToldOf}

-- the address that an answer is for: the sender's of an ARP reply (RFC 826), which has 42 octets, and the target of a neighbor advertisement
-- (RFC 4861, section 4.4), which has 86
abbrev pub answered_address : List ℕ → Option AddressValue
answered_address answer =
    if length answer == 42 then Some (address_at answer 28)
    else if length answer == 86 then Some (ipv6_address (target_of answer))
    else None

-- the node announces it by what was taken
abbrev pub is_announced : SpeakerState → Option AddressValue → Bool
is_announced s None = false
is_announced s (Some a) = announces_of s.view s.local.node a

-- the answer where the node announces its address by what was taken, and else nothing
abbrev pub standing_answer : SpeakerState → List ℕ → List ℕ
standing_answer s answer = if is_announced s (answered_address answer) then answer else []

-- by what was told, the address that the answer is for has an announce line, and no later withdraw line
abbrev pub IsForStanding : List TranscriptEntry → List ℕ → Type 0
IsForStanding told answer = (a : AddressValue) × (answered_address answer ≡ Some a) × IsToldOf told a
