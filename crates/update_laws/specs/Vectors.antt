-- UPDATE messages that were written out by hand from RFC 4271, sections 4.1 and 4.3, RFC 1997, RFC 4760, sections 3 to 5, and RFC 8092.
use Rattle.std.specs.Prelude.{◌≡◌, ℕ, zero, suc, ◌+◌, List, [], ◌∷◌, ◌++◌, map, codes, Option, Some, None}
use Rattle.hex.specs.Hex.{encode_lower}
use Rattle.ip_ranges.specs.Values.{PrefixValue}
use Rattle.ip_ranges.specs.declared.family.Family.TheVariants.{V4, V6}
use Rattle.large_numbers.specs.declared.numbers.LargeCommunity.{LargeCommunity}
use Rattle.bgp_updates.specs.declared.route.Terms.{Terms}
use Rattle.bgp_updates.specs.declared.route.Peering.{Peering}
use Rattle.bgp_updates.specs.Between.{messages_between}

-- the sender of AS 64512 to a peer of another AS, and to one of its own, with the next hops 192.0.2.1 and 2001:db8::1
abbrev pub outside : Peering
outside = record { own = Some 64512; next_hop = 0xc0000201; next_hop_v6 = 0x20010db8000000000000000000000001 }

abbrev pub inside : Peering
inside = record { own = None; next_hop = 0xc0000201; next_hop_v6 = 0x20010db8000000000000000000000001 }

abbrev pub prefix : ℕ → ℕ → PrefixValue
prefix number length = record { family = V4; number = number; length = length }

abbrev pub route : ℕ → ℕ → Option ℕ → List ℕ → PrefixValue × Terms
route number length preference communities = (prefix number length, record { preference = preference; communities = communities; large = [] })

-- 198.51.100.10/32
abbrev pub host : Option ℕ → List ℕ → PrefixValue × Terms
host preference communities = route 0xc633640a 32 preference communities

-- the messages between two tables in hexadecimal digits
abbrev pub digits_between : Peering → List (PrefixValue × Terms) → List (PrefixValue × Terms) → List (List ℕ)
digits_between peering old new = map encode_lower (messages_between peering old new)

-- a route to another AS, inside the AS, withdrawn, and with the community NO_EXPORT
abbrev pub ToAnotherAs : Type 0
ToAnotherAs = digits_between outside [] (host None [] ∷ [])
    ≡ codes "ffffffffffffffffffffffffffffffff003002000000144001010240020602010000fc00400304c000020120c633640a" ∷ []

abbrev pub InsideTheAs : Type 0
InsideTheAs = digits_between inside [] (host (Some 100) [] ∷ [])
    ≡ codes "ffffffffffffffffffffffffffffffff0031020000001540010102400200400304c00002014005040000006420c633640a" ∷ []

abbrev pub Withdrawn : Type 0
Withdrawn = digits_between outside (host None [] ∷ []) [] ≡ codes "ffffffffffffffffffffffffffffffff001c02000520c633640a0000" ∷ []

abbrev pub WithCommunity : Type 0
WithCommunity = digits_between outside [] (host None (0xffffff01 ∷ []) ∷ [])
    ≡ codes "ffffffffffffffffffffffffffffffff0037020000001b4001010240020602010000fc00400304c0000201c00804ffffff0120c633640a" ∷ []

-- inside the AS a route without a preference is told with 0
abbrev pub WithoutPreference : Type 0
WithoutPreference = digits_between inside [] (host None [] ∷ [])
    ≡ codes "ffffffffffffffffffffffffffffffff0031020000001540010102400200400304c00002014005040000000020c633640a" ∷ []

-- nothing is told of a route that stays
abbrev pub Unchanged : Type 0
Unchanged = digits_between outside (host None (0xfc000001 ∷ []) ∷ []) (host None (0xfc000001 ∷ []) ∷ []) ≡ []

-- Withdrawals come before announcements, and groups by the least prefix of each; a prefix has as few octets as hold it: 0.0.0.0/0,
-- 10.0.0.0/9 and 172.16.0.0/12 go, and 10.0.0.0/8, 10.128.0.0/9, 192.0.2.0/24 and 192.0.2.128/25 come, the second with 64512:1.
abbrev pub InOrder : Type 0
InOrder =
    digits_between outside (route 0 0 None [] ∷ route 0x0a00_0000 9 None [] ∷ route 0xac10_0000 12 None [] ∷ [])
    (route 0x0a00_0000 8 None [] ∷ route 0x0a80_0000 9 None (0xfc000001 ∷ []) ∷ route 0xc000_0200 24 None [] ∷ route 0xc000_0280 25 None [] ∷ [])
    ≡ codes "ffffffffffffffffffffffffffffffff001e02000700090a000cac100000"
    ∷ codes "ffffffffffffffffffffffffffffffff003602000000144001010240020602010000fc00400304c0000201080a18c0000219c0000280"
    ∷ codes "ffffffffffffffffffffffffffffffff0035020000001b4001010240020602010000fc00400304c0000201c00804fc000001090a80"
    ∷ []

-- ---- large communities
abbrev pub large : ℕ → ℕ → ℕ → LargeCommunity
large global first second = record { global = global; first = first; second = second }

-- so many large communities 64512:0:n from a number on
abbrev pub larges_from : ℕ → ℕ → List LargeCommunity
larges_from zero n = []
larges_from (suc more) n = large 64512 0 n ∷ larges_from more (n + 1)

-- 198.51.100.10/32 with large communities
abbrev pub host_with : List LargeCommunity → PrefixValue × Terms
host_with numbers = (prefix 0xc633640a 32, record { preference = None; communities = []; large = numbers })

-- with 64512:1:2
abbrev pub WithLarge : Type 0
WithLarge = digits_between outside [] (host_with (large 64512 1 2 ∷ []) ∷ [])
    ≡ codes "ffffffffffffffffffffffffffffffff003f02000000234001010240020602010000fc00400304c0000201c0200c0000fc00000000010000000220c633640a" ∷ []

-- 22 of them have 264 octets, more than a length of one octet tells
abbrev pub WithManyLarge : Type 0
WithManyLarge = digits_between outside [] (host_with (larges_from 22 0) ∷ [])
    ≡ (codes "ffffffffffffffffffffffffffffffff013c02000001204001010240020602010000fc00400304c0000201d02001080000fc0000000000000000000000fc0000"
    ++ codes "000000000000010000fc0000000000000000020000fc0000000000000000030000fc0000000000000000040000fc0000000000000000050000fc000000000000"
    ++ codes "0000060000fc0000000000000000070000fc0000000000000000080000fc0000000000000000090000fc00000000000000000a0000fc00000000000000000b00"
    ++ codes "00fc00000000000000000c0000fc00000000000000000d0000fc00000000000000000e0000fc00000000000000000f0000fc0000000000000000100000fc0000"
    ++ codes "000000000000110000fc0000000000000000120000fc0000000000000000130000fc0000000000000000140000fc00000000000000001520c633640a") ∷ []

-- a route whose large communities alone are others is told again
abbrev pub LargeChanged : Type 0
LargeChanged =
    digits_between outside (host_with [] ∷ []) (host_with (large 64512 1 2 ∷ []) ∷ []) ≡ digits_between outside [] (host_with (large 64512 1 2 ∷ []) ∷ [])

-- ---- IPv6
abbrev pub route_v6 : ℕ → ℕ → PrefixValue × Terms
route_v6 number length = (record { family = V6; number = number; length = length }, record { preference = None; communities = []; large = [] })

-- 2001:db8::10/128
abbrev pub host_v6 : PrefixValue × Terms
host_v6 = route_v6 0x20010db8000000000000000000000010 128

-- so many hosts of 2001:db8::/32 from a number on
abbrev pub hosts_from : ℕ → ℕ → List (PrefixValue × Terms)
hosts_from zero n = []
hosts_from (suc more) n = route_v6 (0x20010db8000000000000000000000000 + n) 128 ∷ hosts_from more (n + 1)

-- an IPv6 route to another AS, and withdrawn
abbrev pub Reached : Type 0
Reached = digits_between outside [] (host_v6 ∷ [])
    ≡ (codes "ffffffffffffffffffffffffffffffff004d02000000364001010240020602010000fc00800e260002011020010db8000000000000000000000001008020010d"
    ++ codes "b8000000000000000000000010") ∷ []

abbrev pub Unreached : Type 0
Unreached = digits_between outside (host_v6 ∷ []) [] ≡ codes "ffffffffffffffffffffffffffffffff002e0200000017800f140002018020010db8000000000000000000000010" ∷ []

-- 14 hosts make a value of 259 octets, and 15 that go one of 258
abbrev pub ManyReached : Type 0
ManyReached = digits_between outside [] (hosts_from 14 1)
    ≡ (codes "ffffffffffffffffffffffffffffffff012b02000001144001010240020602010000fc00900e01030002011020010db800000000000000000000000100802001"
    ++ codes "0db80000000000000000000000018020010db80000000000000000000000028020010db80000000000000000000000038020010db80000000000000000000000"
    ++ codes "048020010db80000000000000000000000058020010db80000000000000000000000068020010db80000000000000000000000078020010db800000000000000"
    ++ codes "00000000088020010db80000000000000000000000098020010db800000000000000000000000a8020010db800000000000000000000000b8020010db8000000"
    ++ codes "00000000000000000c8020010db800000000000000000000000d8020010db800000000000000000000000e") ∷ []

abbrev pub ManyUnreached : Type 0
ManyUnreached = digits_between outside (hosts_from 15 1) []
    ≡ (codes "ffffffffffffffffffffffffffffffff011d0200000106900f01020002018020010db80000000000000000000000018020010db8000000000000000000000002"
    ++ codes "8020010db80000000000000000000000038020010db80000000000000000000000048020010db80000000000000000000000058020010db80000000000000000"
    ++ codes "000000068020010db80000000000000000000000078020010db80000000000000000000000088020010db80000000000000000000000098020010db800000000"
    ++ codes "000000000000000a8020010db800000000000000000000000b8020010db800000000000000000000000c8020010db800000000000000000000000d8020010db8"
    ++ codes "00000000000000000000000e8020010db800000000000000000000000f") ∷ []

-- Inside the AS with preference 100, 64512:1, 64512:0:1 and 64512:1:0 attributes ascend by type, and NEXT_HOP isn't there: 2001:db8::/33 and
-- 2001:db8:8000::/40.
abbrev pub terms_v6 : Terms
terms_v6 = record { preference = Some 100; communities = 0xfc000001 ∷ []; large = large 64512 0 1 ∷ large 64512 1 0 ∷ [] }

abbrev pub AllAttributes : Type 0
AllAttributes =
    digits_between inside []
    (((route_v6 0x20010db8000000000000000000000000 33).0, terms_v6) ∷ ((route_v6 0x20010db8800000000000000000000000 40).0, terms_v6) ∷ [])
    ≡ (codes "ffffffffffffffffffffffffffffffff006b02000000544001010240020040050400000064c00804fc000001800e210002011020010db8000000000000000000"
    ++ codes "000001002120010db8002820010db880c020180000fc0000000000000000010000fc000000000100000000") ∷ []

-- IPv4 first: 10.0.0.0/9 and ::/0 go, 198.51.100.10/32 and 2001:db8::10/128 come
abbrev pub InBothFamilies : Type 0
InBothFamilies =
    digits_between outside (route 0x0a00_0000 9 None [] ∷ route_v6 0 0 ∷ []) (host None [] ∷ host_v6 ∷ [])
    ≡ codes "ffffffffffffffffffffffffffffffff001a020003090a000000"
    ∷ codes "ffffffffffffffffffffffffffffffff003002000000144001010240020602010000fc00400304c000020120c633640a"
    ∷ codes "ffffffffffffffffffffffffffffffff001e0200000007800f0400020100"
    ∷ (codes "ffffffffffffffffffffffffffffffff004d02000000364001010240020602010000fc00800e260002011020010db8000000000000000000000001008020010d"
    ++ codes "b8000000000000000000000010")
    ∷ []
