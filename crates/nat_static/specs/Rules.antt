-- Which rules apply to a header, and what they replace, in both directions.
use Rattle.std.specs.Prelude.{ℕ, Bool, true, false, ◌||◌, if◌then◌else◌, List, Option, Some, None, slice_get, find, position}
use Rattle.std.specs.Option.{option_or}
use Rattle.hdr_bits.specs.declared.header.Header.{Header}
use Rattle.cube_alg.specs.declared.stamp.Stamp.{Stamp}
use Rattle.cube_alg.specs.Stamps.{followed}
use Rattle.net_types.specs.declared.config.NatRule.{NatRule}
use Rattle.net_types.specs.declared.config.NatKind.{NatKind}
use Rattle.net_types.specs.declared.config.NatKind.TheVariants as nat
use Rattle.net_types.specs.Translation.{is_outer, from_outside, from_inside}
use Rattle.net_types.specs.Translation.{port_fits_dst, plain_fits_dst, port_fits_src, plain_fits_src, outer_fits_dst, outer_fits_src}
use Rattle.net_types.specs.Translation.{with_dst, with_src, with_outer_dst, with_outer_src}
use Rattle.nat_static.specs.declared.rules.Direction.{Direction}
use Rattle.nat_static.specs.declared.rules.Direction.TheVariants.{FromOutside, FromInside}
use Rattle.nat_static.specs.declared.rules.Group.{Group}
use Rattle.nat_static.specs.declared.rules.Group.TheVariants.{Port, Plain, Outer}
use Rattle.nat_static.specs.Sides.{destination_stamp, source_stamp, no_stamp}

-- the stamp that writes a side where rules of this kind replace it: a host inside is the destination from outside and the
-- source from inside, and a host outside the other way round
abbrev pub written : Direction → NatKind → ℕ → ℕ → Stamp
written FromOutside k a p = if is_outer k then source_stamp k a p else destination_stamp k a p
written FromInside k a p = if is_outer k then destination_stamp k a p else source_stamp k a p

-- from outside a rule writes its local side
abbrev pub outside_stamp : NatRule → Stamp
outside_stamp r = written FromOutside r.kind r.local r.local_port

-- from inside it writes its global side
abbrev pub inside_stamp : NatRule → Stamp
inside_stamp r = written FromInside r.kind r.global r.global_port

-- the number of the rule that replaces the destination from outside: that of the first port rule that matches, else of the
-- first plain one
abbrev pub rule_from_outside : List NatRule → Header → Option ℕ
rule_from_outside rules h = option_or (position (port_fits_dst h) rules) (position (plain_fits_dst h) rules)

-- the number of the rule that replaces the source from outside: that of the first outer rule that matches
abbrev pub outer_from_outside : List NatRule → Header → Option ℕ
outer_from_outside rules h = position (outer_fits_src h) rules

-- the number of the rule that replaces the source from inside
abbrev pub rule_from_inside : List NatRule → Header → Option ℕ
rule_from_inside rules h = option_or (position (port_fits_src h) rules) (position (plain_fits_src h) rules)

-- the number of the rule that replaces the destination from inside
abbrev pub outer_from_inside : List NatRule → Header → Option ℕ
outer_from_inside rules h = position (outer_fits_dst h) rules

-- ---- the same by direction
abbrev pub rule_stamp : Direction → NatRule → Stamp
rule_stamp FromOutside r = outside_stamp r
rule_stamp FromInside r = inside_stamp r

abbrev pub matched_side : Direction → NatRule → Stamp
matched_side FromOutside r = written FromOutside r.kind r.global r.global_port
matched_side FromInside r = written FromInside r.kind r.local r.local_port

abbrev pub fits_port : Direction → Header → NatRule → Bool
fits_port FromOutside h r = port_fits_dst h r
fits_port FromInside h r = port_fits_src h r

abbrev pub fits_plain : Direction → Header → NatRule → Bool
fits_plain FromOutside h r = plain_fits_dst h r
fits_plain FromInside h r = plain_fits_src h r

abbrev pub fits_outer : Direction → Header → NatRule → Bool
fits_outer FromOutside h r = outer_fits_src h r
fits_outer FromInside h r = outer_fits_dst h r

abbrev pub fits : Direction → Header → NatRule → Bool
fits d h r = fits_outer d h r || (fits_port d h r || fits_plain d h r)

-- the kinds of the rules of a group
abbrev pub is_in_group : Group → NatKind → Bool
is_in_group Port nat.Plain = false
is_in_group Port nat.Tcp = true
is_in_group Port nat.Udp = true
is_in_group Port nat.Outer = false
is_in_group Plain nat.Plain = true
is_in_group Plain nat.Tcp = false
is_in_group Plain nat.Udp = false
is_in_group Plain nat.Outer = false
is_in_group Outer nat.Plain = false
is_in_group Outer nat.Tcp = false
is_in_group Outer nat.Udp = false
is_in_group Outer nat.Outer = true

-- one of three, by the group
abbrev pub by_group : Group → Bool → Bool → Bool → Bool
by_group Port port plain outer = port
by_group Plain port plain outer = plain
by_group Outer port plain outer = outer

abbrev pub fits_as : Group → Direction → Header → NatRule → Bool
fits_as group d h r = by_group group (fits_port d h r) (fits_plain d h r) (fits_outer d h r)

abbrev pub applying : Direction → List NatRule → Header → Option ℕ
applying d rules h = option_or (position (fits_port d h) rules) (position (fits_plain d h) rules)

abbrev pub outer_applying : Direction → List NatRule → Header → Option ℕ
outer_applying d rules h = position (fits_outer d h) rules

-- the header with the side of the host inside replaced
abbrev pub inner_translated : Direction → List NatRule → Header → Header
inner_translated FromOutside rules h = with_dst h (find (port_fits_dst h) rules) (find (plain_fits_dst h) rules)
inner_translated FromInside rules h = with_src h (find (port_fits_src h) rules) (find (plain_fits_src h) rules)

-- the header g with the side of the host outside replaced, by the rule that applies to h
abbrev pub outer_translated : Direction → List NatRule → Header → Header → Header
outer_translated FromOutside rules h g = with_outer_src g (find (outer_fits_src h) rules)
outer_translated FromInside rules h g = with_outer_dst g (find (outer_fits_dst h) rules)

abbrev pub translated : Direction → List NatRule → Header → Header
translated FromOutside rules h = from_outside rules h
translated FromInside rules h = from_inside rules h

-- the stamp of a rule, if there is one
abbrev pub stamp_of : (NatRule → Stamp) → Option NatRule → Stamp
stamp_of stamp None = no_stamp
stamp_of stamp (Some r) = stamp r

-- the stamp of the rule with this number; without such a rule nothing is replaced
abbrev pub stamp_at : (NatRule → Stamp) → List NatRule → ℕ → Stamp
stamp_at stamp rules n = stamp_of stamp (slice_get rules n)

-- the same for an optional number
abbrev pub stamp_if : (NatRule → Stamp) → List NatRule → Option ℕ → Stamp
stamp_if stamp rules None = no_stamp
stamp_if stamp rules (Some n) = stamp_at stamp rules n

-- the stamp of both rules that apply
abbrev pub stamps_if : (NatRule → Stamp) → List NatRule → Option ℕ → Option ℕ → Stamp
stamps_if stamp rules rule outer = followed (stamp_if stamp rules rule) (stamp_if stamp rules outer)
