use Rattle.std.proofs.Common.{ℕ, ◌≡◌, ◌∙◌, ap}
use Rattle.net_types.specs.AccessLists.{matches}
use Rattle.hdr_bits.specs.HeaderBits.{header_of}
use Rattle.acl_match.specs.Cubes.{any_in}
use Rattle.acl_match.proofs.EntryLemmas.{no_base, parts_tests, members_of_tests}
use Rattle.acl_match.proofs.entry.entry_cubes.Goals as goal

pub returns-in_default-clause-test : goal.returns-in_default-clause-test
returns-in_default-clause-test c h =
    ap (λ x. any_in x h) c.new.ensures.items ∙ no_base c.args.entry.now h c.base_cube.result c.in_default.is (c.base_cube.ensures h)

pub returns-in_default-clause-members : goal.returns-in_default-clause-members
returns-in_default-clause-members c =
    members_of_tests c.new.result.items c.args.entry.now (λ h. ap (λ x. any_in x h) c.new.ensures.items ∙ no_base c.args.entry.now h c.base_cube.result c.in_default.is (c.base_cube.ensures h))

tests : (c : goal.After-drop-sources-2) → (h : ℕ) → any_in c.in_ok-cubes.cubes.items h ≡ matches c.args.entry.now (header_of h)
tests c h =
    let d = c.deref.ensures.value in
    let d2 = c.deref-2.ensures.value in
    let d3 = c.deref-3.ensures.value in
    let d4 = c.deref-4.ensures.value in
    let d5 = c.deref-5.ensures.value in
    let q = c.in_ok-from.ensures h in
    let t = c.in_ok-between.ensures h in
    let v = c.in_ok-cubes.ensures h in
    parts_tests c.args.entry.now h c.base_cube.result c.in-Some.base c.in_ok-sources.sources.items c.in_ok-from.from.items c.in_ok-destinations.destinations.items c.in_ok-between.between.items c.in_ok-flags.flags.items c.in_ok-cubes.cubes.items c.in-Some.is (c.base_cube.ensures h) (c.in_ok-sources.ensures h) (rw d at q) (c.in_ok-destinations.ensures h) (rw (d2, d3) at t) (c.in_ok-flags.ensures h) (rw (d4, d5) at v)

pub returns-clause-test : goal.returns-clause-test
returns-clause-test c h = tests c h

pub returns-clause-members : goal.returns-clause-members
returns-clause-members c = members_of_tests c.in_ok-cubes.cubes.items c.args.entry.now (tests c)
