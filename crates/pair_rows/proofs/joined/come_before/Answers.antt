use Rattle.std.proofs.Common.{◌≡◌, ◌-◌, ◌++◌, ℕ, List, Some, AllPairs, length, slice_get, sym, ap, subst, ◌∙◌}
use Rattle.std.specs.Prelude.{option_map}
use Rattle.std.proofs.lemmas.List.{map-append, length-map}
use Rattle.std.proofs.lemmas.Option.{slice_get-map}
use Rattle.hdr_bits.specs.declared.cube.Cube.{Cube}
use Rattle.hdr_bits.specs.Rows.{ComesBefore}
use Rattle.net_types.specs.declared.network.Row.{Row}
use Rattle.pair_rows.specs.Pairs.{cubes_of}
use Rattle.pair_rows.proofs.ListLemmas.{pairs_joined}
use Rattle.pair_rows.proofs.OrderLemmas.{comes_before-trans}
use Rattle.pair_rows.proofs.joined.come_before.Goals as goal

abbrev cube_of : Row → Cube
cube_of r = r.cube

-- the cube at a place is that of the row there
at_place : (rows : List Row) (n : ℕ) (r : Row) (c : Cube) → Some r ≡ slice_get rows n → slice_get (cubes_of rows) n ≡ Some c → r.cube ≡ c
at_place rows n r c there is =
    let own : slice_get (cubes_of rows) n ≡ Some r.cube = slice_get-map cube_of rows n ∙ ap (option_map cube_of) (sym there) in
    let both : Some r.cube ≡ Some c = sym own ∙ is in
    cc

pub returns : goal.returns
returns c is a b =
    let rows : List Row = c.args.rows.now in
    let more : List Row = c.args.more.now in
    let all : cubes_of (rows ++ more) ≡ cubes_of rows ++ cubes_of more = map-append cube_of rows more in
    let order : ComesBefore c.in-Some.last.now.cube c.in-Some-first.first.now.cube = c.comes_before.ensures is in
    let last : (n : Cube) → slice_get (cubes_of rows) (length (cubes_of rows) - 1) ≡ Some n → c.in-Some.last.now.cube ≡ n =
    λ n e. at_place rows (length rows - 1) c.in-Some.last.now n c.in-Some.ensures.value (subst (λ (k : ℕ). slice_get (cubes_of rows) (k - 1) ≡ Some n) (length-map rows cube_of) e)
    in
    subst (AllPairs ComesBefore) (sym all) (pairs_joined ComesBefore comes_before-trans (cubes_of rows) (cubes_of more) a b (λ x y p q. subst (λ (z : Cube). ComesBefore z y) (last x p) (subst (ComesBefore c.in-Some.last.now.cube) (at_place more 0 c.in-Some-first.first.now y c.in-Some-first.ensures.value q) order)))
