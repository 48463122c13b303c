use Rattle.std.proofs.Common.{ℕ, ◌+◌, Contains, IsSome, List, ap, get_or, subst, sym, take, take_all}
use Rattle.std.proofs.lemmas.List.{get_or_default}
use Rattle.cube_alg.specs.declared.cut.Piece.{Piece}
use Rattle.cube_alg.specs.Pieces.{value_of}
use Rattle.hdr_bits.specs.HeaderBits.{number}
use Rattle.change_scope.specs.Translated.{header_to}
use Rattle.change_scope.proofs.NamedLemmas.{pieces_next, to_small}
use Rattle.change_scope.proofs.named.pieces_to.Goals as goal

pub loop-address-preserved : goal.loop-address-preserved
loop-address-preserved c =
    let l = c.loop-address in
    let xs = c.args.addresses.now in
    let a = get_or xs l.address-index 0 in
    let f = c.type_inv.addresses l.address-index in
    let b = to_small a f.fits in
    let held = (c.of-cube.ensures (number (header_to a)) b).1 (sym (ap number c.header_to.ensures)) in
    subst (λ (ps : List Piece). (x : ℕ) → Contains (take (l.address-index + 1) xs) x → IsSome (value_of ps (number (header_to x)))) (sym c.in_ok-push.ensures.items) (pieces_next xs l.address-index a l.pieces.items (record { cube = c.of-cube.result; value = 1 }) c.loop-address-test.true (get_or_default xs l.address-index 0 a c.loop-address-test.true) held l.invariant)

pub returns : goal.returns
returns c =
    subst (λ (xs : List ℕ). (a : ℕ) → Contains xs a → IsSome (value_of c.loop-address.pieces.items (number (header_to a)))) (take_all c.loop-address.address-index c.args.addresses.now c.loop-address-test.false) c.loop-address.invariant
