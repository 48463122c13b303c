use Rattle.std.proofs.Common.{refl}
use Rattle.cube_alg.proofs.CutLemmas.{adds_empty, adds_one, adds_join, first_value, split_halves, splits}
use Rattle.cube_alg.proofs.cut.+add_cut.Goals as goal

pub returns-in_default : goal.returns-in_default
returns-in_default t c = adds_empty c.args.node c.args.pieces.now c.args.parts.now.items c.in_default.ensures.value

pub returns-in-Some-settled : goal.returns-in-Some-settled
returns-in-Some-settled t c =
    rw c.in_ok-push.ensures.items (adds_one c.args.node c.args.pieces.now c.args.parts.now.items (record { cube = c.args.node; value = c.in-Some-settled.value }) refl c.in-Some-settled.ensures)

pub returns-in_default-free_bit : goal.returns-in_default-free_bit
returns-in_default-free_bit t c =
    let f = c.in-Some.first.now in
    rw c.in_ok-push-2.ensures.items (adds_one c.args.node c.args.pieces.now c.args.parts.now.items (record { cube = c.args.node; value = f.value }) refl (first_value c.args.node c.args.pieces.now f c.in-Some.ensures.value c.requires.meets (c.in_default-free_bit.ensures.none refl)))

pub returns : goal.returns
returns t c =
    let s = split_halves c.in-Some-free_bit.bit c.args.node c.split.result c.split.ensures.low c.split.ensures.high in
    let f = c.in-Some.first.now in
    let d = splits c.in-Some-free_bit.bit c.args.node c.split.result.0 c.split.result.1 c.args.pieces.now c.deref.result.now c.deref-2.result.now f c.in-Some.ensures.value c.in-Some-free_bit.ensures.bit c.split.ensures.low_bits c.split.ensures.high_bits (rw c.deref.ensures.value c.in_ok-zeros.ensures.stars) (rw c.deref-2.ensures.value c.in_ok-ones.ensures.stars) in
    adds_join c.in-Some-free_bit.bit c.args.node c.split.result.0 c.split.result.1 c.args.pieces.now c.deref.result.now c.deref-2.result.now c.args.parts.now.items c.add_cut.new.parts.items c.add_cut-2.new.parts.items s (rw c.deref.ensures.value c.in_ok-zeros.ensures.value) (rw c.deref-2.ensures.value c.in_ok-ones.ensures.value) d c.in_ok-add_cut.ensures c.in_ok-add_cut-2.ensures
