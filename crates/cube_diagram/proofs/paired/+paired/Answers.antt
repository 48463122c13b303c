use Rattle.std.proofs.Common.{arith, ◌≡◌}
use Rattle.hdr_bits.proofs.ListLemmas.{extends_none, extends_then}
use Rattle.cube_diagram.specs.declared.memo.Combination.{Combination}
use Rattle.cube_diagram.proofs.CombineLemmas.{later_grows}
use Rattle.cube_diagram.proofs.PairedLemmas.{paired_nothing, paired_flat, paired_step, later_paired, memo_grows, memo_put}
use Rattle.cube_diagram.proofs.paired.+paired.Goals as goal
use Rattle.cube_diagram.proofs.paired.+paired.Goals.{else-a-eq-NOTHING-via-then-a-eq-NOTHING+else-b-eq-NOTHING, else-a-eq-NOTHING-via-else-a-eq-NOTHING}

pub returns-then-b-eq-NOTHING-clause-paired : goal.returns-then-b-eq-NOTHING-clause-paired
returns-then-b-eq-NOTHING-clause-paired t c =
    paired_nothing c.args.tables.now.table.nodes.items c.args.pairs.now.keys c.args.a c.args.b c.requires.sound.reduced c.if-a-eq-NOTHING.true c.if-b-eq-NOTHING.true

pub returns-then-bit-ge112-clause-paired : goal.returns-then-bit-ge112-clause-paired
returns-then-bit-ge112-clause-paired t c =
    let d0 = c.args.tables.now.table.nodes.items in
    let d1 = c.constant.new.tables.table.nodes.items in
    let e = c.earlier_bit-bit.ensures in
    let g = c.if-bit-ge112.true in
    let none : (c.args.a ≡ 0) × (c.args.b ≡ 0) → ⊥ = λ p. elim c.else-a-eq-NOTHING.branch [
      | else-a-eq-NOTHING-via-then-a-eq-NOTHING+else-b-eq-NOTHING w ↦ w.if-b-eq-NOTHING.false p.1
      | else-a-eq-NOTHING-via-else-a-eq-NOTHING w ↦ w.if-a-eq-NOTHING.false p.0
    ] in
    paired_flat d0 d1 c.number_of.new.pairs.keys c.args.a c.args.b c.in_ok-number.number c.in_ok-r.r c.lookup.result c.lookup-then-bit-ge112.result c.requires.sound.reduced c.requires.first c.requires.second (omega (arith, e, g)) none c.in_ok-r.ensures.grows c.lookup.ensures c.lookup-then-bit-ge112.ensures c.in_ok-number.ensures.entry c.in_ok-r.ensures.constant

pub returns-then-bit-ge112-clause-memo : goal.returns-then-bit-ge112-clause-memo
returns-then-bit-ge112-clause-memo t c =
    memo_grows c.args.tables.now.table.nodes.items c.constant.new.tables.table.nodes.items c.args.pairs.now.keys c.number_of.new.pairs.keys c.args.memo.now.slots.items c.in_ok-r.ensures.grows c.in_ok-number.ensures.grows c.requires.memo

pub split-requires-clause-low : goal.split-requires-clause-low
split-requires-clause-low t c =
    let d0 = c.args.tables.now.table.nodes.items in
    let d1 = c.paired.new.tables.table.nodes.items in
    let d2 = c.paired-2.new.tables.table.nodes.items in
    let p = c.parts-a_low in
    let q = c.parts-b_low in
    let k = c.earlier_bit-bit.result in
    later_grows d1 d2 k c.in_ok-low.low c.in_ok-high.ensures.grows (later_paired d0 d1 c.paired.new.pairs.keys k p.result.0 q.result.0 c.in_ok-low.low c.in_ok-low.ensures.grows p.ensures.low_later q.ensures.low_later c.in_ok-low.ensures.paired)

pub split-requires-clause-high : goal.split-requires-clause-high
split-requires-clause-high t c =
    let d0 = c.args.tables.now.table.nodes.items in
    let d1 = c.paired.new.tables.table.nodes.items in
    let d2 = c.paired-2.new.tables.table.nodes.items in
    let p = c.parts-a_low in
    let q = c.parts-b_low in
    let k = c.earlier_bit-bit.result in
    let g = extends_then d0 d1 d2 c.in_ok-low.ensures.grows c.in_ok-high.ensures.grows in
    later_paired d0 d2 c.paired-2.new.pairs.keys k p.result.1 q.result.1 c.in_ok-high.high g p.ensures.high_later q.ensures.high_later c.in_ok-high.ensures.paired

pub returns-in_err-result-clause-grows : goal.returns-in_err-result-clause-grows
returns-in_err-result-clause-grows t c =
    let d0 = c.args.tables.now.table.nodes.items in
    let d1 = c.paired.new.tables.table.nodes.items in
    let d2 = c.paired-2.new.tables.table.nodes.items in
    let d3 = c.split.new.tables.table.nodes.items in
    extends_then d0 d1 d3 c.in_ok-low.ensures.grows (extends_then d1 d2 d3 c.in_ok-high.ensures.grows c.in_err-result.ensures.grows)

pub returns-clause-paired : goal.returns-clause-paired
returns-clause-paired t c =
    let d0 = c.args.tables.now.table.nodes.items in
    let d1 = c.paired.new.tables.table.nodes.items in
    let d2 = c.paired-2.new.tables.table.nodes.items in
    let d3 = c.split.new.tables.table.nodes.items in
    let p = c.parts-a_low in
    let q = c.parts-b_low in
    paired_step d0 d1 d2 d3 c.paired.new.pairs.keys c.paired-2.new.pairs.keys c.earlier_bit-bit.result c.args.a p.result.0 p.result.1 c.args.b q.result.0 q.result.1 c.in_ok-low.low c.in_ok-high.high c.in_ok-result.result c.in_ok-low.ensures.grows c.in_ok-high.ensures.grows c.in_ok-result.ensures.grows c.in_ok-high.ensures.pairs c.requires.first c.requires.second c.earlier_bit-bit.ensures p.ensures q.ensures c.in_ok-low.ensures.paired c.in_ok-high.ensures.paired c.in_ok-result.ensures.by

pub returns-clause-memo : goal.returns-clause-memo
returns-clause-memo t c =
    let d0 = c.args.tables.now.table.nodes.items in
    let d1 = c.paired.new.tables.table.nodes.items in
    let d2 = c.paired-2.new.tables.table.nodes.items in
    let d3 = c.split.new.tables.table.nodes.items in
    let p = c.parts-a_low in
    let q = c.parts-b_low in
    let s2 = c.paired-2.new.pairs.keys in
    let known : Combination = record { first = c.args.a; second = c.args.b; result = c.in_ok-result.result } in
    let w = paired_step d0 d1 d2 d3 c.paired.new.pairs.keys s2 c.earlier_bit-bit.result c.args.a p.result.0 p.result.1 c.args.b q.result.0 q.result.1 c.in_ok-low.low c.in_ok-high.high c.in_ok-result.result c.in_ok-low.ensures.grows c.in_ok-high.ensures.grows c.in_ok-result.ensures.grows c.in_ok-high.ensures.pairs c.requires.first c.requires.second c.earlier_bit-bit.ensures p.ensures q.ensures c.in_ok-low.ensures.paired c.in_ok-high.ensures.paired c.in_ok-result.ensures.by in
    memo_put d3 s2 known c.paired-2.new.memo.slots.items c.remember.new.self.slots.items w (memo_grows d2 d3 s2 s2 c.paired-2.new.memo.slots.items c.in_ok-result.ensures.grows (extends_none s2) c.in_ok-high.ensures.memo) c.remember.ensures

pub returns-clause-pairs : goal.returns-clause-pairs
returns-clause-pairs t c =
    extends_then c.args.pairs.now.keys c.paired.new.pairs.keys c.paired-2.new.pairs.keys c.in_ok-low.ensures.pairs c.in_ok-high.ensures.pairs

pub returns-clause-grows : goal.returns-clause-grows
returns-clause-grows t c =
    let d0 = c.args.tables.now.table.nodes.items in
    let d1 = c.paired.new.tables.table.nodes.items in
    let d2 = c.paired-2.new.tables.table.nodes.items in
    let d3 = c.split.new.tables.table.nodes.items in
    extends_then d0 d1 d3 c.in_ok-low.ensures.grows (extends_then d1 d2 d3 c.in_ok-high.ensures.grows c.in_ok-result.ensures.grows)

pub returns-in_err-high-clause-grows : goal.returns-in_err-high-clause-grows
returns-in_err-high-clause-grows t c = extends_then _ _ _ c.in_ok-low.ensures.grows c.in_err-high.ensures.grows
