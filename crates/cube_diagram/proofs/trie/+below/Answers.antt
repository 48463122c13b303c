use Rattle.std.proofs.Common.{◌≡◌, ◌+◌, true, length, slice_get, drop, suc, ap, ◌∙◌, refl, arith}
use Rattle.std.specs.Prelude.{filter}
use Rattle.cube_diagram.specs.Tries.{is_on}
use Rattle.hdr_bits.proofs.ListLemmas.{extends_then}
use Rattle.cube_diagram.proofs.CombineLemmas.{later_grows}
use Rattle.cube_diagram.proofs.TrieLemmas.{drop_none, drop_some, trie_none, trie_first, trie_skip, trie_grows, trie_later, trie_both, below_side}
use Rattle.cube_diagram.proofs.trie.+below.Goals as goal

pub returns-in_default-clause-trie : goal.returns-in_default-clause-trie
returns-in_default-clause-trie t c =
    trie_none c.args.tables.now.table.nodes.items (drop c.args.start c.args.stack.now.items) c.args.bit c.requires.sound.reduced.start (drop_none c.args.stack.now.items c.args.start (c.in_default.ensures ∙ ap (λ xs. slice_get xs c.args.start) c.deref.ensures.value)) c.requires.within

pub returns-then-is_free-clause-trie : goal.returns-then-is_free-clause-trie
returns-then-is_free-clause-trie t c =
    let xs = c.args.stack.now.items in
    let p = c.in-Some.first in
    trie_first c.add.new.tables.table.nodes.items (drop c.args.start xs) (drop (suc c.args.start) xs) p c.args.bit c.in_ok-id.id c.in_ok-id.ensures.entry (drop_some xs c.args.start p (c.in-Some.ensures ∙ ap (λ ys. slice_get ys c.args.start) c.deref.ensures.value)) (c.if-is_free.ensures.free refl) c.requires.within

pub returns-then-not-divides-clause-trie : goal.returns-then-not-divides-clause-trie
returns-then-not-divides-clause-trie t c =
    let xs = c.args.stack.now.items in
    trie_skip c.below.new.tables.table.nodes.items (drop c.args.start xs) c.args.bit c.in_ok-id-2.id (rw c.deref-2.ensures.value at (c.if-not-divides.ensures refl)) c.in_ok-id-2.ensures.trie

pub split-requires-clause-low : goal.split-requires-clause-low
split-requires-clause-low t c =
    let d2 = c.below-2.new.tables.table.nodes.items in
    let d3 = c.below-3.new.tables.table.nodes.items in
    let l = c.if-is_free.ensures.within refl in
    later_grows d2 d3 c.args.bit c.in_ok-low.low c.in_ok-high.ensures.grows (trie_later d2 _ c.args.bit c.in_ok-low.low l c.in_ok-low.ensures.trie)

pub returns-clause-trie : goal.returns-clause-trie
returns-clause-trie t c =
    let d2 = c.below-2.new.tables.table.nodes.items in
    let d3 = c.below-3.new.tables.table.nodes.items in
    let d4 = c.split.new.tables.table.nodes.items in
    let l = c.if-is_free.ensures.within refl in
    let bit = c.args.bit in
    let start = c.args.start in
    let old = c.args.stack.now.items in
    let end = c.len-end.result in
    let e : end ≡ length old = (let n = c.len-end.ensures in omega (arith, n)) in
    let mid = c.truncate.new.self.items in
    let m : mid ≡ old = below_side old c.add_side.new.stack.items c.below-2.new.stack.items mid end e c.in_ok-from.ensures.old c.in_ok-low.ensures.stack c.truncate.ensures.items in
    let p = rw c.in_ok-from.ensures.side at c.in_ok-low.ensures.trie in
    let q = rw (c.in_ok-from-2.ensures.side ∙ ap (λ xs. filter (is_on bit true) (drop start xs)) m) at c.in_ok-high.ensures.trie in
    let g3 = c.in_ok-high.ensures.grows in
    let g4 = c.in_ok-id-3.ensures.grows in
    trie_both d4 (drop start old) bit c.in_ok-low.low c.in_ok-high.high c.in_ok-id-3.id l (trie_grows d2 d4 _ (bit + 1) c.in_ok-low.low (extends_then d2 d3 d4 g3 g4) p) (trie_grows d3 d4 _ (bit + 1) c.in_ok-high.high g4 q) c.in_ok-id-3.ensures.by

pub returns-in_err-high-clause-grows : goal.returns-in_err-high-clause-grows
returns-in_err-high-clause-grows t c = extends_then _ _ _ c.in_ok-low.ensures.grows c.in_err-high.ensures.grows

pub returns-in_err-id-3-clause-grows : goal.returns-in_err-id-3-clause-grows
returns-in_err-id-3-clause-grows t c = extends_then _ _ _ (extends_then _ _ _ c.in_ok-low.ensures.grows c.in_ok-high.ensures.grows) c.in_err-id-3.ensures.grows

pub returns-clause-grows : goal.returns-clause-grows
returns-clause-grows t c = extends_then _ _ _ (extends_then _ _ _ c.in_ok-low.ensures.grows c.in_ok-high.ensures.grows) c.in_ok-id-3.ensures.grows
