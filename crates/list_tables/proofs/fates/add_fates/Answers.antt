use Rattle.std.proofs.Common.{ℕ, ◌≡◌, All, List, Some, slice_get, slice_index_or, ap, sym, subst}
use Rattle.cube_diagram.specs.Absorbed.{TellsOthers}
use Rattle.list_tables.specs.declared.fates.MadeFates.{MadeFates}
use Rattle.net_forms.specs.declared.forms.Tables.{Tables}
use Rattle.net_forms.proofs.FormLemmas.{all_fates_kept}
use Rattle.list_tables.specs.Made.{IsMadeFates}
use Rattle.list_tables.proofs.KnownLemmas.{fates_more, fates_told}
use Rattle.list_tables.proofs.fates.add_fates.Goals as goal

pub loop-made-init : goal.loop-made-init
loop-made-init c =
    let old = c.args.tables.now in
    let new : Tables = record { diagrams = c.absorb.new.self; fates = c.numbers_of.new.self } in
    record {
      known = λ ds made known. all_fates_kept old new ds c.args.known.now.items (record { diagrams = c.in_ok-absorbed.ensures.kept; fates = c.in_ok-numbers.ensures.grows }) known;
    }

pub loop-made-preserved : goal.loop-made-preserved
loop-made-preserved c =
    let others = c.args.share.now.tables in
    let new : Tables = record { diagrams = c.absorb.new.self; fates = c.numbers_of.new.self } in
    let numbers = c.in_ok-numbers.numbers.items in
    let absorbed = c.in_ok-absorbed.absorbed.items in
    let items = c.deref-made-items.result.now in
    let m : MadeFates = slice_index_or items c.loop-made.made-index (record { device = 0; function = 0 }) in
    let o = slice_get c.deref-in-loop-made.result.now m.function in
    let told = λ (a n : ℕ) (e : slice_get absorbed a ≡ Some n). subst (λ (ks : List ℕ). TellsOthers others.diagrams ks new.diagrams a n) c.deref.ensures.value (c.in_ok-absorbed.ensures.exact a n e) in
    record {
      known = λ ds made known.
          let all : All (IsMadeFates others ds) items = subst (λ (ms : List MadeFates). All (IsMadeFates others ds) ms) (sym c.deref-made-items.ensures.value) made in
          let right = fates_told new others numbers absorbed ds m o (ap (λ (xs : List ℕ). slice_get xs m.function) c.deref-in-loop-made.ensures.value) c.in_ok-numbers.ensures.numbers told (all c.loop-made.made-index _ c.loop-made-test.true) in
          rw c.put_fates.ensures (fates_more new.diagrams new.fates ds c.loop-made.known.items m.device o right (c.loop-made.invariant.known ds made known));
    }
