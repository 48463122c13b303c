use Rattle.std.proofs.Common.{◌<◌, ◌^◌, ℕ, List, length, sym, subst}
use Rattle.set_walk.proofs.SetLemmas.{kept_below}
use Rattle.loop_search.specs.Bounds.{AreInTable, AreBounds}
use Rattle.ask_query.proofs.AnswerLemmas.{filter_kept}
use Rattle.ask_query.specs.declared.slots.Slot.{Slot}
use Rattle.ask_query.specs.Slots.{AreBelow, HaveSlots}
use Rattle.loop_search.proofs.WholeLemmas.{whole_kept}
use Rattle.ask_query.proofs.workers.answers_by.Goals as goal

pub loop_bounds-requires : goal.loop_bounds-requires
loop_bounds-requires g c = whole_kept c.args.table c.filtered.new.table c.args.net.now c.in_ok-domain.ensures.kept c.requires.net

pub answers_by_slots-requires : goal.answers_by_slots-requires
answers_by_slots-requires g c = (
  search,
  (
    search,
    record {
      net = whole_kept c.filtered.new.table c.loop_bounds.new.table c.args.net.now c.in_ok-bounds.ensures.kept (whole_kept c.args.table c.filtered.new.table c.args.net.now c.in_ok-domain.ensures.kept c.requires.net);
      domain = kept_below c.filtered.new.table c.loop_bounds.new.table c.in_ok-domain.domain c.in_ok-bounds.ensures.kept c.in_ok-domain.ensures.below;
      filters = λ q m. filter_kept c.filtered.new.table c.loop_bounds.new.table c.in_ok-domain.domain q c.in_ok-bounds.ensures.kept c.in_ok-domain.ensures.below (c.in_ok-domain.ensures.filters q m);
      sets = subst (λ (bs : List ℕ). AreInTable c.loop_bounds.new.table bs) (sym c.deref.ensures.value) c.in_ok-bounds.ensures.below;
      bounds = subst (λ (bs : List ℕ). AreBounds c.loop_bounds.new.table c.args.net.now bs) (sym c.deref.ensures.value) c.in_ok-bounds.ensures.bounds;
      ttl = c.requires.ttl;
      below = subst (λ (ss : List Slot). AreBelow (length c.args.questions.now) ss) (sym c.deref-2.ensures.value) c.in_ok-slots.ensures.below;
      each = subst (λ (ss : List Slot). HaveSlots (length c.args.questions.now) ss) (sym c.deref-2.ensures.value) c.in_ok-slots.ensures.each;
      few = subst (λ (ss : List Slot). length ss < 2 ^ 32) (sym c.deref-2.ensures.value) c.in_ok-slots.ensures.few;
    },
  ),
)
