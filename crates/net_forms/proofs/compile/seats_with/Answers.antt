use Rattle.std.proofs.Common.{◌<◌, ◌∙◌, length, get_or, subst, ap, All}
use Rattle.acl_match.proofs.NumberLemmas.{keeps_then}
use Rattle.net_forms.specs.Forms.{IsKnown, IsList, list_in}
use Rattle.net_forms.proofs.FormLemmas.{list_kept, seats_more}
use Rattle.net_forms.proofs.compile.seats_with.Goals as goal

pub loop-interface-preserved : goal.loop-interface-preserved
loop-interface-preserved c =
    let i = c.loop-interface.invariant in
    let a = c.loop-interface.diagrams in
    let b = c.list_function.new.diagrams in
    let d = c.list_function-in-loop-interface.new.diagrams in
    let config = c.args.config.now in
    let x = c.interface-item.result in
    let n = c.loop-interface.interface-index in
    let p = c.in_ok-input.ensures in
    let q = c.in_ok-output.ensures in
    let k = keeps_then a b d p.kept q.kept in
    let lists = c.as_slice-lists.ensures in
    let items = c.as_slice-interface-items.ensures in
    record {
      kept = keeps_then c.args.diagrams.now a d i.kept k;
      known = subst (λ l. All (IsKnown d l) c.list_function-in-loop-interface.new.known.items) lists q.known;
      seats = rw c.in_ok-push.ensures.items (seats_more a d config config.interfaces c.loop-interface.seats.items n x _ (subst (λ l. n < length l) items c.loop-interface-test.true) (c.interface-item.is ∙ ap (λ l. get_or l n x) items) k i.seats (record { input = list_kept b d (list_in config.lists x.input) c.in_ok-input.input q.kept (subst (λ l. IsList b (list_in l x.input) c.in_ok-input.input) lists p.list); output = subst (λ l. IsList d (list_in l x.output) c.in_ok-output.output) lists q.list }));
    }
