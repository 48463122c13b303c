use Rattle.std.proofs.Common.{subst}
use Rattle.net_forms.specs.Forms.{IsList}
use Rattle.net_forms.proofs.FormLemmas.{lists_kept}
use Rattle.list_tables.specs.Made.{devices_of, list_at}
use Rattle.list_tables.proofs.KnownLemmas.{copied_list, ok_then}
use Rattle.list_tables.proofs.known.add_made.Goals as goal

pub returns-in-Old-clause-known : goal.returns-in-Old-clause-known
returns-in-Old-clause-known c =
    let a = c.args.known.now.tables.diagrams in
    let b = c.copy_from.new.self in
    let at = c.args.list.at in
    ok_then _ _ c.add_to.result (λ added both made known.
    let right = copied_list c.args.source.now b (list_at (devices_of both at.version) at) c.args.list.function c.in_ok-function.function c.in_ok-function.ensures.below c.in_ok-function.ensures.exact made in
    record {
      old = added b both.old.now (subst (λ v. IsList b (list_at (devices_of both v) at) c.in_ok-function.function) c.in-Old.is right) (lists_kept a b both.old.now c.args.known.now.old_lists.items c.in_ok-function.ensures.kept known.old);
      new = lists_kept a b both.new.now c.args.known.now.new_lists.items c.in_ok-function.ensures.kept known.new;
    }) c.add_to.ensures

pub returns-in-New-clause-known : goal.returns-in-New-clause-known
returns-in-New-clause-known c =
    let a = c.args.known.now.tables.diagrams in
    let b = c.copy_from.new.self in
    let at = c.args.list.at in
    ok_then _ _ c.add_to-in-New.result (λ added both made known.
    let right = copied_list c.args.source.now b (list_at (devices_of both at.version) at) c.args.list.function c.in_ok-function.function c.in_ok-function.ensures.below c.in_ok-function.ensures.exact made in
    record {
      old = lists_kept a b both.old.now c.args.known.now.old_lists.items c.in_ok-function.ensures.kept known.old;
      new = added b both.new.now (subst (λ v. IsList b (list_at (devices_of both v) at) c.in_ok-function.function) c.in-New.is right) (lists_kept a b both.new.now c.args.known.now.new_lists.items c.in_ok-function.ensures.kept known.new);
    }) c.add_to-in-New.ensures
