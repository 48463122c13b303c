use Rattle.std.proofs.Common.{List, sym, subst}
use Rattle.std.proofs.lemmas.List.Elements.{All-nil}
use Rattle.net_forms.specs.declared.forms.DeviceLists.{DeviceLists}
use Rattle.net_forms.specs.Forms.{IsKnown}
use Rattle.net_forms.specs.Known.{AreKnownLists}
use Rattle.list_tables.proofs.known.none_known.Goals as goal

pub returns : goal.returns
returns c both =
    let fs = c.in_ok-tables.tables.diagrams in
    record {
      old = subst (λ (ks : List DeviceLists). AreKnownLists fs both.old.now ks) (sym c.new-old_lists.ensures.items) (λ n d e. All-nil (IsKnown fs d.config.lists));
      new = subst (λ (ks : List DeviceLists). AreKnownLists fs both.new.now ks) (sym c.new-new_lists.ensures.items) (λ n d e. All-nil (IsKnown fs d.config.lists));
    }
