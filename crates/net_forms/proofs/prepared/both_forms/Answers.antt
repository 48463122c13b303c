use Rattle.net_forms.proofs.FormLemmas.{before_kept, devices_kept}
use Rattle.net_forms.proofs.prepared.both_forms.Goals as goal

pub later_form-requires-clause-before : goal.later_form-requires-clause-before
later_form-requires-clause-before c = before_kept c.args.tables.now c.compile_network.new.tables c.args.networks.new.network.now.devices c.args.of_new c.in_ok-old.ensures.kept c.requires.new

pub returns-clause-forms : goal.returns-clause-forms
returns-clause-forms c =
    let old = c.in_ok-old.ensures.form in
    record {
      old_form = record { wiring = old.wiring; devices = devices_kept c.compile_network.new.tables c.later_form.new.tables c.in_ok-old.old.world.network.now.devices c.in_ok-old.old.devices.items c.in_ok-later.ensures.kept old.devices };
      new_form = c.in_ok-later.ensures.form;
      alike = c.in_ok-later.ensures.like;
    }
