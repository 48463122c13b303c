use Rattle.std.proofs.Common.{◌≡◌, ◌++◌, List, ℕ, OnOk, length, append_assoc, ap, subst, ◌∙◌}
use Rattle.std.specs.Prelude.{codes, decimal}
use Rattle.report_text.specs.Readings.{interfaces_text}
use Rattle.report_text.proofs.readings.append_interfaces.Goals as goal

pub returns : goal.returns
unfolding interfaces_text
returns c =
    let number = decimal (length c.args.interfaces.now) in
    let whole : c.append.new.out.items ++ number ≡ c.args.out.now.items ++ interfaces_text c.args.interfaces.now =
    ap (λ (v : List ℕ). v ++ number) c.in_ok-append.ensures ∙ append_assoc c.args.out.now.items (codes " interfaces ") number in
    subst (λ (text : List ℕ). OnOk c.append_number.result (c.append_number.new.out.items ≡ text)) whole c.append_number.ensures
