use Rattle.std.proofs.Common.{◌≡◌, ◌∙◌, ap, sym, Ok, length}
use Rattle.std.proofs.Math.Nat.{ℕ_set}
use Rattle.std.proofs.Math.Path.{PathP, to_path_p}
use Rattle.net_types.specs.declared.config.Config.{Config}
use Rattle.net_types.specs.declared.network.NetDevice.{NetDevice}
use Rattle.incr_review.specs.Edited.{map_ok, with_rules, device_edited}
use Rattle.incr_review.proofs.edited.edited_at.Goals as goal

-- that there are as many numbers as interfaces is one fact
same_device : (x : NetDevice) (c : Config) (numbered : length x.numbers ≡ length c.interfaces) → c ≡ x.config → record { name = x.name; config = c; numbers = x.numbers; numbered = numbered } ≡ x
same_device x c numbered e =
    let over : PathP (λ i. length x.numbers ≡ length (e i).interfaces) numbered x.numbered = to_path_p (λ i. length x.numbers ≡ length (e i).interfaces) (ℕ_set (length x.numbers) (length x.config.interfaces) _ x.numbered) in
    λ i. record { name = x.name; config = e i; numbers = x.numbers; numbered = over i }

pub returns-clause-ok : goal.returns-clause-ok
returns-clause-ok c =
    let y : NetDevice = c.in_ok-copy.copy in
    let after : Config = c.edit_rules.new.config in
    let made = with_rules y (record { routes = after.routes; lists = after.lists }) in
    ap (device_edited c.args.edit.now) (sym c.in_ok-copy.ensures.same)
    ∙ (ap (map_ok (with_rules y)) c.in_ok-edit_rules.ensures.ok
    ∙ ap Ok (sym (same_device made after _ c.edit_rules.ensures.others)))
