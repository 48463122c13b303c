use Rattle.std.proofs.Common.{ap, sym, ◌∙◌, option_and_then, position}
use Rattle.net_types.specs.Routes.{same_text}
use Rattle.net_forms.proofs.compile.list_position.Goals as goal

pub returns : goal.returns
returns c =
    c.position_named.ensures ∙ (ap (λ b. position (λ l. same_text l.name b) c.args.lists.now) c.as_bytes.ensures ∙ sym (ap (option_and_then (λ n. position (λ l. same_text l.name n) c.args.lists.now)) c.in-Some.is))
