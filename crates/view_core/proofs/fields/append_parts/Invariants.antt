use Rattle.std.proofs.Common.{◌≡◌, ◌++◌, take, flat_map}
use Rattle.view_core.specs.FieldWords.{part_text}
use Rattle.view_core.proofs.fields.append_parts.Given as goal

abbrev pub invariant-loop-part : goal.invariant-loop-part
invariant-loop-part l = l.out.items ≡ l.initial.out.items ++ flat_map (λ p. l.between ++ part_text l.kind p) (take l.part-index l.rest)
