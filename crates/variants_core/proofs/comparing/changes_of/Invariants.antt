use Rattle.std.proofs.Common.{◌≡◌, ◌++◌, drop}
use Rattle.variants_core.specs.Taking.{changes_of}
use Rattle.variants_core.proofs.comparing.changes_of.Given as goal

abbrev pub invariant-loop-variant : goal.invariant-loop-variant
invariant-loop-variant l = l.all.items ++ changes_of (drop l.variant-index l.variants) ≡ changes_of l.variants
