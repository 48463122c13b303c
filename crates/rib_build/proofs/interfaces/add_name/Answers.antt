use Rattle.std.proofs.Common.{sym}
use Rattle.rib_build.specs.Names.{named}
use Rattle.rib_build.proofs.Tables.{name_added}
use Rattle.rib_build.proofs.interfaces.add_name.Goals as goal

pub returns : goal.returns
returns c = λ name. rw (← c.is_enabled.ensures, ← c.as_bytes-name.ensures) (name_added (named (λ k. k.now) c.args.enabled.now) c.as_bytes-name.result.now name c.is_enabled.result _ (sym c.if-contains_key.ensures) (c.in_ok-insert.ensures.updates.0 (record { ref_ptr = (0, 0); now = name })))
