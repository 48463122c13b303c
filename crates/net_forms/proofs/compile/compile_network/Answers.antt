use Rattle.std.proofs.Common.{List, sym, subst}
use Rattle.net_types.specs.declared.network.NetDevice.{NetDevice}
use Rattle.net_forms.specs.Known.{AreKnownBefore}
use Rattle.net_forms.proofs.compile.compile_network.Goals as goal

pub compile_devices-requires-clause-before : goal.compile_devices-requires-clause-before
compile_devices-requires-clause-before c =
    subst (λ (ds : List NetDevice). AreKnownBefore c.args.tables.now.diagrams c.args.tables.now.fates ds c.args.before) (sym c.as_slice.ensures) c.requires.before
