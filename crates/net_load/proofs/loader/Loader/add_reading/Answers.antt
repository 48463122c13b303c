use Rattle.std.proofs.Common.{sym, ap, ◌∙◌}
use Rattle.std.specs.Option.{option_copied}
use Rattle.net_load.proofs.Hosts.{no_host}
use Rattle.net_load.proofs.loader.Loader.add_reading.Goals as goal

pub add-requires-clause-host : goal.add-requires-clause-host
add-requires-clause-host c = no_host c.args.self.now.loaded.items c.args.loaded.config.hostname (sym c.taken.ensures ∙ ap option_copied c.in_default.is)

pub returns-clause-adds : goal.returns-clause-adds
returns-clause-adds c = record {
  loaded = c.in_ok-add.ensures.loaded;
  total = c.in_ok-add.ensures.total;
  host = no_host c.args.self.now.loaded.items c.args.loaded.config.hostname (sym c.taken.ensures ∙ ap option_copied c.in_default.is);
}
