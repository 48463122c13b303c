use Rattle.std.proofs.Common.{map, Global}
use Rattle.std.specs.Prelude.{string_bytes}
use Rattle.net_load.proofs.Listing.{listed}
use Rattle.net_load.proofs.folder.list_configs.Goals as goal

pub returns-in_ok-config_names-in-Ok-clause-lists : goal.returns-in_ok-config_names-in-Ok-clause-lists
returns-in_ok-config_names-in-Ok-clause-lists g c =
    listed (g.F.Files.told c.args.files.now) c.args.folder.now (map (string_bytes {Z = Global}) c.in-Ok.names.items) (map (string_bytes {Z = Global}) c.in_ok-config_names-in-Ok.field-0.items) c.in-Ok.names c.in-Ok.ensures.names c.in-Ok.ensures.absent c.in_ok-config_names-in-Ok.ensures
