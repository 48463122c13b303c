use Rattle.indexmap.specs.IndexMap.{get}
use Rattle.net_types.specs.World.{same_place}
use Rattle.net_view.specs.Borrowed.{world_of}
use Rattle.live_network.proofs.LiveLemmas.{renewed_then, ways_before}
use Rattle.net_variants.proofs.comparing.compare_from.Goals as goal

pub sections_between-requires-clause-before : goal.sections_between-requires-clause-before
sections_between-requires-clause-before g c κs within =
    ways_before (world_of c.args.world) c.args.kept.now.live c.replace_all.new.kept.live (get same_place c.args.before.now) c.in_ok-replace_all.ensures.renewed c.requires.before c.requires.kept.live

pub returns-clause-renewed : goal.returns-clause-renewed
returns-clause-renewed g c =
    renewed_then c.args.kept.now.live c.replace_all.new.kept.live c.sections_between.new.live c.in_ok-replace_all.ensures.renewed c.sections_between.ensures.renewed
