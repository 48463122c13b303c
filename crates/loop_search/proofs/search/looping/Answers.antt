use Rattle.std.proofs.Common.{◌≡◌, List, Some, slice_get, sym, subst}
use Rattle.std.proofs.lemmas.Result.{IfOk-weaker}
use Rattle.net_view.specs.Borrowed.{world_of}
use Rattle.loop_search.proofs.WholeLemmas.{whole_kept}
use Rattle.loop_search.specs.declared.search.Level.{Level}
use Rattle.loop_search.specs.Looping.{AreLevels}
use Rattle.loop_search.proofs.search.looping.Goals as goal

pub looping_in-requires-clause-net : goal.looping_in-requires-clause-net
looping_in-requires-clause-net c = whole_kept c.args.table.now c.levels_of.new.table c.args.net.now c.in_ok-levels.ensures.kept c.requires.net

pub looping_in-requires-clause-levels : goal.looping_in-requires-clause-levels
looping_in-requires-clause-levels c n l e = (c.in_ok-levels.ensures.levels n l (subst (λ (ls : List Level). slice_get ls n ≡ Some l) c.deref.ensures.value e)).told

pub returns-clause-set : goal.returns-clause-set
returns-clause-set c =
    let w = world_of c.args.net.now.world in
    let f = c.args.table.now in
    IfOk-weaker c.looping_in.result _ _ (λ set made. made f c.args.domain c.args.place (subst (λ ls. AreLevels w f c.args.domain c.args.place c.levels_of.new.table ls) (sym c.deref.ensures.value) c.in_ok-levels.ensures.levels)) c.looping_in.ensures.set
