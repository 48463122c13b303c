use Rattle.std.proofs.Common.{◌≡◌, ◌++◌, ◌≤◌, ◌*◌, ◌^◌, [], codes, take, map, flat_map, All}
use Rattle.topo_links.specs.Names.{add_names}
use Rattle.view_core.proofs.tallies.texts_in.Given as goal

abbrev pub invariant-loop-mention : goal.invariant-loop-mention
invariant-loop-mention l = l.texts ≡ add_names [] (map (λ m. m.text) (take l.mention-index l.mentioned))
