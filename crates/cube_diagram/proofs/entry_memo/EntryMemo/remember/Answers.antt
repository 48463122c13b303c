use Rattle.cube_diagram.proofs.EntryMemoLemmas.{remembered}
use Rattle.cube_diagram.proofs.entry_memo.EntryMemo.remember.Goals as goal

pub returns-in-Ok-insert : goal.returns-in-Ok-insert
returns-in-Ok-insert c =
    remembered (λ k. k.items) c.self.inside.numbers.entries c.insert.new.self.entries c.in-Ok.key c.args.known c.args.cubes.now c.args.self.now c.self.view_is (c.in-Ok.ensures.items_if_clones_equal (λ x y h. h)) c.in-Ok-insert.ensures.entries
