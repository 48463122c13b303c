use Rattle.std.proofs.Common.{sym, subst, Contains}
use Rattle.cube_diagram.proofs.EntryMemoLemmas.{found}
use Rattle.cube_diagram.proofs.entry_memo.EntryMemo.recall.Goals as goal

pub returns-then-known-value : goal.returns-then-known-value
returns-then-known-value c =
    let known = c.in_ok-known.known.now in
    let f = found (λ k. k.items) c.self.inside.numbers c.args.cubes.now known (sym c.in_ok-known.ensures.value) in
    subst (λ v. Contains c.args.self.now (c.args.cubes.now, record { value = v; number = known.number })) c.if-known-value.true (subst (λ xs. Contains xs (c.args.cubes.now, known)) c.self.view_is f)
