use Rattle.std.proofs.Common.{inr, [], ◌∷◌, ◌++◌, ◌∙◌, string_bytes}
use Rattle.std.proofs.lemmas.Result.{IfOk-from_err}
use Rattle.std.specs.Fs.{dir_entry_name}
use Rattle.net_io.proofs.EntryNames.{came-more, named-more, drains, stops, if-err}
use Rattle.net_io.proofs.entry_names.names_of.Goals as goal

pub loop-entry-preserved : goal.loop-entry-preserved
loop-entry-preserved g c =
    let (entries, came, known) = c.loop-entry.invariant in (
      entries ++ c.in_ok-entry.entry ∷ [],
      came-more _ entries _ _ came c.in_ok-entry.was,
      named-more dir_entry_name string_bytes _ _ _ entries c.in_ok-entry.entry known c.in_ok-push.ensures.items (c.in_ok-to_string.ensures.ok ∙ c.file_name.ensures),
    )

pub returns-in_err-entry : goal.returns-in_err-entry
returns-in_err-entry g c =
    let (entries, came, known) = c.loop-entry.invariant in
    record {
      names = IfOk-from_err _ _ c.from_residual.ensures.0;
      error = if-err _ c.from_residual.result _ c.from_residual.ensures.1 (inr (
        entries,
        c.next.new.self,
        stops g.I.Iterator.next_gives _ _ _ _ _ entries _ _ c.into_iter-entry-iterator.ensures.into_iter_gives came c.loop-entry.yielded_by c.in_err-entry.was c.in-Some.ensures.steps,
      ));
    }

pub returns : goal.returns
returns g c =
    let (entries, came, known) = c.loop-entry.invariant in
    record {
      names = (entries, drains g.I.Iterator.next_gives _ _ _ c.next.new.self _ entries c.into_iter-entry-iterator.ensures.into_iter_gives came c.loop-entry.yielded_by c.in-None.ensures.steps, known);
      error = tt;
    }
