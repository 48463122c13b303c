use Rattle.std.proofs.Common.{ℕ, List, Option, Some, None, IfSome, sym, ap, subst}
use Rattle.std.specs.Prelude.{option_map}
use Rattle.net_io.specs.Files.{Told}
use Rattle.answer_view.specs.declared.asked.Asked.{Asked}
use Rattle.answer_view.specs.Asked.{asked_in}
use Rattle.answer_view.specs.Views.{ShowsFor}
use Rattle.answer_view.proofs.top.show_of.Goals as goal

pub returns-in-None-clause-shows : goal.returns-in-None-clause-shows
returns-in-None-clause-shows g c =
    let told : Option Told = g.F.Files.told c.args.files.now in
    let r = c.show_alone.result in
    let asked = subst (λ (qs : List Asked). IfSome told (λ t. ShowsFor t c.args.format None c.args.after.now qs r)) c.in_ok-asked.ensures c.show_alone.ensures.shows in
    subst (λ (o : Option (List ℕ)). IfSome told (λ t. ShowsFor t c.args.format o c.args.after.now (asked_in c.args.bytes.now) r)) (sym (ap (option_map (λ p. p.now)) c.in-None.is)) asked

pub returns-in-Some-clause-shows : goal.returns-in-Some-clause-shows
returns-in-Some-clause-shows g c =
    let told : Option Told = g.F.Files.told c.args.files.now in
    let r = c.show_both.result in
    let path = c.in-Some.before.now in
    let asked = subst (λ (qs : List Asked). IfSome told (λ t. ShowsFor t c.args.format (Some path) c.args.after.now qs r)) c.in_ok-asked.ensures c.show_both.ensures.shows in
    subst (λ (o : Option (List ℕ)). IfSome told (λ t. ShowsFor t c.args.format o c.args.after.now (asked_in c.args.bytes.now) r)) (sym (ap (option_map (λ p. p.now)) c.in-Some.is)) asked
