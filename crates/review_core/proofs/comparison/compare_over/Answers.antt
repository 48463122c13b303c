use Rattle.std.proofs.Common.{List, [], Option, IfSome, Ok, Err, subst}
use Rattle.net_io.specs.Files.{Told}
use Rattle.net_types.specs.declared.config.Loaded.{Loaded}
use Rattle.net_load.specs.Numbering.{numbered_both}
use Rattle.job_core.specs.Steps.{OrNoMemory}
use Rattle.job_core.proofs.StepLemmas.{then_go, then_stop, however_told}
use Rattle.review_core.specs.Job.{GivesTables, IsComparison, new_table}
use Rattle.review_core.proofs.comparison.compare_over.Goals as goal

pub returns-in-Ok-clause-job : goal.returns-in-Ok-clause-job
returns-in-Ok-clause-job g c =
    let told : Option Told = g.F.Files.told c.args.files.now in
    let asked = c.args.asked.now in
    let old = c.args.old.items in
    let new = c.args.new.items in
    let P : List Loaded → List Loaded → Type 0 = λ xs ys. IfSome told (λ t. GivesTables t xs ys asked.links asked.new_links (Ok c.in-Ok.tables)) in
    let gives = subst (λ xs. P xs new) c.deref.ensures.value (subst (λ ys. P c.deref.result.now ys) c.deref-2.ensures.value c.in-Ok.ensures.tables) in
    then_go (λ t r. GivesTables t old new asked.links asked.new_links r) (λ t ts r. OrNoMemory (IsComparison (numbered_both old new ts.old (new_table ts) []) asked.ttl) r) told c.in-Ok.tables c.report_over.result gives (however_told told c.report_over.ensures)

pub returns-in-Err-clause-job : goal.returns-in-Err-clause-job
returns-in-Err-clause-job g c =
    let told : Option Told = g.F.Files.told c.args.files.now in
    let asked = c.args.asked.now in
    let old = c.args.old.items in
    let new = c.args.new.items in
    let P : List Loaded → List Loaded → Type 0 = λ xs ys. IfSome told (λ t. GivesTables t xs ys asked.links asked.new_links (Err c.in-Err.stop)) in
    let stops = subst (λ xs. P xs new) c.deref.ensures.value (subst (λ ys. P c.deref.result.now ys) c.deref-2.ensures.value c.in-Err.ensures.tables) in
    then_stop (λ t r. GivesTables t old new asked.links asked.new_links r) (λ t ts r. OrNoMemory (IsComparison (numbered_both old new ts.old (new_table ts) []) asked.ttl) r) told c.in-Err.stop stops
