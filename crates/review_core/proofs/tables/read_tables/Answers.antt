use Rattle.std.proofs.Common.{Option, None, Some, IfSome, subst}
use Rattle.net_io.specs.Files.{Told}
use Rattle.review_core.specs.Job.{GivesTables}
use Rattle.review_core.proofs.tables.read_tables.Goals as goal

pub returns-in-None-clause-tables : goal.returns-in-None-clause-tables
returns-in-None-clause-tables g c =
    let told : Option Told = g.F.Files.told c.args.files.now in
    let old = c.args.old.now in
    let new = c.args.new.now in
    rw c.in-None.is (subst (λ links. IfSome told (λ t. GivesTables t old new links None c.shared_table.result)) c.as_str.ensures c.shared_table.ensures.tables)

pub returns-in-Some-clause-tables : goal.returns-in-Some-clause-tables
returns-in-Some-clause-tables g c =
    let told : Option Told = g.F.Files.told c.args.files.now in
    let old = c.args.old.now in
    let new = c.args.new.now in
    let r = c.own_tables.result in
    rw c.in-Some.is (subst (λ links. IfSome told (λ t. GivesTables t old new links (Some c.in-Some.new_links) r)) c.as_str-in-Some.ensures
    (subst (λ path. IfSome told (λ t. GivesTables t old new c.as_str-in-Some.result.now (Some path) r)) c.as_str-in-Some-2.ensures c.own_tables.ensures.tables))
