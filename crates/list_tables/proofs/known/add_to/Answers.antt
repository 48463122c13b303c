use Rattle.std.proofs.Common.{refl, arith}
use Rattle.net_forms.specs.declared.forms.DeviceLists.{DeviceLists}
use Rattle.net_forms.specs.declared.forms.KnownList.{KnownList}
use Rattle.list_tables.proofs.KnownLemmas.{known_more}
use Rattle.list_tables.proofs.known.add_to.Goals as goal

pub returns-in_ok-push : goal.returns-in_ok-push
returns-in_ok-push c fs ds right a =
    let k : KnownList = record { position = c.args.at.list; function = c.args.function } in
    let v : DeviceLists = record { lists = c.push.new.self } in
    known_more fs ds c.args.known.now.items c.args.at c.index_mut.result.now v k (let within = c.if-at-len.true in let count = c.len.ensures in let same = c.args.known.now.ok in omega (arith, within, count, same)) c.index_mut.ensures.value c.in_ok-push.ensures.items refl right a
