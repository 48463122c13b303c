use Rattle.std.proofs.Common.{◌≡◌, ◌++◌, ◌∷◌, [], map, take, find, true, false, sym, ap, ◌∙◌, arith}
use Rattle.std.specs.Str.{bytes_eq}
use Rattle.std.specs.List.{list_any}
use Rattle.std.proofs.lemmas.List.{map-append, take_more}
use denote.Ref.{Bor}
use Rattle.topo_links.specs.ByName.{is_named}
use Rattle.topo_links.proofs.Finds.{first_more, first_same, new_name}
use Rattle.topo_links.proofs.by_name.ByName.of.Goals as goal

pub loop-item-preserved-then-has : goal.loop-item-preserved-then-has
loop-item-preserved-then-has g c =
    let f = g.T.Named.name_of in
    let x = c.item-item.result in
    let firsts = map (λ (r : Bor g.row.T.Denot). r.now) c.loop-item.firsts.items in
    let there : list_any (bytes_eq (f x)) (map f firsts) ≡ true =
    ap (λ ns. list_any (bytes_eq (f x)) ns) (sym c.loop-item.invariant.names) ∙ ap (λ n. list_any (bytes_eq n) c.loop-item.names) (sym c.name-name.ensures) ∙ sym c.has.ensures ∙ c.if-has.true in
    let more = take_more c.args.items.now c.loop-item.item-index x (omega arith) ∙ ap (λ y. take c.loop-item.item-index c.args.items.now ++ y ∷ []) (sym c.item-item.is) in
    record {
      names = c.loop-item.invariant.names;
      finds = λ n. first_same f firsts (take c.loop-item.item-index c.args.items.now) x c.loop-item.invariant.finds there n ∙ ap (find (is_named f n)) (sym more);
    }

pub loop-item-preserved : goal.loop-item-preserved
loop-item-preserved g c =
    let f = g.T.Named.name_of in
    let x = c.item-item.result in
    let firsts = map (λ (r : Bor g.row.T.Denot). r.now) c.loop-item.firsts.items in
    let pushed : map (λ (r : Bor g.row.T.Denot). r.now) c.push.new.self.items ≡ firsts ++ x ∷ [] =
    ap (map (λ (r : Bor g.row.T.Denot). r.now)) c.in_ok-push.ensures.items ∙ map-append (λ (r : Bor g.row.T.Denot). r.now) c.loop-item.firsts.items _ in
    let absent : list_any (bytes_eq c.name-name.result.now) c.loop-item.names ≡ false = sym c.has.ensures ∙ c.if-has.false in
    let more = take_more c.args.items.now c.loop-item.item-index x (omega arith) ∙ ap (λ y. take c.loop-item.item-index c.args.items.now ++ y ∷ []) (sym c.item-item.is) in
    record {
      names = new_name f c.loop-item.names c.add.new.self c.name-name.result.now firsts x c.in_ok-add.ensures.ok absent c.loop-item.invariant.names c.name-name.ensures ∙ ap (map f) (sym pushed);
      finds = λ n. ap (find (is_named f n)) pushed ∙ first_more f firsts (take c.loop-item.item-index c.args.items.now) x c.loop-item.invariant.finds n ∙ ap (find (is_named f n)) (sym more);
    }
