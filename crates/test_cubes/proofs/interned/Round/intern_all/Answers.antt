use Rattle.std.proofs.Common.{◌≡◌, All, ◌∷◌, ◌++◌, [], subst, sym}
use Rattle.std.proofs.lemmas.List.Elements.{All-push}
use Rattle.class_store.specs.Classes.{IsClass}
use Rattle.test_cubes.proofs.interned.Round.intern_all.Goals as goal

pub loop-position-preserved : goal.loop-position-preserved
loop-position-preserved c =
    let class = c.in_ok-intern.field-0 in
    let grown : c.push.new.self.items ≡ c.loop-position.classes.items ++ class ∷ [] = c.in_ok-push.ensures.items in
    subst (All (IsClass c.args.store.now)) (sym grown)
    (All-push (IsClass c.args.store.now) c.loop-position.classes.items class c.loop-position.invariant c.in_ok-intern.ensures.class)
