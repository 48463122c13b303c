use Rattle.std.proofs.Common.{ℕ, ◌≡◌, ◌==◌, Option, Some, None, if◌then◌else◌, sym, ◌∙◌, subst, refl}
use Rattle.task_board.proofs.Worked.{worked_whole}
use Rattle.test_workers.proofs.sample.settle_whole.Goals as goal

-- a header of slot 1 has the value 7
value_of : (slot : ℕ) → 1 ≡ slot → ◌≡◌ {A = Option ℕ} (if slot == 1 then Some 7 else None) (Some 7)
value_of slot e = let P : ℕ → Type 0 = λ s. ◌≡◌ {A = Option ℕ} (if s == 1 then Some 7 else None) (Some 7) in subst P e refl

pub settle-requires-clause-worked : goal.settle-requires-clause-worked
settle-requires-clause-worked c κs = rw c.in_ok-finished.ensures (worked_whole _ _ 7 (λ slot h lt i. value_of slot (sym c.requires ∙ i.same_slot)))
