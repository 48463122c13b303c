use Rattle.std.proofs.Common.{List, ℕ, [], ◌∷◌, ◌++◌, subst, ap, ◌∙◌}
use Rattle.std.specs.Prelude.{count_by, nat_le}
use Rattle.std.specs.Str.{bytes_eq}
use Rattle.text_tallies.specs.Tallies.{AreSeen}
use Rattle.doctor_warnings.proofs.passing.Beside.mark.Goals as goal

pub returns : goal.returns
returns c = λ ks before short there here.
    let e = c.as_bytes-bytes.ensures in
    record {
      says = (λ i. nat_le ((c.count-there.ensures ks there ∙ ap (λ k. count_by (bytes_eq k) ks) e) i) ((c.count-here.ensures before here ∙ ap (λ k. count_by (bytes_eq k) before) e) i));
      keys = record {
        there = there;
        here = subst (λ (k : List ℕ). AreSeen (before ++ k ∷ []) c.add.new.self) e (c.in_ok-add.ensures before short here);
      };
    }
