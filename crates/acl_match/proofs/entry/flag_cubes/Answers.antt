use Rattle.std.proofs.Common.{ℕ, ◌≡◌, ◌==◌, sym, ◌∙◌, bit_and, false, ◌&&◌}
use Rattle.acl_match.proofs.entry.flag_cubes.Goals as goal
use Rattle.std.proofs.lemmas.Result.{IfOk-weaker}
use Rattle.hdr_bits.specs.CubeBits.{is_in}
use Rattle.net_types.specs.AccessLists.{meets_flags}
use Rattle.acl_match.specs.Cubes.{field, any_in}
use Rattle.acl_match.proofs.TestLemmas.{all_test, always_a_flag}

pub returns-in-Any : goal.returns-in-Any
returns-in-Any c =
    IfOk-weaker c.one.result (λ r. (h : ℕ) → any_in r.items h ≡ is_in c.all.result h) (λ r. (h : ℕ) → any_in r.items h ≡ meets_flags c.args.test (field 0 8 h)) (λ r f h. f h ∙ (rw c.in-Any.is (all_test c.all.result h c.all.ensures))) c.one.ensures

pub returns-in-None : goal.returns-in-None
returns-in-None c =
    IfOk-weaker c.one-in-None.result (λ r. (h : ℕ) → any_in r.items h ≡ is_in c.all-in-None.result h) (λ r. (h : ℕ) → any_in r.items h ≡ meets_flags c.args.test (field 0 8 h)) (λ r f h. let n : false ≡ (bit_and (field 0 8 h) c.in-AnyOf.clear == c.in-AnyOf.clear && bit_and (field 0 8 h) c.in-AnyOf.set == 0) = c.in-None.ensures h in
    f h ∙ (all_test c.all-in-None.result h c.all-in-None.ensures ∙ (rw c.in-AnyOf.is (sym (always_a_flag (field 0 8 h) c.in-AnyOf.set c.in-AnyOf.clear n))))) c.one-in-None.ensures
