use Rattle.acl_match.proofs.list.compile_list.Goals as goal
use Rattle.std.proofs.Common.{ℕ, ◌≡◌, Some}
use Rattle.std.proofs.lemmas.List.Elements.{All-map, All-weaker}
use Rattle.std.specs.Option.{option_copied}
use Rattle.hdr_bits.specs.HeaderBits.{header_of}
use Rattle.hdr_bits.specs.CubeBits.{IsIn}
use Rattle.cube_alg.specs.Pieces.{value_of}
use Rattle.net_types.specs.AccessLists.{entries_verdict, passes}
use Rattle.acl_match.specs.Lists.{number_of, Answers}
use Rattle.acl_match.proofs.ListLemmas.{answer, answer_exact, answers_apart, answers_hold}

pub returns-clause-apart : goal.returns-clause-apart
returns-clause-apart c =
    rw (c.in_ok-answers.ensures, c.deref-2.ensures.value) (answers_apart c.in_ok-parts.parts.items c.in_ok-parts.ensures.apart)

says : (c : goal.After-drop-pieces-2) → (h : ℕ) → value_of c.deref.result.now h ≡ Some (number_of (passes (entries_verdict c.entries_of.result.now (header_of h))))
says c h = rw c.deref.ensures.value (c.in_ok-pieces.ensures h)

pub returns-clause-exact : goal.returns-clause-exact
returns-clause-exact c =
    let list = option_copied c.args.list in
    rw (c.in_ok-answers.ensures, c.deref-2.ensures.value) (All-map (Answers (option_copied c.args.list)) answer c.in_ok-parts.parts.items (All-weaker (λ p. (h : ℕ) → IsIn p.cube h → value_of c.deref.result.now h ≡ Some p.value) (λ p. Answers (option_copied c.args.list) (answer p)) (λ p g. answer_exact (option_copied c.args.list) c.entries_of.result.now c.deref.result.now p c.entries_of.ensures (says c) g) c.in_ok-parts.parts.items c.in_ok-parts.ensures.each))

pub returns-clause-covers : goal.returns-clause-covers
returns-clause-covers c h =
    let n = number_of (passes (entries_verdict c.entries_of.result.now (header_of h))) in
    rw (c.in_ok-answers.ensures, c.deref-2.ensures.value) (answers_hold c.in_ok-parts.parts.items h (c.in_ok-parts.ensures.holder h n (says c h)))
