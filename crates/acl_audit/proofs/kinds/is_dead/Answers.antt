use Rattle.acl_audit.proofs.kinds.is_dead.Goals as goal
use Rattle.std.proofs.Common.{ℕ, Bool, ◌∙◌, ap, sym}
use Rattle.hdr_bits.specs.HeaderBits.{number, header_of}
use Rattle.hdr_bits.proofs.Numbers.{header_of-number, number-below, header_of-is_header}
use Rattle.net_types.specs.AccessLists.{entries_verdict}
use Rattle.acl_audit.specs.Findings.{is_by}
use Rattle.acl_audit.specs.Sets.{decided_in, is_of}
use Rattle.acl_audit.proofs.SetLemmas.{same_set, nothing_in, in_nothing}

pub returns : goal.returns
returns c es i e q d =
    let f = c.args.diagrams.now in
    let t : ℕ → Bool = λ h. is_by e.sequence (entries_verdict es (header_of h)) in
    let s = same_set f (decided_in es 0 i) t c.args.own (λ h. ap (λ o. is_of es o h) q) d in (
      λ n h v. ap (λ x. is_by e.sequence (entries_verdict es x)) (sym (header_of-number h v)) ∙ nothing_in f t c.args.own s (c.is_nothing.ensures.0 n) (number h) (number-below h v),
      λ n. c.is_nothing.ensures.1 (in_nothing f t c.args.own s (λ h l. n (header_of h) (header_of-is_header h))),
    )
