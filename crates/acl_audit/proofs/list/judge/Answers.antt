use Rattle.acl_audit.proofs.list.judge.Goals as goal
use Rattle.hdr_bits.specs.HeaderBits.{header_of}
use Rattle.net_types.specs.AccessLists.{matches}
use Rattle.acl_audit.proofs.KindLemmas.{sequence_at}
use Rattle.acl_audit.proofs.SetLemmas.{kept_set}
use Rattle.acl_audit.proofs.UnionLemmas.{audited_kept}

pub taken_by_earlier-requires-clause-audited : goal.taken_by_earlier-requires-clause-audited
taken_by_earlier-requires-clause-audited c =
    audited_kept c.args.diagrams.now c.kind_of.new.diagrams c.args.audited c.in_ok-kind.ensures.kept c.requires.audited

pub returns-clause-finding : goal.returns-clause-finding
returns-clause-finding c e q =
    let es = c.args.audited.entries.now in (
      sequence_at es c.args.position c.index-audited-position.result e q,
      rw c.in-Some.is at (c.in_ok-kind.ensures.kind e q),
      rw c.new.ensures (c.in_ok-taken.ensures.taken e (kept_set c.args.diagrams.now c.kind_of.new.diagrams (λ h. matches e (header_of h)) c.args.matched c.in_ok-kind.ensures.kept (c.requires.matched e q))),
    )
