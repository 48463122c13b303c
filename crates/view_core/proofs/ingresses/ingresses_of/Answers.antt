use Rattle.view_core.proofs.IngressLemmas.{one_more_section, one_more_ingress}
use Rattle.view_core.proofs.ingresses.ingresses_of.Goals as goal

pub loop-section-preserved : goal.loop-section-preserved
loop-section-preserved c =
    let is = c.loop-section.ingresses.items in
    let is' = c.push.new.self.items in
    let more = c.in_ok-push.ensures.items in (
      one_more_section is is' c.loop-section.yielded c.in_ok-ingress.ingress c.in-Some.section more c.loop-section.invariant.0 c.in_ok-ingress.ensures.section,
      one_more_ingress is is' c.in_ok-ingress.ingress more c.loop-section.invariant.1 c.in_ok-ingress.ensures.groups,
    )
