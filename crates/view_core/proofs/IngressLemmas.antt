-- Ingresses with their groups, one after the other.
use Rattle.std.proofs.Common.{◌≡◌, List, [], ◌∷◌, ◌++◌, map, sym, ap, ◌∙◌, All}
use Rattle.std.proofs.lemmas.List.{map-append}
use Rattle.std.proofs.lemmas.List.Elements.{All-same, All-push}
use Rattle.net_types.specs.declared.network.Section.{Section}
use Rattle.view_core.specs.declared.ingresses.Ingress.{Ingress}
use Rattle.view_core.specs.Ingresses.{IsIngress}

pub one_more_section : (is is' : List Ingress) (ss : List Section) (i : Ingress) (s : Section) → is' ≡ is ++ i ∷ [] → map (λ x. x.section) is ≡ ss → i.section ≡ s → map (λ x. x.section) is' ≡ ss ++ s ∷ []
one_more_section is is' ss i s p q r = ap (map (λ (x : Ingress). x.section)) p ∙ (map-append (λ (x : Ingress). x.section) is (i ∷ []) ∙ (λ k. q k ++ r k ∷ []))

pub one_more_ingress : (is is' : List Ingress) (i : Ingress) → is' ≡ is ++ i ∷ [] → All IsIngress is → IsIngress i → All IsIngress is'
one_more_ingress is is' i p all one = All-same IsIngress is' (is ++ i ∷ []) p (All-push IsIngress is i all one)
