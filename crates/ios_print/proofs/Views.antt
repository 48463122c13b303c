-- The addresses in force of what was written, without their places in the text.
use Rattle.std.proofs.Common.{◌≡◌, ℕ, ◌+◌, true, false, cond, List, [], ◌∷◌, ◌++◌, map, refl, ap, ◌∙◌}
use Rattle.std.specs.Prelude.{Option, Some, None, option_map, option_to_list}
use Rattle.net_types.specs.declared.config.Subnet.{Subnet}
use Rattle.ios_lines.specs.declared.effect.WrittenAddress.{WrittenAddress}
use Rattle.ios_lines.specs.declared.effect.WrittenInterface.{WrittenInterface}
use Rattle.ios_config.specs.declared.overlap.Claim.{Claim}
use Rattle.ios_config.specs.Overlap.{addresses, claim_of, claims_by, claims_from}
use Rattle.ios_config.specs.Rules.{interface_of}
use Rattle.ios_print.specs.PrintableConfig.{subnets_by, subnets_from}

unfoldable pub view : Claim → ℕ × Subnet
view c = (c.owner, c.address.subnet)

claim_views : (n : ℕ) (ws : List WrittenAddress) → map view (map (claim_of n) ws) ≡ map (λ s. (n, s)) (map (λ a. a.subnet) ws)
unfolding view
claim_views n [] = refl
claim_views n (a ∷ ws) = ap (λ xs. (n, a.subnet) ∷ xs) (claim_views n ws)

subnets_of : (o : Option WrittenAddress) (ws : List WrittenAddress) → map (λ (a : WrittenAddress). a.subnet) (option_to_list o ++ ws) ≡ option_to_list (option_map (λ (a : WrittenAddress). a.subnet) o) ++ map (λ (a : WrittenAddress). a.subnet) ws
subnets_of None ws = refl
subnets_of (Some a) ws = refl

by_views : (n : ℕ) (w : WrittenInterface) → map view (claims_by n w) ≡ subnets_by n (interface_of w)
by_views n w = elim (w.shut) as (λ b. map view (cond b [] (map (claim_of n) (addresses w))) ≡ cond b [] (map (λ s. (n, s)) (option_to_list (option_map (λ a. a.subnet) w.primary) ++ map (λ a. a.subnet) w.secondary))) [
  | true ↦ refl
  | false ↦ claim_views n (addresses w) ∙ ap (map (λ s. (n, s))) (subnets_of w.primary w.secondary)
]

map_on : {A B : Type 0} (f : A → B) (xs ys : List A) → map f (xs ++ ys) ≡ map f xs ++ map f ys
map_on f [] ys = refl
map_on f (x ∷ xs) ys = ap (λ l. f x ∷ l) (map_on f xs ys)

pub from_views : (n : ℕ) (ws : List WrittenInterface) → map view (claims_from n ws) ≡ subnets_from n (map interface_of ws)
from_views n [] = refl
from_views n (w ∷ ws) = map_on view (claims_by n w) (claims_from (n + 1) ws) ∙ ap (λ xs. xs ++ map view (claims_from (n + 1) ws)) (by_views n w) ∙ ap (λ xs. subnets_by n (interface_of w) ++ xs) (from_views (n + 1) ws)
