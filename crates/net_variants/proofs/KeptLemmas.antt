-- Devices that are replaced, and put back.
use Rattle.std.proofs.Common.{ℕ, ◌≡◌, ◌∙◌, ◌++◌, ◌∷◌, [], List, Some, ap, refl, slice_get, slice_set}
use Rattle.net_types.specs.declared.network.NetDevice.{NetDevice}
use Rattle.net_types.specs.declared.network.Network.{Network}
use Rattle.live_network.proofs.NetworkLemmas.{set_back}
use Rattle.net_variants.specs.declared.kept.Replaced.{Replaced}
use Rattle.net_variants.specs.Kept.{back}

-- the last one is put back first
pub back_last : (network : Network) (replaced : List Replaced) (one : Replaced) → back network (replaced ++ one ∷ []) ≡ back (record { devices = slice_set network.devices one.position one.device }) replaced
back_last network [] one = refl
back_last network (r ∷ rest) one = ap (λ (n : Network). record { devices = slice_set n.devices r.position r.device }) (back_last network rest one)

-- a device more is replaced
pub back_grown : (old new : Network) (was now : List Replaced) (i : ℕ) (x y : NetDevice) → slice_get old.devices i ≡ Some x → new ≡ record { devices = slice_set old.devices i y } → now ≡ was ++ record { position = i; device = x } ∷ [] → back new now ≡ back old was
back_grown old new was now i x y there is grown =
    let one : Replaced = record { position = i; device = x } in
    let again : record { devices = slice_set new.devices i x } ≡ old = ap (λ (n : Network). record { devices = slice_set n.devices i x }) is ∙ ap (λ (ds : List NetDevice). record { devices = ds }) (set_back old.devices i x y there) in
    ap (back new) grown ∙ (back_last new was one ∙ ap (λ (n : Network). back n was) again)
