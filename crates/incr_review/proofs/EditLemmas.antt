-- What an edit leaves alone.
use Rattle.std.proofs.Common.{ℕ, ◌≡◌, ◌==◌, Bool, true, false, if◌then◌else◌, List, [], ◌∷◌, Result, Ok, Err, refl, ap, ◌∙◌, subst, arith}
use Rattle.std.proofs.lemmas.Bool.Decides.{nat_tests}
use Rattle.net_types.specs.declared.network.NetDevice.{NetDevice}
use Rattle.net_types.specs.declared.network.Network.{Network}
use Rattle.net_types.specs.Edits.{IsEdited, AreEdited}
use Rattle.incr_review.specs.declared.edits.Edit.{Edit}
use Rattle.incr_review.specs.declared.edits.EditKind.{EditKind}
use Rattle.incr_review.specs.declared.edits.EditKind.TheVariants.{UnknownDevice}
use Rattle.incr_review.specs.Edited.{map_ok, change_first, is_named, device_of, device_edited, edited, with_rules, rules_edited}

-- what was made of a value
pub record Made {X Y : Type 0} (f : X → Y) (r : Result X EditKind) (y : Y) : Type 0 where
  pub value : X
  pub is : r ≡ Ok value
  pub gives : f value ≡ y

pub made : {X Y : Type 0} (f : X → Y) (r : Result X EditKind) (y : Y) → map_ok f r ≡ Ok y → Made f r y
made f (Ok x) y e = record { value = x; is = refl; gives = cc }
made f (Err k) y e = absurd cc

stays : (d : ℕ) (x : NetDevice) → IsEdited d x x
stays d x = record { name = refl; other = λ n. refl; numbers = refl; interfaces = refl }

all_stay : (d : ℕ) (xs : List NetDevice) → AreEdited d xs xs
all_stay d [] = tt
all_stay d (x ∷ xs) = (stays d x, all_stay d xs)

each_edited : (d : ℕ) (k : EditKind) (change : NetDevice → Result NetDevice EditKind) → ((x y : NetDevice) → x.name ≡ d → change x ≡ Ok y → IsEdited d x y) → (xs ys : List NetDevice) → change_first (is_named d) k change xs ≡ Ok ys → AreEdited d xs ys
each_edited d k change good [] ys e = absurd cc
each_edited d k change good (x ∷ xs) ys e = by (each_edited d k change good xs) (x.name == d) refl e
  where
    by : ((zs : List NetDevice) → change_first (is_named d) k change xs ≡ Ok zs → AreEdited d xs zs) → (b : Bool) → (x.name == d) ≡ b → (if b then map_ok (λ y. y ∷ xs) (change x) else map_ok (λ zs. x ∷ zs) (change_first (is_named d) k change xs)) ≡ Ok ys → AreEdited d (x ∷ xs) ys
    by rest true t q =
        let m = made (λ y. y ∷ xs) (change x) ys q in
        let named : x.name ≡ d = grind (arith, nat_tests, t) in
        subst (AreEdited d (x ∷ xs)) m.gives (good x m.value named m.is, all_stay d xs)
    by rest false t q =
        let m = made (λ zs. x ∷ zs) (change_first (is_named d) k change xs) ys q in
        subst (AreEdited d (x ∷ xs)) m.gives (stays d x, rest m.value m.is)

pub device_is_edited : (e : Edit) (x y : NetDevice) → x.name ≡ device_of e → device_edited e x ≡ Ok y → IsEdited (device_of e) x y
device_is_edited e x y named q =
    let m = made (with_rules x) (rules_edited e x.config) y q in
    subst (IsEdited (device_of e) x) m.gives (record { name = refl; other = λ n. absurd (n named); numbers = refl; interfaces = refl })

pub edited_there : (e : Edit) (network after : Network) → edited e network ≡ Ok after → AreEdited (device_of e) network.devices after.devices
edited_there e network after q =
    let d = device_of e in
    let m = made (λ ds. record { devices = ds }) (change_first (is_named d) UnknownDevice (device_edited e) network.devices) after q in
    each_edited d UnknownDevice (device_edited e) (device_is_edited e) network.devices after.devices (m.is ∙ ap (λ (n : Network). Ok n.devices) m.gives)
