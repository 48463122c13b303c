-- The test of states tells whether they are equal.
use Rattle.std.proofs.Common.{◌≡◌, ℕ, Bool, true, false, ◌&&◌, ◌==◌, refl}
use Rattle.std.proofs.lemmas.Bool.Decides.{Decides-eqb}
use Rattle.net_types.specs.declared.network.State.{State}
use Rattle.walk_trace.specs.Numbered.{same_state}

pub both : (a b : Bool) → (a && b) ≡ true → (a ≡ true) × (b ≡ true)
both true b e = (refl, e)
both false b e = absurd cc

pair : (a b : Bool) → a ≡ true → b ≡ true → (a && b) ≡ true
pair true b e f = f
pair false b e f = absurd cc

pub state_is : (u v : State) → same_state u v ≡ true → u ≡ v
state_is u v e =
    let h1 = both _ _ e in
    let p = both _ _ h1.0 in
    let h2 = both _ _ h1.1 in
    let h3 = both _ _ h2.1 in
    let h4 = both _ _ h3.1 in
    let h5 = both _ _ h4.1 in
    let h6 = both _ _ h5.1 in
    λ i. record {
      place = record { device = (Decides-eqb u.place.device v.place.device).0 p.0 i; interface = (Decides-eqb u.place.interface v.place.interface).0 p.1 i };
      header = record {
        dst = (Decides-eqb u.header.dst v.header.dst).0 h2.0 i;
        src = (Decides-eqb u.header.src v.header.src).0 h3.0 i;
        proto = (Decides-eqb u.header.proto v.header.proto).0 h4.0 i;
        dport = (Decides-eqb u.header.dport v.header.dport).0 h5.0 i;
        sport = (Decides-eqb u.header.sport v.header.sport).0 h6.0 i;
        flags = (Decides-eqb u.header.flags v.header.flags).0 h6.1 i;
      };
    }

itself : (n : ℕ) → (n == n) ≡ true
itself n = (Decides-eqb n n).1 refl

pub state_itself : (u : State) → same_state u u ≡ true
state_itself u =
    pair _ _ (pair _ _ (itself u.place.device) (itself u.place.interface))
    (pair _ _ (itself u.header.dst) (pair _ _ (itself u.header.src) (pair _ _ (itself u.header.proto) (pair _ _ (itself u.header.dport) (pair _ _ (itself u.header.sport) (itself u.header.flags))))))
