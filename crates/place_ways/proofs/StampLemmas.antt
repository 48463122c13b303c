-- What is sent with a stamp.
use Rattle.std.proofs.Common.{◌≡◌, refl}
use Rattle.hdr_bits.specs.declared.header.Header.{Header}
use Rattle.cube_alg.specs.declared.stamp.Stamp.{Stamp}
use Rattle.cube_alg.specs.Stamps.{applied}
use Rattle.link_sends.specs.declared.sent.Sent.{Sent}
use Rattle.link_sends.specs.declared.sent.Sent.TheVariants as sent
use Rattle.link_sends.specs.Sending.{sent_move}
use Rattle.net_types.specs.declared.network.Place.{Place}
use Rattle.set_walk.specs.Ways.{IsStamp, OfStamp, move_of}
use Rattle.place_ways.specs.Adding.{stamped_step}

pub sent_made : (e : Place) (s : Stamp) (x : Sent) (h : Header) → move_of h (stamped_step e s x) ≡ sent_move e (applied s h) x
sent_made e s sent.Exit h = refl
sent_made e s (sent.Go q) h = refl
sent_made e s sent.Lost h = refl

pub sent_fits : (e : Place) (s : Stamp) (x : Sent) → IsStamp s → OfStamp IsStamp (stamped_step e s x)
sent_fits e s sent.Exit f = f
sent_fits e s (sent.Go q) f = f
sent_fits e s sent.Lost f = refl
