-- The words of a line after its first one.
use Rattle.std.proofs.Common.{◌≡◌, List, [], ◌∷◌, ◌++◌, ap, sym, append-nil}
use Rattle.std.specs.List.{join_with_byte}
use Rattle.ios_lines.specs.Words.{Word, Words}
use Rattle.std.specs.Prelude.{flat_map}
use Rattle.std.proofs.lemmas.Grind.{flat_map-append}
use Rattle.net_text.specs.Texts.{spell}
use Rattle.ios_print.specs.Print.{Row}
use Rattle.ios_print.specs.Tail.{after_blank, tail}

pub joined : (w : Word) (ws : Words) → join_with_byte 32 (w ∷ ws) ≡ w ++ tail ws
joined w [] = sym (append-nil w)
joined w (v ∷ ws) = ap (λ x. w ++ (32 ∷ x)) (joined v ws)

pub tail_on : (ws vs : Words) → tail (ws ++ vs) ≡ tail ws ++ tail vs
tail_on ws vs = flat_map-append after_blank ws vs

pub spelled_on : (rs qs : List Row) → flat_map spell (rs ++ qs) ≡ flat_map spell rs ++ flat_map spell qs
spelled_on rs qs = flat_map-append spell rs qs
