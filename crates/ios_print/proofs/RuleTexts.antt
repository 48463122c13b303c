-- How the line of a rule of address translation is spelled.
use Rattle.std.proofs.Common.{◌≡◌, false, [], ◌∷◌, ◌++◌}
use Rattle.std.specs.Prelude.{codes}
use Rattle.net_types.specs.declared.config.NatKind.{NatKind}
use Rattle.net_types.specs.declared.config.NatKind.TheVariants as nat
use Rattle.net_text.specs.Texts.{spell}
use Rattle.ios_lines.specs.Words.{Words}
use Rattle.ios_print.specs.Print.{rule_side, rule_start}
use Rattle.ios_print.specs.Tail.{tail}
use Rattle.ios_print.proofs.Appends.{spelled}

pub rule_spelled : (k : NatKind) (ws : Words) → spell (false, codes "ip" ∷ codes "nat" ∷ rule_side k ∷ codes "source" ∷ codes "static" ∷ ws) ≡ rule_start k ++ (tail ws ++ 10 ∷ [])
rule_spelled nat.Plain ws = spelled false (codes "ip") (codes "nat" ∷ codes "inside" ∷ codes "source" ∷ codes "static" ∷ ws)
rule_spelled nat.Tcp ws = spelled false (codes "ip") (codes "nat" ∷ codes "inside" ∷ codes "source" ∷ codes "static" ∷ ws)
rule_spelled nat.Udp ws = spelled false (codes "ip") (codes "nat" ∷ codes "inside" ∷ codes "source" ∷ codes "static" ∷ ws)
rule_spelled nat.Outer ws = spelled false (codes "ip") (codes "nat" ∷ codes "outside" ∷ codes "source" ∷ codes "static" ∷ ws)
