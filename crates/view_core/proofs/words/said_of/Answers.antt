use Rattle.std.proofs.Common.{◌≡◌, ap, sym, true, if◌then◌else◌, Some, None, rules}
use Rattle.std.specs.Prelude.{codes}
use Rattle.std.specs.Str.{bytes_eq}
use Rattle.view_words.specs.Usage.{usage_text, version_text}
use Rattle.view_core.proofs.words.said_of.Goals as goal

pub returns-then-eq : goal.returns-then-eq
returns-then-eq c =
    let e : bytes_eq c.args.word.now (codes "--help") ≡ true = search rules in
    ap (λ b. if b then Some usage_text else (if bytes_eq c.args.word.now (codes "--version") then Some version_text else None)) (sym e)
