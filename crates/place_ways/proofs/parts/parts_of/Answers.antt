use Rattle.std.proofs.Common.{rules}
use Rattle.place_ways.proofs.PartLemmas.{if_translated, if_untranslated, part_alone, untouched}
use Rattle.place_ways.proofs.parts.parts_of.Goals as goal

pub returns-then-translated-clause-parts : goal.returns-then-translated-clause-parts
returns-then-translated-clause-parts c =
    if_translated c.translated_parts.new.table _ c.in_ok-parts.parts.items c.args.translated c.args.translation c.if-translated.true c.in_ok-parts.ensures.parts

pub returns-clause-parts : goal.returns-clause-parts
returns-clause-parts c =
    rw (c.in_ok-push.ensures.items, c.new-parts.ensures.items) (if_untranslated c.args.table.now _ _ c.args.translated c.args.translation c.if-translated.false (part_alone _ c.args.table.now (record { headers = c.args.given; stamp = c.none.result }) c.requires.given (search rules) (λ h v i. untouched c.none.result c.none.ensures h)))
