use Rattle.std.proofs.Common.{All, List, sym, refl, ◌∙◌, subst, length}
use Rattle.std.proofs.lemmas.Option.{slice_get_read}
use Rattle.net_load.specs.declared.readings.ReadAt.{ReadAt}
use Rattle.net_load.specs.declared.texts.FileText.{FileText}
use Rattle.net_load.specs.Texts.{IsReadAt, ReadsText}
use Rattle.net_load.proofs.ReadingLemmas.{all_more, same_text}
use Rattle.net_load.proofs.readings.read_share.Goals as goal

pub loop-at-preserved : goal.loop-at-preserved
loop-at-preserved c =
    let texts = c.args.texts.now in
    let at = c.loop-at.at in
    let item = c.index-texts-at.result in
    let there = slice_get_read texts (length texts) at item refl c.loop-at-test.true c.index-texts-at.is in
    record {
      read = subst (λ (xs : List ReadAt). All (IsReadAt texts) xs) (sym {A = List ReadAt} c.in_ok-push.ensures.items) (all_more (IsReadAt texts) c.loop-at.share.items _ c.loop-at.invariant.read
          (λ x is. subst (λ (y : FileText). ReadsText y c.read_text.result) (same_text item x (sym there ∙ is)) (record { reads = c.read_text.ensures.reads; names = c.read_text.ensures.names })));
    }
