use Rattle.finding_texts.proofs.Appends.{text_after}
use Rattle.finding_texts.proofs.configs.append_unused.Goals as goal

pub returns : goal.returns
returns c =
    text_after _ _ _ _ _ _ c.in_ok-append.ensures c.append_text.ensures
