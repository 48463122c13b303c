use Rattle.std.proofs.Common.{◌≡◌, map}
use Rattle.std.specs.Prelude.{filter}
use Rattle.net_text.specs.Texts.{is_word}
use Rattle.topo_links.specs.Names.{add_names}
use Rattle.doctor_warnings.proofs.configs.add_words.Given as goal

abbrev pub invariant-loop-word : goal.invariant-loop-word
invariant-loop-word l = l.names ≡ add_names l.fn.names (filter is_word (map (λ word. word.now) l.yielded))
