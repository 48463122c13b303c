use Rattle.std.proofs.Common.{◌∷◌, ◌++◌}
use Rattle.ios_print.specs.Print.{proto_word, masked_words, port_words, icmp_words, flag_words}
use Rattle.ios_print.specs.Tail.{tail}
use Rattle.ios_print.proofs.Appends.{text_after, words_after}
use Rattle.ios_print.proofs.entries.append_extended.Goals as goal

pub returns : goal.returns
returns c =
    let e = c.args.entry.now in
    let from_icmp = icmp_words e.icmp ++ flag_words e.flags in
    let from_dport = port_words e.dport ++ from_icmp in
    let from_dst = masked_words e.dst ++ from_dport in
    let from_sport = port_words e.sport ++ from_dst in
    text_after _ _ _ _ (32 ∷ proto_word e.proto) (tail (masked_words e.src ++ from_sport)) c.in_ok-append_proto.ensures
    (words_after _ _ _ _ (masked_words e.src) from_sport c.in_ok-append_masked.ensures
    (words_after _ _ _ _ (port_words e.sport) from_dst c.in_ok-append_port_test.ensures
    (words_after _ _ _ _ (masked_words e.dst) from_dport c.in_ok-append_masked-2.ensures
    (words_after _ _ _ _ (port_words e.dport) from_icmp c.in_ok-append_port_test-2.ensures
    (words_after _ _ _ _ (icmp_words e.icmp) (flag_words e.flags) c.in_ok-append_icmp.ensures c.append_flags.ensures)))))
