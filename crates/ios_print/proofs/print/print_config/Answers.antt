use Rattle.ios_print.proofs.AcceptedConfigs.{accepted_printable}
use Rattle.ios_print.proofs.Reading.{reads_if_ok}
use Rattle.ios_print.proofs.print.print_config.Goals as goal

pub returns-clause-read : goal.returns-clause-read
returns-clause-read c =
    let a = c.requires in
    reads_if_ok c.args.config.now c.write_config.result (accepted_printable a.text c.args.config.now a.passed a.reads) c.write_config.ensures
