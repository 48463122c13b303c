use Rattle.ios_config.proofs.Passings.{passed_ok, says_ok}
use Rattle.ios_config.proofs.passed.examine_lines.Goals as goal

pub returns-clause-passed : goal.returns-clause-passed
returns-clause-passed c = passed_ok c.args.bytes.now c.survey_lines.new.survey c.judged.result c.in_ok-survey_lines.ensures c.judged.ensures.passed

pub returns-clause-reading : goal.returns-clause-reading
returns-clause-reading c = says_ok c.args.bytes.now c.survey_lines.new.survey c.judged.result c.in_ok-survey_lines.ensures c.judged.ensures.reading
