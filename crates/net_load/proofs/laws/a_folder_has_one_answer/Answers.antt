use Rattle.net_load.proofs.OneAnswer.{loads_once, loaded_is_free}
use Rattle.net_load.proofs.laws.a_folder_has_one_answer.Goals as goal

pub returns-clause-devices : goal.returns-clause-devices
returns-clause-devices c = loads_once

pub returns-clause-cause : goal.returns-clause-cause
returns-clause-cause c = loaded_is_free
