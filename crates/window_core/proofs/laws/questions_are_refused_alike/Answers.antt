use Rattle.std.proofs.Common.{[]}
use Rattle.net_load.specs.Numbering.{names_of}
use Rattle.ask_query.specs.Reading.{questions_of}
use Rattle.window_core.specs.Job.{asked_network, window_network}
use Rattle.window_core.proofs.SecondReading.{refused_alike, texts_alike, turned}
use Rattle.window_core.proofs.laws.questions_are_refused_alike.Goals as goal

pub returns-clause-first : goal.returns-clause-first
returns-clause-first c base changes bytes e h =
    refused_alike (questions_of (asked_network base).old bytes) (questions_of (window_network base changes).old bytes) e
    (texts_alike (names_of base.devices [] base.table []) (names_of base.devices changes base.table []) base.devices bytes) h

pub returns-clause-second : goal.returns-clause-second
returns-clause-second c base changes bytes e h =
    refused_alike (questions_of (window_network base changes).old bytes) (questions_of (asked_network base).old bytes) e
    (turned (questions_of (asked_network base).old bytes) (questions_of (window_network base changes).old bytes)
    (texts_alike (names_of base.devices [] base.table []) (names_of base.devices changes base.table []) base.devices bytes)) h
