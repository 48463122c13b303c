use denote.RattleType.{RattleType}
use denote.Struct.Struct
use denote.Struct.Owning
use denote.Param.Send.{IsSync, sendable}
use Rattle.class_store.specs.contracts.known.Known as Known

pub sync : (T : RattleType) → IsSync (Known.the_row T)
sync T = let fields : IsSync (denote.Struct.Struct.Struct (denote.Struct.Owning.shape (Known.the_type T))) = search sendable depth 20 in
    record { shared = λ d b o κ. (fields.shared (tt, tt) b o κ, tt) }
