-- A state as the key of a table.
use Rattle.net_types.specs.declared.network.State.{State}
use Rattle.walk_trace.specs.declared.states.StateKey.{StateKey}

abbrev pub key_of : State → StateKey
key_of u =
    record {
      place = u.place;
      dst = u.header.dst;
      src = u.header.src;
      proto = u.header.proto;
      dport = u.header.dport;
      sport = u.header.sport;
      flags = u.header.flags;
    }

abbrev pub state_of : StateKey → State
state_of k =
    record {
      place = k.place;
      header = record { dst = k.dst; src = k.src; proto = k.proto; dport = k.dport; sport = k.sport; flags = k.flags };
    }
