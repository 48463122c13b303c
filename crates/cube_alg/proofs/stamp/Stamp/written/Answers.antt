use Rattle.cube_alg.proofs.StampLemmas.{writes}
use Rattle.cube_alg.proofs.stamp.Stamp.written.Goals as goal

pub returns : goal.returns
returns c =
    writes c.args.self.now _ _ _ _ _ _ _ _ (record {
      dst = c.address_at-dst.ensures;
      src = c.address_at-src.ensures;
      dport = c.port_at-dport.ensures;
      sport = c.port_at-sport.ensures;
    })
