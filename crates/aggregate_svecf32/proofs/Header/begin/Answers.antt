-- `Header::begin` meets its contract: where the region is long enough the vector is copied to it, and the header says so. Assumes nothing.
use Rattle.sparse.specs.Vectors.{seen}
use Rattle.regions.specs.Regions.{pair}
use Rattle.aggregate_svecf32.proofs.Begun.{begin_fits}
use Rattle.aggregate_svecf32.proofs.Header.begin.Goals as goal

pub copy-requires : goal.copy-requires
copy-requires c = let a = c.args in
    begin_fits a.self.now (pair a.ai.now a.av.now) (seen a.v) a.count c.requires (rw c.capacity-capacity.ensures at c.if-self-capacity.false)
