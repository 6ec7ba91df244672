-- `meter::scale_of` meets its contract, kind by kind.
use Rattle.meter.proofs.scale_of.Goals as goal

pub returns-in-Y : goal.returns-in-Y
returns-in-Y c = rw c.in-Y.is c.luma_scale.ensures

pub returns-in-Cb : goal.returns-in-Cb
returns-in-Cb c = rw c.in-Cb.is c.chroma_scale.ensures

pub returns-in-Cr : goal.returns-in-Cr
returns-in-Cr c = rw c.in-Cr.is c.chroma_scale-in-Cr.ensures
