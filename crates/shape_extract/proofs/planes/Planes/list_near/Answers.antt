use Rattle.shape_extract.proofs.planes.Planes.list_near.Goals as goal

pub returns : goal.returns
returns c = λ shapes are. c.in_ok-list_near.ensures c.args.plane shapes (c.filed.ensures shapes are)
