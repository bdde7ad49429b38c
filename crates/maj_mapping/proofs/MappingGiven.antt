-- The plan of a netlist is what the pass is to give.
use Rattle.std.proofs.Common.{refl, subst, sym, ◌≡◌}
use Rattle.blif_read.specs.Parts.{NetView}
use Rattle.blif_read.specs.Netlist.{IsNetlist}
use Rattle.circuit.specs.PlainNets.{PlainView}
use Rattle.maj_mapping.specs.Plan.{map_net}
use Rattle.maj_mapping.specs.Passes.{IsMappedNet}
use Rattle.maj_mapping.proofs.MappedNets.{is_plain, keeps_map}
use Rattle.maj_mapping.proofs.FewGates.{few_gates}

pub mapping_given : (net : NetView) → IsNetlist net → IsMappedNet net (map_net net)
mapping_given net known = record {
  net_keeps = known;
  gates_keep = is_plain net known (few_gates net known);
  is_plan = refl;
  same = keeps_map net known;
}

-- and so is what is made like it
pub made_given : (net : NetView) (out : PlainView) → IsNetlist net → out ≡ map_net net → IsMappedNet net out
made_given net out known is = subst (IsMappedNet net) (sym is) (mapping_given net known)
