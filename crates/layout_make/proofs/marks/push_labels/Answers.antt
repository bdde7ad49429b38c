use Rattle.std.proofs.Common.{arith, ℕ, ◌≡◌, ◌+◌, ◌*◌, ◌++◌, ◌∷◌, [], ap, length, ◌∙◌}
use Rattle.geom.specs.declared.shapes.Label.{Label}
use Rattle.geom.specs.declared.layout.Element.TheVariants.{Text}
use Rattle.layout_make.specs.Sheet.{centre}
use Rattle.layout_make.specs.Spots.{spots_of}
use Rattle.layout_make.specs.Code.Labelling.{port_slot, port_text, label_at}
use Rattle.layout_make.proofs.PortSlots.{many, slot_read}
use Rattle.layout_make.proofs.DrawCode.{numbers_next}
use Rattle.layout_make.proofs.marks.push_labels.Goals as goal

pub index-requires : goal.index-requires
index-requires c =
    omega (
      arith,
      ap length c.in_ok-slots.ensures ∙ many (port_slot c.args.labels.ports _) 0 c.args.labels.count,
      c.loop-port-test.true,
    )

pub overflow_cast-own : goal.overflow_cast-own
overflow_cast-own c =
    let xs = spots_of c.args.row.now.cells.now c.args.row.now.slots.now in
    let slot : c.index.result.now ≡ port_slot c.args.labels.ports xs c.loop-port.port = slot_read c.args.labels.ports xs
    c.args.labels.count c.loop-port.port c.index.result.now c.in_ok-slots.slots.items c.in_ok-slots.ensures
    c.loop-port-test.true c.index.ensures in
    let own : c.from.result * c.columns.result + c.from-in-loop-port.result ≡ port_slot c.args.labels.ports xs
    c.loop-port.port * c.args.library.now.columns + c.args.labels.column =
    search (c.from.ensures, c.columns.ensures, c.from-in-loop-port.ensures, slot) in
    omega (arith, own, c.requires.fits c.loop-port.port)

pub loop-port-preserved : goal.loop-port-preserved
loop-port-preserved c =
    let xs = spots_of c.args.row.now.cells.now c.args.row.now.slots.now in
    let slot : c.index.result.now ≡ port_slot c.args.labels.ports xs c.loop-port.port = slot_read c.args.labels.ports xs
    c.args.labels.count c.loop-port.port c.index.result.now c.in_ok-slots.slots.items c.in_ok-slots.ensures
    c.loop-port-test.true c.index.ensures in
    let own : c.from.result * c.columns.result + c.from-in-loop-port.result ≡ port_slot c.args.labels.ports xs
    c.loop-port.port * c.args.library.now.columns + c.args.labels.column =
    search (c.from.ensures, c.columns.ensures, c.from-in-loop-port.ensures, slot) in
    numbers_next (port_text c.args.library.now c.args.labels.ports xs c.args.labels.column c.args.labels.y) c.loop-port.port
    c.args.elements.now.items _ _ c.loop-port.invariant
    (c.in_ok-push.ensures.items ∙ ap (λ (b : Label). c.loop-port.elements.items ++ Text b ∷ [])
    (c.in_ok-text.ensures
    ∙ ap (λ (n : ℕ). label_at c.args.labels.ports c.loop-port.port (centre c.args.library.now n) c.args.labels.y) own))
