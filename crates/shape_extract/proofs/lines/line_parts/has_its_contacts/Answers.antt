use Rattle.layout_rules.specs.Layers.{is_line}
use Rattle.shape_extract.proofs.Marked.{got_at}
use Rattle.shape_extract.proofs.JoinedParts.{passes_here, contacts_within, joined_start, joined_link, joined_bar}
use Rattle.shape_extract.proofs.JoinedParts.{joined_other}
use Rattle.shape_extract.proofs.lines.line_parts.has_its_contacts.Goals as goal

pub is_one_bar-requires : goal.is_one_bar-requires
is_one_bar-requires c = contacts_within _ _ _ c.requires.contacts

pub are_two_bars-requires : goal.are_two_bars-requires
are_two_bars-requires c = contacts_within _ _ _ c.requires.contacts

pub are_bar_ends-requires : goal.are_bar_ends-requires
are_bar_ends-requires c = contacts_within _ _ _ c.requires.contacts

pub returns-then-part-eq-START : goal.returns-then-part-eq-START
returns-then-part-eq-START c =
    let got = got_at c.args.shapes.now c.args.n c.index-shapes-n.result c.requires.within c.index-shapes-n.is in
    joined_start _ _ _ c.requires.contacts _ got
    (passes_here is_line _ _ _ got c.requires.part) c.if-part-eq-START.true _ c.is_one_bar.ensures

pub returns-then-part-eq-LINK : goal.returns-then-part-eq-LINK
returns-then-part-eq-LINK c =
    let got = got_at c.args.shapes.now c.args.n c.index-shapes-n.result c.requires.within c.index-shapes-n.is in
    joined_link _ _ _ c.requires.contacts _ got
    (passes_here is_line _ _ _ got c.requires.part) c.if-part-eq-LINK.true _ c.are_two_bars.ensures

pub returns-then-part-eq-BAR : goal.returns-then-part-eq-BAR
returns-then-part-eq-BAR c =
    let got = got_at c.args.shapes.now c.args.n c.index-shapes-n.result c.requires.within c.index-shapes-n.is in
    joined_bar _ _ _ c.requires.contacts _ got
    (passes_here is_line _ _ _ got c.requires.part) c.if-part-eq-BAR.true _ c.are_bar_ends.ensures

pub returns : goal.returns
returns c =
    let got = got_at c.args.shapes.now c.args.n c.index-shapes-n.result c.requires.within c.index-shapes-n.is in
    joined_other _ _ _ c.requires.contacts _ got
    (passes_here is_line _ _ _ got c.requires.part) c.if-part-eq-START.false
    c.if-part-eq-LINK.false c.if-part-eq-BAR.false
