use Rattle.std.proofs.Common.{rules, ◌≡◌, ◌*◌, ◌≤◌, subst}
use Rattle.std.proofs.Common.{ℕ, map}
use Rattle.rowed.specs.Limits.{width_limit}
use Rattle.row_place.specs.Places.{packed}
use Rattle.plan_draw.proofs.Packed.{narrow_rows, packed_slots}
use Rattle.plan_draw.proofs.pack.pack_net.Goals as goal

pub each_slots-requires : goal.each_slots-requires
each_slots-requires c =
    let rows : c.as_slice.result.now ≡ c.args.net.rows = search rules in
    let past : c.packed_span-span.result * c.args.slot_width ≤ width_limit = search rules in
    let within = subst (λ (n : ℕ). n * c.args.slot_width ≤ width_limit) c.packed_span-span.ensures past in
    rw rows (narrow_rows c.args.net.rows c.args.slot_width c.requires within)

pub invariant_of-result : goal.invariant_of-result
invariant_of-result c =
    let are : c.from_vec.result ≡ map (packed 0) c.args.net.rows = search rules in
    let past : c.packed_span-span.result * c.args.slot_width ≤ width_limit = search rules in
    let within = subst (λ (n : ℕ). n * c.args.slot_width ≤ width_limit) c.packed_span-span.ensures past in
    (packed_slots c.args.net c.args.slot_width c.from_vec.result c.known.ensures c.requires within are).placed_keeps

pub returns-clause-packed : goal.returns-clause-packed
returns-clause-packed c =
    let are : c.from_vec.result ≡ map (packed 0) c.args.net.rows = search rules in
    let past : c.packed_span-span.result * c.args.slot_width ≤ width_limit = search rules in
    let within = subst (λ (n : ℕ). n * c.args.slot_width ≤ width_limit) c.packed_span-span.ensures past in
    packed_slots c.args.net c.args.slot_width c.from_vec.result c.known.ensures c.requires within are
