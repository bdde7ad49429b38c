use Rattle.std.proofs.Common.{◌∙◌, ◌∷◌, [], ◌++◌, ap, sym, arith, length, length-append, take, append_assoc}
use Rattle.shown_names.specs.Names.{shown_bytes, beginning}
use Rattle.shown_names.proofs.Showing.{bytes_room, short_name, long_name}
use Rattle.shown_names.proofs.Beginnings.{beginning_bound}
use Rattle.shown_names.proofs.name.ShownName.of.Goals as goal

pub push-requires : goal.push-requires
push-requires c =
    let name = c.args.name.now in
    let is = c.push_bytes-else-name-le-MOST.ensures
    ∙ ap (λ n. shown_bytes (take n name)) c.whole_length.ensures.value in
    omega (arith, ap length is, bytes_room (beginning name), beginning_bound name)

pub push-requires-else-name-le-MOST : goal.push-requires-else-name-le-MOST
push-requires-else-name-le-MOST c =
    let name = c.args.name.now in
    let put = c.push_bytes-else-name-le-MOST in
    let is = put.ensures ∙ ap (λ n. shown_bytes (take n name)) c.whole_length.ensures.value in
    omega (
      arith,
      ap length is,
      bytes_room (beginning name),
      beginning_bound name,
      ap length c.push.ensures,
      length-append put.new.self (46 ∷ []),
    )

pub returns-then-name-le-MOST : goal.returns-then-name-le-MOST
returns-then-name-le-MOST c = c.push_bytes.ensures ∙ sym (short_name c.args.name.now c.if-name-le-MOST.true)

pub returns-else-name-le-MOST : goal.returns-else-name-le-MOST
returns-else-name-le-MOST c =
    let name = c.args.name.now in
    let put = c.push_bytes-else-name-le-MOST in
    let is = put.ensures ∙ ap (λ n. shown_bytes (take n name)) c.whole_length.ensures.value in
    c.push-else-name-le-MOST.ensures
    ∙ (ap (λ bytes. bytes ++ 46 ∷ []) (c.push.ensures ∙ ap (λ bytes. bytes ++ 46 ∷ []) is)
    ∙ (append_assoc (shown_bytes (beginning name)) (46 ∷ []) (46 ∷ [])
    ∙ sym (long_name name c.if-name-le-MOST.false)))
