-- Bytes that pass through a buffer, one part after another.
use Rattle.std.proofs.Common.{◌≡◌, ℕ, ◌+◌, ◌-◌, ◌<◌, ◌≤◌, List, [], ◌∷◌, ◌++◌, take, drop, length, append_assoc}
use Rattle.std.proofs.Common.{append-nil, refl, ap, sym, subst, inl, ◌∙◌, arith}
use Rattle.std.specs.List.{copy_within}
use Rattle.std.proofs.lemmas.List.{take-append-drop, length-append, length-drop, take_more}
use Rattle.std.proofs.lemmas.List.Edits.{paste_all}
use Rattle.std.proofs.Math.Seq.{take-append_seam, take-length}
use Rattle.std.specs.Prelude.{Result, IfErr, IsErrAnd, IsSome}
use Rattle.std.proofs.lemmas.Result.{err_from_is_err_and}
use Rattle.aq_base.specs.Outside.{Outside, grown, Stops, StopsWithin}
use Rattle.aq_base.specs.declared.store.StoreRefusal.{StoreRefusal}
use Rattle.aq_base.specs.declared.store.StoreRefusal.TheVariants as store
use Rattle.aq_base.proofs.Growing.{grown_nothing, grown_twice}
use Rattle.std.specs.Prelude.{slice_index_or}
use Rattle.std.specs.List.{flat_map}
use Rattle.std.proofs.lemmas.List.Concat.{flat_map-append}
use Rattle.geom.specs.Writable.{names_in}
use Rattle.geom.specs.declared.layout.Element.{Element}
use Rattle.geom.specs.declared.layout.Structure.{Structure}
use Rattle.geom.specs.declared.layout.Layout.{Layout}
use Rattle.gds_records.specs.declared.codes.TheConstants.{BGNSTR, STRNAME, ENDSTR, ENDLIB, NO_DATA, TWO_BYTE_INTEGER}
use Rattle.gds_records.specs.declared.codes.TheConstants.{ASCII_STRING}
use Rattle.gds_records.specs.Records.{Record, record_with, spelled}
use Rattle.gds_records.specs.Writing.{padded, dates, element_records, structure_records, library_head, bytes_of}
use Rattle.gds_records.specs.Code.Buffer.{Gains}
use Rattle.gds_records.specs.Flow.{Flows, FlowsPart}
use Rattle.gds_records.specs.Refusal.{refusal_of, cause_of}

-- ---- through a buffer

-- what is only put into the buffer
pub flows_put : {held held' bytes : List ℕ} (o : Outside) → Gains held held' bytes → Flows o o held held' bytes
flows_put o g = record { sent = []; grows = grown_nothing o; all = g.whole }

pub flows_nothing : (o : Outside) (held : List ℕ) → Flows o o held held []
flows_nothing o held = record { sent = []; grows = grown_nothing o; all = sym (append-nil held) }

pub flows_then : {o0 o1 o2 : Outside} {h0 h1 h2 p q : List ℕ} → Flows o0 o1 h0 h1 p → Flows o1 o2 h1 h2 q
    → Flows o0 o2 h0 h2 (p ++ q)
flows_then {o0 = o0} {h0 = h0} {h1 = h1} {h2 = h2} {p = p} {q = q} a b = record {
  sent = a.sent ++ b.sent;
  grows = b.grows ∙ ap (grown b.sent) a.grows ∙ grown_twice o0 a.sent b.sent;
  all = append_assoc a.sent b.sent h2 ∙ ap (λ (x : List ℕ). a.sent ++ x) b.all ∙ sym (append_assoc a.sent h1 q)
      ∙ ap (λ (x : List ℕ). x ++ q) a.all ∙ append_assoc h0 p q;
}

pub part_then : {o0 o1 o2 : Outside} {h0 h1 p q : List ℕ} {why : StoreRefusal} → Flows o0 o1 h0 h1 p
    → FlowsPart o1 o2 h1 q why → FlowsPart o0 o2 h0 (p ++ q) why
part_then {o0 = o0} {o2 = o2} {h0 = h0} {h1 = h1} {p = p} {q = q} {why = why} a b = record {
  sent = a.sent ++ b.sent;
  unsent = b.unsent;
  stops = subst (λ o. Stops why o o2) (ap (grown b.sent) a.grows ∙ grown_twice o0 a.sent b.sent) b.stops;
  all = append_assoc a.sent b.sent b.unsent ∙ ap (λ (x : List ℕ). a.sent ++ x) b.all ∙ sym (append_assoc a.sent h1 q)
      ∙ ap (λ (x : List ℕ). x ++ q) a.all ∙ append_assoc h0 p q;
}

-- memory was refused before the store was asked again
pub flows_part : {o0 o1 : Outside} {h0 h1 p : List ℕ} → Flows o0 o1 h0 h1 p → FlowsPart o0 o1 h0 p store.Memory
flows_part {h1 = h1} a = record { sent = a.sent; unsent = h1; stops = inl a.grows; all = a.all }

-- nothing has been sent yet
pub part_none : (o : Outside) (held bytes : List ℕ) → FlowsPart o o held bytes store.Memory
part_none o held bytes = record { sent = []; unsent = held ++ bytes; stops = inl (grown_nothing o); all = refl }

-- what goes on
pub part_more : {o0 o1 : Outside} {h p : List ℕ} {why : StoreRefusal} (q : List ℕ) → FlowsPart o0 o1 h p why
    → FlowsPart o0 o1 h (p ++ q) why
part_more {h = h} {p = p} q a = record {
  sent = a.sent;
  unsent = a.unsent ++ q;
  stops = a.stops;
  all = sym (append_assoc a.sent a.unsent q) ∙ ap (λ (x : List ℕ). x ++ q) a.all ∙ append_assoc h p q;
}

-- a part of less, of more
pub part_of : {o0 o1 : Outside} {h p : List ℕ} {why : StoreRefusal} (q whole : List ℕ) → p ++ q ≡ whole
    → FlowsPart o0 o1 h p why → FlowsPart o0 o1 h whole why
part_of {h = h} q whole e a = let m = part_more q a in
    record { sent = m.sent; unsent = m.unsent; stops = m.stops; all = m.all ∙ ap (λ (x : List ℕ). h ++ x) e }

pub flows_so : {o0 o1 : Outside} {h0 h1 p : List ℕ} (q : List ℕ) → p ≡ q → Flows o0 o1 h0 h1 p → Flows o0 o1 h0 h1 q
flows_so {h0 = h0} q e a = record { sent = a.sent; grows = a.grows; all = a.all ∙ ap (λ (x : List ℕ). h0 ++ x) e }

-- a piece from the front of the buffer
pub piece_flows : {o0 o1 : Outside} {held held' : List ℕ} (count : ℕ) (piece : List ℕ) → piece ≡ take count held
    → o1 ≡ grown piece o0 → held' ≡ drop count held → Flows o0 o1 held held' []
piece_flows {held = held} {held' = held'} count piece p g e = record {
  sent = piece;
  grows = g;
  all = ap (λ (x : List ℕ). x ++ held') p ∙ ap (λ (x : List ℕ). take count held ++ x) e ∙ take-append-drop count held
      ∙ sym (append-nil held);
}

pub piece_part : {o0 o1 : Outside} {held : List ℕ} {why : StoreRefusal} (count : ℕ) (piece : List ℕ)
    → piece ≡ take count held → StopsWithin o0 o1 piece why → FlowsPart o0 o1 held [] why
piece_part {held = held} count piece e p = record {
  sent = take p.count piece;
  unsent = drop p.count piece ++ drop count held;
  stops = p.stops;
  all = sym (append_assoc (take p.count piece) (drop p.count piece) (drop count held))
      ∙ ap (λ (x : List ℕ). x ++ drop count held) (take-append-drop p.count piece ∙ e) ∙ take-append-drop count held
      ∙ sym (append-nil held);
}

pub fewer_held : (count : ℕ) (held held' : List ℕ) → 0 < count → count ≤ length held → held' ≡ drop count held
    → length held' < length held
fewer_held count held held' h fit e = omega (arith, length-drop count held, ap (λ (x : List ℕ). length x) e)

-- the file stays open
pub flows_open : {o o' : Outside} {held held' bytes : List ℕ} → Flows o o' held held' bytes → IsSome o.opened
    → IsSome o'.opened
flows_open f open_is = subst (λ (x : Outside). IsSome x.opened) (sym f.grows) open_is

pub ruleset still_open = flows_open

-- ---- refusals that a `?` hands on

pub on_same : {T E : Type 0} (P : E → Type 0) {e : E} (r : Result T E) → IsErrAnd r (λ d. d ≡ e) → P e → IfErr r P
on_same P r is p = let q = err_from_is_err_and r is in subst (λ x. IfErr x P) (sym q.1) (subst P (sym q.2) p)

same_cause : (why : StoreRefusal) → cause_of (refusal_of why) ≡ why
same_cause store.Failed = refl
same_cause store.Memory = refl

-- by the writer's refusal
pub as_told : {o o' : Outside} {bytes : List ℕ} (why : StoreRefusal) → StopsWithin o o' bytes why
    → StopsWithin o o' bytes (cause_of (refusal_of why))
as_told {o = o} {o' = o'} {bytes = bytes} why s = subst (StopsWithin o o' bytes) (sym (same_cause why)) s

-- ---- the end

-- all that was held, at the end
pub flows_whole : {o0 o1 o2 : Outside} {held bytes : List ℕ} → Flows o0 o1 [] held bytes → o2 ≡ grown held o1
    → o2 ≡ grown bytes o0
flows_whole {o0 = o0} {held = held} a g =
    g ∙ ap (grown held) a.grows ∙ grown_twice o0 a.sent held ∙ ap (λ (x : List ℕ). grown x o0) a.all

pub part_whole : {o0 o1 : Outside} {bytes : List ℕ} {why : StoreRefusal} → FlowsPart o0 o1 [] bytes why
    → StopsWithin o0 o1 bytes why
part_whole {o0 = o0} {o1 = o1} {bytes = bytes} {why = why} a = record {
  count = length a.sent;
  within = omega (arith, ap (λ (x : List ℕ). length x) a.all, length-append a.sent a.unsent);
  stops = subst (λ x. Stops why (grown x o0) o1) (sym (take-append_seam a.sent a.unsent)
      ∙ ap (λ (x : List ℕ). take (length a.sent) x) a.all) a.stops;
}

-- a piece that is taken out of the front
pub dropped : (count : ℕ) (old moved new : List ℕ) (all rest : ℕ) → count ≤ length old → all ≡ length old
    → rest ≡ length old - count
    → moved ≡ copy_within old count all 0 → new ≡ take rest moved → new ≡ drop count old
dropped count old moved new all rest fit a r m e =
    let back = drop count old in
    let n : length old - count ≡ length back = sym (length-drop count old) in
    let p : moved ≡ back ++ drop (0 + (length old - count)) old = m ∙ ap (λ (x : ℕ). copy_within old count x 0) a
    ∙ paste_all old 0 back (length old - count) n in
    e ∙ ap (λ (x : List ℕ). take rest x) p ∙ ap (λ (k : ℕ). take k (back ++ drop (0 + (length old - count)) old))
    (r ∙ n) ∙ take-append_seam back (drop (0 + (length old - count)) old)

-- ---- the bytes of a list, one after another

pub spelled_append : (a b : List Record) → flat_map spelled (a ++ b) ≡ flat_map spelled a ++ flat_map spelled b
spelled_append a b = flat_map-append spelled a b

module _ {X : Type 0} (f : X → List Record) where
  spelled_parts : (i : ℕ) (xs : List X) → flat_map spelled (flat_map f (take i xs))
      ++ flat_map spelled (flat_map f (drop i xs)) ≡ flat_map spelled (flat_map f xs)
  spelled_parts i xs =
      sym (spelled_append (flat_map f (take i xs)) (flat_map f (drop i xs)))
      ∙ ap (λ (x : List Record). flat_map spelled x) (sym (flat_map-append f (take i xs) (drop i xs)))
      ∙ ap (λ (x : List X). flat_map spelled (flat_map f x)) (take-append-drop i xs)

  -- with the item at a place
  spelled_with : (xs : List X) (i : ℕ) (x : X) → i < length xs → x ≡ slice_index_or xs i x
      → flat_map spelled (flat_map f (take i xs)) ++ flat_map spelled (f x) ≡ flat_map spelled
      (flat_map f (take (i + 1) xs))
  spelled_with xs i x h e =
      sym (spelled_append (flat_map f (take i xs)) (f x))
      ∙ ap (λ (r : List Record). flat_map spelled (flat_map f (take i xs) ++ r)) (sym (append-nil (f x)))
      ∙ ap (λ (r : List Record). flat_map spelled r) (sym (flat_map-append f (take i xs) (x ∷ [])))
      ∙ ap (λ (l : List X). flat_map spelled (flat_map f l))
      (ap (λ (y : X). take i xs ++ y ∷ []) e ∙ sym (take_more xs i x h))

  spelled_all : (xs : List X) (i : ℕ) (x : X) → i < length xs → x ≡ slice_index_or xs i x
      → (flat_map spelled (flat_map f (take i xs)) ++ flat_map spelled (f x))
      ++ flat_map spelled (flat_map f (drop (i + 1) xs)) ≡ flat_map spelled (flat_map f xs)
  spelled_all xs i x h e = ap (λ (y : List ℕ). y ++ flat_map spelled (flat_map f (drop (i + 1) xs)))
      (spelled_with xs i x h e) ∙ spelled_parts (i + 1) xs

  -- the bytes of one item more
  pub flows_more : {o0 o1 o2 : Outside} {h0 h1 h2 : List ℕ} (xs : List X) (i : ℕ) (x : X) → i < length xs
      → x ≡ slice_index_or xs i x → Flows o0 o1 h0 h1 (flat_map spelled (flat_map f (take i xs)))
      → Flows o1 o2 h1 h2 (flat_map spelled (f x))
      → Flows o0 o2 h0 h2 (flat_map spelled (flat_map f (take (i + 1) xs)))
  flows_more xs i x h e a b = flows_so _ (spelled_with xs i x h e) (flows_then a b)

  -- writing ended in an item
  pub part_within : {o0 o1 o2 : Outside} {h0 h1 : List ℕ} {why : StoreRefusal} (xs : List X) (i : ℕ) (x : X)
      → i < length xs → x ≡ slice_index_or xs i x → Flows o0 o1 h0 h1 (flat_map spelled (flat_map f (take i xs)))
      → FlowsPart o1 o2 h1 (flat_map spelled (f x)) why → FlowsPart o0 o2 h0 (flat_map spelled (flat_map f xs)) why
  part_within xs i x h e a b = part_of _ _ (spelled_all xs i x h e) (part_then a b)

-- with one record more
with_last : (a : List Record) (r : Record) → flat_map spelled a ++ spelled r ≡ flat_map spelled (a ++ r ∷ [])
with_last a r = ap (λ (x : List ℕ). flat_map spelled a ++ x) (sym (append-nil (spelled r)))
    ∙ sym (spelled_append a (r ∷ []))

-- ---- a structure, and the whole

structure_bytes : (names : List (List ℕ)) (s : Structure) →
    (spelled (record_with BGNSTR TWO_BYTE_INTEGER dates) ++ spelled (record_with STRNAME ASCII_STRING (padded s.name)))
    ++ (flat_map spelled (flat_map (element_records names) s.elements) ++ spelled (record_with ENDSTR NO_DATA []))
    ≡ flat_map spelled (structure_records names s)
structure_bytes names s =
    append_assoc (spelled (record_with BGNSTR TWO_BYTE_INTEGER dates))
    (spelled (record_with STRNAME ASCII_STRING (padded s.name)))
    (flat_map spelled (flat_map (element_records names) s.elements) ++ spelled (record_with ENDSTR NO_DATA []))
    ∙ ap (λ (x : List ℕ). spelled (record_with BGNSTR TWO_BYTE_INTEGER dates)
    ++ (spelled (record_with STRNAME ASCII_STRING (padded s.name)) ++ x))
    (with_last (flat_map (element_records names) s.elements) (record_with ENDSTR NO_DATA []))

-- by its name and its elements
pub structure_parts : (names : List (List ℕ)) (s : Structure) (name : List ℕ) (elements : List Element) → name ≡ s.name
    → elements ≡ s.elements →
    (spelled (record_with BGNSTR TWO_BYTE_INTEGER dates) ++ spelled (record_with STRNAME ASCII_STRING (padded name)))
    ++ (flat_map spelled (flat_map (element_records names) elements) ++ spelled (record_with ENDSTR NO_DATA []))
    ≡ flat_map spelled (structure_records names s)
structure_parts names s name elements a b =
    (λ i. (spelled (record_with BGNSTR TWO_BYTE_INTEGER dates) ++ spelled
    (record_with STRNAME ASCII_STRING (padded (a i))))
    ++ (flat_map spelled (flat_map (element_records names) (b i)) ++ spelled (record_with ENDSTR NO_DATA [])))
    ∙ structure_bytes names s

pub stream_bytes : (layout : Layout) →
    flat_map spelled library_head
    ++ (flat_map spelled (flat_map (structure_records (names_in layout.structures)) layout.structures)
    ++ spelled (record_with ENDLIB NO_DATA [])) ≡ bytes_of layout
unfolding bytes_of
stream_bytes layout =
    let ss = flat_map (structure_records (names_in layout.structures)) layout.structures in
    ap (λ (x : List ℕ). flat_map spelled library_head ++ x) (with_last ss (record_with ENDLIB NO_DATA []))
    ∙ sym (spelled_append library_head (ss ++ record_with ENDLIB NO_DATA [] ∷ []))
    ∙ ap (λ (x : List Record). flat_map spelled x)
    (sym (append_assoc library_head ss (record_with ENDLIB NO_DATA [] ∷ [])))

pub stream_parts : (layout : Layout) (structures : List Structure) → structures ≡ layout.structures →
    flat_map spelled library_head ++ (flat_map spelled (flat_map (structure_records (names_in structures)) structures)
    ++ spelled (record_with ENDLIB NO_DATA [])) ≡ bytes_of layout
stream_parts layout structures a =
    (λ i. flat_map spelled library_head
    ++ (flat_map spelled (flat_map (structure_records (names_in (a i))) (a i))
    ++ spelled (record_with ENDLIB NO_DATA []))) ∙ stream_bytes layout

-- ---- three parts, of which the middle passes

pub flows_three : {o0 o1 : Outside} {h0 h1 h2 h3 a b c : List ℕ} (whole : List ℕ) → a ++ (b ++ c) ≡ whole
    → Gains h0 h1 a → Flows o0 o1 h1 h2 b → Gains h2 h3 c → Flows o0 o1 h0 h3 whole
flows_three {o0 = o0} {o1 = o1} whole e g f k = flows_so whole e
    (flows_then (flows_put o0 g) (flows_then f (flows_put o1 k)))

pub part_two : {o0 o1 : Outside} {h0 h1 a b : List ℕ} {why : StoreRefusal} (c whole : List ℕ) → a ++ (b ++ c) ≡ whole
    → Gains h0 h1 a → FlowsPart o0 o1 h1 b why → FlowsPart o0 o1 h0 whole why
part_two {o0 = o0} {a = a} {b = b} c whole e g f = part_of c whole (append_assoc a b c ∙ e)
    (part_then (flows_put o0 g) f)

pub part_last : {o0 o1 : Outside} {h0 h1 h2 a b : List ℕ} (c whole : List ℕ) → a ++ (b ++ c) ≡ whole → Gains h0 h1 a
    → Flows o0 o1 h1 h2 b → FlowsPart o0 o1 h0 whole store.Memory
part_last {o0 = o0} {a = a} {b = b} c whole e g f = part_of c whole (append_assoc a b c ∙ e)
    (flows_part (flows_then (flows_put o0 g) f))

-- what is put into the buffer, which may then be sent
pub put_part : {o0 o1 : Outside} {h0 h1 a : List ℕ} {why : StoreRefusal} → Gains h0 h1 a → FlowsPart o0 o1 h1 [] why
    → FlowsPart o0 o1 h0 a why
put_part {o0 = o0} {a = a} g f = part_of [] a (append-nil (a ++ []) ∙ append-nil a) (part_then (flows_put o0 g) f)

-- ---- what is left in the buffer

pub rest_part : {o0 o1 : Outside} {held : List ℕ} {why : StoreRefusal} (piece : List ℕ) → piece ≡ held
    → StopsWithin o0 o1 piece why → FlowsPart o0 o1 held [] why
rest_part {held = held} piece e p = piece_part (length held) piece (e ∙ sym (take-length held)) p

pub rest_sent : {o0 o1 o2 : Outside} {h0 h1 : List ℕ} (piece : List ℕ) → Flows o0 o1 h0 h1 [] → piece ≡ h1
    → o2 ≡ grown piece o1 → o2 ≡ grown h0 o0
rest_sent {o0} {o1} {o2} {h0} {h1} piece a e g =
    g ∙ ap (λ (x : List ℕ). grown x o1) e ∙ ap (grown h1) a.grows ∙ grown_twice o0 a.sent h1
    ∙ ap (λ (x : List ℕ). grown x o0) (a.all ∙ append-nil h0)

-- nothing was left
pub none_left : {o0 o1 : Outside} {h0 h1 : List ℕ} → Flows o0 o1 h0 h1 [] → h1 ≡ [] → o1 ≡ grown h0 o0
none_left {o0} {o1} {h0} {h1} a e = rest_sent [] a (sym e) (grown_nothing o1)

pub stops_none : (o : Outside) (bytes : List ℕ) → StopsWithin o o bytes store.Memory
stops_none o bytes = record { count = 0; within = omega arith; stops = inl (grown_nothing o) }

pub part_whole_from : {o0 o1 : Outside} {held bytes : List ℕ} {why : StoreRefusal} → held ≡ []
    → FlowsPart o0 o1 held bytes why → StopsWithin o0 o1 bytes why
part_whole_from {bytes = bytes} e a = part_whole
    (record { sent = a.sent; unsent = a.unsent; stops = a.stops; all = a.all ∙ ap (λ (x : List ℕ). x ++ bytes) e })

pub flows_whole_from : {o0 o1 o2 : Outside} {h0 held bytes : List ℕ} → h0 ≡ [] → Flows o0 o1 h0 held bytes
    → o2 ≡ grown held o1 → o2 ≡ grown bytes o0
flows_whole_from {bytes = bytes} e a g =
    flows_whole (record { sent = a.sent; grows = a.grows; all = a.all ∙ ap (λ (x : List ℕ). x ++ bytes) e }) g

pub part_whole_after : {o0 o1 o2 : Outside} {h0 held bytes : List ℕ} {why : StoreRefusal} → h0 ≡ []
    → Flows o0 o1 h0 held bytes → FlowsPart o1 o2 held [] why → StopsWithin o0 o2 bytes why
part_whole_after {bytes = bytes} e a p = part_whole_from e
    (part_of [] bytes (append-nil (bytes ++ []) ∙ append-nil bytes) (part_then a p))
