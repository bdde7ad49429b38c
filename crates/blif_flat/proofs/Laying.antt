-- The walk that lays out blocks, turn by turn: the nearest frame is last in its vector.
use Rattle.std.proofs.Common.{◌≡◌, ℕ, suc, ◌+◌, ◌<◌, ◌≤◌, ◌^◌, List, [], ◌∷◌, ◌++◌, length, drop, get_or, reverse, sym}
use Rattle.std.proofs.Common.{ap, ◌∙◌, subst, arith, add-one, drop-cons, append_assoc}
use Rattle.std.specs.Prelude.{slice_index_or}
use Rattle.std.specs.List.{flat_map, AllByRecursion}
use Rattle.std.proofs.lemmas.List.{append-nil, drop_all}
use Rattle.blif_read.proofs.Turns.{reverse_push}
use Rattle.blif_read.specs.declared.netlist.Def.{Def}
use Rattle.blif_flat.specs.declared.expansion.pieces.Piece.{Piece}
use Rattle.blif_flat.specs.declared.expansion.pieces.Piece.TheVariants.{Own, Inner}
use Rattle.blif_flat.specs.declared.expansion.layout.Frame.{Frame}
use Rattle.blif_flat.specs.Code.Blocks.{moved, of_piece, laid_out, AreStraight, FitsIn, HaveRoom, still}
use Rattle.blif_flat.proofs.Members.{all_weaker}
use Rattle.blif_flat.proofs.Outlining.{all_at}

abbrev pub frame : ℕ → ℕ → ℕ → Frame
frame model base next = record { model = model; base = base; next = next }

-- 32 bits hold the wires of a frame's block
abbrev pub HasRoom : (ℕ → ℕ) → Frame → Type 0
HasRoom width f = f.base + width f.model < 2 ^ 32

module _ (blocks : List (List Piece)) where
  abbrev of : ℕ → ℕ → List Def
  of = laid_out blocks (length blocks)

  abbrev at : ℕ → List Piece
  at n = slice_index_or blocks n []

  -- what the nearest frame has still to lay out
  abbrev rest_of : Frame → List Def
  rest_of f = flat_map (of_piece of f.base) (drop f.next (at f.model))

  still_popped : (f : Frame) (rest frames : List Frame) → frames ≡ rest ++ f ∷ []
      → still blocks (reverse frames) ≡ rest_of f ++ still blocks (reverse rest)
  still_popped f rest frames e = ap (still blocks) (ap reverse e ∙ reverse_push rest f)

  -- a piece is taken
  taken : (f : Frame) (xs : List Piece) (p : Piece) → xs ≡ at f.model → f.next < length xs → p ≡ get_or xs f.next p
      → drop f.next (at f.model) ≡ p ∷ drop (f.next + 1) (at f.model)
  taken f xs p e lt is =
      ap (drop f.next) (sym e) ∙ drop-cons xs f.next p lt ∙ ap (λ q. q ∷ drop (suc f.next) xs) (sym is)
      ∙ ap (λ n. p ∷ drop n xs) (sym (add-one f.next)) ∙ ap (λ ys. p ∷ drop (f.next + 1) ys) e

  pub lay_first : AreStraight blocks → (none frames : List Frame) (defs : List Def) → none ≡ []
      → frames ≡ none ++ frame 0 0 0 ∷ [] → defs ≡ [] → defs ++ still blocks (reverse frames) ≡ of 0 0
  lay_first s none frames defs n f d =
      ap (λ ds. ds ++ still blocks (reverse frames)) d ∙ still_popped (frame 0 0 0) none frames f
      ∙ ap (λ fs. rest_of (frame 0 0 0) ++ still blocks (reverse fs)) n
      ∙ append-nil (rest_of (frame 0 0 0)) ∙ sym (s.laid 0 0)

  -- a block is done
  pub lay_done : (f : Frame) (rest frames : List Frame) (defs whole : List Def) (xs : List Piece)
      → frames ≡ rest ++ f ∷ [] → xs ≡ at f.model → length xs ≤ f.next
      → defs ++ still blocks (reverse frames) ≡ whole → defs ++ still blocks (reverse rest) ≡ whole
  lay_done f rest frames defs whole xs e same le w =
      let none : drop f.next (at f.model) ≡ [] = drop_all f.next (at f.model)
      (subst (λ ys. length ys ≤ f.next) same le) in
      sym (ap (λ ds. defs ++ ds) (still_popped f rest frames e
      ∙ ap (λ ps. flat_map (of_piece of f.base) ps ++ still blocks (reverse rest)) none)) ∙ w

  -- a definition is laid out
  pub lay_own : (f : Frame) (rest frames after : List Frame) (defs more whole : List Def) (xs : List Piece) (p : Piece)
      (def moved_def : Def) → frames ≡ rest ++ f ∷ [] → after ≡ rest ++ frame f.model f.base (f.next + 1) ∷ []
      → xs ≡ at f.model → f.next < length xs → p ≡ get_or xs f.next p → p ≡ Own def → moved_def ≡ moved f.base def
      → more ≡ defs ++ moved_def ∷ []
      → defs ++ still blocks (reverse frames) ≡ whole → more ++ still blocks (reverse after) ≡ whole
  lay_own f rest frames after defs more whole xs p def moved_def e a same lt is own m d w =
      ap (λ ds. ds ++ still blocks (reverse after)) d
      ∙ append_assoc defs (moved_def ∷ []) (still blocks (reverse after))
      ∙ ap (λ x. defs ++ x ∷ still blocks (reverse after)) m
      ∙ ap (λ ds. defs ++ moved f.base def ∷ ds) (still_popped (frame f.model f.base (f.next + 1)) rest after a)
      ∙ sym (ap (λ ds. defs ++ ds) (still_popped f rest frames e
      ∙ ap (λ ps. flat_map (of_piece of f.base) ps ++ still blocks (reverse rest)) (taken f xs p same lt is
      ∙ ap (λ q. q ∷ drop (f.next + 1) (at f.model)) own)))
      ∙ w

  -- an inner block is begun
  pub lay_inner : AreStraight blocks → (f : Frame) (rest frames middle after : List Frame) (defs whole : List Def)
      (xs : List Piece) (p : Piece) (model start base : ℕ) → frames ≡ rest ++ f ∷ []
      → middle ≡ rest ++ frame f.model f.base (f.next + 1) ∷ [] → after ≡ middle ++ frame model base 0 ∷ []
      → xs ≡ at f.model → f.next < length xs → p ≡ get_or xs f.next p → p ≡ Inner model start → base ≡ f.base + start
      → defs ++ still blocks (reverse frames) ≡ whole → defs ++ still blocks (reverse after) ≡ whole
  lay_inner s f rest frames middle after defs whole xs p model start base e m a same lt is inner b w =
      ap (λ ds. defs ++ ds) (still_popped (frame model base 0) middle after a
      ∙ ap (λ ds. ds ++ still blocks (reverse middle)) (sym (s.laid model base))
      ∙ ap (λ k. of model k ++ still blocks (reverse middle)) b
      ∙ ap (λ ds. of model (f.base + start) ++ ds) (still_popped (frame f.model f.base (f.next + 1)) rest middle m)
      ∙ sym (append_assoc (of model (f.base + start)) (rest_of (frame f.model f.base (f.next + 1)))
      (still blocks (reverse rest)))
      ∙ sym (still_popped f rest frames e
      ∙ ap (λ ps. flat_map (of_piece of f.base) ps ++ still blocks (reverse rest)) (taken f xs p same lt is
      ∙ ap (λ q. q ∷ drop (f.next + 1) (at f.model)) inner)))
      ∙ w

  -- ---- room for the wires of frames

  pub room_first : (fit : HaveRoom blocks) (none frames : List Frame) → none ≡ [] → frames ≡ none ++ frame 0 0 0 ∷ []
      → AllByRecursion (HasRoom fit.width) (reverse frames)
  room_first fit none frames n f =
      let few = fit.few in
      subst (AllByRecursion (HasRoom fit.width))
      (sym (ap reverse (f ∙ ap (λ fs. fs ++ frame 0 0 0 ∷ []) n))) (omega arith, tt)

  room_popped : (width : ℕ → ℕ) (f : Frame) (rest frames : List Frame) → frames ≡ rest ++ f ∷ []
      → AllByRecursion (HasRoom width) (reverse frames)
      → HasRoom width f × AllByRecursion (HasRoom width) (reverse rest)
  room_popped width f rest frames e h = subst (AllByRecursion (HasRoom width)) (ap reverse e ∙ reverse_push rest f) h

  room_pushed : (width : ℕ → ℕ) (f : Frame) (rest frames : List Frame) → frames ≡ rest ++ f ∷ [] → HasRoom width f
      → AllByRecursion (HasRoom width) (reverse rest)
      → AllByRecursion (HasRoom width) (reverse frames)
  room_pushed width f rest frames e here h = subst (AllByRecursion (HasRoom width))
      (sym (ap reverse e ∙ reverse_push rest f)) (here, h)

  pub room_done : (fit : HaveRoom blocks) (f : Frame) (rest frames : List Frame) → frames ≡ rest ++ f ∷ []
      → AllByRecursion (HasRoom fit.width) (reverse frames)
      → AllByRecursion (HasRoom fit.width) (reverse rest)
  room_done fit f rest frames e h = (room_popped fit.width f rest frames e h).1

  pub room_taken : (fit : HaveRoom blocks) (f : Frame) (rest frames after : List Frame) → frames ≡ rest ++ f ∷ []
      → after ≡ rest ++ frame f.model f.base (f.next + 1) ∷ []
      → AllByRecursion (HasRoom fit.width) (reverse frames) → AllByRecursion (HasRoom fit.width) (reverse after)
  room_taken fit f rest frames after e a h =
      let both = room_popped fit.width f rest frames e h in
      room_pushed fit.width (frame f.model f.base (f.next + 1)) rest after a both.0 both.1

  -- what is taken of a block fits in it
  piece_fits : (fit : HaveRoom blocks) (f : Frame) (xs : List Piece) (p q : Piece) → xs ≡ at f.model
      → f.next < length xs → p ≡ get_or xs f.next p → p ≡ q → FitsIn fit.width (fit.width f.model) q
  piece_fits fit f xs p q same lt is what = subst (FitsIn fit.width (fit.width f.model)) what
      (all_at (FitsIn fit.width (fit.width f.model)) xs f.next p
      (subst (AllByRecursion (FitsIn fit.width (fit.width f.model))) (sym same) (fit.fits f.model)) lt is)

  pub own_room : (fit : HaveRoom blocks) (f : Frame) (rest frames : List Frame) (xs : List Piece) (p : Piece)
      (def : Def) → frames ≡ rest ++ f ∷ []
      → xs ≡ at f.model → f.next < length xs → p ≡ get_or xs f.next p → p ≡ Own def
      → AllByRecursion (HasRoom fit.width) (reverse frames)
      → AllByRecursion (λ s. f.base + s < 2 ^ 32) def.inputs
  own_room fit f rest frames xs p def e same lt is own h =
      let here : f.base + fit.width f.model < 2 ^ 32 = (room_popped fit.width f rest frames e h).0 in
      all_weaker (λ s. s ≤ fit.width f.model) (λ s. f.base + s < 2 ^ 32) (λ s le. omega arith) def.inputs
      (piece_fits fit f xs p (Own def) same lt is own)

  pub inner_room : (fit : HaveRoom blocks) (f : Frame) (rest frames : List Frame) (xs : List Piece) (p : Piece)
      (model start : ℕ) → frames ≡ rest ++ f ∷ []
      → xs ≡ at f.model → f.next < length xs → p ≡ get_or xs f.next p → p ≡ Inner model start
      → AllByRecursion (HasRoom fit.width) (reverse frames)
      → f.base + start + fit.width model < 2 ^ 32
  inner_room fit f rest frames xs p model start e same lt is inner h =
      let here : f.base + fit.width f.model < 2 ^ 32 = (room_popped fit.width f rest frames e h).0 in
      let ends : start + fit.width model ≤ fit.width f.model = piece_fits fit f xs p
      (Inner model start) same lt is inner in
      omega arith

  pub room_begun : (fit : HaveRoom blocks) (f : Frame) (rest frames middle after : List Frame) (xs : List Piece)
      (p : Piece) (model start base : ℕ) → frames ≡ rest ++ f ∷ []
      → middle ≡ rest ++ frame f.model f.base (f.next + 1) ∷ [] → after ≡ middle ++ frame model base 0 ∷ []
      → xs ≡ at f.model → f.next < length xs → p ≡ get_or xs f.next p → p ≡ Inner model start → base ≡ f.base + start
      → AllByRecursion (HasRoom fit.width) (reverse frames) → AllByRecursion (HasRoom fit.width) (reverse after)
  room_begun fit f rest frames middle after xs p model start base e m a same lt is inner b h =
      let room = inner_room fit f rest frames xs p model start e same lt is inner h in
      room_pushed fit.width (frame model base 0) middle after a (omega arith)
      (room_taken fit f rest frames middle e m h)
