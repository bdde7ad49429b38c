-- The shapes of one net are joined, and no others.
use Rattle.std.proofs.Common.{◌≡◌, ℕ, zero, suc, Bool, true, false, refl, sym, ap, subst, ◌∙◌, List, if◌then◌else◌}
use Rattle.cell_library.specs.Library.{LibraryView}
use Rattle.layout_make.proofs.Lawful.{IsLawful}
use Rattle.geom.specs.declared.shapes.Shape.{Shape}
use Rattle.layout_rules.specs.Touch.{touch, Joined}
use Rattle.layout_rules.proofs.NetLaws.{Joined-self, Joined-touching, Joined-trans, Joined-back}
use Rattle.layout_make.specs.Sheet.{Tag, InPin, OutPin, Rise, Fall, Across, FromVia, ToVia, shape_of}
use Rattle.layout_make.specs.Nets.{Net, Into, From, NoNet, net_of, output_net}
use Rattle.layout_make.proofs.SheetKeeps.{IsWire, IsDrawn}
use Rattle.layout_make.specs.Tags.{At, sheet, tags}
use Rattle.rowed.specs.PlacedNets.{PlacedView}
use Rattle.layout_make.proofs.ReadyNets.{IsReady}
use Rattle.layout_make.specs.WireLaw.{WireLaw}
use Rattle.layout_make.proofs.FlatLaw.{flat_is_tags}
use Rattle.layout_make.proofs.Joins.{shapes_of, step, joined_net, pins_joined, rise_via, via_across, across_via}
use Rattle.layout_make.proofs.Joins.{via_fall, fall_in}
use Rattle.layout_make.specs.declared.marks.Ports.TheVariants.{Inputs, Outputs}
use Rattle.layout_make.proofs.WiresJoined.{one_pin, wires_all}
use Rattle.layout_make.proofs.Whole.{drawn, has_cells}

module _ (p : PlacedView) (l : LibraryView) (is : IsReady p l) (laws : IsLawful l) where
  abbrev all : List Shape
  all = shapes_of (sheet p l) (tags p l)

  whole : IsDrawn (sheet p l) (tags p l)
  whole = drawn p l is laws

  hop : (i j k : ℕ) (t u : Tag) → At (tags p l) i t → At (tags p l) j u
      → touch (shape_of (sheet p l) t) (shape_of (sheet p l) u) ≡ true → Joined all j k → Joined all i k
  hop i j k t u at au so rest =
      Joined-trans all i j k (Joined-touching all i j (step (sheet p l) (tags p l) i j t u at au so)) rest

  -- from each shape of a wire on to the input pin

  from_fall : (r c n i m : ℕ) → IsWire (sheet p l) r c → At (tags p l) i (Fall r c)
      → At (tags p l) m (InPin (suc r) ((sheet p l).to r c) n) → Joined all i m
  from_fall r c n i m w at end = hop i m m _ _ at end (fall_in (sheet p l) whole.routed.laws r c n w.tracked)
      (Joined-self all m)

  from_end : (r c n i m : ℕ) → IsWire (sheet p l) r c → At (tags p l) i (ToVia r c)
      → At (tags p l) m (InPin (suc r) ((sheet p l).to r c) n) → Joined all i m
  from_end r c n i m w at end = let k = whole.falls r c w in
      hop i k.0 m _ _ at k.1 (via_fall (sheet p l) whole.routed.laws r c w.tracked) (from_fall r c n k.0 m w k.1 end)

  from_across : (r c n i m : ℕ) → IsWire (sheet p l) r c → At (tags p l) i (Across r c)
      → At (tags p l) m (InPin (suc r) ((sheet p l).to r c) n) → Joined all i m
  from_across r c n i m w at end = let k = whole.ends r c w in
      hop i k.0 m _ _ at k.1 (across_via (sheet p l) whole.routed.laws r c) (from_end r c n k.0 m w k.1 end)

  from_via : (r c n i m : ℕ) → IsWire (sheet p l) r c → At (tags p l) i (FromVia r c)
      → At (tags p l) m (InPin (suc r) ((sheet p l).to r c) n) → Joined all i m
  from_via r c n i m w at end = let k = whole.crosses r c w in
      hop i k.0 m _ _ at k.1 (via_across (sheet p l) whole.routed.laws r c) (from_across r c n k.0 m w k.1 end)

  from_rise : (r c n i m : ℕ) → IsWire (sheet p l) r c → At (tags p l) i (Rise r c)
      → At (tags p l) m (InPin (suc r) ((sheet p l).to r c) n) → Joined all i m
  from_rise r c n i m w at end = let k = whole.begins r c w in
      hop i k.0 m _ _ at k.1 (rise_via (sheet p l) whole.routed.laws r c) (from_via r c n k.0 m w k.1 end)

  -- the input pin of a net in an upper row

  record End (q d : ℕ) : Type 0 where
    number : ℕ
    pin : ℕ
    at : At (tags p l) number (InPin (suc q) d pin)

  wire_end : (q d r c : ℕ) → IsWire (sheet p l) r c → Into (suc r) ((sheet p l).to r c) ≡ Into (suc q) d → End q d
  wire_end q d r c w e =
      let k = (has_cells p l is laws).wire_ends r c w in
      let row : suc r ≡ suc q = cc in
      let column : (sheet p l).to r c ≡ d = cc in
      record {
        number = k.1.0;
        pin = k.0;
        at = subst (λ (x : ℕ). At (tags p l) k.1.0 (InPin x d k.0)) row
            (subst (λ (x : ℕ). At (tags p l) k.1.0 (InPin (suc r) x k.0)) column k.1.1);
      }

  -- the end as that of the wire
  own_end : (q d r c n m : ℕ) → Into (suc r) ((sheet p l).to r c) ≡ Into (suc q) d
      → At (tags p l) m (InPin (suc q) d n) → At (tags p l) m (InPin (suc r) ((sheet p l).to r c) n)
  own_end q d r c n m e at =
      let row : suc q ≡ suc r = cc in
      let column : d ≡ (sheet p l).to r c = cc in
      subst (λ (x : ℕ). At (tags p l) m (InPin x ((sheet p l).to r c) n)) row
      (subst (λ (x : ℕ). At (tags p l) m (InPin (suc q) x n)) column at)

  wired_or : {A : Type 0} (r c : ℕ) (net : Net) → output_net (sheet p l) r c ≡ net
      → (IsWire (sheet p l) r c → Into (suc r) ((sheet p l).to r c) ≡ net → A) → (From r c ≡ net → A) → A
  wired_or {A} r c net e yes_so no_so = go ((sheet p l).wired r c) refl e
    where
      go : (b : Bool) → (sheet p l).wired r c ≡ b → (if b then Into (suc r) ((sheet p l).to r c) else From r c) ≡ net
          → A
      go true w e = yes_so (wires_all p l is laws r c w) e
      go false w e = no_so e

  find_end : (q d i : ℕ) (t : Tag) → At (tags p l) i t → net_of (sheet p l) t ≡ Into (suc q) d → End q d
  find_end q d i (InPin r c n) at e = let row : r ≡ suc q = cc in
      let column : c ≡ d = cc in
      record {
        number = i;
        pin = n;
        at = subst (λ (x : ℕ). At (tags p l) i (InPin x d n)) row
            (subst (λ (x : ℕ). At (tags p l) i (InPin r x n)) column at);
      }
  find_end q d i (OutPin r c o) at e = wired_or r c (Into (suc q) d) e (λ w f. wire_end q d r c w f) (λ f. absurd cc)
  find_end q d i (Rise r c) at e = wire_end q d r c (whole.fits i (Rise r c) at) e
  find_end q d i (Fall r c) at e = wire_end q d r c (whole.fits i (Fall r c) at) e
  find_end q d i (Across r c) at e = wire_end q d r c (whole.fits i (Across r c) at) e
  find_end q d i (FromVia r c) at e = wire_end q d r c (whole.fits i (FromVia r c) at) e
  find_end q d i (ToVia r c) at e = wire_end q d r c (whole.fits i (ToVia r c) at) e
  find_end q d i t at e = absurd cc

  reach : (q d n i m : ℕ) (t : Tag) → At (tags p l) i t → net_of (sheet p l) t ≡ Into (suc q) d
      → At (tags p l) m (InPin (suc q) d n) → Joined all i m
  reach q d n i m (InPin r c o) at e end = let row : r ≡ suc q = cc in
      let column : c ≡ d = cc in
      subst (Joined all i) (one_pin p l is laws Inputs i m r c o (suc q) d n at end row column)
      (Joined-self all i)
  reach q d n i m (OutPin r c o) at e end =
      wired_or r c (Into (suc q) d) e
      (λ w f. pins_joined (sheet p l) (tags p l) whole r c o n i m w at (own_end q d r c n m f end)) (λ f. absurd cc)
  reach q d n i m (Rise r c) at e end = from_rise r c n i m (whole.fits i (Rise r c) at) at (own_end q d r c n m e end)
  reach q d n i m (Fall r c) at e end = from_fall r c n i m (whole.fits i (Fall r c) at) at (own_end q d r c n m e end)
  reach q d n i m (Across r c) at e end = from_across r c n i m (whole.fits i (Across r c) at) at
      (own_end q d r c n m e end)
  reach q d n i m (FromVia r c) at e end = from_via r c n i m (whole.fits i (FromVia r c) at) at
      (own_end q d r c n m e end)
  reach q d n i m (ToVia r c) at e end = from_end r c n i m (whole.fits i (ToVia r c) at) at (own_end q d r c n m e end)
  reach q d n i m t at e end = absurd cc

  -- nets of one pin

  low_pin : (c i j n : ℕ) (u : Tag) → At (tags p l) i (InPin 0 c n) → At (tags p l) j u
      → net_of (sheet p l) u ≡ Into 0 c → i ≡ j
  low_pin c i j n (InPin r d o) at au e = let row : 0 ≡ r = cc in
      let column : c ≡ d = cc in one_pin p l is laws Inputs i j 0 c n r d o at au row column
  low_pin c i j n (OutPin r d o) at au e = wired_or r d (Into 0 c) e (λ w f. absurd cc) (λ f. absurd cc)
  low_pin c i j n u at au e = absurd cc

  out_pin : (r c i j o : ℕ) (u : Tag) → At (tags p l) i (OutPin r c o) → At (tags p l) j u
      → net_of (sheet p l) u ≡ From r c → i ≡ j
  out_pin r c i j o (OutPin q d n) at au e = wired_or q d (From r c) e (λ w f. absurd cc) (λ f. let row : r ≡ q = cc in
      let column : c ≡ d = cc in one_pin p l is laws Outputs i j r c o q d n at au row column)
  out_pin r c i j o u at au e = absurd cc

  same_joined : (i j : ℕ) → i ≡ j → Joined all i j
  same_joined i j e = subst (Joined all i) e (Joined-self all i)

  joins : (i j : ℕ) (t u : Tag) → At (tags p l) i t → At (tags p l) j u → (net : Net) → net_of (sheet p l) t ≡ net
      → net_of (sheet p l) u ≡ net → (net ≡ NoNet → ⊥) → Joined all i j
  joins i j t u at au NoNet e f some = absurd (some refl)
  joins i j t u at au (Into (suc q) d) e f some = let k = find_end q d i t at e in
      Joined-trans all i k.number j (reach q d k.pin i k.number t at e k.at)
      (Joined-back all j k.number (reach q d k.pin j k.number u au f k.at))
  joins i j (InPin r c n) u at au (Into zero d) e f some =
      same_joined i j
      (low_pin d i j n u (let row : r ≡ 0 = cc in
      let column : c ≡ d = cc in
      subst (λ (x : ℕ). At (tags p l) i (InPin x d n)) row
      (subst (λ (x : ℕ). At (tags p l) i (InPin r x n)) column at)) au f)
  joins i j (OutPin r c o) u at au (Into zero d) e f some =
      wired_or r c (Into 0 d) e (λ w g. absurd cc) (λ g. absurd cc)
  joins i j (OutPin q d o) u at au (From r c) e f some =
      wired_or q d (From r c) e (λ w g. absurd cc) (λ g. same_joined i j (out_pin q d i j o u at au (f ∙ sym g)))
  joins i j t u at au (Into zero d) e f some = absurd cc
  joins i j t u at au (From r c) e f some = absurd cc

  net_told : (i j : ℕ) (t u : Tag) → At (tags p l) i t → At (tags p l) j u → Joined all i j
      → net_of (sheet p l) t ≡ net_of (sheet p l) u
  net_told i j t u at au h = joined_net (sheet p l) (tags p l) whole i j t u at au h

  pub wire_law : WireLaw p l
  wire_law =
      let same = flat_is_tags p l laws in
      record {
        one_net = λ i j t u at au h. net_told i j t u at au (subst (λ (ss : List Shape). Joined ss i j) same h);
        joined = λ i j t u at au some e. subst (λ (ss : List Shape). Joined ss i j) (sym same)
            (joins i j t u at au (net_of (sheet p l) u) e refl (λ f. some (e ∙ f)));
        lone_input =
            λ c n i j u at au h. low_pin c i j n u at au
            (sym (net_told i j (InPin 0 c n) u at au (subst (λ (ss : List Shape). Joined ss i j) same h)));
        lone_output = λ r c o i j u at free au h. out_pin r c i j o u at au
            (sym (net_told i j (OutPin r c o) u at au (subst (λ (ss : List Shape). Joined ss i j) same h))
            ∙ ap (λ (b : Bool). if b then Into (suc r) ((sheet p l).to r c) else From r c) free);
      }
