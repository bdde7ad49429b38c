-- The walk that lists the wires of a design by its links: what it lists from its frames on, step by step.
use Rattle.std.proofs.Common.{◌≡◌, ℕ, zero, suc, ◌+◌, ◌*◌, ◌<◌, ◌≤◌, List, [], ◌∷◌, ◌++◌, map, length, reverse, Option}
use Rattle.std.proofs.Common.{Some, None, Bor, true, refl, sym, ap, ◌∙◌, subst, arith, append_assoc, append-nil}
use Rattle.std.proofs.Common.{flat_map, sum_by}
use Rattle.std.specs.Prelude.{slice_index_or}
use Rattle.std.specs.List.{AllByRecursion}
use Rattle.std.proofs.lemmas.List.Sums.{sum_by-cons}
use Rattle.blif_read.specs.Walk.{on}
use Rattle.blif_read.specs.Walked.{Settled}
use Rattle.blif_read.proofs.Turns.{reverse_push}
use Rattle.blif_read.specs.declared.models.Call.{Call}
use Rattle.blif_read.specs.declared.models.BlifModel.{BlifModel}
use Rattle.blif_flat.specs.Designs.{model_number, model_at, called, actual_of, joined_outputs, first_model}
use Rattle.blif_flat.specs.DesignFaults.{number_in as listed, callees}
use Rattle.blif_flat.specs.DesignSize.{call_size, model_size, design_size, size_limit}
use Rattle.blif_flat.specs.Expansion.{Wire, wire, calls_within, wires}
use Rattle.blif_flat.specs.declared.models.links.Link.{Link}
use Rattle.blif_flat.specs.declared.expansion.wires.Frame.{Frame}
use Rattle.blif_flat.specs.Code.Linked.{IsLink, HasLinks, calls_in}
use Rattle.blif_flat.specs.Code.Wired.{begun, ended, put_in, links_at, called_wires, call_count, listed_from}
use Rattle.blif_flat.specs.Code.Wired.{turns_from}
use Rattle.blif_flat.proofs.Members.{all_front, all_back, map_map}
use Rattle.blif_flat.proofs.Settling.{reads_done}
use Rattle.blif_flat.proofs.Sizing.{at, callees_at}
use Rattle.blif_flat.proofs.SoundModels.{IsSound}
use Rattle.blif_flat.proofs.Listing.{Sounds, calls_sound, within_counts, block_begins, first_call}

module _ (models : List BlifModel) where
  -- what a link's actuals are the wires of
  put_is : (k : ℕ) (link : Bor Link) → IsLink models link.now → put_in k (Some link) ≡ ended models k link.now.call.now
  put_is k link is = ap (map (wire k)) is.actuals
      ∙ map_map (wire k) (actual_of link.now.call.now) (joined_outputs models link.now.call.now)

  listed_first : (k n : ℕ) (left : Option (Bor Link)) (link : Bor Link) (rest : List Link) (fs : List Frame)
      (inner outer : Frame) → IsLink models link.now → IsSound (length models) models (called models link.now.call.now)
      → inner.call ≡ n → inner.left ≡ None → calls_in inner.rest.now ≡ (called models link.now.call.now).calls
      → outer.call ≡ k → outer.left ≡ Some link → outer.rest.now ≡ rest
      → put_in k left ++ called_wires models k n (calls_in (link.now ∷ rest))
      ++ listed_from models (n + call_count models (calls_in (link.now ∷ rest))) fs
      ≡ put_in k left ++ begun n (called models link.now.call.now) ++ listed_from models (n + 1) (inner ∷ outer ∷ fs)
  listed_first k n left link rest fs inner outer is ok a b c d e f =
      let call = link.now.call.now in
      let model = called models call in
      let over = put_in k left in
      let start = begun n model in
      let below = called_wires models n (n + 1) model.calls in
      let out = put_in k (Some link) in
      let count = call_count models model.calls in
      let more = called_wires models k (n + 1 + count) (calls_in rest) in
      let last = n + 1 + count + call_count models (calls_in rest) in
      let counted : n + call_count models (call ∷ calls_in rest) ≡ last =
      (let w = within_counts models (length models) model ok in
      let s = sum_by-cons (λ c. 1 + calls_within (length models) models (called models c)) call (calls_in rest) in
      omega (arith, w, s)) in
      let tail : List Wire = listed_from models last fs in
      let parts : called_wires models k n (call ∷ calls_in rest) ≡ start ++ below ++ (out ++ more) =
      first_call models k n call (calls_in rest) ok
      ∙ ap (λ o. start ++ below ++ (o ++ more)) (sym (put_is k link is)) in
      let split : over ++ (start ++ below ++ (out ++ more)) ++ tail ≡ over ++ start
      ++ (below ++ (out ++ more ++ tail)) =
      append_assoc over (start ++ below ++ (out ++ more)) tail
      ∙ ap (λ xs. over ++ xs) (append_assoc (start ++ below) (out ++ more) tail
      ∙ append_assoc start below (out ++ more ++ tail))
      ∙ sym (append_assoc over start (below ++ (out ++ more ++ tail))) in
      (λ i. over ++ parts i ++ listed_from models (counted i) fs)
      ∙ split
      ∙ sym (λ i. over ++ start ++ (put_in (a i) (b i) ++ called_wires models (a i) (n + 1) (c i)
      ++ (put_in (d i) (e i) ++ called_wires models (d i) (n + 1 + call_count models (c i)) (calls_in (f i))
      ++ listed_from models (n + 1 + call_count models (c i) + call_count models (calls_in (f i))) fs)))

  -- fewer turns are left
  turns_first : (link : Bor Link) (rest : List Link) (f inner outer : Frame) (fs : List Frame)
      → IsSound (length models) models (called models link.now.call.now) → f.rest.now ≡ link.now ∷ rest
      → calls_in inner.rest.now ≡ (called models link.now.call.now).calls → outer.rest.now ≡ rest
      → turns_from models (inner ∷ outer ∷ fs) < turns_from models (f ∷ fs)
  turns_first link rest f inner outer fs ok whole c r =
      let turn = λ (g : Frame). 1 + 2 * call_count models (calls_in g.rest.now) in
      let w = within_counts models (length models) (called models link.now.call.now) ok in
      let s = sum_by-cons (λ c. 1 + calls_within (length models) models (called models c))
      link.now.call.now (calls_in rest) in
      let a = ap (λ ls. call_count models (calls_in ls)) whole in
      let b = ap (call_count models) c in
      let d = ap (λ ls. call_count models (calls_in ls)) r in
      omega (
        arith,
        w,
        s,
        a,
        b,
        d,
        sum_by-cons turn inner
            (outer ∷ fs),
        sum_by-cons turn outer fs,
        sum_by-cons turn f fs,
      )

  -- a model has no more calls than its size

  fewer : (steps : ℕ) → ((m : BlifModel) → calls_within steps models m ≤ model_size steps models m)
      → (calls : List Call)
      → sum_by (λ c. 1 + calls_within steps models (called models c)) calls ≤ sum_by
      (call_size (model_size steps models) models) calls
  fewer steps inner [] = omega arith
  fewer steps inner (call ∷ calls) =
      let one = inner (called models call) in
      let more = fewer steps inner calls in
      omega (
        arith,
        one,
        more,
        sum_by-cons (λ c. 1 + calls_within steps models (called models c)) call calls,
        sum_by-cons (call_size (model_size steps models) models) call calls,
      )

  few_calls : (steps : ℕ) (m : BlifModel) → calls_within steps models m ≤ model_size steps models m
  few_calls zero m = omega arith
  few_calls (suc steps) m = let calls = fewer steps (few_calls steps) m.calls in omega (arith, calls)

  few_in_all : design_size models ≤ size_limit → calls_within (length models) models (first_model models) ≤ size_limit
  unfolding design_size
  few_in_all small = let few = few_calls (length models) (first_model models) in omega (arith, few, small)

  pub walk_shorter : (frames rest : List Frame) (f : Frame) → frames ≡ rest ++ f ∷ []
      → turns_from models (reverse rest) ≤ turns_from models (reverse frames)
  walk_shorter frames rest f e =
      let turns = ap (turns_from models) (ap reverse e ∙ reverse_push rest f) in
      let one = sum_by-cons (λ (g : Frame). 1 + 2 * call_count models (calls_in g.rest.now)) f (reverse rest) in
      omega (arith, turns, one)

  -- ---- links of models that stand in an order

  module _ (done : List ℕ) where
    -- a link whose model is sound, and stands in the order
    abbrev pub IsReached : Link → Type 0
    IsReached link = IsLink models link × IsSound (length models) models (called models link.call.now)
        × AllByRecursion (λ q. on done q ≡ true) (listed (model_number models link.call.now.model))

    all_reached : (links : List Link) → AllByRecursion (IsLink models) links
        → Sounds models (length models) (calls_in links)
        → AllByRecursion (λ q. on done q ≡ true) (flat_map (λ c. listed (model_number models c.model)) (calls_in links))
        → AllByRecursion IsReached links
    all_reached [] is sound there = tt
    all_reached (link ∷ links) is sound there =
        let here = listed (model_number models link.call.now.model) in
        let others = flat_map (λ c. listed (model_number models c.model)) (calls_in links) in (
          (is.0, sound.0, all_front (λ q. on done q ≡ true) here others there),
          all_reached links is.1 sound.1 (all_back (λ q. on done q ≡ true) here others there),
        )

    abbrev pub HasReachedCalls : Frame → Type 0
    HasReachedCalls f = AllByRecursion IsReached f.rest.now

    module _ (table : List (List Link)) (settled : Settled 0 (callees models) done)
        (has : HasLinks models done table) where
      -- the links of a model that stands in the order
      pub found_links : (o : Option ℕ) → AllByRecursion (λ q. on done q ≡ true) (listed o)
          → IsSound (length models) models (model_at models o)
          → (calls_in (links_at table o) ≡ (model_at models o).calls) × AllByRecursion IsReached (links_at table o)
      found_links None there ok = (refl, tt)
      found_links (Some n) there ok =
          let are = has.held n there.0 in
          let reads = subst (AllByRecursion (λ q. on done q ≡ true)) (callees_at models n)
          (reads_done (callees models) done n settled there.0) in (
            are.whole,
            all_reached (slice_index_or table n []) are.each
                (subst (Sounds models (length models)) (sym are.whole)
                (calls_sound models (length models) (at models n) ok))
                (subst (λ cs. AllByRecursion (λ q. on done q ≡ true)
                (flat_map (λ c. listed (model_number models c.model)) cs))
                (sym are.whole) reads),
          )

      -- ---- the loop of the walk

      pub walk_starts : (none frames : List Frame) (f : Frame) (places start : List Wire)
          → IsSound (length models) models (first_model models) → on done 0 ≡ true → none ≡ [] → frames ≡ none ++ f ∷ []
          → f.call ≡ 0 → f.left ≡ None → f.rest.now ≡ links_at table (Some 0) → start ≡ []
          → places ≡ start ++ begun 0 (first_model models)
          → (places ++ listed_from models 1 (reverse frames) ≡ wires models)
          × AllByRecursion HasReachedCalls (reverse frames)
      walk_starts none frames f places start ok rooted n e a b c s p =
          let first = first_model models in
          let back : reverse frames ≡ f ∷ [] = ap reverse e ∙ reverse_push none f ∙ ap (λ fs. f ∷ reverse fs) n in
          let begins : places ≡ begun 0 first = p ∙ ap (λ ws. ws ++ begun 0 first) s in
          let links = found_links (Some 0) (rooted, tt) ok in
          let calls : calls_in f.rest.now ≡ first.calls = ap calls_in c ∙ links.0 in (
            (λ i. begins i ++ listed_from models 1 (back i))
                ∙ (λ i. begun 0 first ++ (put_in (a i) (b i) ++ called_wires models (a i) 1 (calls i) ++ []))
                ∙ ap (λ xs. begun 0 first ++ xs) (append-nil (called_wires models 0 1 first.calls))
                ∙ sym (block_begins models (length models) 0 first ok),
            subst (AllByRecursion HasReachedCalls) (sym back) (subst (AllByRecursion IsReached) (sym c) links.1, tt),
          )

      pub walk_counted : (none frames : List Frame) (f : Frame) → IsSound (length models) models (first_model models)
          → on done 0 ≡ true → none ≡ [] → frames ≡ none ++ f ∷ [] → f.rest.now ≡ links_at table (Some 0)
          → design_size models ≤ size_limit → turns_from models (reverse frames) + 0 ≤ 1 + 2 * size_limit
      walk_counted none frames f ok rooted n e c small =
          let first = first_model models in
          let turn = λ (g : Frame). 1 + 2 * call_count models (calls_in g.rest.now) in
          let back : reverse frames ≡ f ∷ [] = ap reverse e ∙ reverse_push none f ∙ ap (λ fs. f ∷ reverse fs) n in
          let links = found_links (Some 0) (rooted, tt) ok in
          let calls : calls_in f.rest.now ≡ first.calls = ap calls_in c ∙ links.0 in
          let turns = ap (turns_from models) back in
          let none_left : sum_by turn [] ≡ 0 = refl in
          let one = sum_by-cons turn f [] in
          let count = ap (call_count models) calls in
          let within = within_counts models (length models) first ok in
          let few = few_in_all small in
          omega (arith, turns, none_left, one, count, within, few)

      module _ (frames rest middle after : List Frame) (f outer inner : Frame) (link : Bor Link) (more : List Link)
          (popped : frames ≡ rest ++ f ∷ []) (left : middle ≡ rest ++ outer ∷ [])
          (begins : after ≡ middle ++ inner ∷ [])
          (split : f.rest.now ≡ link.now ∷ more) (outer_rest : outer.rest.now ≡ more)
          (inner_rest : inner.rest.now ≡ links_at table link.now.model)
          (reached : AllByRecursion HasReachedCalls (reverse frames)) where
        before_is : reverse frames ≡ f ∷ reverse rest
        before_is = ap reverse popped ∙ reverse_push rest f

        after_is : reverse after ≡ inner ∷ outer ∷ reverse rest
        after_is = ap reverse begins ∙ reverse_push middle inner
            ∙ ap (λ fs. inner ∷ fs) (ap reverse left ∙ reverse_push rest outer)

        all_are : AllByRecursion HasReachedCalls (f ∷ reverse rest)
        all_are = subst (AllByRecursion HasReachedCalls) before_is reached

        here : AllByRecursion IsReached (link.now ∷ more)
        here = subst (AllByRecursion IsReached) split all_are.0

        inner_links : (calls_in inner.rest.now ≡ (called models link.now.call.now).calls)
            × AllByRecursion IsReached inner.rest.now
        inner_links =
            let found = found_links (model_number models link.now.call.now.model) here.0.2 here.0.1 in
            let same : inner.rest.now ≡ links_at table (model_number models link.now.call.now.model) =
            inner_rest ∙ ap (links_at table) here.0.0.model in
            (ap calls_in same ∙ found.0, subst (AllByRecursion IsReached) (sym same) found.1)

        after_reached : AllByRecursion HasReachedCalls (reverse after)
        after_reached = subst (AllByRecursion HasReachedCalls) (sym after_is)
            (inner_links.1, (subst (AllByRecursion IsReached) (sym outer_rest) here.1, all_are.1))

        pub walk_sooner : turns_from models (reverse after) < turns_from models (reverse frames)
        walk_sooner =
            let less = turns_first link more f inner outer (reverse rest) here.0.1 split inner_links.0 outer_rest in
            subst (λ fs. turns_from models fs < turns_from models (reverse frames)) (sym after_is)
            (subst (λ fs. turns_from models (inner ∷ outer ∷ reverse rest) < turns_from models fs) (sym before_is) less)

        pub walk_goes : (calls n : ℕ) (old left_behind new whole : List Wire) → n ≡ calls + 1 → outer.call ≡ f.call
            → outer.left ≡ Some link → inner.call ≡ n → inner.left ≡ None
            → left_behind ≡ old ++ put_in f.call f.left
            → new ≡ left_behind ++ begun n (model_at models link.now.model)
            → old ++ listed_from models (calls + 1) (reverse frames) ≡ whole
            → (new ++ listed_from models (n + 1) (reverse after) ≡ whole)
            × AllByRecursion HasReachedCalls (reverse after)
        walk_goes calls n old left_behind new whole number a b c d leaves starts so_far =
            let over = put_in f.call f.left in
            let start = begun n (called models link.now.call.now) in
            let fs = reverse rest in
            let tail = listed_from models (n + 1) (inner ∷ outer ∷ fs) in
            let all : new ≡ old ++ over ++ start =
            starts ∙ (λ i. left_behind ++ begun n (model_at models (here.0.0.model i)))
            ∙ ap (λ ws. ws ++ start) leaves in
            let first : listed_from models (calls + 1) (f ∷ fs) ≡ over ++ start ++ tail =
            (λ i. over ++ called_wires models f.call (sym number i) (calls_in (split i))
            ++ listed_from models (sym number i + call_count models (calls_in (split i))) fs)
            ∙ listed_first f.call n f.left link more fs inner outer here.0.0 here.0.1 c d
            inner_links.0 a b outer_rest in (
              (λ i. all i ++ listed_from models (n + 1) (after_is i))
                  ∙ ap (λ ws. ws ++ tail) (append_assoc old over start) ∙ append_assoc old (over ++ start) tail
                  ∙ sym (ap (λ ws. old ++ ws) (ap (listed_from models (calls + 1)) before_is ∙ first)) ∙ so_far,
              after_reached,
            )
