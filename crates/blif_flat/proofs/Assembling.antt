-- The pieces of a block, one by one.
use Rattle.std.proofs.Common.{◌≡◌, ℕ, zero, suc, ◌+◌, ◌<◌, ◌≤◌, ◌^◌, Bool, flat_map, subst, List, [], ◌∷◌}
use Rattle.std.proofs.Common.{◌++◌, map, length, take, drop, get_or, refl, sym, ap, ◌∙◌, arith, Option, Some, None}
use Rattle.std.proofs.Common.{append_assoc, length-append, filter, replicate, drop-cons, add-one}
use Rattle.std.specs.Prelude.{slice_index_or}
use Rattle.std.specs.List.{AllByRecursion}
use Rattle.std.proofs.lemmas.List.{map-append, take_more, append-nil, length-map, length-replicate, drop_all}
use Rattle.blif_read.specs.declared.netlist.Def.{Def}
use Rattle.blif_read.specs.declared.netlist.Cube.{Cube}
use Rattle.blif_read.specs.Parts.{is_defined}
use Rattle.blif_read.specs.declared.models.Call.{Call}
use Rattle.blif_read.specs.declared.models.Named.{Named}
use Rattle.blif_read.specs.declared.models.NamedDef.{NamedDef}
use Rattle.blif_read.specs.declared.models.BlifModel.{BlifModel}
use Rattle.blif_flat.specs.Designs.{names_in, model_number, model_at, no_model, distinct_outputs, formals, actual_of}
use Rattle.blif_flat.specs.DesignFaults.{number_in as listed}
use Rattle.blif_flat.specs.declared.models.outlines.Outline.{Outline}
use Rattle.blif_flat.specs.Code.Outlines.{IsOutline}
use Rattle.blif_flat.specs.declared.expansion.pieces.Piece.{Piece}
use Rattle.blif_flat.specs.declared.expansion.pieces.Piece.TheVariants.{Own, Inner}
use Rattle.blif_flat.specs.Code.Blocks.{buffer_of, placed, own_names, place, wide, is_that, block_names, call_pieces}
use Rattle.blif_flat.specs.Code.Blocks.{calls_pieces, pieces, call_names}
use Rattle.blif_flat.specs.Code.Joins.{ports_for, first_actual, exits_in}
use Rattle.blif_flat.proofs.Members.{map_map}
use Rattle.blif_flat.proofs.Joining.{exits_more, inputs_actuals, exits_joined, first_at_most}

-- one item more behind those that were there
pub pushed : {X Y : Type 0} (f : X → Y) (xs : List X) (i : ℕ) (d : X) (base before after : List Y) (y : Y)
    → i < length xs → before ≡ base ++ map f (take i xs) → after ≡ before ++ y ∷ [] → y ≡ f (get_or xs i d)
    → after ≡ base ++ map f (take (i + 1) xs)
pushed f xs i d base before after y lt b a e =
    a ∙ (λ j. b j ++ e j ∷ []) ∙ append_assoc base (map f (take i xs)) (f (get_or xs i d) ∷ [])
    ∙ ap (λ back. base ++ back) (sym (ap (map f) (take_more xs i d lt) ∙ map-append f (take i xs) (get_or xs i d ∷ [])))

pub pushed_first : {X Y : Type 0} (f : X → Y) (xs : List X) (i : ℕ) (d : X) (before after : List Y) (y : Y)
    → i < length xs → before ≡ map f (take i xs) → after ≡ before ++ y ∷ [] → y ≡ f (get_or xs i d)
    → after ≡ map f (take (i + 1) xs)
pushed_first f xs i d before after y lt b a e = pushed f xs i d [] before after y lt b a e

abbrev pub def_of : ℕ → List ℕ → Bool → List Cube → Def
def_of line inputs on cubes = record { line = line; inputs = inputs; on = on; cubes = cubes }

pub def_same : (line : ℕ) (ins ins2 : List ℕ) (on : Bool) (cubes cubes2 : List Cube) → ins ≡ ins2 → cubes ≡ cubes2
    → def_of line ins on cubes ≡ def_of line ins2 on cubes2
def_same line ins ins2 on cubes cubes2 i c = λ j. def_of line (i j) on (c j)

-- one output more
pub exit_count : (ports : List (Option ℕ)) (exits : List ℕ) (i count adds : ℕ) (d : Option ℕ) → i < length ports
    → count ≡ length (exits_in (take i ports) exits)
    → adds ≡ length (exits_in (get_or ports i d ∷ []) (get_or exits i 0 ∷ []))
    → count + adds ≡ length (exits_in (take (i + 1) ports) exits)
exit_count ports exits i count adds d lt c n =
    let more = ap length (exits_more ports exits i d lt)
    ∙ length-append (exits_in (take i ports) exits) (exits_in (get_or ports i d ∷ []) (get_or exits i 0 ∷ [])) in
    omega arith

pub exit_pieces : (f : ℕ → Piece) (ports : List (Option ℕ)) (exits : List ℕ) (i : ℕ) (d : Option ℕ)
    (base before after : List Piece) → i < length ports → before ≡ base ++ map f (exits_in (take i ports) exits)
    → after ≡ before ++ map f (exits_in (get_or ports i d ∷ []) (get_or exits i 0 ∷ []))
    → after ≡ base ++ map f (exits_in (take (i + 1) ports) exits)
exit_pieces f ports exits i d base before after lt b a =
    let one = exits_in (get_or ports i d ∷ []) (get_or exits i 0 ∷ []) in
    a ∙ ap (λ front. front ++ map f one) b ∙ append_assoc base (map f (exits_in (take i ports) exits)) (map f one)
    ∙ ap (λ back. base ++ back)
    (sym (ap (map f) (exits_more ports exits i d lt) ∙ map-append f (exits_in (take i ports) exits) one))

-- no more outputs are joined by some ports than by all
exits_grow : (ports : List (Option ℕ)) (exits : List ℕ) (i : ℕ)
    → length (exits_in (take i ports) exits) ≤ length (exits_in ports exits)
exits_grow [] exits zero = omega arith
exits_grow [] exits (suc i) = omega arith
exits_grow (p ∷ ports) exits zero = omega arith
exits_grow (None ∷ ports) [] (suc i) = exits_grow ports [] i
exits_grow (Some n ∷ ports) [] (suc i) = let more = exits_grow ports [] i in omega arith
exits_grow (None ∷ ports) (x ∷ exits) (suc i) = exits_grow ports exits i
exits_grow (Some n ∷ ports) (x ∷ exits) (suc i) = let more = exits_grow ports exits i in omega arith

pub exit_few : (ports : List (Option ℕ)) (exits : List ℕ) (i count : ℕ) (d : Option ℕ) → i < length ports
    → count ≡ length (exits_in (take i ports) exits) → length (exits_in ports exits) < 2 ^ 32
    → count + length (exits_in (get_or ports i d ∷ []) (get_or exits i 0 ∷ [])) < 2 ^ 32
exit_few ports exits i count d lt c few =
    let more = exit_count ports exits i count _ d lt c refl in
    let grow = exits_grow ports exits (i + 1) in
    omega arith

-- ---- calls

-- the pieces of a call's inputs
pub entries_are : (call : Call) (ins : List (List ℕ)) (ports : List (Option ℕ)) (f : List ℕ → Piece)
    → ports ≡ ports_for ins (formals call)
    → map (λ p. f (first_actual call p)) ports ≡ map (λ i. f (actual_of call i)) ins
entries_are call ins ports f p = ap (map (λ p. f (first_actual call p))) p
    ∙ sym (map_map f (first_actual call) (ports_for ins (formals call))) ∙ ap (map f) (inputs_actuals call ins)
    ∙ map_map f (actual_of call) ins

-- the pieces of a call's outputs
pub exits_are : (call : Call) (outs : List (List ℕ)) (ports : List (Option ℕ)) (exits : List ℕ) (at : List ℕ → ℕ)
    (f : ℕ → Piece) → ports ≡ ports_for outs (formals call) → exits ≡ map at outs
    → map f (exits_in ports exits) ≡ map (λ o. f (at o)) (filter (is_defined (formals call)) outs)
exits_are call outs ports exits at f p e = ap (map f) ((λ i. exits_in (p i) (e i))
    ∙ exits_joined at (formals call) outs) ∙ map_map f at (filter (is_defined (formals call)) outs)

pub exits_count : (call : Call) (outs : List (List ℕ)) (ports : List (Option ℕ)) (exits : List ℕ) (at : List ℕ → ℕ)
    → ports ≡ ports_for outs (formals call) → exits ≡ map at outs
    → length (exits_in ports exits) ≡ length (filter (is_defined (formals call)) outs)
exits_count call outs ports exits at p e = ap length ((λ i. exits_in (p i) (e i)) ∙ exits_joined at (formals call) outs)
    ∙ length-map (filter (is_defined (formals call)) outs) at

-- the pieces of a call whose model has a number
pieces_at : List BlifModel → BlifModel → ℕ → Call → Option ℕ → List Piece
pieces_at models model start call o =
    map (λ i. Own (buffer_of call.line (place (wide models) models model (actual_of call i))))
    (names_in (model_at models o).inputs)
    ++ map (λ n. Inner n start) (listed o)
    ++ map (λ o2. Own (buffer_of call.line (start + place (wide models) models (model_at models o) o2)))
    (filter (is_defined (formals call)) (distinct_outputs (model_at models o)))

pieces_are : (models : List BlifModel) (model : BlifModel) (start : ℕ) (call : Call)
    → pieces_at models model start call (model_number models call.model) ≡ call_pieces
    (wide models) models model start call
unfolding pieces_at
pieces_are models model start call = refl

-- what is found of a call whose model has a number and an outline: the ports of its inputs and outputs, and the places
-- of its outputs
pub record IsCalled (models : List BlifModel) (n : ℕ) (call : Call) (outline : Outline) (ins outs : List (Option ℕ))
    (places : List ℕ) : Type 0 where
  pub at : model_number models call.model ≡ Some n
  pub is : IsOutline models (slice_index_or models n no_model) outline
  pub entries : ins ≡ ports_for (names_in (slice_index_or models n no_model).inputs) (formals call)
  pub joined : outs ≡ ports_for (distinct_outputs (slice_index_or models n no_model)) (formals call)
  pub exits : places ≡ outline.exits.items

pub call_made : {models : List BlifModel} {n : ℕ} {call : Call} {outline : Outline} {entries joined : List (Option ℕ)}
    {exits : List ℕ} (model : BlifModel) (start : ℕ) (p0 p1 p2 p3 : List Piece)
    → IsCalled models n call outline entries joined exits
    → p1 ≡ p0 ++ map (λ p. Own (buffer_of call.line (place (wide models) models model (first_actual call p)))) entries
    → p2 ≡ p1 ++ Inner n start ∷ []
    → p3 ≡ p2 ++ map (λ e. Own (buffer_of call.line (start + e))) (exits_in joined exits)
    → p3 ≡ p0 ++ call_pieces (wide models) models model start call
unfolding pieces_at
call_made {models} {n} {call} {outline} {entries} {joined} {exits} model start p0 p1 p2 p3 so one two three =
    let called_is = slice_index_or models n no_model in
    let ins = map (λ i. Own (buffer_of call.line (place (wide models) models model (actual_of call i))))
    (names_in called_is.inputs) in
    let outs = map (λ o2. Own (buffer_of call.line (start + place (wide models) models called_is o2)))
    (filter (is_defined (formals call)) (distinct_outputs called_is)) in
    let first = entries_are call (names_in called_is.inputs) entries
    (λ s. Own (buffer_of call.line (place (wide models) models model s))) so.entries in
    let last = exits_are call (distinct_outputs called_is) joined exits (place (wide models) models called_is)
    (λ x. Own (buffer_of call.line (start + x))) so.joined (so.exits ∙ so.is.exits) in
    three ∙ ap (λ front. front ++ map (λ e. Own (buffer_of call.line (start + e))) (exits_in joined exits))
    (two ∙ ap (λ front. front ++ Inner n start ∷ []) one)
    ∙ (λ i. ((p0 ++ first i) ++ Inner n start ∷ []) ++ last i)
    ∙ ap (λ front. front ++ outs) (append_assoc p0 ins (Inner n start ∷ []))
    ∙ append_assoc p0 (ins ++ Inner n start ∷ []) outs
    ∙ ap (λ back. p0 ++ back) (ap (pieces_at models model start call) (sym so.at) ∙ pieces_are models model start call)

-- how much a call adds
call_size : (models : List BlifModel) (n : ℕ) (call : Call) → model_number models call.model ≡ Some n
    → length (call_names (wide models) models call) ≡ wide models (slice_index_or models n no_model) + length
    (filter (is_defined (formals call)) (distinct_outputs (slice_index_or models n no_model)))
call_size models n call at =
    let called_is = slice_index_or models n no_model in
    let outs = filter (is_defined (formals call)) (distinct_outputs called_is) in
    ap (λ (x : Option ℕ). length (replicate (wide models (model_at models x)) None ++ map (λ o. Some (actual_of call o))
    (filter (is_defined (formals call)) (distinct_outputs (model_at models x))))) at
    ∙ length-append (replicate (wide models called_is) None) (map (λ o. Some (actual_of call o)) outs)
    ∙ (λ i. length-replicate {A = Option (List ℕ)} (wide models called_is) None i + length-map outs
    (λ o. Some (actual_of call o)) i)

pub called_adds : {models : List BlifModel} {n : ℕ} {call : Call} {outline : Outline}
    {entries joined : List (Option ℕ)} {exits : List ℕ} → IsCalled models n call outline entries joined exits
    → outline.width + length (exits_in joined exits) ≡ length (call_names (wide models) models call)
called_adds {models} {n} {call} {outline} {entries} {joined} {exits} so =
    let called_is = slice_index_or models n no_model in
    let many = exits_count call (distinct_outputs called_is) joined exits (place (wide models) models called_is)
    so.joined (so.exits ∙ so.is.exits) in
    let size = call_size models n call so.at in
    let w = so.is.width in
    omega arith

-- ---- 32 bits hold the places of a call

-- a name's place is within the block
pub place_within : (models : List BlifModel) (model : BlifModel) (t : List ℕ)
    → place (wide models) models model t ≤ length (block_names (wide models) models model)
place_within models model t = first_at_most (is_that t) (block_names (wide models) models model)

reaches : (start total : ℕ) (at : List ℕ → ℕ) (names : List (List ℕ)) → ((t : List ℕ) → at t ≤ total)
    → start + total < 2 ^ 32 → AllByRecursion (λ e. start + e < 2 ^ 32) (map at names)
reaches start total at [] low few = tt
reaches start total at (t ∷ ts) low few = (let le = low t in omega arith, reaches start total at ts low few)

pub called_reach : {models : List BlifModel} {n : ℕ} {call : Call} {outline : Outline}
    {entries joined : List (Option ℕ)} {exits : List ℕ} (start : ℕ)
    → IsCalled models n call outline entries joined exits
    → start + length (call_names (wide models) models call) < 2 ^ 32 → AllByRecursion (λ e. start + e < 2 ^ 32) exits
called_reach {models} {n} {call} {outline} {entries} {joined} {exits} start so few =
    let called_is = slice_index_or models n no_model in
    let adds = called_adds so in
    let w = so.is.width in
    let full = so.is.full in
    subst (AllByRecursion (λ e. start + e < 2 ^ 32)) (sym (so.exits ∙ so.is.exits))
    (reaches start (wide models called_is) (place (wide models) models called_is) (distinct_outputs called_is)
    (λ t. let le = place_within models called_is t in omega arith) (omega arith))

-- ---- the pieces of a model

own_count : (model : BlifModel) → length (own_names model) ≡ length model.inputs + length model.defs
own_count model =
    let a = length-append (names_in model.inputs) (map (λ (d : NamedDef). d.output) model.defs) in
    let c : length (names_in model.inputs) ≡ length model.inputs = length-map model.inputs (λ (n : Named). n.name) in
    let e : length (map (λ (d : NamedDef). d.output) model.defs) ≡ length model.defs = length-map model.defs
    (λ (d : NamedDef). d.output) in
    omega arith

-- a block has its model's own wires, and those that its calls add
pub block_size : (models : List BlifModel) (model : BlifModel)
    → length (block_names (wide models) models model) ≡ length model.inputs + length model.defs + length
    (flat_map (call_names (wide models) models) model.calls)
block_size models model =
    let own = own_count model in
    let mine = length-map (own_names model) (λ n. Some n) in
    let whole = length-append (map (λ n. Some n) (own_names model))
    (flat_map (call_names (wide models) models) model.calls) in
    omega arith

pub block_begun : (models : List BlifModel) (model : BlifModel) (block : List Piece) (defs : List NamedDef)
    (none : List Piece) (ins outs start : ℕ) → none ≡ [] → defs ≡ model.defs
    → block ≡ none ++ map (λ d. Own (placed (place (wide models) models model) d)) defs → ins ≡ length model.inputs
    → outs ≡ length model.defs → start ≡ ins + outs
    → block ++ calls_pieces (wide models) models model start model.calls ≡ pieces (wide models) models model
block_begun models model block defs none ins outs start n d b i o s =
    let first : block ≡ map (λ d. Own (placed (place (wide models) models model) d)) model.defs = b
    ∙ (λ j. n j ++ map (λ d. Own (placed (place (wide models) models model) d)) (d j)) in
    let size : start ≡ length (own_names model) = (let own = own_count model in omega arith) in
    (λ j. first j ++ calls_pieces (wide models) models model (size j) model.calls)

pub call_taken : (models : List BlifModel) (model : BlifModel) (calls : List Call) (i : ℕ) (call : Call)
    (start next : ℕ) (block after whole : List Piece) → i < length calls → call ≡ get_or calls i call
    → after ≡ block ++ call_pieces (wide models) models model start call
    → next ≡ start + length (call_names (wide models) models call)
    → block ++ calls_pieces (wide models) models model start (drop i calls) ≡ whole
    → after ++ calls_pieces (wide models) models model next (drop (i + 1) calls) ≡ whole
call_taken models model calls i call start next block after whole lt is a n w =
    let rest : drop i calls ≡ call ∷ drop (i + 1) calls = drop-cons calls i call lt
    ∙ ap (λ c. c ∷ drop (suc i) calls) (sym is) ∙ ap (λ k. call ∷ drop k calls) (sym (add-one i)) in
    (λ j. a j ++ calls_pieces (wide models) models model (n j) (drop (i + 1) calls))
    ∙ append_assoc block (call_pieces (wide models) models model start call)
    (calls_pieces (wide models) models model
    (start + length (call_names (wide models) models call)) (drop (i + 1) calls))
    ∙ ap (λ cs. block ++ calls_pieces (wide models) models model start cs) (sym rest) ∙ w

pub calls_done : (models : List BlifModel) (model : BlifModel) (calls : List Call) (i start : ℕ)
    (block whole : List Piece) → length calls ≤ i
    → block ++ calls_pieces (wide models) models model start (drop i calls) ≡ whole → block ≡ whole
calls_done models model calls i start block whole le w =
    sym (append-nil block) ∙ sym
    (ap (λ cs. block ++ calls_pieces (wide models) models model start cs) (drop_all i calls le)) ∙ w
