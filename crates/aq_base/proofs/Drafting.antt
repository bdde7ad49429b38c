-- Calls that find a place for a draft, and those that close a file.
use Rattle.std.proofs.Common.{ℕ, ◌≡◌, List, [], ◌∷◌, ◌++◌, append_assoc, refl, ap, sym, subst, ◌∙◌, inl, inr}
use Rattle.std.proofs.Common.{Bool, true, false, ◌&&◌}
use Rattle.std.specs.Prelude.{MatchBool, ◌⊎◌, Result, Ok, Err, OnOk, OnErr}
use Rattle.std.specs.List.{list_all}
use Rattle.std.proofs.lemmas.Bool.{and_parts, true≢false}
use Rattle.std.proofs.lemmas.List.Folds.{list_all-append}
use Rattle.aq_base.specs.declared.draft.Place.{Place}
use Rattle.aq_base.specs.declared.draft.Place.TheVariants as place
use Rattle.aq_base.specs.declared.acts.Act.{Act}
use Rattle.aq_base.specs.declared.acts.Act.TheVariants as act
use Rattle.aq_base.specs.declared.store.StoreRefusal.{StoreRefusal}
use Rattle.aq_base.specs.Disks.{make_did, draft_did}
use Rattle.aq_base.specs.Acts.{Did, Linked, Drafted, Made, Done, Refused}
use Rattle.aq_base.specs.Acts.{Adds, drafting, call_did}
use Rattle.aq_base.specs.Honest.{is_idle, followed, Leads, Led, Creates, LeavesNone, IsKept}
use Rattle.aq_base.specs.Honest.{IsReady, IsPlaced, Closes, closes, is_closing, FailsToClose}
use Rattle.aq_base.specs.Code.Drafts.{is_aside, Follows, IsAt, Finds, Drafts, IsNamed, Tries}

both_true : (a b : Bool) → a ≡ true → b ≡ true → a && b ≡ true
both_true true b e f = f
both_true false b e f = e

-- ---- some calls more

pub adds-none : (test : Did → Bool) (d : List Did) → Adds test d d
adds-none test d = record { calls = []; meet = refl; added = refl }

pub adds-call : (test : Did → Bool) (a b c : List Did) (call : Did) → Adds test a b → c ≡ call ∷ b → test call ≡ true
    → Adds test a c
adds-call test a b c call s is e = record {
  calls = call ∷ s.calls;
  meet = both_true (test call) (list_all test s.calls) e s.meet;
  added = is ∙ ap (λ d. call ∷ d) s.added;
}

pub adds-join : (test : Did → Bool) (a b c : List Did) → Adds test a b → Adds test b c → Adds test a c
adds-join test a b c s t = record {
  calls = t.calls ++ s.calls;
  meet = list_all-append test t.calls s.calls ∙ both_true (list_all test t.calls) (list_all test s.calls) t.meet s.meet;
  added = t.added ∙ ap (λ d. t.calls ++ d) s.added ∙ sym (append_assoc t.calls s.calls a);
}

-- ---- the place of a draft

-- one call that changed no file
pub idle-one : (call : Did) (a b : List Did) → b ≡ call ∷ a → is_idle call ≡ true → Adds is_idle a b
idle-one call a b is e = adds-call is_idle a a b call (adds-none is_idle a) is e

aside_idle : (call : Did) → is_aside call ≡ true → is_idle call ≡ true
aside_idle (Linked path target) e = absurd (true≢false (sym e))
aside_idle call e = e

all_idle : (calls : List Did) → list_all is_aside calls ≡ true → list_all is_idle calls ≡ true
all_idle [] e = refl
all_idle (call ∷ calls) e =
    let both = and_parts (is_aside call) (list_all is_aside calls) e in
    both_true (is_idle call) (list_all is_idle calls) (aside_idle call both.0) (all_idle calls both.1)

pub aside-idle : (a b : List Did) → Adds is_aside a b → Adds is_idle a b
aside-idle a b s = record { calls = s.calls; meet = all_idle s.calls s.meet; added = s.added }

leads_idle : (name : List ℕ) (calls : List Did) (path : List ℕ) → Leads name calls path → list_all is_idle calls ≡ true
leads_idle name [] path h = refl
leads_idle name (Linked from target ∷ calls) path h = leads_idle name calls from h.0
leads_idle name (call ∷ calls) path h =
    both_true (is_idle call) (list_all is_idle calls) h.0 (leads_idle name calls path h.1)

pub led-idle : (name : List ℕ) (a b : List Did) (path : List ℕ) → Led name a b path → Adds is_idle a b
led-idle name a b path l = record { calls = l.calls; meet = leads_idle name l.calls path l.leads; added = l.added }

leads_aside : (name : List ℕ) (aside calls : List Did) (path : List ℕ) → list_all is_aside aside ≡ true
    → Leads name calls path → Leads name (aside ++ calls) path
leads_aside name [] calls path e h = h
leads_aside name (Linked from target ∷ aside) calls path e h = absurd (true≢false (sym e))
leads_aside name (call ∷ aside) calls path e h =
    let both = and_parts (is_idle call) (list_all is_aside aside) e in
    (both.0, leads_aside name aside calls path both.1 h)

led_aside : (name : List ℕ) (a b c : List Did) (path : List ℕ) → Led name a b path → Adds is_aside b c
    → Led name a c path
led_aside name a b c path l s = record {
  calls = s.calls ++ l.calls;
  leads = leads_aside name s.calls l.calls path s.meet l.leads;
  added = s.added ∙ ap (λ d. s.calls ++ d) l.added ∙ sym (append_assoc s.calls l.calls a);
}

-- a link was read
pub follows : (path target next : List ℕ) (a b : List Did) → b ≡ Linked path target ∷ a → next ≡ followed path target
    → Follows path next a b
follows path target next a b noted leads = record { target = target; noted = noted; leads = leads }

pub led-start : (name path : List ℕ) (d : List Did) → path ≡ name → Led name d d path
led-start name path d is = record { calls = []; leads = is; added = refl }

pub led-link : (name : List ℕ) (a b c : List Did) (path next : List ℕ) → Led name a b path → Follows path next b c
    → Led name a c next
led-link name a b c path next l f = record {
  calls = Linked path f.target ∷ l.calls;
  leads = (l.leads, f.leads);
  added = f.noted ∙ ap (λ d. Linked path f.target ∷ d) l.added;
}

pub finds-at : (name path : List ℕ) (a b : List Did) (stands : Place) → IsAt path stands → Led name a b path
    → Finds name a b stands
finds-at name path a b place.AsItStands at l = led-idle name a b path l
finds-at name path a b (place.At stands old) at l = record {
  calls = l.calls;
  leads = subst (λ p. Leads name l.calls p) (sym at) l.leads;
  added = l.added;
}

-- ---- the making of a file

pub creates-itself : (name : List ℕ) (a b c : List Did) → Adds is_idle a b → c ≡ Made name ∷ b → Creates name a c
creates-itself name a b c idle made = inl (record { asked = b; idle = idle; made = made })

pub drafts : (target path : List ℕ) (a b c : List Did) → Adds is_aside a b → c ≡ Drafted path target ∷ b
    → Drafts target a c
drafts target path a b c aside made = record { tried = b; draft = path; aside = aside; made = made }

-- a file stands where a draft was to be made
pub draft-stands : (path target : List ℕ) (made : Bool) (a b c : List Did) → Adds is_aside a b
    → c ≡ draft_did path target (Ok made) ∷ b → made ≡ false → Adds is_aside a c
draft-stands path target true a b c aside is e = absurd (true≢false e)
draft-stands path target false a b c aside is e = adds-call is_aside a b c (Refused act.Draft) aside is refl

-- a file was tried before the draft was made
pub drafts-behind : (target : List ℕ) (a b c : List Did) → b ≡ Done act.Try ∷ a → Drafts target b c
    → Drafts target a c
drafts-behind target a b c is d = record {
  tried = d.tried;
  draft = d.draft;
  aside = adds-join is_aside a b d.tried
      (adds-call is_aside a a b (Done act.Try) (adds-none is_aside a) is refl) d.aside;
  made = d.made;
}

pub creates-draft : (name target : List ℕ) (a b c : List Did) → Led name a b target → Drafts target b c
    → Creates name a c
creates-draft name target a b c l d = inr (record {
  asked = d.tried;
  draft = d.draft;
  target = target;
  led = led_aside name a b d.tried target l d.aside;
  made = d.made;
})

-- a file was tried, and then a draft was made, or was not
pub tried-made : (target : List ℕ) (a b c d : List Did) (r : Result (Unit {0}) StoreRefusal) → b ≡ a
    → c ≡ Done act.Try ∷ b → OnOk r (Drafts target c d) → OnOk r (Drafts target a d)
tried-made target a b c d (Ok u) same is made =
    drafts-behind target a c d (is ∙ ap (λ x. Done act.Try ∷ x) same) made
tried-made target a b c d (Err why) same is made = tt

pub tried-refused : (a b c d : List Did) (r : Result (Unit {0}) StoreRefusal) → b ≡ a → c ≡ Done act.Try ∷ b
    → OnErr r (Adds is_idle c d) → OnErr r (Adds is_idle a d)
tried-refused a b c d (Ok u) same is idle = tt
tried-refused a b c d (Err why) same is idle = adds-join is_idle a c d
    (idle-one (Done act.Try) a c (is ∙ ap (λ x. Done act.Try ∷ x) same) refl) idle

-- the file itself was not made
made_refused : (name : List ℕ) (a b c : List Did) (r : Result (Unit {0}) StoreRefusal) → Adds is_idle a b
    → c ≡ make_did name r ∷ b → OnErr r (Adds is_idle a c)
made_refused name a b c (Ok u) idle is = tt
made_refused name a b c (Err why) idle is = adds-call is_idle a b c (Refused act.Make) idle is refl

pub made-refused : (name : List ℕ) (stands : Place) (a b c : List Did) (r : Result (Unit {0}) StoreRefusal)
    → Finds name a b stands → stands ≡ place.AsItStands → c ≡ make_did name r ∷ b → OnErr r (Adds is_idle a c)
made-refused name stands a b c r finds e is = made_refused name a b c r (subst (Finds name a b) e finds) is

pub ruleset drafting_calls = (
  adds-none,
  adds-call,
  adds-join,
  aside-idle,
  led-idle,
  follows,
  led-start,
  led-link,
  finds-at,
  drafts,
  drafts-behind,
  creates-itself,
  creates-draft,
)

-- ---- closing

-- a call that ended well, and one that was refused
done_so : (call : Act) (done : Bool) (a b : List Did) → b ≡ call_did call done ∷ a → done ≡ true → b ≡ Done call ∷ a
done_so call done a b is e = is ∙ ap (λ d. call_did call d ∷ a) e

refused_so : (call : Act) (done : Bool) (a b : List Did) → b ≡ call_did call done ∷ a → done ≡ false
    → b ≡ Refused call ∷ a
refused_so call done a b is e = is ∙ ap (λ d. call_did call d ∷ a) e

one_more : (call : Did) (a b c : List Did) → Adds is_closing a b → c ≡ call ∷ b → is_closing call ≡ true
    → Adds is_closing a c
one_more call a b c s is e = adds-call is_closing a b c call s is e

only_one : (call : Did) (a b : List Did) → b ≡ call ∷ a → is_closing call ≡ true → Adds is_closing a b
only_one call a b is e = one_more call a a b (adds-none is_closing a) is e

-- a call was refused, and no more was called
pub refused : (call : Act) (done : Bool) (a b : List Did) → b ≡ call_did call done ∷ a → done ≡ false
    → closes call ≡ true → Adds is_closing a b
refused call done a b is e f = only_one (Refused call) a b (refused_so call done a b is e) f

-- what is open keeps nothing, or was synced
pub kept_special : (a b : List Did) → b ≡ Done act.Special ∷ a → IsKept a b
kept_special a b is = inr is

pub kept_sync : (done : Bool) (a b : List Did) → b ≡ call_did act.Sync done ∷ a → Tries IsKept done a b
kept_sync true a b is = inl is
kept_sync false a b is = only_one (Refused act.Sync) a b is refl

-- the mode was right, or was given
pub ready_sync : (done : Bool) (a b : List Did) → b ≡ call_did act.Sync done ∷ a → Tries IsReady done a b
ready_sync true a b is = inl is
ready_sync false a b is = only_one (Refused act.Sync) a b is refl

pub ready_mode : (moded done : Bool) (a b c : List Did) → b ≡ call_did act.Mode moded ∷ a → moded ≡ true
    → c ≡ call_did act.Sync done ∷ b → Tries IsReady done a c
ready_mode moded true a b c mode e is = inr (is ∙ ap (λ d. Done act.Sync ∷ d) (done_so act.Mode moded a b mode e))
ready_mode moded false a b c mode e is = one_more (Refused act.Sync) a b c
    (only_one (Done act.Mode) a b (done_so act.Mode moded a b mode e) refl) is refl

pub named_folder : (done : Bool) (a b : List Did) → b ≡ call_did act.SyncFolder done ∷ a → Tries IsNamed done a b
named_folder true a b is = inr is
named_folder false a b is = only_one (Refused act.SyncFolder) a b is refl

pub named_still : (a : List Did) → IsNamed a a
named_still a = inl refl

ready_adds : (a b : List Did) → IsReady a b → Adds is_closing a b
ready_adds a b (inl is) = only_one (Done act.Sync) a b is refl
ready_adds a b (inr is) = one_more (Done act.Sync) a (Done act.Mode ∷ a) b
    (only_one (Done act.Mode) a (Done act.Mode ∷ a) refl refl) is refl

-- whether a draft is ready
pub ready : (done : Bool) (a b : List Did) → Tries IsReady done a b → done ≡ true → IsReady a b
ready true a b tried e = tried
ready false a b tried e = absurd (true≢false (sym e))

pub ready_not : (done : Bool) (a b : List Did) → Tries IsReady done a b → done ≡ false → Adds is_closing a b
ready_not true a b tried e = absurd (true≢false e)
ready_not false a b tried e = tried

-- a draft that is ready could not be put in its place
pub placed_not : (done placed : Bool) (a b c : List Did) → Tries IsReady done a b → done ≡ true
    → c ≡ call_did act.Place placed ∷ b → placed ≡ false → Adds is_closing a c
placed_not done placed a b c tried e is f = one_more (Refused act.Place) a b c
    (ready_adds a b (ready done a b tried e)) (refused_so act.Place placed b c is f) refl

placed_well : (b c d : List Did) → c ≡ Done act.Place ∷ b → IsNamed c d
    → (d ≡ Done act.Place ∷ b) ⊎ (d ≡ Done act.SyncFolder ∷ Done act.Place ∷ b)
placed_well b c d is (inl same) = inl (same ∙ is)
placed_well b c d is (inr named) = inr (named ∙ ap (λ x. Done act.SyncFolder ∷ x) is)

placed_so : (done : Bool) (a b c d : List Did) → IsReady a b → c ≡ Done act.Place ∷ b → Tries IsNamed done c d
    → Tries IsPlaced done a d
placed_so true a b c d is_ready is named =
    record { ready = b; is_ready = is_ready; placed = placed_well b c d is named }
placed_so false a b c d is_ready is named = adds-join is_closing a c d
    (one_more (Done act.Place) a b c (ready_adds a b is_ready) is refl) named

-- a draft that is ready was put in its place
pub placed_named : (done placed named : Bool) (a b c d : List Did) → Tries IsReady done a b → done ≡ true
    → c ≡ call_did act.Place placed ∷ b → placed ≡ true → Tries IsNamed named c d → Tries IsPlaced named a d
placed_named done placed named a b c d tried e is f last = placed_so named a b c d (ready done a b tried e)
    (done_so act.Place placed b c is f) last

match_true : (b : Bool) (P Q : Type 0) → b ≡ true → P → MatchBool b P Q
match_true true P Q e p = p
match_true false P Q e p = absurd (true≢false (sym e))

match_false : (b : Bool) (P Q : Type 0) → b ≡ false → Q → MatchBool b P Q
match_false true P Q e q = absurd (true≢false e)
match_false false P Q e q = q

-- what was flushed did not take all
pub flushed_only : (flushed : Bool) (a b : List Did) → b ≡ call_did act.Flush flushed ∷ a → flushed ≡ true
    → Adds is_closing a b
flushed_only flushed a b is e = only_one (Done act.Flush) a b (done_so act.Flush flushed a b is e) refl

closes_well : (a b c : List Did) → b ≡ Done act.Flush ∷ a → drafting b ≡ true → IsPlaced b c → Closes a c
closes_well a b c is stands placed = match_true (drafting a) (IsPlaced (Done act.Flush ∷ a) c)
    (IsKept (Done act.Flush ∷ a) c) (sym (ap (λ d. drafting d) is) ∙ stands) (subst (λ d. IsPlaced d c) is placed)

keeps_well : (a b c : List Did) → b ≡ Done act.Flush ∷ a → drafting b ≡ false → IsKept b c → Closes a c
keeps_well a b c is none kept = match_false (drafting a) (IsPlaced (Done act.Flush ∷ a) c)
    (IsKept (Done act.Flush ∷ a) c) (sym (ap (λ d. drafting d) is) ∙ none) (subst (λ d. IsKept d c) is kept)

-- what was flushed is put in its place, or is kept as it stands
pub closes_draft : (flushed done : Bool) (a b c : List Did) → b ≡ call_did act.Flush flushed ∷ a → flushed ≡ true
    → drafting b ≡ true → Tries IsPlaced done b c → Tries Closes done a c
closes_draft flushed true a b c is e stands placed =
    closes_well a b c (done_so act.Flush flushed a b is e) stands placed
closes_draft flushed false a b c is e stands tried = adds-join is_closing a b c (flushed_only flushed a b is e) tried

pub closes_kept : (flushed done : Bool) (a b c : List Did) → b ≡ call_did act.Flush flushed ∷ a → flushed ≡ true
    → drafting b ≡ false → Tries IsKept done b c → Tries Closes done a c
closes_kept flushed true a b c is e none kept = keeps_well a b c (done_so act.Flush flushed a b is e) none kept
closes_kept flushed false a b c is e none tried = adds-join is_closing a b c (flushed_only flushed a b is e) tried

-- a draft is removed, if one stands
removed : (done : Bool) (a b : List Did) → b ≡ call_did act.Remove done ∷ a
    → (b ≡ Done act.Remove ∷ a) ⊎ (b ≡ Refused act.Remove ∷ a)
removed true a b is = inl is
removed false a b is = inr is

pub leaves_removed : (done : Bool) (a b c : List Did) → b ≡ a → drafting b ≡ true → c ≡ call_did act.Remove done ∷ b
    → LeavesNone a c
leaves_removed done a b c same stands is = match_true (drafting a)
    ((c ≡ Done act.Remove ∷ a) ⊎ (c ≡ Refused act.Remove ∷ a)) (c ≡ a) (sym (ap (λ d. drafting d) same) ∙ stands)
    (removed done a c (is ∙ ap (λ d. call_did act.Remove done ∷ d) same))

pub leaves_nothing : (a b : List Did) → b ≡ a → drafting b ≡ false → LeavesNone a b
leaves_nothing a b same none = match_false (drafting a)
    ((b ≡ Done act.Remove ∷ a) ⊎ (b ≡ Refused act.Remove ∷ a)) (b ≡ a) (sym (ap (λ d. drafting d) same) ∙ none) same

-- what was tried, and whether it was closed
pub ends_closed : (done : Bool) (a b c : List Did) → Tries Closes done a b → done ≡ true → c ≡ b → Closes a c
ends_closed true a b c closed e same = subst (Closes a) (sym same) closed
ends_closed false a b c tried e same = absurd (true≢false (sym e))

pub ends_failed : (done : Bool) (a b c : List Did) → Tries Closes done a b → done ≡ false → LeavesNone b c
    → FailsToClose a c
ends_failed true a b c closed e left = absurd (true≢false e)
ends_failed false a b c tried e left = record { tried = b; closing = tried; left = left }

pub ruleset closing_calls = (
  refused,
  kept_special,
  kept_sync,
  ready_sync,
  ready_mode,
  named_folder,
  named_still,
  ready_not,
  placed_not,
  placed_named,
  flushed_only,
  closes_draft,
  closes_kept,
  leaves_removed,
  leaves_nothing,
  ends_closed,
  ends_failed,
)
