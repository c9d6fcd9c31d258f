-- Lists of the frames of a client that asks on one stream.
use Rattle.std.proofs.Common.{◌≡◌, inl, inr, ℕ, ◌==◌, ◌&&◌, not, Bool, true, false, cond, filter, List, [], ◌∷◌, ◌++◌, None, refl, ap, sym, ◌∙◌, subst, arith}
use Rattle.std.specs.List.{AllByRecursion}
use Rattle.std.proofs.lemmas.Bool.{false≢true}
use Rattle.std.proofs.lemmas.Bool.Decides.{nat_tests}
use Rattle.std.proofs.lemmas.List.{append_assoc}
use Rattle.hb_frames.specs.RawFrame.{RawFrame}
use Rattle.hb_frames.specs.Numbers.{headers_kind, goaway_kind}
use Rattle.hb_outgoing.specs.Selected.{is_kept}
use Rattle.hb_conn.specs.Connection.{client_settings}
use Rattle.hb_conn.specs.declared.found.Found.{Found}
use Rattle.hb_history.specs.OwnFrames.{first_stream, is_request, is_later, IsGoodbye, AreLater, AreOwn}

-- frames that may stand behind the request
abbrev pub Later : List RawFrame → Type 0
Later fs = AllByRecursion (λ f. is_later f ≡ true) fs

-- the opening SETTINGS, the request, and frames that may stand behind
abbrev pub Own : List RawFrame → Type 0
Own [] = ⊥
Own (f ∷ []) = ⊥
Own (f ∷ g ∷ fs) = (f ≡ client_settings) × (is_request g ≡ true) × Later fs

later_pushed : (fs : List RawFrame) (f : RawFrame) → is_later f ≡ true → Later fs → Later (fs ++ f ∷ [])
later_pushed [] f later all = (later, tt)
later_pushed (g ∷ fs) f later all = (all.0, later_pushed fs f later all.1)

pushed : (fs : List RawFrame) (f : RawFrame) → is_later f ≡ true → Own fs → Own (fs ++ f ∷ [])
pushed [] f later own = absurd own
pushed (g ∷ []) f later own = absurd own
pushed (g ∷ h ∷ fs) f later own = (own.0, own.1, later_pushed fs f later own.2)

later_filtered : (p : RawFrame → Bool) (fs : List RawFrame) → Later fs → Later (filter p fs)
later_filtered p [] all = tt
later_filtered p (f ∷ fs) all = by (p f) (later_filtered p fs all.1)
  where
    by : (b : Bool) → Later (filter p fs) → Later (cond b (f ∷ filter p fs) (filter p fs))
    by true rest = (all.0, rest)
    by false rest = rest

later_kept : (front queue : List RawFrame) → Later (front ++ queue) → Later (front ++ filter (is_kept None) queue)
later_kept [] queue all = later_filtered (is_kept None) queue all
later_kept (f ∷ front) queue all = (all.0, later_kept front queue all.1)

first_of : (a b : Bool) → (a && b) ≡ true → a ≡ true
first_of true b is = refl
first_of false b is = absurd (false≢true is)

request_kept : (f : RawFrame) → is_request f ≡ true → is_kept None f ≡ true
request_kept f is =
    let both = first_of (f.kind == headers_kind && f.stream == first_stream) (f.flags == 4) is in
    let kind : f.kind ≡ 1 = grind (arith, nat_tests, first_of (f.kind == headers_kind) (f.stream == first_stream) both) in
    ap (λ (k : ℕ). not (k == 0 && true)) kind

kept_first : (f : RawFrame) (fs : List RawFrame) → is_kept None f ≡ true
    → filter (is_kept None) (f ∷ fs) ≡ f ∷ filter (is_kept None) fs
kept_first f fs is = ap (λ b. cond b (f ∷ filter (is_kept None) fs) (filter (is_kept None) fs)) is

-- DATA that is taken back leaves them such
pub own_kept : (front queue : List RawFrame) → Own (front ++ queue) → Own (front ++ filter (is_kept None) queue)
own_kept [] [] own = absurd own
own_kept [] (f ∷ []) own = absurd own
own_kept [] (f ∷ g ∷ fs) own =
    subst Own (sym (kept_first f (g ∷ fs) (ap (is_kept None) own.0)
    ∙ ap (λ (gs : List RawFrame). f ∷ gs) (kept_first g fs (request_kept g own.1))))
    (own.0, own.1, later_filtered (is_kept None) fs own.2)
own_kept (f ∷ []) [] own = absurd own
own_kept (f ∷ []) (g ∷ fs) own =
    subst (λ (gs : List RawFrame). Own (f ∷ gs)) (sym (kept_first g fs (request_kept g own.1)))
    (own.0, own.1, later_filtered (is_kept None) fs own.2)
own_kept (f ∷ g ∷ front) queue own = (own.0, own.1, later_kept front queue own.2)

-- such frames, and a GOAWAY
abbrev pub Farewell : List RawFrame → Type 0
Farewell fs = (more : List RawFrame) × (f : RawFrame) × (fs ≡ more ++ f ∷ []) × Own more × (f.kind ≡ goaway_kind) × (f.stream ≡ 0)

later_front : (told : List Found) (fs gs : List RawFrame) → AreLater told (fs ++ gs) → AreLater told fs
later_front told [] gs all = tt
later_front told (f ∷ []) [] all = all
later_front told (f ∷ []) (g ∷ gs) all = inl all.0
later_front told (f ∷ g ∷ fs) gs all = (all.0, later_front told (g ∷ fs) gs all.1)

pub own_front : (told : List Found) (fs gs : List RawFrame) → AreOwn told (fs ++ gs) → AreOwn told fs
own_front told [] gs own = tt
own_front told (f ∷ []) [] own = own
own_front told (f ∷ []) (g ∷ gs) own = own.0
own_front told (f ∷ g ∷ fs) gs own = (own.0, own.1, later_front told fs gs own.2)

all_later : (told : List Found) (fs : List RawFrame) → Later fs → AreLater told fs
all_later told [] all = tt
all_later told (f ∷ []) all = inl all.0
all_later told (f ∷ g ∷ fs) all = (all.0, all_later told (g ∷ fs) all.1)

pub all_own : (told : List Found) (fs : List RawFrame) → Own fs → AreOwn told fs
all_own told [] own = absurd own
all_own told (f ∷ []) own = absurd own
all_own told (f ∷ g ∷ fs) own = (own.0, own.1, all_later told fs own.2)

later_end : (told : List Found) (fs : List RawFrame) (f : RawFrame) → IsGoodbye told f → Later fs → AreLater told (fs ++ f ∷ [])
later_end told [] f bye all = inr bye
later_end told (g ∷ []) f bye all = (all.0, inr bye)
later_end told (g ∷ h ∷ fs) f bye all = (all.0, later_end told (h ∷ fs) f bye all.1)

pub own_end : (told : List Found) (fs : List RawFrame) (f : RawFrame) → IsGoodbye told f → Own fs → AreOwn told (fs ++ f ∷ [])
own_end told [] f bye own = absurd own
own_end told (g ∷ []) f bye own = absurd own
own_end told (g ∷ h ∷ fs) f bye own = (own.0, own.1, later_end told fs f bye own.2)

-- behind frames that have begun
pub own_pushed : (front queue : List RawFrame) (f : RawFrame) → is_later f ≡ true → Own (front ++ queue) → Own (front ++ (queue ++ f ∷ []))
own_pushed front queue f later own = subst Own (append_assoc front queue (f ∷ [])) (pushed (front ++ queue) f later own)
