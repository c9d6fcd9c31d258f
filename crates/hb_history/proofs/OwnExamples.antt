-- Frames that a client that asks on one stream doesn't write, and frames that it may.
use Rattle.std.proofs.Common.{◌≡◌, ◌⊎◌, inl, inr, true, false, ◌==◌, List, [], ◌∷◌, refl, ap, sym, ◌∙◌, arith}
use Rattle.std.specs.List.{list_any}
use Rattle.std.proofs.lemmas.Bool.{false≢true}
use Rattle.hb_frames.specs.RawFrame.{RawFrame}
use Rattle.hb_frames.specs.Numbers.{data_kind, headers_kind, rst_stream_kind, goaway_kind}
use Rattle.hb_conn.specs.Frames.{frame, goaway}
use Rattle.hb_conn.specs.declared.found.Found.{Found}
use Rattle.hb_history.specs.OwnFrames.{first_stream, is_later, is_fault, IsGoodbye}
use Rattle.hb_history.specs.OwnExamples.{Refuses, NoMoreHeaders, NoEnd, NoOtherStream, NoReset, NoEndAtOnce, NoGoodbye, NoGoodbyeOfStream, NothingBehind, GoodFrames}

wrong : (told : List Found) (f : RawFrame) → is_later f ≡ false → (f.kind == goaway_kind) ≡ false
    → (is_later f ≡ true) ⊎ IsGoodbye told f → ⊥
wrong told f other apart (inl later) = false≢true (sym other ∙ later)
wrong told f other apart (inr bye) = false≢true (sym apart ∙ ap (λ k. k == goaway_kind) bye.0)

refuses : (f : RawFrame) → is_later f ≡ false → (f.kind == goaway_kind) ≡ false → Refuses f
refuses f other apart told block [] own = wrong told f other apart own.2
refuses f other apart told block (g ∷ more) own = false≢true (sym other ∙ own.2.0)

pub no_more_headers : NoMoreHeaders
no_more_headers flags stream payload = refuses (frame headers_kind flags stream payload) refl refl

pub no_end : NoEnd
no_end payload = refuses (frame data_kind 1 first_stream payload) refl refl

pub no_other_stream : NoOtherStream
no_other_stream payload = refuses (frame data_kind 0 3 payload) refl refl

pub no_reset : NoReset
no_reset stream payload = refuses (frame rst_stream_kind 0 stream payload) refl refl

pub no_end_at_once : NoEndAtOnce
no_end_at_once told block own = absurd (false≢true own.1)

no_bye : (told : List Found) (f : RawFrame) → is_later f ≡ false → list_any is_fault told ≡ false → (is_later f ≡ true) ⊎ IsGoodbye told f
    → ⊥
no_bye told f other none (inl later) = false≢true (sym other ∙ later)
no_bye told f other none (inr bye) = false≢true (sym none ∙ bye.2)

pub no_goodbye : NoGoodbye
no_goodbye told block last code none own = absurd (no_bye told (goaway last code) refl none own.2)

pub no_goodbye_of_stream : NoGoodbyeOfStream
no_goodbye_of_stream told block payload own = absurd (by own.2)
  where
    f : RawFrame
    f = frame goaway_kind 0 first_stream payload

    by : (is_later f ≡ true) ⊎ IsGoodbye told f → ⊥
    by (inl later) = false≢true later
    by (inr bye) = absurd (omega (arith, bye.1))

pub nothing_behind : NothingBehind
nothing_behind told block last code f own = absurd (false≢true own.2.0)

pub good_frames : GoodFrames
good_frames block payload n value code = (refl, refl, (refl, (refl, (refl, (refl, (refl, inr (refl, refl, refl)))))))
