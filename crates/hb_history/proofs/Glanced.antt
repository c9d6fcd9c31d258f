-- What a frame of the peer is glanced at.
use Rattle.std.proofs.Common.{◌≡◌, ℕ, ◌+◌, ◌*◌, ◌%◌, ◌==◌, ◌||◌, if◌then◌else◌, Bool, true, false, cond, List, [], length, refl, ap, sym, ◌∙◌, arith}
use Rattle.std.proofs.lemmas.Bool.{false≢true}
use Rattle.std.proofs.lemmas.Bool.Decides.{nat_tests}
use Rattle.hb_frames.specs.RawFrame.{RawFrame}
use Rattle.hb_frames.specs.Numbers.{data_kind, headers_kind, rst_stream_kind, settings_kind, ping_kind, window_update_kind}
use Rattle.hb_frames.specs.Octets.{four_at}
use Rattle.hb_frames.specs.Refusals.{is_ack, increment_of}
use Rattle.hb_frames.specs.Bodies.{content_of, lent_of}
use Rattle.hb_conn.specs.Glance.{glance_at, has_flag}
use Rattle.hb_conn.specs.declared.glance.Glance.{Glance}
use Rattle.hb_conn.specs.declared.glance.Glance.TheVariants as glance
use Rattle.hb_history.specs.Answered.{ping_value}

-- by its type
abbrev glance_with : RawFrame → ℕ → Glance
glance_with f k =
    if k == 0 then glance.Data f.stream (length f.payload) (has_flag f 1)
    else if k == 1 then glance.Headers f.stream (has_flag f 1) (has_flag f 4)
    else if k == 3 then glance.Reset f.stream (four_at f.payload 0)
    else if k == 9 then glance.Continuation f.stream (has_flag f 4)
    else if k == 4 then glance.Settings (is_ack f)
    else if k == 6 then glance.Ping (is_ack f) (four_at f.payload 0 * 4294967296 + four_at f.payload 4)
    else if k == 7 then glance.GoAway (four_at f.payload 0 % 2147483648)
    else if k == 8 then glance.Window f.stream (increment_of f)
    else glance.Other

abbrev lent_with : RawFrame → ℕ → List ℕ
lent_with f k = if k == 0 || k == 1 then content_of f else if k == 4 || k == 9 then f.payload else []

pub window_is : (f : RawFrame) → (f.kind == window_update_kind) ≡ true → glance_at f ≡ glance.Window f.stream (increment_of f)
window_is f test = let kind : f.kind ≡ 8 = grind (arith, nat_tests, test) in ap (glance_with f) kind

pub settings_are : (f : RawFrame) → (f.kind == settings_kind) ≡ true
    → (glance_at f ≡ glance.Settings (is_ack f)) × (lent_of f ≡ f.payload)
settings_are f test =
    let kind : f.kind ≡ 4 = grind (arith, nat_tests, test) in (ap (glance_with f) kind, ap (lent_with f) kind)

pub ping_is : (f : RawFrame) → (f.kind == ping_kind) ≡ true → glance_at f ≡ glance.Ping (is_ack f) (ping_value f)
ping_is f test = let kind : f.kind ≡ 6 = grind (arith, nat_tests, test) in ap (glance_with f) kind

pub data_are : (f : RawFrame) → (f.kind == data_kind) ≡ true
    → (glance_at f ≡ glance.Data f.stream (length f.payload) (has_flag f 1)) × (lent_of f ≡ content_of f)
data_are f test = let kind : f.kind ≡ 0 = grind (arith, nat_tests, test) in (ap (glance_with f) kind, ap (lent_with f) kind)

pub headers_are : (f : RawFrame) → (f.kind == headers_kind) ≡ true
    → glance_at f ≡ glance.Headers f.stream (has_flag f 1) (has_flag f 4)
headers_are f test = let kind : f.kind ≡ 1 = grind (arith, nat_tests, test) in ap (glance_with f) kind

pub reset_is : (f : RawFrame) → (f.kind == rst_stream_kind) ≡ true → glance_at f ≡ glance.Reset f.stream (four_at f.payload 0)
reset_is f test = let kind : f.kind ≡ 3 = grind (arith, nat_tests, test) in ap (glance_with f) kind

-- a test that fails of what a frame of each type is glanced at fails of all frames
module _ (q : Glance → Bool) where
  none_by : (a b c d e f g h : Bool) (p r s t u v w x : Glance)
      → (a ≡ true → q p ≡ false) → (b ≡ true → q r ≡ false) → (c ≡ true → q s ≡ false) → (d ≡ true → q t ≡ false)
      → (e ≡ true → q u ≡ false) → (f ≡ true → q v ≡ false) → (g ≡ true → q w ≡ false) → (h ≡ true → q x ≡ false)
      → q glance.Other ≡ false
      → q (cond a p (cond b r (cond c s (cond d t (cond e u (cond f v (cond g w (cond h x glance.Other)))))))) ≡ false
  none_by true b c d e f g h p r s t u v w x i j k l m n o y z = i refl
  none_by false true c d e f g h p r s t u v w x i j k l m n o y z = j refl
  none_by false false true d e f g h p r s t u v w x i j k l m n o y z = k refl
  none_by false false false true e f g h p r s t u v w x i j k l m n o y z = l refl
  none_by false false false false true f g h p r s t u v w x i j k l m n o y z = m refl
  none_by false false false false false true g h p r s t u v w x i j k l m n o y z = n refl
  none_by false false false false false false true h p r s t u v w x i j k l m n o y z = o refl
  none_by false false false false false false false true p r s t u v w x i j k l m n o y z = y refl
  none_by false false false false false false false false p r s t u v w x i j k l m n o y z = z

abbrev pub is_nothing : Glance → Bool
is_nothing glance.Nothing = true
is_nothing _ = false

abbrev pub is_window : Glance → Bool
is_window (glance.Window s n) = true
is_window _ = false

abbrev pub is_settings : Glance → Bool
is_settings (glance.Settings ack) = true
is_settings _ = false

abbrev pub is_ping : Glance → Bool
is_ping (glance.Ping ack value) = true
is_ping _ = false

abbrev pub is_data : Glance → Bool
is_data (glance.Data s n end) = true
is_data _ = false

pub something : (f : RawFrame) → is_nothing (glance_at f) ≡ false
something f =
    none_by is_nothing (f.kind == 0) (f.kind == 1) (f.kind == 3) (f.kind == 9) (f.kind == 4) (f.kind == 6) (f.kind == 7) (f.kind == 8)
    _ _ _ _ _ _ _ _ (λ e. refl) (λ e. refl) (λ e. refl) (λ e. refl) (λ e. refl) (λ e. refl) (λ e. refl) (λ e. refl) refl

pub no_window : (f : RawFrame) → (f.kind == window_update_kind) ≡ false → is_window (glance_at f) ≡ false
no_window f test =
    none_by is_window (f.kind == 0) (f.kind == 1) (f.kind == 3) (f.kind == 9) (f.kind == 4) (f.kind == 6) (f.kind == 7) (f.kind == 8)
    _ _ _ _ _ _ _ _ (λ e. refl) (λ e. refl) (λ e. refl) (λ e. refl) (λ e. refl) (λ e. refl) (λ e. refl)
    (λ e. absurd (false≢true (sym test ∙ e))) refl

pub no_settings : (f : RawFrame) → (f.kind == settings_kind) ≡ false → is_settings (glance_at f) ≡ false
no_settings f test =
    none_by is_settings (f.kind == 0) (f.kind == 1) (f.kind == 3) (f.kind == 9) (f.kind == 4) (f.kind == 6) (f.kind == 7) (f.kind == 8)
    _ _ _ _ _ _ _ _ (λ e. refl) (λ e. refl) (λ e. refl) (λ e. refl) (λ e. absurd (false≢true (sym test ∙ e)))
    (λ e. refl) (λ e. refl) (λ e. refl) refl

pub no_ping : (f : RawFrame) → (f.kind == ping_kind) ≡ false → is_ping (glance_at f) ≡ false
no_ping f test =
    none_by is_ping (f.kind == 0) (f.kind == 1) (f.kind == 3) (f.kind == 9) (f.kind == 4) (f.kind == 6) (f.kind == 7) (f.kind == 8)
    _ _ _ _ _ _ _ _ (λ e. refl) (λ e. refl) (λ e. refl) (λ e. refl) (λ e. refl)
    (λ e. absurd (false≢true (sym test ∙ e))) (λ e. refl) (λ e. refl) refl

pub no_data : (f : RawFrame) → (f.kind == data_kind) ≡ false → is_data (glance_at f) ≡ false
no_data f test =
    none_by is_data (f.kind == 0) (f.kind == 1) (f.kind == 3) (f.kind == 9) (f.kind == 4) (f.kind == 6) (f.kind == 7) (f.kind == 8)
    _ _ _ _ _ _ _ _ (λ e. absurd (false≢true (sym test ∙ e))) (λ e. refl) (λ e. refl) (λ e. refl) (λ e. refl) (λ e. refl)
    (λ e. refl) (λ e. refl) refl
