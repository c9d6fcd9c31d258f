-- Octets that are taken.
use Rattle.std.proofs.Common.{◌≡◌, ℕ, ◌+◌, ◌-◌, ◌≤◌, min, Bool, true, false, cond, ◌&&◌, ◌==◌, List, ◌++◌, length, take, drop, ap, ap₂, sym, ◌∙◌, subst, arith, length-append, length-take}
use Rattle.std.specs.Cmp.Lexicographic.{pointwise}
use Rattle.std.specs.Prelude.{slice_range}
use Rattle.std.proofs.lemmas.List.{take_all, drop-take}
use Rattle.std.proofs.Math.Seq.{take-add}
use Rattle.hb_frames.specs.RawFrame.{RawFrame}
use Rattle.hb_frames.specs.Frames.{Joins, AreOctets}
use Rattle.hb_frames.specs.Reading.{space_of as reader_space}
use Rattle.hb_frames.proofs.Histories.{joins_more}
use Rattle.hb_frames.proofs.Runs.{octets_append, octets_take}
use Rattle.hb_streams.specs.declared.role.Role.{Role}
use Rattle.hb_streams.specs.declared.role.Role.TheVariants.{Server, Client}
use Rattle.hb_conn.specs.Preface.{octets, fed, taken_of}
use Rattle.hb_conn.specs.Receiving.{pauses}
use Rattle.hb_conn.specs.Connection.{Connection, space_of, count_of, taken}
use Rattle.hb_conn.specs.Connection.{front_of as front_count}
use Rattle.hb_history.specs.History.{awaited, front_of, behind_of, Came}
use Rattle.hb_history.specs.Calls.{TakeAdds}
use Rattle.hb_history.proofs.Front.{take_both, drop_both, take_least, drop_least, compared}

short : (role : Role) → length (awaited role) ≤ 24
short Server = omega arith
short Client = omega arith

space_by : (b : Bool) (n : ℕ) → cond b 0 n ≤ n
space_by true n = omega arith
space_by false n = omega arith

-- no more is taken than the reader has space for
within_space : (c : Connection) (piece : List ℕ) → count_of c piece ≤ reader_space c.receiver.reader
within_space c piece =
    let space = space_by (pauses c.receiver.core) (reader_space c.receiver.reader) in
    let least : count_of c piece ≤ space_of c = omega arith in
    omega (arith, least, space)

module _ (role : Role) (before piece : List ℕ) (c : Connection) where
  abbrev n : ℕ
  n = length (awaited role)

  abbrev P : List ℕ
  P = take (count_of c piece) piece

  abbrev Counts : Type 0
  Counts = c.preface.came ≡ length (front_of role before) + (24 - n)

  -- how many octets of the piece belong to the preface
  front_is : Counts → taken_of c.preface P ≡ min (length P) (n - length before)
  front_is counts =
      let small = short role in
      let len = length-take n before in
      let left : 24 - c.preface.came ≡ n - length before = omega (arith, small, len, counts) in
      ap (min (length P)) left

  came_is : Counts → (fed c.preface P).came ≡ length (front_of role (before ++ P)) + (24 - n)
  came_is counts =
      let small = short role in
      let k = front_is counts in
      let len = length-take n before in
      let all = length-take n (before ++ P) in
      let both = length-append before P in
      omega (arith, small, k, len, all, both, counts)

  front_parts : Counts → front_of role (before ++ P) ≡ front_of role before ++ take (taken_of c.preface P) P
  front_parts counts =
      take_both n before P
      ∙ ap (λ (xs : List ℕ). take n before ++ xs)
      (sym (take_least (n - length before) P) ∙ ap (λ m. take m P) (sym (front_is counts)))

  -- those behind it
  rest_is : Counts → slice_range piece (front_count c piece) (count_of c piece) ≡ drop (n - length before) P
  rest_is counts =
      let k = front_count c piece in
      let m = count_of c piece in
      let len = length-take m piece in
      let small : k ≤ m = omega (arith, len) in
      let whole : k + (m - k) ≡ m = omega (arith, small) in
      sym (drop-take k (m - k) piece) ∙ ap (λ i. drop k (take i piece)) whole
      ∙ ap (λ i. drop i P) (front_is counts) ∙ drop_least (n - length before) P

  fits : length (slice_range piece (front_count c piece) (count_of c piece)) ≤ reader_space c.receiver.reader
  fits =
      let part = drop (front_count c piece) piece in
      let len = length-take (count_of c piece - front_count c piece) part in
      omega (arith, len, within_space c piece)

  frames_are : (frames : List RawFrame) → Counts → Joins frames c.receiver.reader.held (behind_of role before)
      → Joins frames (taken c piece).receiver.reader.held (behind_of role (before ++ P))
  frames_are frames counts joins =
      let part = slice_range piece (front_count c piece) (count_of c piece) in
      let all : take (min (length part) (reader_space c.receiver.reader)) part ≡ part =
      take_all (min (length part) (reader_space c.receiver.reader)) part (omega (arith, fits)) in
      let held = ap (λ (xs : List ℕ). c.receiver.reader.held ++ xs) (all ∙ rest_is counts) in
      let more = joins_more frames c.receiver.reader.held (behind_of role before) (drop (n - length before) P) joins in
      subst (λ (xs : List ℕ). Joins frames xs (behind_of role (before ++ P))) (sym held)
      (subst (λ (xs : List ℕ). Joins frames (c.receiver.reader.held ++ drop (n - length before) P) xs) (sym (drop_both n before P)) more)

-- what came of the preface was compared

same_server : (before piece : List ℕ) (c : Connection) → Counts Server before piece c
    → c.preface.same ≡ pointwise ◌==◌ (front_of Server before) (take (length (front_of Server before)) octets)
    → (fed c.preface (P Server before piece c)).same
    ≡ pointwise ◌==◌ (front_of Server (before ++ P Server before piece c))
    (take (length (front_of Server (before ++ P Server before piece c))) octets)
same_server before piece c counts same =
    let xs = take (count_of c piece) piece in
    let k = taken_of c.preface xs in
    let front = front_of Server before in
    let behind = take k xs in
    let is : front_of Server (before ++ xs) ≡ front ++ behind = front_parts Server before piece c counts in
    let len = length-take k xs in
    let small : length front ≤ 24 = omega (arith, length-take 24 before) in
    let at : c.preface.came ≡ length front = omega (arith, counts) in
    let both : length (front ++ behind) ≡ length front + k = omega (arith, length-append front behind, len) in
    let less : c.preface.came + k - c.preface.came ≡ k = omega arith in
    let part : slice_range octets c.preface.came (c.preface.came + k) ≡ take k (drop (length front) octets) =
    ap (λ m. take m (drop c.preface.came octets)) less ∙ ap (λ m. take k (drop m octets)) at in
    let first : length front ≡ length (take (length front) octets) = omega (arith, length-take (length front) octets, small) in
    ap₂ (λ (a b : Bool). a && b) same (ap (pointwise ◌==◌ behind) part)
    ∙ sym (compared front (take (length front) octets) behind (take k (drop (length front) octets)) first)
    ∙ ap (pointwise ◌==◌ (front ++ behind)) (sym (take-add (length front) k octets) ∙ ap (λ m. take m octets) (sym both))
    ∙ ap (λ (ys : List ℕ). pointwise ◌==◌ ys (take (length ys) octets)) (sym is)

same_client : (before piece : List ℕ) (c : Connection) → Counts Client before piece c → c.preface.same ≡ true
    → (fed c.preface (P Client before piece c)).same ≡ true
same_client before piece c counts same =
    let xs = take (count_of c piece) piece in
    let k = taken_of c.preface xs in
    let none : k ≡ 0 = omega (arith, front_is Client before piece c counts) in
    let less : c.preface.came + k - c.preface.came ≡ 0 = omega arith in
    ap₂ (λ (a b : Bool). a && b) same
    (ap₂ (λ i j. pointwise ◌==◌ (take i xs) (take j (drop c.preface.came octets))) none less)

same_is : (role : Role) (before piece : List ℕ) (c : Connection) → Counts role before piece c
    → c.preface.same ≡ pointwise ◌==◌ (front_of role before) (take (length (front_of role before)) (awaited role))
    → (fed c.preface (P role before piece c)).same
    ≡ pointwise ◌==◌ (front_of role (before ++ P role before piece c))
    (take (length (front_of role (before ++ P role before piece c))) (awaited role))
same_is Server before piece c counts same = same_server before piece c counts same
same_is Client before piece c counts same = same_client before piece c counts same

pub came_adds : (role : Role) (frames : List RawFrame) (before piece : List ℕ) (c : Connection) → AreOctets piece
    → Came role frames before c
    → Came role frames (before ++ take (count_of c piece) piece) (taken c piece)
came_adds role frames before piece c new came = record {
  are_octets = octets_append before (take (count_of c piece) piece) came.are_octets (octets_take (count_of c piece) piece new);
  count = came_is role before piece c came.count;
  same = same_is role before piece c came.count came.same;
  frames_are = frames_are role before piece c frames came.count came.frames_are;
}

pub take_adds : TakeAdds
take_adds role points given came written piece c new stands = record {
  runs = stands.runs;
  came = came_adds role _ came piece c new stands.came;
  told = stands.told;
  begun = stands.begun;
  begins = stands.begins;
  shows = stands.shows;
}
